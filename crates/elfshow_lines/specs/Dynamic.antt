-- The lines of dynamic entries.
use Rattle.std.specs.Prelude.{ℕ, List, codes}
use Rattle.std.specs.Fmt.{decimal, signed_decimal}
use Rattle.elf_records.specs.Dynamic.{d_un_view}
use Rattle.elf_records.specs.declared.dynamic.Dyn.{Dyn}
use Rattle.elfshow_lines.specs.Pieces.{◌⧺◌, newline, hex}

abbrev pub dyn_line : ℕ → Dyn → List ℕ
dyn_line k entry =
    codes "dyn " ⧺ decimal k ⧺ codes " tag=" ⧺ signed_decimal entry.d_tag
    ⧺ codes " value=" ⧺ hex (d_un_view entry) ⧺ newline
