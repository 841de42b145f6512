-- The lines of relocations.
use Rattle.std.specs.Prelude.{ℕ, List, codes}
use Rattle.std.specs.Fmt.{decimal, signed_decimal}
use Rattle.elf_records.specs.declared.relocation.Rel.{Rel}
use Rattle.elf_records.specs.declared.relocation.Rela.{Rela}
use Rattle.elfshow_lines.specs.Pieces.{◌⧺◌, newline, hex}

abbrev pub rel_line : ℕ → Rel → List ℕ
rel_line k r =
    codes "rel " ⧺ decimal k ⧺ codes " offset=" ⧺ hex r.r_offset
    ⧺ codes " sym=" ⧺ decimal r.r_sym ⧺ codes " type=" ⧺ decimal r.r_type ⧺ newline

abbrev pub rela_line : ℕ → Rela → List ℕ
rela_line k r =
    codes "rela " ⧺ decimal k ⧺ codes " offset=" ⧺ hex r.r_offset
    ⧺ codes " sym=" ⧺ decimal r.r_sym ⧺ codes " type=" ⧺ decimal r.r_type
    ⧺ codes " addend=" ⧺ signed_decimal r.r_addend ⧺ newline
