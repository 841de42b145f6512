use Rattle.std.proofs.Common.{drop}
use Rattle.std.specs.List.{flat_map}
use Rattle.elf_names.specs.Flags.{flags_of}
use Rattle.elfshow_lines.proofs.Adding.{Leads}
use Rattle.nugwier_layouts.specs.Text.{shown_flag}
use Rattle.nugwier_layouts.proofs.text.add_set_flags.Given as goal

-- what was added so far, and then what is left, is the whole
abbrev pub invariant-loop-flag : goal.invariant-loop-flag
invariant-loop-flag g l =
    let text = flat_map (shown_flag l.count l.number) in
    Leads (g.W.Write.contents l.initial.out) l.initial.lines (g.W.Write.contents l.out) l.lines
    (text (flags_of (drop l.flag-index l.flags))) (text (flags_of l.flags))
