use Rattle.std.proofs.Common.{drop, true}
use Rattle.elf_names.specs.Flags.{flags_of}
use Rattle.elfshow_lines.proofs.Adding.{Leads}
use Rattle.nugwier_layouts.specs.Json.{flag_names}
use Rattle.nugwier_layouts.proofs.json.add_flags.Given as goal

-- what was added so far, and then what is left, is the whole
abbrev pub invariant-loop-flag : goal.invariant-loop-flag
invariant-loop-flag g l =
    Leads (g.W.Write.contents l.initial.out) l.initial.lines (g.W.Write.contents l.out) l.lines
    (flag_names l.is_first l.number (flags_of (drop l.flag-index l.flags))) (flag_names true l.number (flags_of l.flags))
