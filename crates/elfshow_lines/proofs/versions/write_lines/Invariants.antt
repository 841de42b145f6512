use Rattle.std.proofs.Common.{[], Some}
use Rattle.elfshow_lines.specs.Adding.{Adds}
use Rattle.elfshow_lines.specs.Versions.{version_lines}
use Rattle.elfshow_lines.proofs.versions.write_lines.Given as goal

-- what was added so far is the lines of the symbols so far
abbrev pub invariant-loop-symbol : goal.invariant-loop-symbol
invariant-loop-symbol g l =
    Adds (g.W.Write.contents l.initial.out) (Some []) (g.W.Write.contents l.out) l.lines (version_lines (g.V.SymbolVersions.versions l.versions) l.symbol)
