use Rattle.std.proofs.Common.{◌≡◌, length}
use Rattle.nugwier_dynamic.specs.Hardening.{feature_in}
use Rattle.nugwier_dynamic.proofs.hardening.feature_in.Given as goal

-- the properties so far are of other types
abbrev pub invariant-loop-first : goal.invariant-loop-first
invariant-loop-first g l =
    let little = g.E.EndianParse.little l.order in
    feature_in little l.class l.wanted l.left l.rest ≡ feature_in little l.class l.wanted l.bytes l.bytes

abbrev pub decreases-loop-first : goal.decreases-loop-first
decreases-loop-first g l = length l.left
