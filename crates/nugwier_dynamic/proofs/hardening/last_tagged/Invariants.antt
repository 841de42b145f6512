use Rattle.std.proofs.Common.{◌≡◌, drop}
use Rattle.std.specs.List.{last_or}
use Rattle.nugwier_dynamic.specs.Hardening.{all_tagged, last_tagged}
use Rattle.nugwier_dynamic.proofs.hardening.last_tagged.Given as goal

-- the last entry with the tag is the last of those left or, if none of these has it, the last so far
abbrev pub invariant-loop-number : goal.invariant-loop-number
invariant-loop-number l =
    last_tagged l.tag l.entries ≡ last_or l.last (all_tagged l.tag l.number (drop l.number l.entries))
