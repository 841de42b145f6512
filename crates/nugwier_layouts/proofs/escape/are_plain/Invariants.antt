use Rattle.std.proofs.Common.{◌≡◌, ◌&&◌, drop}
use Rattle.std.specs.List.{list_all}
use Rattle.nugwier_layouts.specs.Escape.{is_plain}
use Rattle.nugwier_layouts.proofs.escape.are_plain.Given as goal

-- what was found so far, and what is left
abbrev pub invariant-loop-byte : goal.invariant-loop-byte
invariant-loop-byte l = (l.are && list_all is_plain (drop l.byte-index l.bytes)) ≡ list_all is_plain l.bytes
