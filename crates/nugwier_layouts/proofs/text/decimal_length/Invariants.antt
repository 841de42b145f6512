use Rattle.std.proofs.Common.{◌≡◌, ◌+◌, ◌≤◌, length}
use Rattle.std.specs.Fmt.{decimal}
use Rattle.nugwier_layouts.proofs.text.decimal_length.Given as goal

abbrev pub invariant-loop-left : goal.invariant-loop-left
invariant-loop-left l = (l.length + length (decimal l.left) ≡ length (decimal l.n) + 1) × (l.length ≤ 20)

abbrev pub decreases-loop-left : goal.decreases-loop-left
decreases-loop-left l = l.left
