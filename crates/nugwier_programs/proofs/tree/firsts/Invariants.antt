use Rattle.std.proofs.Common.{◌≡◌, ◌-◌, ◌≤◌, length, map}
use Rattle.elf_libraries.specs.Tree.{entry_view}
use Rattle.nugwier_programs.specs.inner.Walk.{AreFirsts}
use Rattle.nugwier_programs.proofs.tree.firsts.Given as goal

-- those among the objects from a place on are known
abbrev pub invariant-loop-place : goal.invariant-loop-place
invariant-loop-place l =
    AreFirsts (map entry_view l.objects) l.place l.firsts.items × (l.place ≤ length l.objects) × (l.place ≡ 0 → length l.objects ≡ 0)

abbrev pub decreases-loop-place : goal.decreases-loop-place
decreases-loop-place l = l.place - 1
