use Rattle.std.proofs.Common.{◌≡◌, ◌<◌, length, ℕ}
use Rattle.elf_parts.specs.inner.Walked.{AreWalked, Passes, held_or_left, stretch_length}
use Rattle.elf_parts.specs.gnu_symver.Links.{links_view}
use Rattle.elf_parts.specs.gnu_symver.Table.{kept_at}
use Rattle.elf_parts.proofs.gnu_symver.table.walked.put_versions.Given as goal

-- what the place of an index holds, or else what is left for it, is what it is at the end; what else places have stays;
-- the stretches that are stored, and the one that the walk is in, were walked
abbrev pub invariant-loop-left : goal.invariant-loop-left
invariant-loop-left g l =
    let held = g.P.NeedPlace.held in
    let kept = g.P.NeedPlace.kept in
    (length l.places ≡ length l.initial.places) ×
    (links_view l.left ≡ links_view l.fn.versions) ×
    ((k : ℕ) → k < length l.places →
    held_or_left held l.places l.file (links_view l.left) k l.left.count l.left.offset
    ≡ held_or_left held l.initial.places l.file (links_view l.fn.versions) k l.fn.versions.count l.fn.versions.offset) ×
    AreWalked held l.places (links_view l.left) l.stretches ×
    Passes held l.places (links_view l.left) l.walk.steps l.walk.from l.left.offset ×
    (l.walk.steps < stretch_length) ×
    ((k : ℕ) → kept_at kept l.places k ≡ kept_at kept l.initial.places k)

abbrev pub decreases-loop-left : goal.decreases-loop-left
decreases-loop-left g l = l.left.count
