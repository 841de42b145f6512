use Rattle.std.proofs.Common.{◌≡◌, ◌<◌, length, ℕ}
use Rattle.std.specs.Option.{option_map, option_or}
use Rattle.elf_parts.specs.inner.Walked.{AreWalked}
use Rattle.elf_parts.specs.gnu_symver.Links.{links_view}
use Rattle.elf_parts.specs.gnu_symver.Lists.{ver_needs_left}
use Rattle.elf_parts.specs.gnu_symver.Table.{held_at, kept_at, needed_of, needed_version}
use Rattle.elf_parts.proofs.gnu_symver.table.walked.put_needs.Given as goal

-- what the place of an index holds, or else what is left for it, is what it is at the end; what else places have stays;
-- the stretches were walked
abbrev pub invariant-loop-need : goal.invariant-loop-need
invariant-loop-need g l =
    let held = held_at g.P.NeedPlace.held in
    let kept = kept_at g.P.NeedPlace.kept in
    (links_view l.left.links ≡ links_view l.fn.needs.links) ×
    AreWalked g.P.NeedPlace.held l.places (links_view l.fn.needs.links) l.stretches ×
    ((k : ℕ) → k < length l.places →
    option_or (held l.places k) (option_map needed_of (needed_version k (ver_needs_left l.left)))
    ≡ option_or (held l.initial.places k) (option_map needed_of (needed_version k (ver_needs_left l.fn.needs)))) ×
    (length l.places ≡ length l.initial.places) ×
    ((k : ℕ) → kept l.places k ≡ kept l.initial.places k)

abbrev pub decreases-loop-need : goal.decreases-loop-need
decreases-loop-need g l = length (ver_needs_left l.left)
