use Rattle.std.proofs.Common.{◌≡◌}
use Rattle.std.specs.Prelude.{take}
use Rattle.std.specs.List.{list_any}
use Rattle.elf_tools.specs.LoadPlan.{ApartBefore, meets, overlap}
use Rattle.elf_tools.specs.declared.load_plan.Mapping.{Mapping}
use Rattle.elf_tools.specs.inner.Apart.{AreApart}
use Rattle.elf_tools.proofs.load_plan.first_overlap.Given as goal

-- none so far overlaps an earlier one; their ranges are apart, and a mapping meets one of these if it overlaps one so
-- far
abbrev pub invariant-loop-place : goal.invariant-loop-place
invariant-loop-place l =
    ApartBefore l.all l.place × AreApart 0 l.ranges.entries
    × ((m : Mapping) → list_any (meets m) l.ranges.entries ≡ list_any (overlap m) (take l.place l.all))
