use Rattle.std.proofs.Common.{ℕ, ap, sym, ◌∙◌, length, arith, rules}
use Rattle.elf_records.specs.StringTable.{strings_view}
use Rattle.elf_parts.specs.gnu_symver.Links.{links_left, links_view}
use Rattle.elf_check.specs.Chains.{last_distance}
use Rattle.elf_check.proofs.ChainSteps.{after_more, not_here, sound_more}
use Rattle.elf_check.proofs.chains.chain_fault.Goals as goal

pub returns-then-not-is_sound : goal.returns-then-not-is_sound
returns-then-not-is_sound g c =
    let sound = g.R.Checkable.sound (strings_view c.args.strings.now) (links_view c.args.links) in
    let list = links_left g.R.ParseAt.reads.record_at g.R.Linked.next_distance in
    let inv = c.loop-start.invariant in
    let bad : ¬ sound (c.in-Some.start, c.in-Some.record) = search rules in
    (not_here sound (list c.args.links) (list c.loop-start.start-iterator) c.loop-start.found (c.in-Some.start, c.in-Some.record) (list c.next.new.self) inv.2 c.in-Some.ensures.steps.0 bad, inv.5)

pub loop-start-preserved : goal.loop-start-preserved
loop-start-preserved g c =
    let sound = g.R.Checkable.sound (strings_view c.args.strings.now) (links_view c.args.links) in
    let list = links_left g.R.ParseAt.reads.record_at g.R.Linked.next_distance in
    let next = g.R.Linked.next_distance in
    let inv = c.loop-start.invariant in
    let steps = c.in-Some.ensures.steps.0 in
    let all = list c.args.links in
    let left = list c.loop-start.start-iterator in
    let after = list c.next.new.self in
    let fewer = ap length steps in
    let good : sound (c.in-Some.start, c.in-Some.record) = search rules in (
      tt,
      tt,
      after_more sound all left c.loop-start.found (c.in-Some.start, c.in-Some.record) after inv.2 steps,
      omega (arith, fewer, inv.3),
      ap (λ (n : ℕ). last_distance next n after) c.distance-distance.ensures ∙ sym (ap (last_distance next c.loop-start.distance) steps) ∙ inv.4,
      sound_more sound all left c.loop-start.found (c.in-Some.start, c.in-Some.record) after inv.2 steps inv.5 good,
    )
