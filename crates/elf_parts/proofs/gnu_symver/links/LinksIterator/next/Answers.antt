-- A record that is read is the first that was left; after an error nothing is left.
use Rattle.std.proofs.Common.{◌≡◌, ◌≤◌, ◌-◌, length, ap, sym, refl, arith, ◌∙◌, ◌∷◌, ℕ}
use Rattle.elf_records.proofs.Items.{refusal}
use Rattle.elf_parts.specs.Link.{from_next}
use Rattle.elf_parts.specs.gnu_symver.Links.{links_in, links_view, next_start}
use Rattle.elf_parts.proofs.LinkedRecords.{links_none, links_refused, links_read}
use Rattle.elf_parts.proofs.gnu_symver.links.LinksIterator.next.Goals as goal

pub returns-then-self-eq0-clause-steps : goal.returns-then-self-eq0-clause-steps
returns-then-self-eq0-clause-steps g c =
    let s = c.args.self.now in
    let gives = g.R.ParseAt.reads.record_at in
    let next = g.R.Linked.next_distance in
    let zero : s.count ≡ 0 = omega arith in
    let none =
    ap (λ (n : ℕ). links_in gives next (links_view s) n s.offset) zero ∙ links_none gives next (links_view s) s.offset
    in
    ((none, none), refl)

pub returns-in-Some-clause-steps : goal.returns-in-Some-clause-steps
returns-in-Some-clause-steps g c =
    let s = c.args.self.now in
    let gives = g.R.ParseAt.reads.record_at in
    let next = g.R.Linked.next_distance in
    let x = c.in-Some.record in
    let t = links_view s in
    let left = c.skip_to.new.self in
    let n = s.count - 1 in
    let some : 1 ≤ s.count = omega arith in
    let moved =
    ap (λ v. links_in gives next v left.count left.offset) c.skip_to.ensures.view
    ∙ ap (λ (m : ℕ). links_in gives next t m left.offset) c.skip_to.ensures.count
    ∙ ap (links_in gives next t n) c.skip_to.ensures.offset ∙ c.behind.ensures n
    ∙ ap (λ (d : ℕ). from_next (next_start s.offset d) (links_in gives next t n)) c.distance.ensures in (
      links_read gives next t s.count s.offset x some c.in-Some.ensures.value
          ∙ sym (ap (λ xs. (s.offset, x) ∷ xs) moved),
      c.skip_to.ensures.view,
    )

pub returns-in-Some-clause-goes : goal.returns-in-Some-clause-goes
returns-in-Some-clause-goes g c =
    let fewer = ap length (returns-in-Some-clause-steps g c).0 in
    record { on = λ _. (tt, tt, omega (arith, fewer)); keeps = tt; rests = λ _. tt }

pub returns-in-None-clause-steps : goal.returns-in-None-clause-steps
returns-in-None-clause-steps g c =
    let s = c.args.self.now in
    let gives = g.R.ParseAt.reads.record_at in
    let next = g.R.Linked.next_distance in
    let error = refusal (gives s.little s.class s.«data».now s.offset) c.in-None.ensures.refused in (
      (
        links_refused gives next (links_view s) s.count s.offset error.0 error.1,
        links_none gives next (links_view s) s.offset,
      ),
      refl,
    )
