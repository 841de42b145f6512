use Rattle.std.proofs.Common.{◌≡◌, ◌+◌, ◌-◌, sym, ◌∙◌, arith, rules}
use Rattle.elf_records.proofs.Items.{refusal}
use Rattle.elf_records.specs.Table.{table_view}
use Rattle.elf_parts.specs.Hash.{word_count}
use Rattle.elf_parts.specs.GnuFind.{gnu_view}
use Rattle.elf_parts.proofs.Runs.{run_cut, run_refused, run_found, run_ended, run_limit, run_next, decides_refused}
use Rattle.elf_parts.proofs.hash.gnu.GnuHashTable.find_in_run.Goals as goal

pub returns-in_default : goal.returns-in_default
returns-in_default g c =
    let error = refusal _ c.in_default.ensures.refused in
    let step = run_cut (gnu_view c.args.self.now) (table_view c.args.symtab.now) c.args.strings.now c.args.name.now (word_count (gnu_view c.args.self.now).chains - c.loop-place.place) c.loop-place.place _ (omega arith) error.1 in
    let all = sym c.loop-place.invariant ∙ step in
    (search (rules, all), search (rules, all))

pub returns-in-None : goal.returns-in-None
returns-in-None g c =
    let error = refusal _ c.in-None.ensures.refused in
    let step = run_refused (gnu_view c.args.self.now) (table_view c.args.symtab.now) c.args.strings.now c.args.name.now (word_count (gnu_view c.args.self.now).chains - c.loop-place.place) c.loop-place.place c.in-Some.word _ (omega arith) c.in-Some.ensures.value error.1 in
    let all = sym c.loop-place.invariant ∙ step in
    let refused = decides_refused (gnu_view c.args.self.now) (table_view c.args.symtab.now) c.args.strings.now c.args.name.now _ c.in-Some.word _ error.1 in
    (search (rules, all), search (rules, all, refused))

pub returns-in-Some-Some : goal.returns-in-Some-Some
returns-in-Some-Some g c =
    let step = run_found (gnu_view c.args.self.now) (table_view c.args.symtab.now) c.args.strings.now c.args.name.now (word_count (gnu_view c.args.self.now).chains - c.loop-place.place) c.loop-place.place c.in-Some.word c.in-Some-Some.found (omega arith) c.in-Some.ensures.value (cc (c.in-Some-Some.ensures.value, c.in-Some-Some.field-0-is)) in
    sym c.loop-place.invariant ∙ step

pub returns-then-word-eq1 : goal.returns-then-word-eq1
returns-then-word-eq1 g c =
    let step = run_ended (gnu_view c.args.self.now) (table_view c.args.symtab.now) c.args.strings.now c.args.name.now (word_count (gnu_view c.args.self.now).chains - c.loop-place.place) c.loop-place.place c.in-Some.word c.in-Some.ensures.value (cc (c.in-Some-None.ensures.value, c.in-Some-None.field-0-is)) (omega arith) in
    sym c.loop-place.invariant ∙ step

pub loop-place-preserved : goal.loop-place-preserved
loop-place-preserved g c =
    let step = run_next (gnu_view c.args.self.now) (table_view c.args.symtab.now) c.args.strings.now c.args.name.now (word_count (gnu_view c.args.self.now).chains - c.loop-place.place) c.loop-place.place c.in-Some.word (omega arith) c.in-Some.ensures.value (cc (c.in-Some-None.ensures.value, c.in-Some-None.field-0-is)) (omega arith) in
    let less : word_count (gnu_view c.args.self.now).chains - c.loop-place.place - 1 ≡ word_count (gnu_view c.args.self.now).chains - (c.loop-place.place + 1) = omega arith in
    sym (rw less at step) ∙ c.loop-place.invariant

pub returns : goal.returns
returns g c =
    let step = run_limit (gnu_view c.args.self.now) (table_view c.args.symtab.now) c.args.strings.now c.args.name.now (word_count (gnu_view c.args.self.now).chains - c.loop-place.place) c.loop-place.place (omega arith) in
    sym c.loop-place.invariant ∙ step
