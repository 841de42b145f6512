use Rattle.std.proofs.Common.{◌≡◌, ◌+◌, ◌-◌, sym, ◌∙◌, arith, rules}
use Rattle.elf_records.proofs.Items.{refusal}
use Rattle.elf_records.specs.Table.{table_view}
use Rattle.elf_parts.specs.SysvFind.{sysv_view}
use Rattle.elf_parts.proofs.Walks.{along_refused, along_found, along_cut, along_next, along_ended, along_limit, named_refused}
use Rattle.elf_parts.proofs.hash.sysv.SysVHashTable.find_along.Goals as goal

pub returns-then-index-eq0 : goal.returns-then-index-eq0
returns-then-index-eq0 g c =
    let step = along_ended (sysv_view c.args.self.now) (table_view c.args.symtab.now) c.args.strings.now c.args.name.now (c.word_count-end.result - c.loop.counter) c.loop.index (omega arith) in
    sym c.loop.invariant ∙ step

pub returns-in-None : goal.returns-in-None
returns-in-None g c =
    let error = refusal _ c.in-None.ensures.refused in
    let step = along_refused (sysv_view c.args.self.now) (table_view c.args.symtab.now) c.args.strings.now c.args.name.now (c.word_count-end.result - c.loop.counter) c.loop.index _ (omega arith) (omega arith) error.1 in
    let all = sym c.loop.invariant ∙ step in
    let refused = named_refused (sysv_view c.args.self.now) (table_view c.args.symtab.now) c.args.strings.now c.args.name.now c.loop.index _ error.1 in
    (search (rules, all), search (rules, all, refused))

pub returns-in-Some-Some : goal.returns-in-Some-Some
returns-in-Some-Some g c =
    let step = along_found (sysv_view c.args.self.now) (table_view c.args.symtab.now) c.args.strings.now c.args.name.now (c.word_count-end.result - c.loop.counter) c.loop.index c.in-Some-Some.found (omega arith) (omega arith) (cc (c.in-Some-Some.ensures.value, c.in-Some-Some.field-0-is)) in
    sym c.loop.invariant ∙ step

pub returns-in_default : goal.returns-in_default
returns-in_default g c =
    let error = refusal _ c.in_default.ensures.refused in
    let step = along_cut (sysv_view c.args.self.now) (table_view c.args.symtab.now) c.args.strings.now c.args.name.now (c.word_count-end.result - c.loop.counter) c.loop.index _ (omega arith) (omega arith) (cc (c.in-Some-None.ensures.value, c.in-Some-None.field-0-is)) error.1 in
    let all = sym c.loop.invariant ∙ step in
    (search (rules, all), search (rules, all))

pub loop-preserved : goal.loop-preserved
loop-preserved g c =
    let step = along_next (sysv_view c.args.self.now) (table_view c.args.symtab.now) c.args.strings.now c.args.name.now (c.word_count-end.result - c.loop.counter) c.loop.index _ (omega arith) (omega arith) (cc (c.in-Some-None.ensures.value, c.in-Some-None.field-0-is)) c.in-Some.ensures.value in
    let less : c.word_count-end.result - c.loop.counter - 1 ≡ c.word_count-end.result - (c.loop.counter + 1) = omega arith in
    sym (rw less at step) ∙ c.loop.invariant

pub returns : goal.returns
returns g c =
    let step = along_limit (sysv_view c.args.self.now) (table_view c.args.symtab.now) c.args.strings.now c.args.name.now (c.word_count-end.result - c.loop.counter) c.loop.index (omega arith) in
    sym c.loop.invariant ∙ step
