use Rattle.std.proofs.Common.{◌≡◌, ◌<◌, Some, length, ap, arith, sym, rules, ◌∙◌}
use Rattle.std.proofs.lemmas.Option.{slice_get-get_or}
use Rattle.elf_linking.specs.Resolver.{HasTable, IsTable}
use Rattle.elf_linking.proofs.Tables.{below_next, faulty, first_has, missing, paired_push, table_sound}
use Rattle.elf_linking.proofs.resolver.tables.Goals as goal

pub loop-library-preserved : goal.loop-library-preserved
loop-library-preserved g c =
    let files = c.args.files.now in
    let place = c.loop-library.library in
    let file = c.index-files-library.result in
    let inside : place < length files = c.loop-library-test.true in
    let at = slice_get-get_or files place file inside ∙ ap Some (sym c.index-files-library.is) in
    let table = rw c.in-Ok-Some.field-0-is at c.in-Ok-Some.ensures in
    let pairs = paired_push (IsTable g.E.EndianParse.little) files c.loop-library.tables.items c.push.new.self.items place file c.in-Ok-Some.table
    c.loop-library.invariant.0 c.in_ok-push-in-Ok-Some.ensures.items c.loop-library.invariant.1 at table in
    let sound = table_sound g.E.EndianParse.little file c.in-Ok-Some.table table in
    (pairs.0, pairs.1, below_next (HasTable g.E.EndianParse.little) files place file c.loop-library.invariant.2 at sound)

pub returns-in_err-push-in-Ok-Some-clause-refused : goal.returns-in_err-push-in-Ok-Some-clause-refused
returns-in_err-push-in-Ok-Some-clause-refused g c =
    let files = c.args.files.now in
    let place = c.loop-library.library in
    let file = c.index-files-library.result in
    let inside : place < length files = c.loop-library-test.true in
    let at = slice_get-get_or files place file inside ∙ ap Some (sym c.index-files-library.is) in
    let table = rw c.in-Ok-Some.field-0-is at c.in-Ok-Some.ensures in
    let sound = table_sound g.E.EndianParse.little file c.in-Ok-Some.table table in
    let memory = first_has g.E.EndianParse.little files place file at sound c.loop-library.invariant.2 in
    search (rules, memory)

pub returns-in-Ok-None-clause-refused : goal.returns-in-Ok-None-clause-refused
returns-in-Ok-None-clause-refused g c =
    let files = c.args.files.now in
    let place = c.loop-library.library in
    let file = c.index-files-library.result in
    let inside : place < length files = c.loop-library-test.true in
    let at = slice_get-get_or files place file inside ∙ ap Some (sym c.index-files-library.is) in
    let none = rw c.in-Ok-None.field-0-is at c.in-Ok-None.ensures in
    missing g.E.EndianParse.little files place file at none c.loop-library.invariant.2

pub returns-in-Err-clause-refused : goal.returns-in-Err-clause-refused
returns-in-Err-clause-refused g c =
    let files = c.args.files.now in
    let place = c.loop-library.library in
    let file = c.index-files-library.result in
    let inside : place < length files = c.loop-library-test.true in
    let at = slice_get-get_or files place file inside ∙ ap Some (sym c.index-files-library.is) in
    faulty g.E.EndianParse.little files place file _ at c.in-Err.ensures c.loop-library.invariant.2

pub loop-library-init : goal.loop-library-init
loop-library-init g c =
    (ap length c.new-tables.ensures.items, λ k less. absurd (omega (arith, less)), λ k less. absurd (omega (arith, less)))

pub returns-clause-tables : goal.returns-clause-tables
returns-clause-tables g c =
    let before = c.loop-library.invariant in
    let all : c.loop-library.library ≡ length c.args.files.now = omega arith in
    (before.0 ∙ all, λ k less. before.1 k (omega (arith, less, all)))
