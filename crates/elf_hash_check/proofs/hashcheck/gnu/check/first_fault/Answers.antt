use Rattle.std.proofs.Common.{ap, arith, subst}
use Rattle.elf_parts.specs.Hash.{ReadsBelowCount, word_count}
use Rattle.elf_records.specs.Table.{Table, table_view}
use Rattle.elf_hash_check.specs.WithSymbols.{gnu_with}
use Rattle.elf_hash_check.proofs.GnuVerdicts.{before_place, true_fault}
use Rattle.elf_hash_check.proofs.Reading.{word_inside}
use Rattle.elf_hash_check.proofs.hashcheck.gnu.check.first_fault.Goals as goal

pub returns-in-Some-clause-verdict : goal.returns-in-Some-clause-verdict
returns-in-Some-clause-verdict g c =
    let s = gnu_with c.args.table.now c.args.symtab.now c.args.strtab.now in
    let before = before_place s c.in-Some.fault in (
      λ sound. true_fault s sound c.in-Some.fault c.in-Some.ensures.verdict,
      (c.in-Some.ensures.verdict, λ k w after e. c.loop-place.invariant.sound k w (before k _ c.in-Some.ensures.names after) e),
    )

pub returns-clause-verdict : goal.returns-clause-verdict
returns-clause-verdict g c =
    let P : Table → Type 0 = λ t. ReadsBelowCount t in
    let reads = subst P c.chains-chains.ensures c.words_read_below_count.ensures in
    let all = ap (λ (t : Table). word_count t) c.chains-chains.ensures in
    (omega arith, λ k w e. let inside = word_inside (table_view c.args.table.now.chains) k w reads e in c.loop-place.invariant.sound k w (omega (arith, inside, all)) e)
