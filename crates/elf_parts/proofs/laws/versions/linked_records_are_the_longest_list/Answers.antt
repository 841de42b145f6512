-- By induction on the count; and no record is past the data.
use Rattle.std.proofs.Common.{arith}
use Rattle.elf_records.specs.Table.{table_in}
use Rattle.elf_parts.specs.gnu_symver.Links.{links_in, next_start}
use Rattle.elf_parts.proofs.LinkedRecords.{links_few, longest}
use Rattle.elf_parts.proofs.laws.versions.linked_records_are_the_longest_list.Goals as goal

pub returns-clause-longest : goal.returns-clause-longest
unfolding links_in
returns-clause-longest g c =
    longest (g.R.ParseAt.reads.record_at (g.E.EndianParse.little c.args.endian) c.args.class c.args.«data».now)
    (λ o x. next_start o (g.R.Linked.next_distance x)) c.args.count c.args.start

pub returns-clause-few : goal.returns-clause-few
returns-clause-few g c =
    let t = table_in (g.E.EndianParse.little c.args.endian) c.args.class c.args.«data».now in
    let few =
    links_few g.R.ParseAt.reads g.R.Linked.next_distance t c.args.count c.args.start in
    omega (arith, few)
