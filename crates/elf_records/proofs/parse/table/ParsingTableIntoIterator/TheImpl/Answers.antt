-- What the impl's member says are two of the clauses of `into_iter`.
use Rattle.elf_records.proofs.parse.table.ParsingTableIntoIterator.TheImpl.Goals as goal

pub into_iter-tells : goal.into_iter-tells
into_iter-tells g x c = record { into_iter_gives = (c.ensures.items, c.ensures.bound) }
