use Rattle.nugwier_symbols.proofs.symbols.tell_linked.Goals as goal

pub returns-clause-told : goal.returns-clause-told
returns-clause-told g c = rw (c.in_ok-found.ensures, c.in_ok-versions.ensures) at c.tell_table.ensures.told
