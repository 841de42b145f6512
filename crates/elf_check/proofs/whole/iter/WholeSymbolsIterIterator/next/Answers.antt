use Rattle.std.proofs.Common.{ap, sym, ◌∙◌}
use Rattle.std.specs.Option.{option_map}
use Rattle.elf_check.specs.Whole.{named_view, whole_symbols}
use Rattle.elf_check.proofs.Named.{next_named}
use Rattle.elf_check.proofs.whole.iter.WholeSymbolsIterIterator.next.Goals as goal

pub returns-clause-steps : goal.returns-clause-steps
returns-clause-steps g c =
    let s = c.args.self.now in
    let (symbols, strings) = whole_symbols s.symbols in
    next_named symbols strings s.next (named_view c.unwrap-found.result) (c.list_is_what_get_gives.ensures symbols s.next c.len.ensures.short)
    (sym (ap (option_map named_view) c.unwrap-found.ensures) ∙ c.get.ensures.value)
