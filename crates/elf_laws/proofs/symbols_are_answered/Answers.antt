use Rattle.std.proofs.Common.{◌≡◌, List, ℕ, Some, subst}
use Rattle.elf_records.specs.Table.{Table, table_items}
use Rattle.elf_records.specs.Symbol.{symbol_reads}
use Rattle.elf_check.specs.Symbols.{AllNamed}
use Rattle.elf_check.specs.Whole.{whole_symbols, whole_view}
use Rattle.elf_laws.proofs.Lines.{symbols_answered}
use Rattle.elf_laws.proofs.symbols_are_answered.Goals as goal

pub returns-in-Some : goal.returns-in-Some
returns-in-Some g c = λ header.
    let P : Table × List ℕ → Type 0 = λ one. AllNamed one.1 (table_items symbol_reads one.0) in
    symbols_answered header (whole_view g.E.EndianParse.little c.args.file.now) (Some (whole_symbols c.in-Some.symbols)) c.in-Some.ensures
    (λ found e. let same : whole_symbols c.in-Some.symbols ≡ found = cc in subst P same c.iter.ensures.names)
