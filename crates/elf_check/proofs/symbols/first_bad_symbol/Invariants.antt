use Rattle.elf_parts.specs.Hash.{symbol_at}
use Rattle.elf_records.specs.Table.{table_view}
use Rattle.elf_check.specs.Members.{SoundBelow}
use Rattle.elf_check.specs.Symbols.{SoundSymbol}
use Rattle.elf_check.proofs.symbols.first_bad_symbol.Given as goal

-- the symbols so far are sound
abbrev pub invariant-loop-index : goal.invariant-loop-index
invariant-loop-index g l = SoundBelow (symbol_at (table_view l.symbols)) (SoundSymbol l.sections l.strings) l.index
