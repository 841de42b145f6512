use Rattle.std.proofs.Common.{ℕ, List, sym, subst, rules}
use Rattle.elf_records.specs.Table.{table_view}
use Rattle.elf_records.specs.StringTable.{strings_view}
use Rattle.elf.specs.ElfBytes.{view}
use Rattle.elf.specs.ObjectFile.{object_file}
use Rattle.elf_check.specs.Symbols.{SoundSymbolTable}
use Rattle.elf_check.proofs.Verdicts.{sound_symbols}
use Rattle.elf_check.proofs.sections.symbols_fault.Goals as goal

pub returns-in-None : goal.returns-in-None
returns-in-None g c =
    let whole = object_file g.E.EndianParse.little (view c.args.file.now) in
    let table = table_view c.in-Some.symbols in
    let S : List ℕ → Type 0 = λ strings. SoundSymbolTable c.args.sections table strings in
    let N : ℕ → Type 0 = λ n. SoundSymbolTable n table (strings_view c.in-Some.strings) in
    sound_symbols whole c.args.shdr.now c.in-Ok.pair (table, strings_view c.in-Some.strings) (sym c.in-Ok.ensures.value) (search rules) (search rules) (sym c.in-Some.ensures)
    (subst N c.requires.count (subst S c.new.ensures c.in-None.ensures))
