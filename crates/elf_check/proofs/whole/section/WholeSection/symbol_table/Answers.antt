use Rattle.std.proofs.Common.{ℕ, sym, ap, ◌∙◌, subst}
use Rattle.std.specs.Option.{option_map}
use Rattle.elf.specs.Answers.{symbols_in, symbols_view}
use Rattle.elf.specs.ElfBytes.{view}
use Rattle.elf.specs.ObjectFile.{object_file}
use Rattle.elf_check.specs.Symbols.{SoundSymbolTable}
use Rattle.elf_check.proofs.Tables.{ok_from_some}
use Rattle.elf_check.proofs.Verdicts.{symbols_from, table_sound}
use Rattle.elf_check.proofs.whole.section.WholeSection.symbol_table.Goals as goal

pub new-requires : goal.new-requires
new-requires g c =
    let whole = object_file g.E.EndianParse.little (view c.args.self.now.file.now) in
    let s = c.args.self.now.header in
    let found = symbols_view c.unwrap.result in
    let there = ok_from_some (symbols_in whole c.unwrap-pair.result) found (sym c.symbols_in.ensures ∙ ap (option_map symbols_view) c.unwrap.ensures) in
    let of_section = symbols_from whole s c.unwrap-pair.result found (sym c.with_linked.ensures.value ∙ c.unwrap-pair.ensures) there in
    let N : ℕ → Type 0 = λ n. SoundSymbolTable n found.0 found.1 in
    subst N (sym c.args.self.now.counted) (table_sound whole s found of_section (c.args.self.now.sound.content.symbols c.requires))
