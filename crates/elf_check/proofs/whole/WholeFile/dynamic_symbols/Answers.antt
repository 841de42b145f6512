use Rattle.std.proofs.Common.{ℕ, inr, sym, subst}
use Rattle.std.specs.Option.{IfSome, option_map}
use Rattle.elf_abi.specs.Values.{sht_dynsym}
use Rattle.elf.specs.Answers.{symbols_view}
use Rattle.elf.specs.ElfBytes.{view}
use Rattle.elf.specs.ObjectFile.{object_file}
use Rattle.elf_check.specs.Symbols.{SoundSymbolTable}
use Rattle.elf_check.proofs.Firsts.{first_shown, first_sound}
use Rattle.elf_check.proofs.whole.WholeFile.dynamic_symbols.Goals as goal

pub unwrap-requires : goal.unwrap-requires
unwrap-requires g c =
    let whole = object_file g.E.EndianParse.little (view c.args.self.now.file.now) in
    let first = first_sound whole sht_dynsym (λ s e. inr e) c.sections_are_listed.ensures c.args.self.now.sound in
    (first_shown (option_map symbols_view) c.dynamic_symbol_table.result whole sht_dynsym c.dynamic_symbol_table.ensures first).0

pub first_symbols-requires : goal.first_symbols-requires
first_symbols-requires g c =
    let whole = object_file g.E.EndianParse.little (view c.args.self.now.file.now) in
    let first = first_sound whole sht_dynsym (λ s e. inr e) c.sections_are_listed.ensures c.args.self.now.sound in
    let N : ℕ → Type 0 = λ n. IfSome (option_map symbols_view c.unwrap.result) (λ one. SoundSymbolTable n one.0 one.1) in
    subst N (sym c.args.self.now.counted)
    ((first_shown (option_map symbols_view) c.dynamic_symbol_table.result whole sht_dynsym c.dynamic_symbol_table.ensures first).1 c.unwrap.result c.unwrap.ensures)
