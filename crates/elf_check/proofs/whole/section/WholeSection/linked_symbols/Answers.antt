use Rattle.std.proofs.Common.{ℕ, ◌≡◌, sym, ap, ◌∙◌, subst, false, rules}
use Rattle.std.specs.Option.{option_map}
use Rattle.elf.specs.Answers.{symbols_of, symbols_view}
use Rattle.elf.specs.ElfBytes.{view}
use Rattle.elf.specs.ObjectFile.{object_file}
use Rattle.elf_check.specs.Relocations.{has_other_info}
use Rattle.elf_check.specs.Symbols.{SoundSymbolTable}
use Rattle.elf_check.proofs.Linked.{linked_sound, some_of_shown}
use Rattle.elf_check.proofs.Tables.{ok_from_some}
use Rattle.elf_check.proofs.Verdicts.{table_sound}
use Rattle.elf_check.proofs.whole.section.WholeSection.linked_symbols.Goals as goal

pub unwrap-requires : goal.unwrap-requires
unwrap-requires g c =
    let whole = object_file g.E.EndianParse.little (view c.args.self.now.file.now) in
    let plain : has_other_info whole ≡ false = search rules in
    let here = sym c.section_at.ensures.value ∙ c.unwrap-linked.ensures in
    let sound = linked_sound g.P.ParseAt.reads g.P.Relocation.symbol_of whole c.args.self.now.header c.unwrap-linked.result c.args.self.now.whole c.requires plain c.if-self-eq0.false here in
    some_of_shown _ symbols_view c.symbols_of.result (symbols_of whole c.unwrap-linked.result) c.symbols_of.ensures sound.symbols

pub new-requires : goal.new-requires
new-requires g c =
    let whole = object_file g.E.EndianParse.little (view c.args.self.now.file.now) in
    let plain : has_other_info whole ≡ false = search rules in
    let here = sym c.section_at.ensures.value ∙ c.unwrap-linked.ensures in
    let sound = linked_sound g.P.ParseAt.reads g.P.Relocation.symbol_of whole c.args.self.now.header c.unwrap-linked.result c.args.self.now.whole c.requires plain c.if-self-eq0.false here in
    let found = symbols_view c.unwrap.result in
    let there = ok_from_some (symbols_of whole c.unwrap-linked.result) found (sym c.symbols_of.ensures ∙ ap (option_map symbols_view) c.unwrap.ensures) in
    let N : ℕ → Type 0 = λ n. SoundSymbolTable n found.0 found.1 in
    subst N (sym c.args.self.now.counted) (table_sound whole c.unwrap-linked.result found there sound)
