use Rattle.std.proofs.Common.{ap, sym, ◌∙◌}
use Rattle.elf_records.specs.Number.{ok_map}
use Rattle.elf_records.specs.StringTable.{strings_view}
use Rattle.elf.specs.ElfBytes.{view}
use Rattle.elf.specs.ObjectFile.{object_file, section_part, table_of}
use Rattle.elf_check.specs.Dynamic.{SoundEntries}
use Rattle.elf_check.proofs.Dynamics.{strings_there}
use Rattle.elf_check.proofs.Linked.{some_of_shown}
use Rattle.elf_check.proofs.whole.section.WholeSection.dynamic_entries.Goals as goal

pub unwrap-strings-requires : goal.unwrap-strings-requires
unwrap-strings-requires g c =
    let whole = object_file g.E.EndianParse.little (view c.args.self.now.file.now) in
    let s = c.args.self.now.header in
    let here = sym c.section_at.ensures.value ∙ c.unwrap-linked.ensures in
    let bytes = c.data.result.0.now in
    let there = strings_there whole s c.unwrap-linked.result bytes (c.args.self.now.sound.content.dynamic c.requires) (ap (ok_map (λ found. found.0)) c.data.ensures) here in
    some_of_shown (λ strings. SoundEntries strings (table_of whole bytes)) strings_view c.strings_in.result (section_part whole c.unwrap-linked.result) c.strings_in.ensures there
