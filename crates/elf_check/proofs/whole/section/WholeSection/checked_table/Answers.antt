use Rattle.std.proofs.Common.{ap, sym, ◌∙◌}
use Rattle.std.specs.Option.{option_map}
use Rattle.elf_records.specs.Number.{ok_map}
use Rattle.elf.specs.Answers.{symbols_view}
use Rattle.elf.specs.ElfBytes.{view}
use Rattle.elf.specs.ObjectFile.{object_file}
use Rattle.elf_hash_check.specs.CheckedTable.{object_view}
use Rattle.elf_hash_check.specs.Object.{IsFirstOfObject}
use Rattle.elf_check.proofs.HashObjects.{faulty_of, never_faulty}
use Rattle.elf_check.proofs.whole.section.WholeSection.checked_table.Goals as goal

pub unreachable-requires : goal.unreachable-requires
unreachable-requires g c =
    let whole = object_file g.E.EndianParse.little (view c.args.self.now.file.now) in
    never_faulty (λ object. IsFirstOfObject object c.in-Ok-Faulty.field-0-0) c.args.kind whole c.args.self.now.header c.unwrap-linked.result c.data.result.0.now (symbols_view c.unwrap.result)
    c.requires (sym c.section_at.ensures.value ∙ c.unwrap-linked.ensures) (sym c.symbols_of.ensures ∙ ap (option_map symbols_view) c.unwrap.ensures) (ap (ok_map (λ found. found.0)) c.data.ensures)
    (faulty_of object_view _ c.in-Ok-Faulty.field-0-0 (rw c.in-Ok-Faulty.field-0-is at c.in-Ok-Faulty.ensures))
