use Rattle.std.proofs.Common.{rules, sym}
use Rattle.std.specs.Prelude.{IsTrue}
use Rattle.elf.specs.Answers.{symbols_view}
use Rattle.elf.specs.ElfBytes.{view}
use Rattle.elf.specs.ObjectFile.{object_file}
use Rattle.elf_hash_check.specs.Object.{IsFirstOfObject, IsSound}
use Rattle.elf_hash_check.specs.CheckedTable.{object_view}
use Rattle.elf_check.specs.Symbols.{holds_symbols}
use Rattle.elf_check.proofs.HashObjects.{faulty_of, hash_has}
use Rattle.elf_check.proofs.hashes.hash_fault.Goals as goal

pub returns-in-Ok-Faulty : goal.returns-in-Ok-Faulty
returns-in-Ok-Faulty g c =
    let whole = object_file g.E.EndianParse.little (view c.args.file.now) in
    let holds : IsTrue (holds_symbols c.in-Ok.linked) = search rules in
    hash_has (λ object. (¬ IsSound object) × IsFirstOfObject object c.in-Ok-Faulty.fault) c.args.kind whole c.args.shdr.now c.in-Ok.linked c.args.bytes.now (symbols_view (c.in-Some.symbols, c.in-Some.strings))
    (sym c.in-Ok.ensures.value) holds (sym c.in-Some.ensures) c.requires (faulty_of object_view _ c.in-Ok-Faulty.fault (rw c.in-Ok-Faulty.field-0-is at c.in-Ok-Faulty.ensures))
