use Rattle.std.proofs.Common.{refl, rules}
use Rattle.elf.specs.ElfBytes.{view}
use Rattle.elf.specs.ObjectFile.{object_file}
use Rattle.elf_check.proofs.Walking.{known, unknown}
use Rattle.elf_check.proofs.versions.knows_versions.Goals as goal

pub returns-in-Some : goal.returns-in-Some
returns-in-Some g c =
    let whole = object_file g.E.EndianParse.little (view c.args.file.now) in
    unknown whole c.args.chosen.now c.in-Some.field-0 _ refl c.in-Some.ensures

pub returns-in-None : goal.returns-in-None
returns-in-None g c =
    let whole = object_file g.E.EndianParse.little (view c.args.file.now) in
    known whole c.args.chosen.now c.entries_fault-in-None.result c.is_none.result (search rules) c.in-None.ensures c.entries_fault-in-None.ensures
