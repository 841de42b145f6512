use Rattle.std.proofs.Common.{◌∙◌}
use Rattle.std.specs.Result.{result_ok}
use Rattle.elf.specs.ElfBytes.{view}
use Rattle.elf.specs.ObjectFile.{object_file}
use Rattle.elf.specs.Names.{name_table}
use Rattle.elf_check.proofs.Walking.{own_named, own_unnamed}
use Rattle.elf_check.proofs.Tables.{ok_from_some}
use Rattle.elf_check.proofs.sections.own_fault.Goals as goal

pub section_fault-requires-clause-named : goal.section_fault-requires-clause-named
section_fault-requires-clause-named g c =
    let whole = object_file g.E.EndianParse.little (view c.args.file.now) in
    ok_from_some (name_table whole) c.in-Some.names (c.requires.named ∙ c.in-Some.is)

pub returns-in-Some : goal.returns-in-Some
returns-in-Some g c =
    let whole = object_file g.E.EndianParse.little (view c.args.file.now) in
    own_named whole c.args.shdr.now c.section_fault.result (result_ok (name_table whole)) c.in-Some.names (c.requires.named ∙ c.in-Some.is) c.section_fault.ensures

pub returns-in-None : goal.returns-in-None
returns-in-None g c =
    let whole = object_file g.E.EndianParse.little (view c.args.file.now) in
    own_unnamed whole c.args.shdr.now c.unnamed_fault.result (result_ok (name_table whole)) (c.requires.named ∙ c.in-None.is) c.unnamed_fault.ensures
