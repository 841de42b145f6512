use Rattle.std.proofs.Common.{sym, ◌∙◌}
use Rattle.elf.specs.ElfBytes.{view}
use Rattle.elf.specs.ObjectFile.{object_file}
use Rattle.elf_reading.specs.Versions.{is_of_type}
use Rattle.elf_check.proofs.Firsts.{found_at}
use Rattle.elf_check.proofs.Tables.{ok_from_some}
use Rattle.elf_check.proofs.whole.WholeFile.first_section_of.Goals as goal

pub new-requires-clause-sound : goal.new-requires-clause-sound
new-requires-clause-sound g c =
    let whole = object_file g.E.EndianParse.little (view c.args.self.now.file.now) in
    let s = c.in-Some.header in
    let r = found_at (is_of_type c.args.sh_type) whole.sections s (sym c.in-Some.ensures) in
    c.args.self.now.sound.sections r.1.0 s (ok_from_some (whole.section_at r.1.0) s (sym (c.sections_are_listed.ensures r.1.0) ∙ r.1.1))
