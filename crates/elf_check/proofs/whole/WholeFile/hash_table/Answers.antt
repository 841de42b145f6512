use Rattle.std.proofs.Common.{sym}
use Rattle.elf_abi.specs.Values.{sht_gnu_hash, sht_hash}
use Rattle.elf_check.specs.Whole.{section_file, section_header, whole_view}
use Rattle.elf_check.proofs.Firsts.{first_type}
use Rattle.elf_check.proofs.LookUps.{by_gnu, by_sysv}
use Rattle.elf_check.proofs.whole.WholeFile.hash_table.Goals as goal

pub checked_table-requires : goal.checked_table-requires
checked_table-requires g c =
    let sections = (whole_view g.E.EndianParse.little c.args.self.now).sections in
    let s = section_header c.in-Some.section in
    c.in-Some.section.sound.content.gnu_hash (first_type sht_gnu_hash sections s (sym c.in-Some.ensures.header))

pub checked_table-requires-in-Some-first_section_of : goal.checked_table-requires-in-Some-first_section_of
checked_table-requires-in-Some-first_section_of g c =
    let sections = (whole_view g.E.EndianParse.little c.args.self.now).sections in
    let s = section_header c.in-Some-first_section_of.section in
    c.in-Some-first_section_of.section.sound.content.sysv_hash (first_type sht_hash sections s (sym c.in-Some-first_section_of.ensures.header))

pub returns-in-Some : goal.returns-in-Some
returns-in-Some g c =
    let little = g.E.EndianParse.little in
    by_gnu (whole_view little c.args.self.now) (section_file little c.in-Some.section) (section_header c.in-Some.section) _ c.in-Some.ensures.same (sym c.in-Some.ensures.header) c.checked_table.ensures

pub returns-in-Some-first_section_of : goal.returns-in-Some-first_section_of
returns-in-Some-first_section_of g c =
    let little = g.E.EndianParse.little in
    let section = c.in-Some-first_section_of.section in
    by_sysv (whole_view little c.args.self.now) (section_file little section) (section_header section) _ c.in-Some-first_section_of.ensures.same (sym c.in-None.ensures.header) (sym c.in-Some-first_section_of.ensures.header) c.checked_table-in-Some-first_section_of.ensures
