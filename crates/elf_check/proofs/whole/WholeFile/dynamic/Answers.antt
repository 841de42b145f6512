use Rattle.std.proofs.Common.{◌≡◌, Some, rules}
use Rattle.std.specs.List.{find}
use Rattle.elf_abi.specs.Values.{sht_dynamic}
use Rattle.elf_reading.specs.Versions.{is_of_type}
use Rattle.elf_check.specs.Whole.{section_header, whole_view}
use Rattle.elf_check.proofs.Firsts.{first_type}
use Rattle.elf_check.proofs.whole.WholeFile.dynamic.Goals as goal

pub dynamic_entries-requires : goal.dynamic_entries-requires
dynamic_entries-requires g c =
    let sections = (whole_view g.E.EndianParse.little c.args.self.now).sections in
    let s = section_header c.in-Some.section in
    let found : find (is_of_type sht_dynamic) sections ≡ Some s = search rules in
    first_type sht_dynamic sections s found
