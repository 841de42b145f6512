use Rattle.std.proofs.Common.{refl}
use Rattle.elf_abi.specs.SegmentNames.{p_type_names}
use Rattle.elf_c.proofs.Templates.{short_found}
use Rattle.elf_c.proofs.texts.type_name.Goals as goal

pub returns-clause-short : goal.returns-clause-short
returns-clause-short c = short_found p_type_names _ c.p_type_to_str.result refl c.p_type_to_str.ensures
