use Rattle.std.proofs.Common.{refl}
use Rattle.std.proofs.lemmas.Cmp.{nat_cmp_total, int_cmp_total}
use Rattle.elf_abi.specs.AllNames.{unsigned_lists, signed_lists}
use Rattle.elf_abi.proofs.Lists.{all_name_once}
use Rattle.elf_abi.proofs.to_str.each_value_has_one_name.Goals as goal

pub returns-clause-unsigned : goal.returns-clause-unsigned
returns-clause-unsigned c = all_name_once nat_cmp_total unsigned_lists refl

pub returns-clause-signed : goal.returns-clause-signed
returns-clause-signed c = all_name_once int_cmp_total signed_lists refl
