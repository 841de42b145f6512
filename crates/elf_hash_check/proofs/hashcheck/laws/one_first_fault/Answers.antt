use Rattle.elf_hash_check.specs.Object.{ByGnu, BySysv, IsFirstOfObject, Object}
use Rattle.elf_hash_check.specs.declared.hashcheck.HashFault.{HashFault}
use Rattle.elf_hash_check.proofs.GnuVerdicts.{one_gnu_fault}
use Rattle.elf_hash_check.proofs.SysvFirst.{one_sysv_fault}
use Rattle.elf_hash_check.proofs.hashcheck.laws.one_first_fault.Goals as goal
use Rattle.std.proofs.Common.{◌≡◌}

one_fault : (object : Object) (one other : HashFault) → IsFirstOfObject object one → IsFirstOfObject object other → one ≡ other
one_fault (BySysv s) one other x y = one_sysv_fault s one other x y
one_fault (ByGnu s) one other x y = one_gnu_fault s one other x y

pub returns : goal.returns
returns c = one_fault
