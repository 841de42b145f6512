-- Hash sections that C holds open.
use Rattle.elf_parts.specs.GnuFind.{GnuTable, gnu_of_parts}
use Rattle.elf_parts.specs.SysvFind.{SysvTable, sysv_of_parts}
use Rattle.elf_c.specs.Tables.{class_in}
use Rattle.elf_c.specs.declared.hash_tables.NugwierGnu.{NugwierGnu}
use Rattle.elf_c.specs.declared.hash_tables.NugwierSysv.{NugwierSysv}

-- the table whose parts a handle holds
abbrev pub gnu_of_c : NugwierGnu → GnuTable
gnu_of_c g =
    gnu_of_parts g.little (class_in g.is_64)
    (record { nbucket = g.nbucket; table_start_idx = g.first; nbloom = g.nbloom; nshift = g.nshift })
    g.bloom.now g.buckets.now g.chains.now

abbrev pub sysv_of_c : NugwierSysv → SysvTable
sysv_of_c s = sysv_of_parts s.little (class_in s.is_64) s.buckets.now s.chains.now
