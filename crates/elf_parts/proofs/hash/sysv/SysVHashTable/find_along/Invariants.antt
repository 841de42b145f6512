use Rattle.std.proofs.Common.{◌≡◌, ◌-◌}
use Rattle.elf_records.specs.Table.{table_view}
use Rattle.elf_parts.specs.SysvFind.{find_along, sysv_view}
use Rattle.elf_parts.specs.Hash.{word_count}
use Rattle.elf_parts.proofs.hash.sysv.SysVHashTable.find_along.Given as goal

-- what the walk from here on finds is what is to be found
abbrev pub invariant-loop : goal.invariant-loop
invariant-loop g l =
    find_along (sysv_view l.self) (table_view l.symtab) l.strings l.name (l.end - l.counter) l.index
    ≡ find_along (sysv_view l.self) (table_view l.symtab) l.strings l.name (word_count (sysv_view l.self).chains) l.start
