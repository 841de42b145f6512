use Rattle.std.proofs.Common.{◌≡◌, true}
use Rattle.std.specs.List.{find}
use Rattle.elf.specs.Names.{has_name}
use Rattle.elf_records.specs.Section.{section_header_reads}
use Rattle.elf_records.specs.Table.{items_left, table_in, table_items}
use Rattle.elf_records.specs.declared.file.Class.TheVariants.{ELF64}
use Rattle.elf_c.proofs.section_names.first_in_table.Given as goal

-- no header so far has the name
abbrev pub invariant-loop-shdr : goal.invariant-loop-shdr
invariant-loop-shdr l =
    goal.iterator-loop-shdr.can_next l.shdr-iterator ×
    goal.iterator-loop-shdr.is_finite l.shdr-iterator ×
    (find (has_name l.names l.name) (items_left section_header_reads l.shdr-iterator)
    ≡ find (has_name l.names l.name) (table_items section_header_reads (table_in true ELF64 l.sections)))
