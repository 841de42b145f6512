-- The definitions as linked records.
use Rattle.std.specs.Prelude.{ℕ, ◌==◌, Bool, List}
use Rattle.elf_parts.specs.gnu_symver.Links.{links_in}
use Rattle.elf_parts.specs.gnu_symver.Lists.{ver_def_with_aux}
use Rattle.elf_parts.specs.gnu_symver.Records.{ver_def_reads}
use Rattle.elf_parts.specs.declared.gnu_symver.records.VerDef.{VerDef}
use Rattle.elf_records.specs.Table.{Table}
use Rattle.elf_c.specs.Tables.{table_of_c}
use Rattle.elf_c.specs.VersionPlaces.{Defined, defined_of}
use Rattle.elf_c.specs.declared.versions.NugwierEntries.{NugwierEntries}

-- the definitions with their offsets
abbrev pub definition_links : NugwierEntries → List (ℕ × VerDef)
definition_links e = links_in ver_def_reads.record_at (λ x. x.vd_next) (table_of_c e.entries) e.count 0

-- a definition has this index
abbrev pub has_index : ℕ → ℕ × VerDef → Bool
has_index index link = link.1.vd_ndx == index

-- a definition with its names, which lie in this table
abbrev pub linked_definition : Table → ℕ × VerDef → Defined
linked_definition t link = defined_of (ver_def_with_aux t link)
