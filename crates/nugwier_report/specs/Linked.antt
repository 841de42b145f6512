-- The dynamic symbols and their versions, as the report says why they cannot be had.
use Rattle.std.specs.Prelude.{ℕ, List, Option, Result}
use Rattle.elf.specs.ObjectFile.{ObjectFile, err_map}
use Rattle.elf_dynamic.specs.Linked.{dynamic_symbols, dynamic_versions}
use Rattle.elf_parts.specs.gnu_symver.Table.{Versions}
use Rattle.elf_records.specs.Table.{Table}
use Rattle.nugwier_report.specs.declared.problem.Fault.{Fault}
use Rattle.nugwier_report.specs.declared.problem.Fault.TheVariants.{Linked}

abbrev pub linked_symbols : ObjectFile → Result (Option (Table × List ℕ)) Fault
linked_symbols file = err_map Linked (dynamic_symbols file)

abbrev pub linked_versions : ObjectFile → Result (Option Versions) Fault
linked_versions file = err_map Linked (dynamic_versions file)
