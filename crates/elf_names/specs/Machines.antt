-- The numbers of machines (e_machine).
use Rattle.std.specs.Prelude.{ℕ, List, Option, nat_eq}
use Rattle.std.specs.Option.{option_or}
use Rattle.elf_abi.specs.MachineNames.{e_machine_names}
use Rattle.elf_abi.specs.Names.{Row, name_of}
use Rattle.elf_names.specs.Table.{rows}
use Rattle.elf_names.specs.declared.machines.TheConstants as names

-- newer machines, and numbers that are in use without being assigned
unfoldable pub in_use : List (Row ℕ)
in_use = rows names.IN_USE.now

-- the name of the constants of the crate `elf`, else that of a number in use
abbrev pub machine_name : ℕ → Option (List ℕ)
machine_name e_machine = option_or (name_of nat_eq e_machine_names e_machine) (name_of nat_eq in_use e_machine)
