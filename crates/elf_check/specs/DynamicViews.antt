-- The view of the dynamic entries of a file that was checked.
use Rattle.std.specs.Prelude.{ℕ, List, drop, take, Option}
use Rattle.std.specs.Option.{option_map}
use Rattle.std.specs.declared.cmp.PartialEq.{Ghosts as PartialEqGhosts}
use Rattle.std.specs.declared.default.Default.{Ghosts as DefaultGhosts}
use Rattle.elf_records.specs.Dynamic.{dyn_reads}
use Rattle.elf_records.specs.StringTable.{strings_view}
use Rattle.elf_records.specs.Table.{table_items, table_view}
use Rattle.elf_records.specs.declared.dynamic.Dyn.{Dyn}
use Rattle.elf_records.specs.declared.endian.EndianParse.{Ghosts as EndianGhosts}
use Rattle.elf_check.specs.Dynamic.{entries_with_strings}
use Rattle.elf_check.specs.declared.whole.dynamic.WholeDynamic.{WholeDynamic}
use denote.Ref.{Bor}

-- an entry, and the bytes of its string
abbrev pub entry_view : Dyn × Option (Bor (List ℕ)) → Dyn × Option (List ℕ)
entry_view found = (found.0, option_map (λ string. string.now) found.1)

module _ {E : Type 0} {order : EndianGhosts E} {default : DefaultGhosts E} {equal : PartialEqGhosts E} where
  -- the entries that are left to yield, each with its string
  abbrev pub entries_left : WholeDynamic E order default equal → List (Dyn × Option (List ℕ))
  entries_left s =
      entries_with_strings (strings_view s.strings) (drop s.next (take s.end (table_items dyn_reads (table_view s.entries))))
