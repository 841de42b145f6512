-- The view of an object of a look-up with versions, by the view of its versions.
use Rattle.std.specs.Option.{option_map}
use Rattle.std.specs.declared.cmp.PartialEq.{Ghosts as PartialEqGhosts}
use Rattle.std.specs.declared.default.Default.{Ghosts as DefaultGhosts}
use Rattle.elf_parts.specs.gnu_symver.Table.{Versions}
use Rattle.elf_records.specs.declared.endian.EndianParse.{Ghosts as EndianGhosts}
use Rattle.elf_hash_check.specs.CheckedTable.{object_view}
use Rattle.elf_linking.specs.Binding.{VersionedObject}
use Rattle.elf_linking.specs.declared.VersionedObject.{VersionedObject as Versioned}

module _ {E V : Type 0} {order : EndianGhosts E} {default : DefaultGhosts E} {equal : PartialEqGhosts E}
    (versions : V → Versions) where
  abbrev pub versioned_view : Versioned E V order default equal → VersionedObject
  versioned_view object =
      record { symbols = object_view object.table; versions = option_map versions object.versions }
