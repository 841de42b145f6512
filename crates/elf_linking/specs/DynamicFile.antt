-- What is looked up and bound of a file: its dynamic symbols, the object that it is, and the uses that its
-- relocations make of the symbols. A file that declares section headers is read by these; one that declares none is read
-- by its dynamic entries, as the dynamic linker reads each file.
use Rattle.std.specs.Prelude.{ℕ, Bool, List, Option, Some, None, Result, Ok, Err}
use Rattle.elf_records.specs.Number.{ok_map}
use Rattle.elf_records.specs.Record.{◌>>=◌}
use Rattle.elf_records.specs.Table.{Table}
use Rattle.elf_records.specs.declared.file.Class.{Class}
use Rattle.elf_parts.specs.gnu_symver.Table.{Versions}
use Rattle.elf.specs.Headers.{if_found}
use Rattle.elf.specs.ObjectFile.{Extent, FileOf, Whole, err_map}
use Rattle.elf_dynamic.specs.Linked as linked
use Rattle.elf_dynamic.specs.Linked.{Entries, HashBytes, Nothing, Place, Sections, linked_by}
use Rattle.elf_dynamic.specs.declared.dynamic_view.error.DynamicError.{DynamicError}
use Rattle.elf_dynamic.specs.dynamic_view.Relocations.{RelocationLists, relocations}
use Rattle.elf_hash_check.specs.Object.{Object, object_in}
use Rattle.elf_linking.specs.Binding.{VersionedObject}
use Rattle.elf_linking.specs.BindingObjects.{GivesObject}
use Rattle.elf_linking.specs.ObjectTable.{HashParts, or_fault, or_no_symbols}
use Rattle.elf_linking.specs.SymbolUses.{uses_after, uses_by}
use Rattle.elf_linking.specs.declared.bindings.uses.SymbolUses.{SymbolUses}
use Rattle.elf_linking.specs.declared.bindings.uses.UsesError.{UsesError}
use Rattle.elf_linking.specs.declared.bindings.uses.UsesError.TheVariants.{Dynamic as Unknown}
use Rattle.elf_linking.specs.declared.resolve.ObjectFault.{ObjectFault}
use Rattle.elf_linking.specs.declared.resolve.ObjectFault.TheVariants.{Dynamic}

-- why what the dynamic linker uses is not available
abbrev pub or_dynamic : {A : Type 0} → Result A DynamicError → Result A ObjectFault
or_dynamic r = err_map Dynamic r

-- ---- the symbols with their strings, if there are any

abbrev pub dynamic_symbols : {x : Extent} → FileOf x → Result (Option (Table × List ℕ)) ObjectFault
dynamic_symbols file = or_dynamic (linked.dynamic_symbols file)

-- ---- the hash section, if there is one

-- with what it is checked over: the symbols, and the strings that their names lie in
abbrev pub with_symbols : {x : Extent} → FileOf x → HashBytes → Result HashParts ObjectFault
with_symbols file section =
    dynamic_symbols file >>= or_no_symbols >>= λ symbols. Ok (section.0, (section.1, symbols))

abbrev pub hash_parts : {x : Extent} → FileOf x → Result (Option HashParts) ObjectFault
hash_parts file = or_dynamic (linked.hash_section file) >>= if_found (with_symbols file)

-- ---- the versions of the symbols, if there are any

abbrev pub dynamic_versions : {x : Extent} → FileOf x → Result (Option Versions) ObjectFault
dynamic_versions file = or_dynamic (linked.dynamic_versions file)

-- ---- the object: the hash table over the symbols, and their versions

abbrev pub table_of_parts : Bool → Class → Result (Option HashParts) ObjectFault → Option (Result Object ObjectFault)
table_of_parts little class (Ok (Some parts)) =
    Some (or_fault Whole (object_in parts.0 little class parts.1.0 parts.1.1.0 parts.1.1.1))
table_of_parts little class (Ok None) = None
table_of_parts little class (Err fault) = Some (Err fault)

abbrev pub GivesDynamic : {C : Type 0} {x : Extent} → (C → VersionedObject) → FileOf x → Result (Option C) ObjectFault →
    Type 0
GivesDynamic view file result =
    GivesObject view (table_of_parts file.little file.class (hash_parts file)) (dynamic_versions file) (λ fault. fault) result

-- ---- the uses of the symbols by relocations of this machine

-- by all that dynamic entries give
abbrev pub uses_by_all : ℕ → List SymbolUses → RelocationLists → List SymbolUses
uses_by_all machine uses r = uses_after machine (uses_after machine (uses_after machine uses r.rels) r.relas) r.plt

abbrev pub or_unknown : {A : Type 0} → Result A DynamicError → Result A UsesError
or_unknown r = err_map Unknown r

abbrev pub uses_found : {x : Extent} → ℕ → FileOf x → List SymbolUses → Place → Result (List SymbolUses) UsesError
uses_found machine file uses Sections = uses_by machine file uses
uses_found machine file uses (Entries entries) = or_unknown (ok_map (uses_by_all machine uses) (relocations file entries))
uses_found machine file uses Nothing = Ok uses

abbrev pub dynamic_uses : {x : Extent} → ℕ → FileOf x → List SymbolUses → Result (List SymbolUses) UsesError
dynamic_uses machine file uses = or_unknown (linked_by file) >>= uses_found machine file uses
