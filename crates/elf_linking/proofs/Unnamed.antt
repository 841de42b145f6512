-- An object in which nothing has a name has no symbol for a reference to that name.
use Rattle.std.proofs.Common.{List, [], ℕ, None, Ok, refl}
use Rattle.elf_hash_check.specs.NamedSymbols.{AreAllNamed}
use Rattle.elf_linking.specs.Binding.{IsChosenFor, IsFirstServing, VersionedObject}
use Rattle.elf_linking.specs.declared.ReferenceKind.{ReferenceKind}
use Rattle.elf_linking.specs.declared.Rule.{Rule}
use Rattle.elf_linking.specs.declared.Rule.TheVariants.{Base, Exact, Shown, Versioned}
use Rattle.elf_linking.specs.declared.Wanted.{Wanted}
use Rattle.elf_linking.specs.declared.Wanted.TheVariants.{Any, Compatible, Only}

module _ (kind : ReferenceKind) (object : VersionedObject) (name : List ℕ) (nothing : AreAllNamed object.symbols name []) where
  serves_none : (rule : Rule) → IsFirstServing kind object name rule (Ok None)
  serves_none rule = ([], nothing, refl)

  pub unnamed : (wanted : Wanted) → IsChosenFor kind object name wanted (Ok None)
  unnamed (Compatible wanted) = serves_none (Versioned wanted)
  unnamed (Only wanted) = serves_none (Exact wanted)
  unnamed Any = (Ok None, serves_none Base, serves_none Shown)
