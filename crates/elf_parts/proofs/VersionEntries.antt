-- What a symbol is defined with and what it needs, by its version index.
use Rattle.std.proofs.Common.{◌≡◌, ℕ, Option, Some, None, Result, Ok, refl, ap, sym, ◌∙◌}
use Rattle.std.specs.Option.{option_map}
use Rattle.elf_records.specs.Number.{ok_map}
use Rattle.elf_records.specs.declared.parse.ParseError.{ParseError}
use Rattle.elf_parts.specs.gnu_symver.Table.{Definition, Definitions, Needs, Versions, definition, definition_among, definition_with, index_of, requirement, requirement_among, requirement_with}
use Rattle.elf_parts.specs.declared.gnu_symver.records.VersionIndex.{VersionIndex}
use Rattle.elf_parts.specs.gnu_symver.VersionEntry.{ByDefinition, ByNeed, defined_with, entry_of, required_with}
use Rattle.elf_parts.specs.gnu_symver.VersionEntry.{version_entry}

among_definitions : (defs : Option Definitions) (at : Result VersionIndex ParseError) (index : VersionIndex) → at ≡ Ok index → definition_among defs at ≡ Ok (defined_with defs index)
among_definitions None at index e = refl
among_definitions (Some defs) at index e = ap (ok_map (definition_with defs)) e

among_needs : (needs : Option Needs) (at : Result VersionIndex ParseError) (index : VersionIndex) → at ≡ Ok index → requirement_among needs at ≡ Ok (required_with needs index)
among_needs None at index e = refl
among_needs (Some needs) at index e = ap (ok_map (requirement_with needs)) e

module _ (versions : Versions) (i : ℕ) (index : VersionIndex) (here : index_of versions i ≡ Ok index) where
  pub definition_by_index : definition versions i ≡ Ok (defined_with versions.definitions index)
  definition_by_index = among_definitions versions.definitions (index_of versions i) index here

  pub requirement_by_index : requirement versions i ≡ Ok (required_with versions.needs index)
  requirement_by_index = among_needs versions.needs (index_of versions i) index here

  -- the definition of a symbol, whatever it needs
  pub entry_defined : (d : Definition) → definition versions i ≡ Ok (Some d) → version_entry versions index ≡ Some (ByDefinition d)
  entry_defined d e =
      let is : Ok (defined_with versions.definitions index) ≡ Ok (Some d) = sym definition_by_index ∙ e in
      let found : defined_with versions.definitions index ≡ Some d = cc is in
      ap (λ (o : Option Definition). entry_of o (required_with versions.needs index)) found

  -- what it needs, if it has no definition
  pub entry_needed : definition versions i ≡ Ok None → version_entry versions index ≡ option_map ByNeed (required_with versions.needs index)
  entry_needed e =
      let is : Ok (defined_with versions.definitions index) ≡ Ok None = sym definition_by_index ∙ e in
      let none : defined_with versions.definitions index ≡ None = cc is in
      ap (λ (o : Option Definition). entry_of o (required_with versions.needs index)) none
