-- What is said of a file for each command.
use Rattle.std.specs.Prelude.{◌≡◌, ℕ, Bool, if◌then◌else◌, List, [], ◌∷◌, ◌++◌, Option}
use Rattle.std.specs.List.{flat_map}
use Rattle.elf.specs.ObjectFile.{ObjectFile}
use Rattle.elf_records.specs.declared.file.FileHeader.{FileHeader}
use Rattle.nugwier_symbols.specs.Addresses.{AreAddressesSaid}
use Rattle.nugwier_notes.specs.AttributeSections.{said_of_attributes}
use Rattle.nugwier_dynamic.specs.Chains.{said_of_chains}
use Rattle.nugwier_sections.specs.Check.{IsCheckSaid}
use Rattle.nugwier_sections.specs.Contents.{said_of_contents}
use Rattle.nugwier_sections.specs.DebugLinks.{said_of_debug_links}
use Rattle.nugwier_dynamic.specs.Entries.{said_of_entries, said_of_needed}
use Rattle.nugwier_symbols.specs.Groups.{said_of_groups}
use Rattle.nugwier_sections.specs.Header.{header_said}
use Rattle.nugwier_dynamic.specs.Hardening.{kind_of, said_of_hardening}
use Rattle.nugwier_sections.specs.BuildId.{said_of_build_id}
use Rattle.nugwier_notes.specs.NoteSections.{said_of_notes}
use Rattle.nugwier_sections.specs.Plan.{IsPlanSaid}
use Rattle.nugwier_symbols.specs.Relocations.{machine_of, said_of_relocations}
use Rattle.nugwier_sections.specs.Sections.{said_of_sections}
use Rattle.nugwier_sections.specs.Segments.{said_of_segments}
use Rattle.nugwier_symbols.specs.Symbols.{AreExportsSaid, AreSymbolsSaid, said_of_dynamic_symbols, said_of_symbols}
use Rattle.nugwier_dynamic.specs.VersionLists.{said_of_version_lists}
use Rattle.nugwier_commands.specs.declared.list.ListedPart.{ListedPart}
use Rattle.nugwier_commands.specs.declared.list.ListedPart.TheVariants as part
use Rattle.nugwier_report.specs.Said.{Said}
use Rattle.nugwier_commands.specs.Words.{Task}
use Rattle.nugwier_commands.specs.declared.words.Command.{Command}
use Rattle.nugwier_commands.specs.declared.words.Command.TheVariants.{Address, Bindings, BuildId, Check, Exports, Harden}
use Rattle.nugwier_commands.specs.declared.words.Command.TheVariants.{List as ListCommand, Needed, Plan, Starts, Symbols}
use Rattle.nugwier_commands.specs.declared.words.Command.TheVariants.{Tree}
use Rattle.nugwier_commands.specs.declared.words.Parts.{Parts}

-- whether a part is asked for
abbrev pub is_listed : Parts → ListedPart → Bool
is_listed parts part.Header = parts.header
is_listed parts part.Sections = parts.sections
is_listed parts part.Groups = parts.groups
is_listed parts part.Segments = parts.segments
is_listed parts part.Symbols = parts.symbols
is_listed parts part.DynamicSymbols = parts.dynamic_symbols
is_listed parts part.Dynamic = parts.dynamic
is_listed parts part.Relocations = parts.relocations
is_listed parts part.Notes = parts.notes
is_listed parts part.Versions = parts.versions
is_listed parts part.Chains = parts.chains
is_listed parts part.Attributes = parts.attributes
is_listed parts part.DebugLinks = parts.debug_links

module _ {E : Type 0} (little : E → Bool) where
  abbrev pub said_of_part : FileHeader E → ObjectFile → ListedPart → List Said
  said_of_part header file part.Header =
      header_said little header (kind_of header.e_type header.e_machine file)
  said_of_part header file part.Sections = said_of_sections header.e_machine file
  said_of_part header file part.Groups = said_of_groups file
  said_of_part header file part.Segments = said_of_segments header.e_machine file
  said_of_part header file part.Symbols = said_of_symbols file
  said_of_part header file part.DynamicSymbols = said_of_dynamic_symbols file
  said_of_part header file part.Dynamic = said_of_entries header.e_machine file
  said_of_part header file part.Relocations = said_of_relocations (machine_of little header) file
  said_of_part header file part.Notes = said_of_notes header.e_machine file
  said_of_part header file part.Versions = said_of_version_lists file
  said_of_part header file part.Chains = said_of_chains file
  said_of_part header file part.Attributes = said_of_attributes header.e_machine file
  said_of_part header file part.DebugLinks = said_of_debug_links file

  abbrev pub said_if_listed : Parts → FileHeader E → ObjectFile → ListedPart → List Said
  said_if_listed parts header file p = if is_listed parts p then said_of_part header file p else []

  -- `list`: the parts that are asked for, in this order, and the contents of sections
  abbrev pub said_of_list : Task → FileHeader E → ObjectFile → List Said
  said_of_list task header file =
      flat_map (said_if_listed task.parts header file) (part.Header ∷ part.Sections ∷ part.Groups ∷ part.Segments
      ∷ part.Symbols ∷ part.DynamicSymbols ∷ part.Dynamic ∷ part.Relocations ∷ part.Notes ∷ part.Versions
      ∷ part.Chains ∷ part.Attributes ∷ part.DebugLinks ∷ [])
      ++ said_of_contents file task.contents

  module _ (of_byte : ℕ → Option E) where
    -- by the command, of a file of this path; `tree`, `bindings` and `starts` say nothing of one file
    abbrev pub IsSaidBy : Command → Task → List ℕ → FileHeader E → ObjectFile → List Said → Type 0
    IsSaidBy ListCommand task path header file said = said ≡ said_of_list task header file
    IsSaidBy Symbols task path header file said = AreSymbolsSaid task.symbols file said
    IsSaidBy Exports task path header file said = AreExportsSaid task.symbols file said
    IsSaidBy Needed task path header file said = said ≡ said_of_needed header.e_machine file
    IsSaidBy BuildId task path header file said = said ≡ said_of_build_id file
    IsSaidBy Plan task path header file said = IsPlanSaid file said
    IsSaidBy Check task path header file said = IsCheckSaid little of_byte path file said
    IsSaidBy Harden task path header file said =
        said ≡ said_of_hardening path task.requirements header.e_type header.e_machine file
    IsSaidBy Address task path header file said =
        AreAddressesSaid header.e_type header.e_machine task.addresses file said
    IsSaidBy Tree task path header file said = said ≡ []
    IsSaidBy Bindings task path header file said = said ≡ []
    IsSaidBy Starts task path header file said = said ≡ []

    unfoldable pub IsSaidOf : Task → List ℕ → FileHeader E → ObjectFile → List Said → Type 0
    IsSaidOf task path header file said = IsSaidBy task.command task path header file said
