-- By which kinds of references the relocations of a file name its dynamic symbols.
use Rattle.std.specs.Prelude.{ℕ, ◌-◌, ◌==◌, ◌&&◌, ◌||◌, nat_lt, if◌then◌else◌, Bool, true, false}
use Rattle.std.specs.Prelude.{List, [], ◌∷◌, length, slice_index_or, slice_set, Result, Ok, Err}
use Rattle.elf_abi.specs.Values.{sht_dynsym, sht_rel, sht_rela}
use Rattle.elf_records.specs.Number.{ok_map}
use Rattle.elf_records.specs.Record.{◌>>=◌}
use Rattle.elf_records.specs.Relocation.{fields_of_rel, fields_of_rela}
use Rattle.elf_records.specs.declared.section.SectionHeader.{SectionHeader}
use Rattle.elf.specs.Answers.{section_data_as_relas, section_data_as_rels}
use Rattle.elf.specs.ObjectFile.{ErrorOf, Extent, FileOf, Partial, Whole, err_map}
use Rattle.elf.specs.declared.read_error.ReadError.TheVariants.{NotLoaded, Parse}
use Rattle.elf_dynamic.specs.declared.dynamic_view.error.DynamicError.TheVariants.{Missing}
use Rattle.elf_dynamic.specs.dynamic_view.Relocations.{all_parts}
use Rattle.elf_linking.specs.ReferenceKinds.{reference_kind}
use Rattle.elf_linking.specs.declared.ReferenceKind.{ReferenceKind}
use Rattle.elf_linking.specs.declared.ReferenceKind.TheVariants.{Address, Copied, JumpSlot}
use Rattle.elf_linking.specs.declared.bindings.uses.SymbolUses.{SymbolUses}
use Rattle.elf_linking.specs.declared.bindings.uses.UsesError.{UsesError}
use Rattle.elf_linking.specs.declared.bindings.uses.UsesError.TheVariants.{Dynamic, Read, TooLarge}

-- ---- the uses of a symbol

abbrev pub no_uses : SymbolUses
no_uses = record { jump_slot = false; address = false; copied = false }

abbrev pub with_use : ReferenceKind → SymbolUses → SymbolUses
with_use JumpSlot uses = record uses { jump_slot = true }
with_use Address uses = record uses { address = true }
with_use Copied uses = record uses { copied = true }

abbrev pub uses_at : List SymbolUses → ℕ → SymbolUses
uses_at uses i = if nat_lt i (length uses) then slice_index_or uses i no_uses else no_uses

-- ---- after relocations, each by the index of its symbol and its type

-- with one of symbol i, if there is a symbol i
abbrev pub use_added : List SymbolUses → ℕ → ReferenceKind → List SymbolUses
use_added uses i kind =
    if nat_lt i (length uses) then slice_set uses i (with_use kind (slice_index_or uses i no_uses)) else uses

abbrev pub uses_after : ℕ → List SymbolUses → List (ℕ × ℕ) → List SymbolUses
uses_after machine uses [] = uses
uses_after machine uses (r ∷ relocations) =
    uses_after machine (use_added uses r.0 (reference_kind machine r.1)) relocations

-- ---- those of a file for this machine

abbrev pub has_type : {E : Type 0} → ℕ → Result SectionHeader E → Bool
has_type sh_type (Ok s) = s.sh_type == sh_type
has_type sh_type (Err e) = false

-- a section of relocations, linked to the dynamic symbols
abbrev pub is_dynamic : {x : Extent} → FileOf x → SectionHeader → Bool
is_dynamic file s =
    (s.sh_type == sht_rel || s.sh_type == sht_rela) && has_type sht_dynsym (file.section_at s.sh_link)

abbrev pub section_uses : {x : Extent} → ℕ → FileOf x → SectionHeader → List SymbolUses →
    Result (List SymbolUses) (ErrorOf x)
section_uses machine file s uses =
    if s.sh_type == sht_rel
    then ok_map (λ rels. uses_after machine uses (all_parts fields_of_rel rels)) (section_data_as_rels file s)
    else if s.sh_type == sht_rela
    then ok_map (λ relas. uses_after machine uses (all_parts fields_of_rela relas)) (section_data_as_relas file s)
    else Ok uses

-- why they cannot be read
abbrev pub uses_fault : (x : Extent) → ErrorOf x → UsesError
uses_fault Whole e = Read e
uses_fault Partial (Parse e) = Read e
uses_fault Partial (NotLoaded range) = Dynamic (Missing range)

-- of the sections, which may have this many bytes together
abbrev pub sections_uses : {x : Extent} → ℕ → FileOf x → ℕ → List SectionHeader → List SymbolUses →
    Result (List SymbolUses) UsesError
sections_uses machine file left [] uses = Ok uses
sections_uses {x} machine file left (s ∷ sections) uses =
    if is_dynamic file s
    then (if nat_lt left s.sh_size then Err TooLarge
    else err_map (uses_fault x) (section_uses machine file s uses) >>= sections_uses machine file (left - s.sh_size) sections)
    else sections_uses machine file left sections uses

abbrev pub uses_by : {x : Extent} → ℕ → FileOf x → List SymbolUses → Result (List SymbolUses) UsesError
uses_by machine file uses = sections_uses machine file file.size file.sections uses
