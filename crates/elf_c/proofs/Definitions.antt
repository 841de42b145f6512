-- A definition that is found by the links is the one that is found by the list.
use Rattle.std.proofs.Common.{◌≡◌, ℕ, ◌==◌, Bool, List, [], ◌∷◌, Option, Some, None, map, refl, ap, ◌∙◌, arith}
use Rattle.std.proofs.lemmas.Grind.{common_steps}
use Rattle.std.specs.List.{find}
use Rattle.std.specs.Option.{option_map}
use Rattle.elf_parts.specs.gnu_symver.Lists.{ver_def_with_aux, ver_defs}
use Rattle.elf_parts.specs.gnu_symver.Table.{defined_version}
use Rattle.elf_parts.specs.declared.gnu_symver.records.VerDef.{VerDef}
use Rattle.elf_parts.specs.declared.gnu_symver.records.VerDefAux.{VerDefAux}
use Rattle.elf_c.specs.Tables.{table_of_c}
use Rattle.elf_c.specs.VersionPlaces.{defined_of}
use Rattle.elf_c.specs.Versions.{definitions_list}
use Rattle.elf_c.specs.inner.DefinitionLinks.{definition_links, has_index, linked_definition}
use Rattle.elf_c.specs.declared.versions.NugwierEntries.{NugwierEntries}

find_map : {A B : Type 0} (p : B → Bool) (f : A → B) (xs : List A) →
    find p (map f xs) ≡ option_map f (find (λ x. p (f x)) xs)
find_map p f [] = refl
find_map p f (x ∷ xs) = let rest = find_map p f xs in grind (arith, common_steps)

-- the first definition with an index, with its names, is that of the links
pub defined : (e : NugwierEntries) (index : ℕ) →
    defined_version index (ver_defs (table_of_c e.entries) e.count 0)
    ≡ option_map (ver_def_with_aux (table_of_c e.entries)) (find (has_index index) (definition_links e))
unfolding defined_version
defined e index =
    find_map (λ (definition : VerDef × List VerDefAux). definition.0.vd_ndx == index)
    (ver_def_with_aux (table_of_c e.entries)) (definition_links e)

-- the same of what a place holds of it
pub first_linked : (e : NugwierEntries) (index : ℕ) →
    option_map defined_of (defined_version index (definitions_list e))
    ≡ option_map (linked_definition (table_of_c e.entries)) (find (has_index index) (definition_links e))
first_linked e index =
    ap (option_map defined_of) (defined e index)
    ∙ by (find (has_index index) (definition_links e))
  where
    by : (found : Option (ℕ × VerDef)) →
        option_map defined_of (option_map (ver_def_with_aux (table_of_c e.entries)) found)
        ≡ option_map (linked_definition (table_of_c e.entries)) found
    by None = refl
    by (Some link) = refl
