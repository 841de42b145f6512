-- The first build id of a list.
use Rattle.std.proofs.Common.{◌≡◌, List, [], ◌∷◌, map, refl, ap}
use Rattle.elf_records.specs.declared.section.SectionHeader.{SectionHeader}
use Rattle.elf.specs.ObjectFile.{ObjectFile}
use Rattle.elf_check.specs.BuildId.{first_some, section_id}

map_beside : {A B C : Type 0} (a : A) (f : A × B → C) (xs : List B) → map f (map (λ x. (a, x)) xs) ≡ map (λ x. f (a, x)) xs
map_beside a f [] = refl
map_beside {C = C} a f (x ∷ xs) = ap (λ (ys : List C). f (a, x) ∷ ys) (map_beside a f xs)

-- those of sections with their file
pub beside_file : (file : ObjectFile) (sections : List SectionHeader) → first_some (map (λ (s : ObjectFile × SectionHeader). section_id s.0 s.1) (map (λ (header : SectionHeader). (file, header)) sections)) ≡ first_some (map (section_id file) sections)
beside_file file sections = ap first_some (map_beside file (λ (s : ObjectFile × SectionHeader). section_id s.0 s.1) sections)
