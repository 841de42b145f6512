-- What a pass over the sections finds is the last part of each kind.
use Rattle.std.proofs.Common.{◌≡◌, List, [], ◌∷◌, map, None, Result, Ok, Err, refl, ap, ◌∙◌}
use Rattle.std.specs.List.{filter_map, last_or}
use Rattle.elf_records.specs.Number.{ok_map}
use Rattle.elf_records.specs.Record.{◌>>=◌}
use Rattle.elf_records.specs.declared.section.SectionHeader.{SectionHeader}
use Rattle.elf.specs.Common.{CommonData, CommonPart, Symbols, DynamicSymbols, DynamicEntries, SysvHash, GnuHash, Nothing}
use Rattle.elf.specs.Common.{all_ok, as_dynamic, as_dynsyms, as_dynsyms_strs, as_gnu_hash, as_symtab, as_symtab_strs, as_sysv_hash}
use Rattle.elf.specs.Common.{common_of_sections, common_part}
use Rattle.elf.specs.ObjectFile.{ErrorOf, Extent, FileOf}
use Rattle.elf.specs.inner.Passes.{with_part}

abbrev pub no_common_data : CommonData
no_common_data = record { symtab = None; symtab_strs = None; dynsyms = None; dynsyms_strs = None; dynamic = None; sysv_hash = None; gnu_hash = None }

-- what the pass finds in the sections that are left
abbrev pub common_in : {x : Extent} → FileOf x → CommonData → List SectionHeader → Result CommonData (ErrorOf x)
common_in file found [] = Ok found
common_in file found (s ∷ rest) =
    ok_map (with_part found) (common_part file s) >>= λ next. common_in file next rest

-- the last part of each kind, or what was found before
abbrev pub last_after : CommonData → List CommonPart → CommonData
last_after found parts = record {
  symtab = last_or found.symtab (filter_map as_symtab parts);
  symtab_strs = last_or found.symtab_strs (filter_map as_symtab_strs parts);
  dynsyms = last_or found.dynsyms (filter_map as_dynsyms parts);
  dynsyms_strs = last_or found.dynsyms_strs (filter_map as_dynsyms_strs parts);
  dynamic = last_or found.dynamic (filter_map as_dynamic parts);
  sysv_hash = last_or found.sysv_hash (filter_map as_sysv_hash parts);
  gnu_hash = last_or found.gnu_hash (filter_map as_gnu_hash parts);
}

one_more : (found : CommonData) (part : CommonPart) (rest : List CommonPart) → last_after (with_part found part) rest ≡ last_after found (part ∷ rest)
one_more found (Symbols x) rest = refl
one_more found (DynamicSymbols x) rest = refl
one_more found (DynamicEntries x) rest = refl
one_more found (SysvHash x) rest = refl
one_more found (GnuHash x) rest = refl
one_more found Nothing rest = refl

step : {E : Type 0} (found : CommonData) (part : CommonPart) (rest : Result (List CommonPart) E) → ok_map (last_after (with_part found part)) rest ≡ ok_map (last_after found) (ok_map (λ xs. part ∷ xs) rest)
step found part (Ok rest) = ap Ok (one_more found part rest)
step found part (Err e) = refl

turn : {x : Extent} (file : FileOf x) (found : CommonData) (part : Result CommonPart (ErrorOf x)) (rest : List SectionHeader)
    → ((next : CommonData) → common_in file next rest ≡ ok_map (last_after next) (all_ok (map (common_part file) rest)))
    → (ok_map (with_part found) part >>= λ next. common_in file next rest) ≡ ok_map (last_after found) (part >>= λ p. ok_map (λ ps. p ∷ ps) (all_ok (map (common_part file) rest)))
turn file found (Ok p) rest all = all (with_part found p) ∙ step found p (all_ok (map (common_part file) rest))
turn file found (Err e) rest all = refl

common_as_last : {x : Extent} (file : FileOf x) (found : CommonData) (sections : List SectionHeader) → common_in file found sections ≡ ok_map (last_after found) (all_ok (map (common_part file) sections))
common_as_last file found [] = refl
common_as_last file found (s ∷ rest) = turn file found (common_part file s) rest (λ next. common_as_last file next rest)

pub common_in_all : {x : Extent} (file : FileOf x) → common_in file no_common_data file.sections ≡ common_of_sections file
unfolding common_of_sections
common_in_all file = common_as_last file no_common_data file.sections

pub common_of_none : {x : Extent} (file : FileOf x) → file.sections ≡ [] → common_of_sections file ≡ Ok no_common_data
unfolding common_of_sections
common_of_none file none = rw none refl
