-- What is looked up most often, found in one pass over the sections.
use Rattle.std.specs.Prelude.{ℕ, ◌==◌, if◌then◌else◌, List, [], ◌∷◌, map, Option, Some, None}
use Rattle.std.specs.Prelude.{Result, Ok}
use Rattle.std.specs.List.{filter_map, last_or}
use Rattle.std.specs.Option.{option_map}
use Rattle.elf_abi.specs.Values.{pt_dynamic, sht_dynamic, sht_dynsym, sht_gnu_hash, sht_hash, sht_symtab}
use Rattle.elf_parts.specs.GnuFind.{GnuTable, gnu_section, gnu_view}
use Rattle.elf_records.specs.Number.{ok_map}
use Rattle.elf_records.specs.Record.{◌>>=◌}
use Rattle.elf_records.specs.StringTable.{strings_view}
use Rattle.elf_parts.specs.SysvFind.{SysvTable, sysv_section, sysv_view}
use Rattle.elf_records.specs.Table.{Table, table_view}
use Rattle.elf_records.specs.declared.section.SectionHeader.{SectionHeader}
use Rattle.elf.specs.Answers.{section_dynamic, segment_dynamic, symbols_of}
use Rattle.elf.specs.Headers.{first_segment_of, if_found}
use Rattle.elf.specs.ObjectFile.{ErrorOf, Extent, FileOf, err_map, parsed, section_part}
use Rattle.elf.specs.declared.elf_bytes.common.CommonElfData.{CommonElfData}

-- what a section holds of it: symbols with their strings, those that are bound at run time, dynamic entries, a hash
-- section of the one kind or the other, or nothing
pub data CommonPart : Type 0 where
  Symbols : Table × List ℕ → CommonPart
  DynamicSymbols : Table × List ℕ → CommonPart
  DynamicEntries : Table → CommonPart
  SysvHash : SysvTable → CommonPart
  GnuHash : GnuTable → CommonPart
  Nothing : CommonPart

-- the hash table of a section
abbrev pub sysv_hash_table_of : {x : Extent} → FileOf x → SectionHeader → Result SysvTable (ErrorOf x)
sysv_hash_table_of file s =
    section_part file s >>= λ bytes. err_map (parsed file) (sysv_section file.little file.class bytes)

abbrev pub gnu_hash_table_of : {x : Extent} → FileOf x → SectionHeader → Result GnuTable (ErrorOf x)
gnu_hash_table_of file s =
    section_part file s >>= λ bytes. err_map (parsed file) (gnu_section file.little file.class bytes)

-- by the type of the section: SHT_SYMTAB, SHT_DYNSYM, SHT_DYNAMIC, SHT_HASH or SHT_GNU_HASH
abbrev pub common_part : {x : Extent} → FileOf x → SectionHeader → Result CommonPart (ErrorOf x)
common_part file s =
    if s.sh_type == sht_symtab then ok_map Symbols (symbols_of file s)
    else if s.sh_type == sht_dynsym then ok_map DynamicSymbols (symbols_of file s)
    else if s.sh_type == sht_dynamic then ok_map DynamicEntries (section_dynamic file s)
    else if s.sh_type == sht_hash then ok_map SysvHash (sysv_hash_table_of file s)
    else if s.sh_type == sht_gnu_hash then ok_map GnuHash (gnu_hash_table_of file s)
    else Ok Nothing

-- what is in all of the results, or the first error
abbrev pub all_ok : {A E : Type 0} → List (Result A E) → Result (List A) E
all_ok [] = Ok []
all_ok (r ∷ rs) = r >>= λ x. ok_map (λ xs. x ∷ xs) (all_ok rs)

abbrev pub as_symtab : CommonPart → Option Table
as_symtab (Symbols found) = Some found.0
as_symtab _ = None

abbrev pub as_symtab_strs : CommonPart → Option (List ℕ)
as_symtab_strs (Symbols found) = Some found.1
as_symtab_strs _ = None

abbrev pub as_dynsyms : CommonPart → Option Table
as_dynsyms (DynamicSymbols found) = Some found.0
as_dynsyms _ = None

abbrev pub as_dynsyms_strs : CommonPart → Option (List ℕ)
as_dynsyms_strs (DynamicSymbols found) = Some found.1
as_dynsyms_strs _ = None

abbrev pub as_dynamic : CommonPart → Option Table
as_dynamic (DynamicEntries found) = Some found
as_dynamic _ = None

abbrev pub as_sysv_hash : CommonPart → Option SysvTable
as_sysv_hash (SysvHash found) = Some found
as_sysv_hash _ = None

abbrev pub as_gnu_hash : CommonPart → Option GnuTable
as_gnu_hash (GnuHash found) = Some found
as_gnu_hash _ = None

pub record CommonData : Type 0 where
  pub symtab : Option Table
  pub symtab_strs : Option (List ℕ)
  pub dynsyms : Option Table
  pub dynsyms_strs : Option (List ℕ)
  pub dynamic : Option Table
  pub sysv_hash : Option SysvTable
  pub gnu_hash : Option GnuTable

-- the last part of each kind
abbrev pub last_of_each : List CommonPart → CommonData
last_of_each parts = record {
  symtab = last_or None (filter_map as_symtab parts);
  symtab_strs = last_or None (filter_map as_symtab_strs parts);
  dynsyms = last_or None (filter_map as_dynsyms parts);
  dynsyms_strs = last_or None (filter_map as_dynsyms_strs parts);
  dynamic = last_or None (filter_map as_dynamic parts);
  sysv_hash = last_or None (filter_map as_sysv_hash parts);
  gnu_hash = last_or None (filter_map as_gnu_hash parts);
}

-- the dynamic entries of the sections, or if there are none those of the first segment of type PT_DYNAMIC
abbrev pub dynamic_or_segment : {x : Extent} → FileOf x → Option Table → Result (Option Table) (ErrorOf x)
dynamic_or_segment file (Some entries) = Ok (Some entries)
dynamic_or_segment file None = if_found (segment_dynamic file) (first_segment_of pt_dynamic file.segments)

-- the same data with other dynamic entries
abbrev pub with_dynamic : CommonData → Option Table → CommonData
with_dynamic found entries = record found { dynamic = entries }

-- what the sections hold
unfoldable pub common_of_sections : {x : Extent} → FileOf x → Result CommonData (ErrorOf x)
common_of_sections file = ok_map last_of_each (all_ok (map (common_part file) file.sections))

-- the last of each kind among the parts of all sections, or the first error; then the dynamic entries of a segment
abbrev pub find_common_data : {x : Extent} → FileOf x → Result CommonData (ErrorOf x)
find_common_data file =
    common_of_sections file >>= λ found. ok_map (with_dynamic found) (dynamic_or_segment file found.dynamic)

-- the view of the struct
abbrev pub common_view : {E : Type 0} → CommonElfData E → CommonData
common_view found = record {
  symtab = option_map table_view found.symtab;
  symtab_strs = option_map strings_view found.symtab_strs;
  dynsyms = option_map table_view found.dynsyms;
  dynsyms_strs = option_map strings_view found.dynsyms_strs;
  dynamic = option_map table_view found.dynamic;
  sysv_hash = option_map sysv_view found.sysv_hash;
  gnu_hash = option_map gnu_view found.gnu_hash;
}
