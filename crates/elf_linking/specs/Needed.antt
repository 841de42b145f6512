-- The names by which the dynamic linker finds a file and the libraries that it loads with it (gABI, chapter "Dynamic
-- Section"; GNU C library), of a whole file or of a part, and what is answered of them over a stream.
use Rattle.std.specs.Prelude.{◌≡◌, ℕ, ◌==◌, ◌||◌, not, Bool, if◌then◌else◌}
use Rattle.std.specs.Prelude.{bit_and, filter, ℤ, List, [], ◌∷◌, map, unwrap_or}
use Rattle.std.specs.Prelude.{Option, Some, None, Result, Ok, Err, ok_or}
use Rattle.std.specs.Option.{option_map}
use Rattle.std.specs.Result.{result_ok}
use Rattle.elf_abi.specs.Values.{df_1_nodeflib, dt_auxiliary, dt_filter, dt_flags_1, dt_needed, dt_rpath, dt_runpath}
use Rattle.elf_abi.specs.Values.{dt_soname, dt_strsz, dt_strtab}
use Rattle.elf_records.specs.Dynamic.{d_un_view, has_tag}
use Rattle.elf_records.specs.Number.{ok_map}
use Rattle.elf_records.specs.Record.{◌>>=◌}
use Rattle.elf_records.specs.StringTable.{string_at}
use Rattle.elf_records.specs.declared.dynamic.Dyn.{Dyn}
use Rattle.elf_records.specs.declared.segment.ProgramHeader.{ProgramHeader}
use Rattle.elf.specs.Answers.{dynamic}
use Rattle.elf_reading.specs.Refusals.{Kind, kind}
use Rattle.elf.specs.Headers.{if_found}
use Rattle.elf.specs.ObjectFile.{ErrorOf, Extent, FileOf, Partial, Whole, err_map}
use Rattle.elf.specs.declared.read_error.ReadError.TheVariants.{Parse, NotLoaded as NotRead}
use Rattle.elf_dynamic.specs.dynamic_view.Laws.{FollowsBy}
use Rattle.elf_dynamic.specs.dynamic_view.Entries.{entries_in, value_of}
use Rattle.elf_dynamic.specs.dynamic_view.Segments.{part_of}
use Rattle.elf_linking.specs.declared.needed.Library.{Library}
use Rattle.elf_linking.specs.declared.needed.Name.{Name}
use Rattle.elf_linking.specs.declared.needed.Names.{Names}
use Rattle.elf_linking.specs.declared.needed.NamesError.{NamesError}
use Rattle.elf_linking.specs.declared.needed.NamesError.TheVariants.{Memory, Missing, NoAddress, NoSize, NotLoaded}
use Rattle.elf_linking.specs.declared.needed.NamesError.TheVariants.{Read}
use Rattle.elf_linking.specs.declared.needed.NamesError.TheVariants.{Name as Unnamed}
use Rattle.elf_linking.specs.declared.needed.Role.{Role}
use Rattle.elf_linking.specs.declared.needed.Role.TheVariants.{Auxiliary, Filter, Needed}

-- why something cannot be read
abbrev pub read_error : (x : Extent) → ErrorOf x → NamesError
read_error Whole e = Read e
read_error Partial (Parse e) = Read e
read_error Partial (NotRead range) = Missing range

-- ---- the string table: DT_STRTAB gives its address in memory and DT_STRSZ its size. Of several entries with one of
-- these tags the last counts, and so it is of each tag but those of libraries.

-- the address and the size that the entries give
abbrev pub string_range : List Dyn → Result (ℕ × ℕ) NamesError
string_range entries =
    ok_or (value_of dt_strtab entries) NoAddress >>= λ start. ok_or (value_of dt_strsz entries) NoSize >>= λ size.
    Ok (start, size)

-- the range of the string table in the file, by its start and its size
abbrev pub string_part : List ProgramHeader → ℕ × ℕ → Result (ℕ × ℕ) NamesError
string_part segments range = err_map (λ _. NotLoaded range.0) (part_of segments range.0 range.1)

-- ---- the names: the number of an entry is the offset of its string in the string table

abbrev pub name_of : List ℕ → ℕ → Result (List ℕ) NamesError
name_of strings offset = err_map Unnamed (string_at strings offset)

-- the name that a tag gives
abbrev pub name_with : List ℕ → ℤ → List Dyn → Result (Option (List ℕ)) NamesError
name_with strings tag entries = if_found (name_of strings) (value_of tag entries)

-- ---- the libraries that are loaded with the file: those that it needs, and its filtees, in which symbols are looked up
-- before the file itself (Solaris; GNU C library). An auxiliary filtee may be missing.

abbrev pub is_library : Dyn → Bool
is_library entry = has_tag dt_needed entry || has_tag dt_auxiliary entry || has_tag dt_filter entry

abbrev pub role_of : Dyn → Role
role_of entry =
    if has_tag dt_auxiliary entry then Auxiliary else if has_tag dt_filter entry then Filter else Needed

-- a library by its name
pub record Wanted : Type 0 where
  pub role : Role
  pub name : List ℕ

abbrev pub library_of : List ℕ → Dyn → Result Wanted NamesError
library_of strings entry = ok_map (λ name. record { role = role_of entry; name = name }) (name_of strings (d_un_view entry))

-- the libraries of entries, in order, or the error of the first whose name cannot be read
abbrev pub libraries_of_all : List ℕ → List Dyn → Result (List Wanted) NamesError
libraries_of_all strings [] = Ok []
libraries_of_all strings (entry ∷ entries) =
    library_of strings entry >>= λ library. libraries_of_all strings entries >>= λ libraries. Ok (library ∷ libraries)

abbrev pub libraries_of : List ℕ → List Dyn → Result (List Wanted) NamesError
libraries_of strings entries = libraries_of_all strings (filter is_library entries)

-- ---- the flag DF_1_NODEFLIB of DT_FLAGS_1: the libraries of the file are not searched for in the usual folders

abbrev pub has_nodeflib : List Dyn → Bool
has_nodeflib entries = not (bit_and (unwrap_or (value_of dt_flags_1 entries) 0) df_1_nodeflib == 0)

-- ---- all of these

-- the soname, the libraries, the search paths, and the flag
pub record Named : Type 0 where
  pub soname : Option (List ℕ)
  pub libraries : List Wanted
  pub runpath : Option (List ℕ)
  pub rpath : Option (List ℕ)
  pub nodeflib : Bool

abbrev pub names_in : List ℕ → List Dyn → Result Named NamesError
names_in strings entries =
    name_with strings dt_soname entries >>= λ soname. libraries_of strings entries >>= λ libraries.
    name_with strings dt_runpath entries >>= λ runpath. name_with strings dt_rpath entries >>= λ rpath.
    let nodeflib = has_nodeflib entries in
    Ok (record { soname = soname; libraries = libraries; runpath = runpath; rpath = rpath; nodeflib = nodeflib })

-- the bytes of a name in the string table; none where no string is at its offset
abbrev pub name_bytes : List ℕ → Name → List ℕ
name_bytes strings name = unwrap_or (result_ok (string_at strings name.start)) []

abbrev pub library_view : List ℕ → Library → Wanted
library_view strings library = record { role = library.role; name = name_bytes strings library.name }

-- the view of the result
abbrev pub names_view : Names → Named
names_view n =
    let bytes = name_bytes n.strings.items in
    record {
      soname = option_map bytes n.soname;
      libraries = map (library_view n.strings.items) n.libraries.items;
      runpath = option_map bytes n.runpath;
      rpath = option_map bytes n.rpath;
      nodeflib = n.nodeflib;
    }

-- the answer, or an allocation failed; nothing is read
abbrev pub IsGiven : {T Y : Type 0} → (T → Y) → Result Y NamesError → Result T NamesError → Type 0
IsGiven shown answer (Ok x) = answer ≡ Ok (shown x)
IsGiven shown answer (Err Memory) = Unit {0}
IsGiven shown answer (Err (Read e)) = ⊥
IsGiven shown answer (Err e) = answer ≡ Err e

-- ---- over a file

-- its dynamic entries, if it has any
abbrev pub entries_of : {x : Extent} → FileOf x → Result (Option (List Dyn)) NamesError
entries_of {x} file = err_map (read_error x) (ok_map (option_map entries_in) (dynamic file))

-- the string table with this address and this size
abbrev pub strings_at : {x : Extent} → FileOf x → ℕ × ℕ → Result (List ℕ) NamesError
strings_at {x} file range =
    string_part file.segments range >>= λ part. err_map (read_error x) (file.range part.0 part.1)

-- that of the entries
abbrev pub strings_by : {x : Extent} → FileOf x → List Dyn → Result (List ℕ) NamesError
strings_by file entries = string_range entries >>= strings_at file

abbrev pub names_by : {x : Extent} → FileOf x → List Dyn → Result Named NamesError
names_by file entries = strings_by file entries >>= λ strings. names_in strings entries

-- its names, if it has dynamic entries
abbrev pub names : {x : Extent} → FileOf x → Result (Option Named) NamesError
names file = entries_of file >>= if_found (names_by file)

-- the answer, with an error of reading that bytes can have; or an allocation failed
abbrev pub IsAnswered : {T Y : Type 0} → (T → Y) → Result Y NamesError → Result T NamesError → Type 0
IsAnswered shown answer (Ok x) = answer ≡ Ok (shown x)
IsAnswered shown answer (Err Memory) = Unit {0}
IsAnswered shown answer (Err (Read e)) = (answer ≡ Err (Read e)) × (kind e ≡ Kind.Refusal)
IsAnswered shown answer (Err e) = answer ≡ Err e

-- the result over a part is that of the whole file, or it names a range that is missing
abbrev pub NamesFollow : {A : Type 0} → (ℕ × ℕ → Bool) → Result A NamesError → Result A NamesError → Type 0
NamesFollow is_missing whole part = FollowsBy Missing is_missing whole part

-- ---- over a stream

-- the kind of an error
abbrev pub names_kind : NamesError → Kind
names_kind (Read e) = kind e
names_kind Memory = Kind.AllocationFailure
names_kind _ = Kind.Refusal

-- the range that is missing, if that is the error
abbrev pub missing_of : {A : Type 0} → Result A NamesError → Option (ℕ × ℕ)
missing_of (Err (Missing range)) = Some range
missing_of _ = None

-- the range is missing for the names of the part
abbrev pub MissesNames : FileOf Partial → ℕ × ℕ → Type 0
MissesNames part range = names part ≡ Err (Missing range)
