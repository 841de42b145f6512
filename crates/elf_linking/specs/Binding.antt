-- The symbol, and its object, that a reference binds to, if symbols have versions: by the rules of GNU symbol versioning
-- (LSB, "Symbol Versioning"), and by the dynamic linker of the GNU C library in the cases that these rules leave open.
use Rattle.std.specs.Prelude.{◌≡◌, ℕ, ◌<◌, if◌then◌else◌, ◌==◌, ◌&&◌, ◌||◌, not, nat_lt, Bool, bit_and}
use Rattle.std.specs.Prelude.{List, [], ◌∷◌, length, slice_get, Option, Some, None, ok_or, Result, Ok, Err, MatchBool}
use Rattle.std.specs.Option.{IsSomeAnd, option_map}
use Rattle.std.specs.Str.{bytes_eq}
use Rattle.elf_abi.specs.Values.{shn_abs, shn_undef, stb_global, stb_gnu_unique, stb_weak, stt_common, stt_func}
use Rattle.elf_abi.specs.Values.{stt_gnu_ifunc, stt_notype, stt_object, stt_tls, stv_hidden, stv_internal, ver_flg_base}
use Rattle.elf_records.specs.Number.{ok_map}
use Rattle.elf_records.specs.Record.{◌>>=◌}
use Rattle.elf_records.specs.StringTable.{text_of}
use Rattle.elf_records.specs.Symbol.{symbol_binding, symbol_type, symbol_visibility}
use Rattle.elf_parts.specs.gnu_symver.Table.{Definition, Versions, index_of}
use Rattle.elf_parts.specs.gnu_symver.Records.{version_index, version_is_hidden}
use Rattle.elf_parts.specs.declared.gnu_symver.records.VersionIndex.{VersionIndex}
use Rattle.elf_records.specs.declared.parse.ParseError.{ParseError}
use Rattle.elf_records.specs.declared.symbol.Symbol.{Symbol}
use Rattle.elf_hash_check.specs.NamedSymbols.{AreAllNamed}
use Rattle.elf_hash_check.specs.Object.{Object}
use Rattle.elf_parts.specs.gnu_symver.VersionEntry.{ByDefinition, ByNeed, VersionEntry, version_entry}
use Rattle.elf_linking.specs.declared.BindingFault.{BindingFault}
use Rattle.elf_linking.specs.declared.ReferenceKind.{ReferenceKind}
use Rattle.elf_linking.specs.declared.ReferenceKind.TheVariants.{Address, Copied, JumpSlot}
use Rattle.elf_linking.specs.declared.Rule.{Rule}
use Rattle.elf_linking.specs.declared.Rule.TheVariants.{Versioned, Exact, Base, Shown}
use Rattle.elf_linking.specs.declared.Unreadable.{Unreadable}
use Rattle.elf_linking.specs.declared.Version.{Version}
use Rattle.elf_linking.specs.declared.versions.SymbolEntry.{SymbolEntry}
use Rattle.elf_linking.specs.declared.versions.SymbolEntry.TheVariants as code
use Rattle.elf_linking.specs.declared.Wanted.{Wanted}
use Rattle.elf_linking.specs.declared.Wanted.TheVariants.{Any, Compatible, Only}

-- ---- the symbols that a reference can bind to

-- data, a function or of no type, also common, thread-local or chosen when the file is loaded
abbrev pub has_definition_type : Symbol → Bool
has_definition_type s =
    symbol_type s == stt_notype || symbol_type s == stt_object || symbol_type s == stt_func
    || symbol_type s == stt_common || symbol_type s == stt_tls || symbol_type s == stt_gnu_ifunc

-- other files can bind to it: it is not local, and its visibility is default or protected
abbrev pub is_global : Symbol → Bool
is_global s =
    (symbol_binding s == stb_global || symbol_binding s == stb_weak || symbol_binding s == stb_gnu_unique)
    && not (symbol_visibility s == stv_internal) && not (symbol_visibility s == stv_hidden)

-- the file defines it; the value 0 is no address, but may be an absolute value or a place in thread-local storage
abbrev pub has_place : Symbol → Bool
has_place s =
    not (s.st_shndx == shn_undef) && (not (s.st_value == 0) || s.st_shndx == shn_abs || symbol_type s == stt_tls)

abbrev pub is_definition : Symbol → Bool
is_definition s = has_place s && has_definition_type s && is_global s

-- No section of the file defines the function, but its symbol has a value: in a program at a fixed address that of its
-- entry in the procedure linkage table. There the whole process finds the function, so that its address is the same in
-- each file (the supplements of the processors to the System V ABI, chapter "Dynamic Linking", "Function Addresses").
abbrev pub has_linkage_entry : Symbol → Bool
has_linkage_entry s = s.st_shndx == shn_undef && not (s.st_value == 0) && not (symbol_type s == stt_tls)

abbrev pub is_linkage_entry : Symbol → Bool
is_linkage_entry s = has_linkage_entry s && has_definition_type s && is_global s

-- the entry jumps through a jump slot, which so must not lead back to it; other references find the entry
abbrev pub is_definition_for : ReferenceKind → Symbol → Bool
is_definition_for JumpSlot s = is_definition s
is_definition_for Address s = is_definition s || is_linkage_entry s
is_definition_for Copied s = is_definition s || is_linkage_entry s

-- a copy is made into the program, the first object, so it is not one of what the program has
abbrev pub passes_over : ReferenceKind → ℕ → Bool
passes_over JumpSlot place = Bool.false
passes_over Address place = Bool.false
passes_over Copied place = place == 0

-- ---- the version of a symbol in its file

-- a version: its name and the hash of the name, as the file states it
pub record NamedVersion : Type 0 where
  pub name : List ℕ
  pub hash : ℕ

abbrev pub version_view : Version → NamedVersion
version_view version = record { name = version.name.now; hash = version.hash }

-- the version of symbol i cannot be read
abbrev pub unreadable : ℕ → Unreadable
unreadable i = record { symbol = i }

abbrev pub named_version : ℕ → List ℕ → NamedVersion
named_version hash name = record { name = name; hash = hash }

-- what a version index stands for: nothing, the file itself, a version that the file defines, or one of another file
pub data NamedEntry : Type 0 where
  Nothing : NamedEntry
  File : NamedEntry
  Defined : NamedVersion → NamedEntry
  Needed : List ℕ → NamedVersion → NamedEntry

abbrev pub entry_view : SymbolEntry → NamedEntry
entry_view code.Nothing = Nothing
entry_view code.File = File
entry_view (code.Defined version) = Defined (version_view version)
entry_view (code.Needed file version) = Needed file.now (version_view version)

-- a definition by its first name, with its hash; one for the file itself (VER_FLG_BASE) is no version
abbrev pub first_name : ℕ → ℕ → List (Result (List ℕ) ParseError) → Result NamedEntry Unreadable
first_name i hash [] = Err (unreadable i)
first_name i hash (name ∷ others) =
    ok_or (option_map (λ text. Defined (named_version hash text)) (text_of name)) (unreadable i)

abbrev pub defined_as : ℕ → Definition → Result NamedEntry Unreadable
defined_as i d = if bit_and d.flags ver_flg_base == 0 then first_name i d.hash d.names else Ok File

-- the name of a need with its hash, where the name of its file can be read too
abbrev pub needed_by : ℕ → ℕ → Option (List ℕ) → Option (List ℕ) → Result NamedEntry Unreadable
needed_by i hash (Some file) (Some name) = Ok (Needed file (named_version hash name))
needed_by i hash (Some file) None = Err (unreadable i)
needed_by i hash None name = Err (unreadable i)

abbrev pub entry_by : ℕ → Option VersionEntry → Result NamedEntry Unreadable
entry_by i (Some (ByDefinition d)) = defined_as i d
entry_by i (Some (ByNeed r)) = needed_by i r.hash (text_of r.file) (text_of r.name)
entry_by i None = Ok Nothing

-- the version index of symbol i, whose bit 15 says that it is hidden
abbrev pub index_by : ℕ → Result VersionIndex ParseError → Result VersionIndex Unreadable
index_by i (Ok index) = Ok index
index_by i (Err e) = Err (unreadable i)

abbrev pub version_index_of : Versions → ℕ → Result VersionIndex Unreadable
version_index_of versions i = index_by i (index_of versions i)

abbrev pub symbol_entry : Versions → ℕ → Result NamedEntry Unreadable
symbol_entry versions i = version_index_of versions i >>= λ index. entry_by i (version_entry versions index)

-- the version, if it is one. A symbol that is defined by a need is the copy of one of another file.
abbrev pub version_in : NamedEntry → Option NamedVersion
version_in Nothing = None
version_in File = None
version_in (Defined version) = Some version
version_in (Needed file version) = Some version

abbrev pub version_of : Versions → ℕ → Result (Option NamedVersion) Unreadable
version_of versions i = ok_map version_in (symbol_entry versions i)

-- ---- whether a definition serves a reference

abbrev pub is_version : NamedVersion → NamedVersion → Bool
is_version own wanted = own.hash == wanted.hash && bytes_eq own.name wanted.name

-- a definition of this version, hidden or not; or one that has no version and is not hidden
abbrev pub serves_version : NamedVersion → Option NamedVersion → VersionIndex → Bool
serves_version wanted (Some own) index = is_version own wanted
serves_version wanted None index = not (version_is_hidden index)

-- a definition of this version alone
abbrev pub serves_exactly : NamedVersion → Option NamedVersion → Bool
serves_exactly wanted (Some own) = is_version own wanted
serves_exactly wanted None = Bool.false

-- of no version, or of the first one that its file defines: the version indexes 0, 1 and 2
abbrev pub is_base : VersionIndex → Bool
is_base index = nat_lt (version_index index) 3

abbrev pub serves : Versions → Rule → ℕ → Result Bool Unreadable
serves versions (Versioned wanted) i =
    version_of versions i >>= λ own. version_index_of versions i >>= λ index.
    Ok (serves_version (version_view wanted) own index)
serves versions (Exact wanted) i =
    version_of versions i >>= λ own. Ok (serves_exactly (version_view wanted) own)
serves versions Base i = version_index_of versions i >>= λ index. Ok (is_base index)
serves versions Shown i = version_index_of versions i >>= λ index. Ok (not (version_is_hidden index))

-- a file without versions serves every reference
abbrev pub serves_in : Option Versions → Rule → ℕ → Result Bool Unreadable
serves_in (Some versions) rule i = serves versions rule i
serves_in None rule i = Ok Bool.true

-- ---- what a reference binds to in one object

-- the first of these symbols that is a definition and serves; an error if that cannot be known of an earlier one
abbrev pub first_serving : ReferenceKind → (ℕ → Result Bool Unreadable) → List (ℕ × Symbol) →
    Result (Option (ℕ × Symbol)) Unreadable
first_serving kind serving [] = Ok None
first_serving kind serving (one ∷ others) =
    if is_definition_for kind one.1
    then (serving one.0 >>= λ yes. if yes then Ok (Some one) else first_serving kind serving others)
    else first_serving kind serving others

-- an object whose symbols may have versions
pub record VersionedObject : Type 0 where
  pub symbols : Object
  pub versions : Option Versions

-- among all symbols of the name that the object's table indexes, in the order of its look-up
abbrev pub IsFirstServing : ReferenceKind → VersionedObject → List ℕ → Rule →
    Result (Option (ℕ × Symbol)) Unreadable → Type 0
IsFirstServing kind object name rule result =
    (named : List (ℕ × Symbol)) × AreAllNamed object.symbols name named
    × (result ≡ first_serving kind (serves_in object.versions rule) named)

-- what the first search found, or else what the second finds
abbrev pub IsOrElse : {A E : Type 0} → (Result (Option A) E → Type 0) → Result (Option A) E → Result (Option A) E →
    Type 0
IsOrElse IsSecond result (Ok None) = IsSecond result
IsOrElse IsSecond result (Ok (Some found)) = result ≡ Ok (Some found)
IsOrElse IsSecond result (Err e) = result ≡ Err e

-- a reference without a version takes a base definition, or else the first that is not hidden
abbrev pub IsChosenFor : ReferenceKind → VersionedObject → List ℕ → Wanted →
    Result (Option (ℕ × Symbol)) Unreadable → Type 0
IsChosenFor kind object name (Compatible wanted) result = IsFirstServing kind object name (Versioned wanted) result
IsChosenFor kind object name (Only wanted) result = IsFirstServing kind object name (Exact wanted) result
IsChosenFor kind object name Any result =
    (base : Result (Option (ℕ × Symbol)) Unreadable)
    × IsFirstServing kind object name Base base × IsOrElse (IsFirstServing kind object name Shown) result base

-- of definitions alone
abbrev pub IsChosen : VersionedObject → List ℕ → Wanted → Result (Option (ℕ × Symbol)) Unreadable → Type 0
IsChosen object name wanted result = IsChosenFor JumpSlot object name wanted result

-- what the object at a place has for a reference: its choice, or nothing if it is skipped
abbrev pub IsFoundAt : ReferenceKind → ℕ → VersionedObject → List ℕ → Wanted →
    Result (Option (ℕ × Symbol)) Unreadable → Type 0
IsFoundAt kind place object name wanted result =
    MatchBool (passes_over kind place) (result ≡ Ok None) (IsChosenFor kind object name wanted result)

-- ---- what it binds to in a list of objects

-- Places in order, each with a result: the first place that has a symbol, with that symbol; or none, if no place has
-- one; or the first place for which that cannot be known.
module _ (At : ℕ → Result (Option (ℕ × Symbol)) Unreadable → Type 0) (count : ℕ) where
  abbrev pub NoneBefore : ℕ → Type 0
  NoneBefore place = (k : ℕ) → k < place → At k (Ok None)

  abbrev pub IsFirst : Result (Option (ℕ × ℕ × Symbol)) BindingFault → Type 0
  IsFirst (Ok None) = NoneBefore count
  IsFirst (Ok (Some found)) = At found.0 (Ok (Some (found.1, found.2))) × NoneBefore found.0
  IsFirst (Err fault) = At fault.object (Err (unreadable fault.symbol)) × NoneBefore fault.object

module _ {C : Type 0} (view : C → VersionedObject) (objects : List C) (name : List ℕ) (wanted : Wanted) where
  -- the choice in the object at a place
  abbrev pub ChosenAt : ℕ → Result (Option (ℕ × Symbol)) Unreadable → Type 0
  ChosenAt place result = IsSomeAnd (slice_get objects place) (λ object. IsChosen (view object) name wanted result)

  -- the first object with a symbol that serves; or none, if no object has one; or the first for which that is not known
  abbrev pub IsBinding : Result (Option (ℕ × ℕ × Symbol)) BindingFault → Type 0
  IsBinding result = IsFirst ChosenAt (length objects) result

  -- for a reference of a kind
  abbrev pub FoundAt : ReferenceKind → ℕ → Result (Option (ℕ × Symbol)) Unreadable → Type 0
  FoundAt kind place result =
      IsSomeAnd (slice_get objects place) (λ object. IsFoundAt kind place (view object) name wanted result)

  abbrev pub IsBindingFor : ReferenceKind → Result (Option (ℕ × ℕ × Symbol)) BindingFault → Type 0
  IsBindingFor kind result = IsFirst (FoundAt kind) (length objects) result
