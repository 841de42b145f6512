-- The object that a sound file is in a look-up with versions.
use Rattle.std.proofs.Common.{◌≡◌, ℕ, List, Option, Some, None, Result, Ok, Err, refl, sym, ◌∙◌, subst, inl, inr}
use Rattle.std.specs.Prelude.{IsTrue}
use Rattle.std.specs.List.{slice_get}
use Rattle.std.specs.Option.{IfSome, IsSomeAnd}
use Rattle.std.specs.Result.{IsErrAnd, IsOk, IsOkAnd, result_ok}
use Rattle.elf_abi.specs.Values.{sht_dynsym, sht_gnu_hash, sht_hash}
use Rattle.elf_records.specs.Number.{ok_map}
use Rattle.elf_records.specs.Record.{◌>>=◌}
use Rattle.elf_records.specs.Table.{Table}
use Rattle.elf_records.specs.declared.compression.CompressionHeader.{CompressionHeader}
use Rattle.elf_records.specs.declared.parse.ParseError.{ParseError}
use Rattle.elf_records.specs.declared.section.SectionHeader.{SectionHeader}
use Rattle.elf_parts.specs.gnu_symver.Table.{Versions}
use Rattle.elf_reading.specs.Versions.{is_of_type}
use Rattle.elf.specs.Answers.{symbol_version_table, symbols_in, with_linked}
use Rattle.elf.specs.Data.{section_data}
use Rattle.elf.specs.Headers.{first_section_of, if_found}
use Rattle.elf.specs.ObjectFile.{ObjectFile, Whole}
use Rattle.elf_hash_check.specs.Object.{IsSound, Object, object_in}
use Rattle.elf_hash_check.specs.declared.hashcheck.any.HashKind.{HashKind}
use Rattle.elf_hash_check.specs.declared.hashcheck.any.HashKind.TheVariants.{Gnu, Sysv}
use Rattle.elf_linking.specs.Binding.{VersionedObject}
use Rattle.elf_linking.specs.BindingObjects.{GivesVersioned}
use Rattle.elf_linking.specs.ObjectTable.{IsFaultOf, or_no_symbols, object_by, or_fault, section_object}
use Rattle.elf_linking.specs.declared.resolve.ObjectFault.{ObjectFault}
use Rattle.elf_linking.specs.declared.resolve.ObjectFault.TheVariants.{Dynamic, Faulty, NoSymbols, Read}
use Rattle.elf_check.proofs.Firsts.{found_at}
use Rattle.elf_check.proofs.SoundVersions.{versions_read}
use Rattle.elf_check.proofs.Tables.{ok_from_some}
use Rattle.elf_check.specs.Hashes.{hash_object}
use Rattle.elf_check.specs.Sections.{SoundSection}
use Rattle.elf_check.specs.Sound.{IsSized, SoundFile}
use Rattle.elf_check.specs.Symbols.{holds_symbols}
use Rattle.elf_laws.proofs.Calls.{hash_sound, linked_first}
use Rattle.elf_laws.specs.Answers.{IsHashSection}
use Rattle.elf_laws.specs.Bindings.{GivesSound, LooksUpDynamic, kind_and_section}

abbrev Data : Type 0
Data = Result (List ℕ × Option CompressionHeader) ParseError

abbrev parts_of : Data → Result (Option (Table × List ℕ)) ParseError → Result (List ℕ × (Table × List ℕ)) ObjectFault
parts_of d r = or_fault Whole d >>= λ found. or_fault Whole r >>= or_no_symbols >>= λ symbols. Ok (found.0, symbols)

object_read : (q : Result Object ParseError) → IsOkAnd q IsSound → IsOkAnd (or_fault Whole q) IsSound
object_read (Ok object) sound = sound
object_read (Err e) sound = absurd sound

with_data : (d : Data) (make : List ℕ → Table → List ℕ → Result Object ParseError) (symbols : Table × List ℕ) →
    IsOkAnd (ok_map (λ found. found.0) d >>= λ bytes. make bytes symbols.0 symbols.1) IsSound →
    IsOkAnd (parts_of d (Ok (Some symbols)) >>= λ parts. or_fault Whole (make parts.0 parts.1.0 parts.1.1)) IsSound
with_data (Ok found) make symbols sound = object_read (make found.0 symbols.0 symbols.1) sound
with_data (Err e) make symbols sound = absurd sound

with_symbols_of : (d : Data) (make : List ℕ → Table → List ℕ → Result Object ParseError) (r : Result (Table × List ℕ) ParseError) →
    IsOkAnd (r >>= λ one. ok_map (λ found. found.0) d >>= λ bytes. make bytes one.0 one.1) IsSound →
    IsOkAnd (parts_of d (ok_map Some r) >>= λ parts. or_fault Whole (make parts.0 parts.1.0 parts.1.1)) IsSound
with_symbols_of d make (Ok symbols) sound = with_data d make symbols sound
with_symbols_of d make (Err e) sound = absurd sound

with_link : (d : Data) (make : List ℕ → Table → List ℕ → Result Object ParseError) (w : Result (SectionHeader × SectionHeader) ParseError) (symbols : SectionHeader × SectionHeader → Result (Table × List ℕ) ParseError) →
    IsOkAnd ((w >>= symbols) >>= λ one. ok_map (λ found. found.0) d >>= λ bytes. make bytes one.0 one.1) IsSound →
    IsOkAnd (parts_of d (ok_map Some w >>= if_found symbols) >>= λ parts. or_fault Whole (make parts.0 parts.1.0 parts.1.1)) IsSound
with_link d make (Ok pair) symbols sound = with_symbols_of d make (symbols pair) sound
with_link d make (Err e) symbols sound = absurd sound

by_first : (kind : HashKind) (file : ObjectFile) (s : SectionHeader) (at : Result SectionHeader ParseError) (first : Option SectionHeader) → result_ok at ≡ first →
    IsOkAnd at (λ linked. IsTrue (holds_symbols linked) × IsOkAnd (hash_object kind file s linked) IsSound) →
    IsOkAnd (parts_of (section_data file s) (if_found (with_linked file) first >>= if_found (symbols_in file)) >>= λ parts. or_fault Whole (object_in kind file.little file.class parts.0 parts.1.0 parts.1.1)) IsSound
by_first kind file s (Ok linked) (Some first) e sound =
    let same : linked ≡ first = cc e in
    subst (λ (x : SectionHeader). IsOkAnd (parts_of (section_data file s) (if_found (with_linked file) (Some x) >>= if_found (symbols_in file)) >>= λ parts. or_fault Whole (object_in kind file.little file.class parts.0 parts.1.0 parts.1.1)) IsSound) same
    (with_link (section_data file s) (object_in kind file.little file.class) (with_linked file linked) (symbols_in file) sound.1)
by_first kind file s (Ok linked) None e sound = absurd (cc e)
by_first kind file s (Err x) first e sound = absurd sound

module _ (file : ObjectFile) (sized : IsSized file) (sound : SoundFile file) (listed : (i : ℕ) → slice_get file.sections i ≡ result_ok (file.section_at i)) where
  section_sound : (t : ℕ) (s : SectionHeader) → first_section_of t file.sections ≡ Some s → SoundSection file s
  section_sound t s e =
      let r = found_at (is_of_type t) file.sections s e in sound.sections r.1.0 s (ok_from_some (file.section_at r.1.0) s (sym (listed r.1.0) ∙ r.1.1))

  object_sound : (kind : HashKind) (s : SectionHeader) → SoundSection file s → IsHashSection kind file s → IsOkAnd (section_object kind file s) IsSound
  object_sound kind s here is =
      by_first kind file s (file.section_at s.sh_link) (first_section_of sht_dynsym file.sections)
      (linked_first file s.sh_link (file.section_at s.sh_link) sound (listed s.sh_link) is.1) (hash_sound kind file s is.0 here)

  no_fault : (o : Result Object ObjectFault) (fault : ObjectFault) → IsOkAnd o IsSound → IsFaultOf o fault → ⊥
  no_fault (Ok object) (Faulty f) fine h = h.0 fine
  no_fault (Ok object) (Read e) fine h = h
  no_fault (Ok object) NoSymbols fine h = h
  no_fault (Ok object) (Dynamic e) fine h = h
  no_fault (Err first) fault fine h = fine

  by_sections : (gnu sysv : Option SectionHeader) (fault : ObjectFault) → ((s : SectionHeader) → gnu ≡ Some s → SoundSection file s) → ((s : SectionHeader) → sysv ≡ Some s → SoundSection file s) → IfSome (kind_and_section gnu sysv) (λ chosen. IsHashSection chosen.0 file chosen.1) → IsSomeAnd (object_by file gnu sysv) (λ object. IsFaultOf object fault) → ⊥
  by_sections (Some s) sysv fault g y fit h = no_fault (section_object Gnu file s) fault (object_sound Gnu s (g s refl) fit) h
  by_sections None (Some s) fault g y fit h = no_fault (section_object Sysv file s) fault (object_sound Sysv s (y s refl) fit) h
  by_sections None None fault g y fit h = h

  no_version_fault : (fault : ObjectFault) (r : Result (Option Versions) ParseError) → IsOk r → IsErrAnd r (λ e. fault ≡ Read e) → ⊥
  no_version_fault fault (Ok x) fine h = h
  no_version_fault fault (Err e) fine h = absurd (cc fine)

  pub gives_sound : {C : Type 0} (view : C → VersionedObject) (result : Result (Option C) ObjectFault) → LooksUpDynamic file → GivesVersioned view file result → GivesSound view result
  gives_sound view (Ok None) fit h = tt
  gives_sound view (Ok (Some object)) fit h = record { file = file; sized = sized; sound = sound; made = h }
  gives_sound view (Err fault) fit (inl h) =
      absurd (by_sections (first_section_of sht_gnu_hash file.sections) (first_section_of sht_hash file.sections) fault (section_sound sht_gnu_hash) (section_sound sht_hash) fit h)
  gives_sound view (Err fault) fit (inr h) = absurd (no_version_fault fault (symbol_version_table file) (versions_read file sound.versions) h.1)
