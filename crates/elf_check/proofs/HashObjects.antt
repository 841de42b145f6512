-- The hash table of a section whose symbols and bytes were read.
use Rattle.std.proofs.Common.{◌≡◌, ℕ, List, Some, Result, Ok, Err, ap, ◌∙◌, sym, subst}
use Rattle.std.specs.Prelude.{IsTrue}
use Rattle.std.specs.Result.{IsOkAnd, result_ok}
use Rattle.elf_records.specs.Record.{◌>>=◌}
use Rattle.elf_records.specs.Table.{Table}
use Rattle.elf_records.specs.declared.parse.ParseError.{ParseError}
use Rattle.elf_records.specs.declared.section.SectionHeader.{SectionHeader}
use Rattle.elf.specs.Answers.{symbols_of}
use Rattle.elf.specs.Data.{content}
use Rattle.elf.specs.ObjectFile.{ObjectFile}
use Rattle.elf_hash_check.specs.Object.{IsFirstOfObject, IsSound, Object, object_in}
use Rattle.elf_hash_check.specs.Verdict.{GivesVerdict}
use Rattle.elf_hash_check.specs.declared.hashcheck.Checked.TheVariants.{Faulty}
use Rattle.elf_hash_check.specs.declared.hashcheck.HashFault.{HashFault}
use Rattle.elf_hash_check.specs.declared.hashcheck.any.HashKind.{HashKind}
use Rattle.elf_check.specs.Hashes.{SoundHash, hash_object}
use Rattle.elf_check.specs.Symbols.{holds_symbols}
use Rattle.elf_check.proofs.Linked.{at_ok}
use Rattle.elf_check.proofs.Tables.{ok_from_some}

pub hash_there : (kind : HashKind) (file : ObjectFile) (s linked : SectionHeader) (bytes : List ℕ) (found : Table × List ℕ) → result_ok (symbols_of file linked) ≡ Some found → content file s ≡ Ok bytes → hash_object kind file s linked ≡ object_in kind file.little file.class bytes found.0 found.1
hash_there kind file s linked bytes found read there =
    ap (λ (r : Result (Table × List ℕ) ParseError). r >>= λ found. content file s >>= λ bytes. object_in kind file.little file.class bytes found.0 found.1) (ok_from_some (symbols_of file linked) found read)
    ∙ ap (λ (r : Result (List ℕ) ParseError). r >>= λ bytes. object_in kind file.little file.class bytes found.0 found.1) there

-- what is true of it is true of the section's
pub hash_has : (P : Object → Type 0) (kind : HashKind) (file : ObjectFile) (s linked : SectionHeader) (bytes : List ℕ) (found : Table × List ℕ) → file.section_at s.sh_link ≡ Ok linked → IsTrue (holds_symbols linked) → result_ok (symbols_of file linked) ≡ Some found → content file s ≡ Ok bytes
    → IsOkAnd (object_in kind file.little file.class bytes found.0 found.1) P → IsOkAnd (file.section_at s.sh_link) (λ linked. IsTrue (holds_symbols linked) × IsOkAnd (hash_object kind file s linked) P)
hash_has P kind file s linked bytes found here holds read there h =
    subst (λ (r : Result SectionHeader ParseError). IsOkAnd r (λ linked. IsTrue (holds_symbols linked) × IsOkAnd (hash_object kind file s linked) P)) (sym here)
    (holds, subst (λ (r : Result Object ParseError). IsOkAnd r P) (sym (hash_there kind file s linked bytes found read there)) h)

never_both : {A E : Type 0} (r : Result A E) (P Q : A → Type 0) → ((x : A) → P x → Q x → ⊥) → IsOkAnd r P → IsOkAnd r Q → ⊥
never_both (Ok x) P Q apart p q = apart x p q
never_both (Err e) P Q apart p q = p

-- the table of a sound hash section is not faulty
pub never_faulty : (P : Object → Type 0) (kind : HashKind) (file : ObjectFile) (s linked : SectionHeader) (bytes : List ℕ) (found : Table × List ℕ) → SoundHash kind file s → file.section_at s.sh_link ≡ Ok linked → result_ok (symbols_of file linked) ≡ Some found → content file s ≡ Ok bytes
    → IsOkAnd (object_in kind file.little file.class bytes found.0 found.1) (λ object. (¬ IsSound object) × P object) → ⊥
never_faulty P kind file s linked bytes found sound here read there h =
    let whole = at_ok (λ linked. IsTrue (holds_symbols linked) × IsOkAnd (hash_object kind file s linked) IsSound) (file.section_at s.sh_link) linked here sound in
    never_both (object_in kind file.little file.class bytes found.0 found.1) IsSound (λ object. (¬ IsSound object) × P object) (λ object fine faulty. faulty.0 fine)
    (subst (λ (r : Result Object ParseError). IsOkAnd r IsSound) (hash_there kind file s linked bytes found read there) whole.1) h

-- what a verdict says that is a fault
pub faulty_of : {C : Type 0} (shown : C → Object) (object : Result Object ParseError) (fault : HashFault) → GivesVerdict shown IsSound IsFirstOfObject object (Ok (Faulty fault)) → IsOkAnd object (λ one. (¬ IsSound one) × IsFirstOfObject one fault)
faulty_of shown (Ok one) fault h = h
faulty_of shown (Err e) fault h = cc h
