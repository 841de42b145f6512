-- The section by which symbols are looked up.
use Rattle.std.proofs.Common.{◌≡◌, ℕ, ◌==◌, if◌then◌else◌, Option, Some, None, ap, sym, ◌∙◌, subst}
use Rattle.std.specs.Option.{IsSomeAnd, option_or}
use Rattle.elf_abi.specs.Values.{sht_gnu_hash, sht_hash}
use Rattle.elf_records.specs.declared.section.SectionHeader.{SectionHeader}
use Rattle.elf_hash_check.specs.Object.{Object}
use Rattle.elf_hash_check.specs.declared.hashcheck.any.HashKind.{HashKind}
use Rattle.elf_hash_check.specs.declared.hashcheck.any.HashKind.TheVariants.{Gnu, Sysv}
use Rattle.elf.specs.Headers.{first_section_of}
use Rattle.elf.specs.ObjectFile.{ObjectFile}
use Rattle.elf_check.specs.Hashes.{IsObjectOf, IsObjectOfSection, hash_kind, look_up_section}
use Rattle.elf_check.proofs.Firsts.{first_type}

kind_of : (t : ℕ) (s : SectionHeader) → s.sh_type ≡ t → hash_kind s ≡ (if t == sht_hash then Some Sysv else if t == sht_gnu_hash then Some Gnu else None)
kind_of t s e = ap (λ (n : ℕ). if n == sht_hash then Some Sysv else if n == sht_gnu_hash then Some Gnu else None) e

of_kind : (kind : HashKind) (file : ObjectFile) (s : SectionHeader) (object : Object) → hash_kind s ≡ Some kind → IsObjectOf kind file s object → IsObjectOfSection file s object
of_kind kind file s object e h = subst (λ (o : Option HashKind). IsSomeAnd o (λ k. IsObjectOf k file s object)) (sym e) h

looked_up : (file : ObjectFile) (s : SectionHeader) (object : Object) → look_up_section file ≡ Some s → IsObjectOfSection file s object → IsSomeAnd (look_up_section file) (λ x. IsObjectOfSection file x object)
looked_up file s object e h = subst (λ (o : Option SectionHeader). IsSomeAnd o (λ x. IsObjectOfSection file x object)) (sym e) h

pub by_gnu : (file other : ObjectFile) (s : SectionHeader) (object : Object) → other ≡ file → first_section_of sht_gnu_hash file.sections ≡ Some s → IsObjectOf Gnu other s object → IsSomeAnd (look_up_section file) (λ x. IsObjectOfSection file x object)
by_gnu file other s object same e h =
    let found : look_up_section file ≡ Some s = ap (λ (o : Option SectionHeader). option_or o (first_section_of sht_hash file.sections)) e in
    let kind : hash_kind s ≡ Some Gnu = kind_of sht_gnu_hash s (first_type sht_gnu_hash file.sections s e) in
    looked_up file s object found (of_kind Gnu file s object kind (subst (λ (f : ObjectFile). IsObjectOf Gnu f s object) same h))

pub by_sysv : (file other : ObjectFile) (s : SectionHeader) (object : Object) → other ≡ file → first_section_of sht_gnu_hash file.sections ≡ None → first_section_of sht_hash file.sections ≡ Some s → IsObjectOf Sysv other s object → IsSomeAnd (look_up_section file) (λ x. IsObjectOfSection file x object)
by_sysv file other s object same none e h =
    let found : look_up_section file ≡ Some s = ap (λ (o : Option SectionHeader). option_or o (first_section_of sht_hash file.sections)) none ∙ e in
    let kind : hash_kind s ≡ Some Sysv = kind_of sht_hash s (first_type sht_hash file.sections s e) in
    looked_up file s object found (of_kind Sysv file s object kind (subst (λ (f : ObjectFile). IsObjectOf Sysv f s object) same h))
