-- A name that is resolved over the tables of files is found in the files.
use Rattle.std.proofs.Common.{◌≡◌, ℕ, ◌<◌, Bool, List, Option, Some, None, IfSome, Result, Ok, Err, length, slice_get, refl, sym, subst, inl, inr, arith, ◌∙◌}
use Rattle.std.specs.Option.{IsSomeAnd}
use Rattle.std.specs.Result.{IsOkAnd}
use Rattle.std.proofs.lemmas.Option.{slice_get_cases, slice_get_within}
use Rattle.elf_records.specs.declared.symbol.Symbol.{Symbol}
use Rattle.elf.specs.declared.elf_bytes.ElfBytes.{ElfBytes}
use Rattle.elf_hash_check.specs.Object.{Has, IsSound, Object}
use Rattle.elf_linking.specs.ObjectTable.{IsTableOf}
use Rattle.elf_linking.specs.Resolve.{At, IsResolved}
use Rattle.elf_linking.specs.Resolver.{HasTable, HaveTables, library}
use Rattle.elf_linking.specs.declared.resolve.ObjectFault.{ObjectFault}
use Rattle.elf_laws.specs.Found.{HasHash, IsFoundInFiles}

-- an item within a list is there
no_gap : {A : Type 0} (xs : List A) (k : ℕ) → k < length xs → slice_get xs k ≡ None → ⊥
no_gap xs k less none = elim (slice_get_cases xs k).1 [
  | inl there ↦ absurd (cc (sym none ∙ there.2))
  | inr past ↦ let far = past.0 in absurd (omega (arith, less, far))
]

there_within : {A : Type 0} (P : A → Type 0) (xs : List A) (k : ℕ) → IsSomeAnd (slice_get xs k) P → k < length xs
there_within {A} P xs k h = by_item (slice_get xs k) refl h
  where
    by_item : (o : Option A) → slice_get xs k ≡ o → IsSomeAnd o P → k < length xs
    by_item (Some x) is h = slice_get_within xs k x is
    by_item None is h = absurd h

module _ {C : Type 0} (view : C → Object) where
  -- ---- the object of a table

  module _ (table : C) where
    object_such : (P : Object → Type 0) (o : Option (Result Object ObjectFault)) → IsSomeAnd o (λ object. IsTableOf view object table) → P (view table) → IsSomeAnd o (λ object. IsOkAnd object P)
    object_such P (Some (Ok object)) h such = subst P h.1 such
    object_such P (Some (Err e)) h such = absurd h
    object_such P None h such = absurd h

    table_such : (P : Object → Type 0) (o : Option (Result Object ObjectFault)) → IsSomeAnd o (λ object. IsTableOf view object table) → IsSomeAnd o (λ object. IsOkAnd object P) → P (view table)
    table_such P (Some (Ok object)) h such = subst P (sym h.1) such
    table_such P (Some (Err e)) h such = absurd h
    table_such P None h such = absurd h

    object_sound : (o : Option (Result Object ObjectFault)) → IsSomeAnd o (λ object. IsTableOf view object table) → IsSomeAnd o (λ object. IsOkAnd object IsSound)
    object_sound (Some (Ok object)) h = h.0
    object_sound (Some (Err e)) h = h
    object_sound None h = h

  -- ---- the file of a table

  module _ {E : Type 0} (little : E → Bool) where
    abbrev AreOne : Option (ElfBytes E) → Option C → Type 0
    AreOne file table = IfSome file (λ file. IsSomeAnd table (λ table. IsSomeAnd (library little file) (λ object. IsTableOf view object table)))

    file_such : (P : Object → Type 0) (file : Option (ElfBytes E)) (table : Option C) → AreOne file table → (file ≡ None → ⊥) → IsSomeAnd table (λ table. P (view table))
        → IsSomeAnd file (λ file. IsSomeAnd (library little file) (λ object. IsOkAnd object P))
    file_such P (Some file) (Some table) one there such = object_such table P (library little file) one such
    file_such P (Some file) None one there such = absurd such
    file_such P None table one there such = absurd (there refl)

    its_table_such : (P : Object → Type 0) (file : Option (ElfBytes E)) (table : Option C) → AreOne file table → IsSomeAnd file (λ file. IsSomeAnd (library little file) (λ object. IsOkAnd object P))
        → IsSomeAnd table (λ table. P (view table))
    its_table_such P (Some file) (Some table) one such = table_such table P (library little file) one such
    its_table_such P (Some file) None one such = absurd one
    its_table_such P None table one such = absurd such

    file_sound : (file : Option (ElfBytes E)) (table : Option C) → AreOne file table → IfSome file (HasTable little)
    file_sound (Some file) (Some table) one = object_sound table (library little file) one
    file_sound (Some file) None one = absurd one
    file_sound None table one = tt

    -- ---- a list of them

    module _ (files : List (ElfBytes E)) (tables : List C) (name : List ℕ) (same : length tables ≡ length files)
        (pairs : (k : ℕ) → k < length files → AreOne (slice_get files k) (slice_get tables k)) where
      has_hash : (P : Object → Type 0) (k : ℕ) → k < length files → At view tables name k P → HasHash little files name k P
      has_hash P k less such = file_such P (slice_get files k) (slice_get tables k) (pairs k less) (no_gap files k less) such

      has_table : (P : Object → Type 0) (k : ℕ) → HasHash little files name k P → At view tables name k P
      has_table P k such = its_table_such P (slice_get files k) (slice_get tables k) (pairs k (there_within _ files k such)) such

      sound : HaveTables little files (length files)
      sound k less = file_sound (slice_get files k) (slice_get tables k) (pairs k less)

      pub found_in_files : (found : Option (ℕ × ℕ × Symbol)) → IsResolved view tables name found → IsFoundInFiles little files name found
      found_in_files None none = (sound, λ k less has. none k (omega (arith, less, same)) (has_table (Has name) k has))
      found_in_files (Some found) ((has, none), is) =
          let inside = there_within _ tables found.0 is in
          (sound, (has_hash _ found.0 (omega (arith, inside, same)) is, λ k less has. none k less (has_table (Has name) k has)))
