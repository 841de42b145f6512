-- A file that is sound has one section of dynamic symbols at most.
use Rattle.std.proofs.Common.{◌≡◌, ℕ, zero, suc, ◌<◌, Bool, true, false, if◌then◌else◌, List, [], ◌∷◌, length, Option, Some, None, refl, subst, arith}
use Rattle.std.proofs.lemmas.Bool.{eq-eqb, lt-ltb}
use Rattle.std.specs.Prelude.{filter, nat_lt}
use Rattle.std.specs.List.{find, slice_get}
use Rattle.elf_abi.specs.Values.{sht_dynamic, sht_dynsym, sht_gnu_verdef, sht_gnu_verneed, sht_gnu_versym, sht_symtab}
use Rattle.elf_records.specs.declared.section.SectionHeader.{SectionHeader}
use Rattle.elf.specs.Headers.{first_section_of}
use Rattle.elf.specs.ObjectFile.{ObjectFile}
use Rattle.elf_reading.specs.Versions.{is_of_type}
use Rattle.elf_check.specs.Sections.{is_repeated, repeated_type}

module _ {A : Type 0} (p : A → Bool) where
  differ : (y x : A) → p y ≡ false → p x ≡ true → y ≡ x → ⊥
  differ y x fails passes same = absurd (cc (subst (λ (z : A). p z ≡ false) same fails, passes))

  counted_step : (y : A) (ys : List A) (x : A) (b : Bool) (i : ℕ) → p y ≡ b → slice_get (y ∷ ys) i ≡ Some x → p x ≡ true → ((j : ℕ) → slice_get ys j ≡ Some x → 0 < length (filter p ys)) → 0 < length (if b then y ∷ filter p ys else filter p ys)
  counted_step y ys x true i test e passes rest = omega arith
  counted_step y ys x false zero test e passes rest = let same : y ≡ x = cc e in absurd (differ y x test passes same)
  counted_step y ys x false (suc j) test e passes rest = rest j e

  counted : (xs : List A) (x : A) (i : ℕ) → slice_get xs i ≡ Some x → p x ≡ true → 0 < length (filter p xs)
  counted [] x i e passes = absurd (cc e)
  counted (y ∷ ys) x i e passes = counted_step y ys x (p y) i refl e passes (λ j d. counted ys x j d passes)

  only_step : (y : A) (ys : List A) (x : A) (b : Bool) (i : ℕ) → p y ≡ b → nat_lt 1 (length (if b then y ∷ filter p ys else filter p ys)) ≡ false → slice_get (y ∷ ys) i ≡ Some x → p x ≡ true → ((j : ℕ) → nat_lt 1 (length (filter p ys)) ≡ false → slice_get ys j ≡ Some x → find p ys ≡ Some x) → (if b then Some y else find p ys) ≡ Some x
  only_step y ys x true zero test one e passes rest = e
  only_step y ys x true (suc j) test one e passes rest =
      let more = counted ys x j e passes in
      let two : 1 < suc (length (filter p ys)) = omega (arith, more) in
      absurd (cc (lt-ltb 1 (suc (length (filter p ys))) two, one))
  only_step y ys x false zero test one e passes rest = let same : y ≡ x = cc e in absurd (differ y x test passes same)
  only_step y ys x false (suc j) test one e passes rest = rest j one e

  -- the one member that passes the test is the first one
  pub only_one : (xs : List A) (x : A) (i : ℕ) → nat_lt 1 (length (filter p xs)) ≡ false → slice_get xs i ≡ Some x → p x ≡ true → find p xs ≡ Some x
  only_one [] x i one e passes = absurd (cc e)
  only_one (y ∷ ys) x i one e passes = only_step y ys x (p y) i refl one e passes (λ j few d. only_one ys x j few d passes)

second_not : (a b : Bool) (x y : ℕ) (rest : Option ℕ) → (if a then Some x else if b then Some y else rest) ≡ None → b ≡ false
second_not true b x y rest e = absurd (cc e)
second_not false true x y rest e = absurd (cc e)
second_not false false x y rest e = refl

dynsym_once : (file : ObjectFile) → repeated_type file ≡ None → is_repeated file.sections sht_dynsym ≡ false
dynsym_once file single =
    second_not (is_repeated file.sections sht_symtab) (is_repeated file.sections sht_dynsym) sht_symtab sht_dynsym
    (find (is_repeated file.sections) (sht_dynamic ∷ sht_gnu_versym ∷ sht_gnu_verneed ∷ sht_gnu_verdef ∷ [])) single

pub the_dynsym : (file : ObjectFile) → repeated_type file ≡ None → (i : ℕ) (s : SectionHeader) → slice_get file.sections i ≡ Some s → s.sh_type ≡ sht_dynsym → first_section_of sht_dynsym file.sections ≡ Some s
the_dynsym file single i s e is = only_one (is_of_type sht_dynsym) file.sections s i (dynsym_once file single) e (eq-eqb s.sh_type sht_dynsym is)
