-- A hash section has one fault at most.
use Rattle.std.proofs.Common.{◌≡◌, IsTrue, refl, ap}
use Rattle.std.specs.Result.{IsErr, IsOkAnd}
use Rattle.elf_records.specs.declared.section.SectionHeader.{SectionHeader}
use Rattle.elf_hash_check.specs.Object.{IsFirstOfObject, IsSound, Object}
use Rattle.elf_hash_check.specs.declared.hashcheck.HashFault.{HashFault}
use Rattle.elf_hash_check.specs.declared.hashcheck.any.HashKind.{HashKind}
use Rattle.elf.specs.ObjectFile.{ObjectFile}
use Rattle.elf_check.specs.Hashes.{IsTrueOfHash, hash_object}
use Rattle.elf_check.specs.Symbols.{holds_symbols}
use Rattle.elf_check.specs.declared.faults.HashSectionFault.{HashSectionFault}
use Rattle.elf_check.specs.declared.faults.HashSectionFault.TheVariants.{NoTable, NotLinked, Unsound}
use Rattle.elf_laws.proofs.Once.{both, is_ok, not_err, weaker}

module _ (one_first : (object : Object) (one other : HashFault) → IsFirstOfObject object one → IsFirstOfObject object other → one ≡ other) (kind : HashKind) (file : ObjectFile) (s : SectionHeader) where
  -- what is true of the section that it is linked to, if its table has a fault
  abbrev HasNoTable : SectionHeader → Type 0
  HasNoTable linked = IsTrue (holds_symbols linked) × IsErr (hash_object kind file s linked)

  abbrev IsFaulty : HashFault → Object → Type 0
  IsFaulty fault object = (¬ IsSound object) × IsFirstOfObject object fault

  abbrev HasFault : HashFault → SectionHeader → Type 0
  HasFault fault linked = IsTrue (holds_symbols linked) × IsOkAnd (hash_object kind file s linked) (IsFaulty fault)

  abbrev Holds : SectionHeader → Type 0
  Holds linked = IsTrue (holds_symbols linked)

  table_or_none : (fault : HashFault) → IsOkAnd (file.section_at s.sh_link) HasNoTable → IsOkAnd (file.section_at s.sh_link) (HasFault fault) → ⊥
  table_or_none fault x y =
      both HasNoTable (HasFault fault) ⊥ (file.section_at s.sh_link) x y (λ linked e p q. not_err (hash_object kind file s linked) (is_ok (IsFaulty fault) (hash_object kind file s linked) q.1) p.1)

  one_in_table : (one other : HashFault) → IsOkAnd (file.section_at s.sh_link) (HasFault one) → IsOkAnd (file.section_at s.sh_link) (HasFault other) → one ≡ other
  one_in_table one other x y =
      both (HasFault one) (HasFault other) (one ≡ other) (file.section_at s.sh_link) x y (λ linked e p q.
      both (IsFaulty one) (IsFaulty other) (one ≡ other) (hash_object kind file s linked) p.1 q.1 (λ object d f g. one_first object one other f.1 g.1))

  pub one_hash_fault : (one other : HashSectionFault) → IsTrueOfHash kind file s one → IsTrueOfHash kind file s other → one ≡ other
  one_hash_fault NotLinked NotLinked x y = refl
  one_hash_fault NotLinked NoTable x y = absurd (x (weaker HasNoTable Holds (file.section_at s.sh_link) (λ linked p. p.0) y))
  one_hash_fault NotLinked (Unsound g) x y = absurd (x (weaker (HasFault g) Holds (file.section_at s.sh_link) (λ linked p. p.0) y))
  one_hash_fault NoTable NotLinked x y = absurd (y (weaker HasNoTable Holds (file.section_at s.sh_link) (λ linked p. p.0) x))
  one_hash_fault NoTable NoTable x y = refl
  one_hash_fault NoTable (Unsound g) x y = absurd (table_or_none g x y)
  one_hash_fault (Unsound f) NotLinked x y = absurd (y (weaker (HasFault f) Holds (file.section_at s.sh_link) (λ linked p. p.0) x))
  one_hash_fault (Unsound f) NoTable x y = absurd (table_or_none f y x)
  one_hash_fault (Unsound f) (Unsound g) x y = ap Unsound (one_in_table f g x y)
