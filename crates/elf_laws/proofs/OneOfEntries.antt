-- The dynamic entries of a section have one fault at most.
use Rattle.std.proofs.Common.{◌≡◌, ℕ, List, Option, Some, refl, ap, sym, ◌∙◌, inl, inr}
use Rattle.std.specs.List.{position}
use Rattle.std.specs.Prelude.{not}
use Rattle.std.specs.Result.{IsOk, IsOkAnd}
use Rattle.elf_records.specs.Dynamic.{dyn_reads}
use Rattle.elf_records.specs.Table.{Table, table_items}
use Rattle.elf_records.specs.declared.section.SectionHeader.{SectionHeader}
use Rattle.elf.specs.Data.{content}
use Rattle.elf.specs.ObjectFile.{ObjectFile, table_of}
use Rattle.elf.specs.Versions.{linked_strings}
use Rattle.elf_check.specs.Dynamic.{HasEntrySize, HasNull, IsTrueOfDynamic, IsTrueOfEntries, IsWhole, LinksToStrings}
use Rattle.elf_check.specs.Dynamic.{before_null, has_its_string}
use Rattle.elf_check.specs.declared.faults.DynamicFault.{DynamicFault}
use Rattle.elf_check.specs.declared.faults.DynamicFault.TheVariants.{EntrySize, NoNull, NoString, NoStrings, NotLinked}
use Rattle.elf_check.specs.declared.faults.DynamicFault.TheVariants.{PartOfEntry}
use Rattle.elf_laws.proofs.Once.{ByStage, IsKnown, IsOnce, both, is_ok, not_err, one_by_stage, one_known}

module _ (strings : List ℕ) (t : Table) where
  abbrev without_string : Option ℕ
  without_string = position (λ entry. not (has_its_string strings entry)) (before_null (table_items dyn_reads t))

  abbrev AtEntry : DynamicFault → Type 0
  AtEntry fault = (i : ℕ) × (fault ≡ NoString i) × (without_string ≡ Some i)

  one_at_entry : IsOnce AtEntry
  one_at_entry one other (i, d, x) (j, e, y) = let same : i ≡ j = cc (x, y) in d ∙ ap NoString same ∙ sym e

  abbrev ByEnd : DynamicFault → Type 0
  ByEnd = ByStage (HasNull t) (IsKnown NoNull) AtEntry

  by_whole : (fault : DynamicFault) → IsTrueOfEntries strings t fault → ByStage (IsWhole t) (IsKnown PartOfEntry) ByEnd fault
  by_whole PartOfEntry h = inl (h, refl)
  by_whole NoNull h = inr (h.0, inl (h.1, refl))
  by_whole (NoString i) h = inr (h.0, inr (h.1, (i, refl, h.2)))
  by_whole EntrySize h = absurd h
  by_whole NotLinked h = absurd h
  by_whole NoStrings h = absurd h

  one_of_entries : IsOnce (IsTrueOfEntries strings t)
  one_of_entries one other x y =
      let ending = one_by_stage (HasNull t) (IsKnown NoNull) AtEntry (one_known NoNull) one_at_entry in
      one_by_stage (IsWhole t) (IsKnown PartOfEntry) ByEnd (one_known PartOfEntry) ending one other (by_whole one x) (by_whole other y)

module _ (file : ObjectFile) (s : SectionHeader) where
  abbrev OfBytes : DynamicFault → List ℕ → Type 0
  OfBytes fault bytes = IsOkAnd (linked_strings file s) (λ strings. IsTrueOfEntries strings (table_of file bytes) fault)

  abbrev InEntries : DynamicFault → Type 0
  InEntries fault = IsOkAnd (content file s) (OfBytes fault)

  one_in_entries : IsOnce InEntries
  one_in_entries one other x y =
      both (OfBytes one) (OfBytes other) (one ≡ other) (content file s) x y (λ bytes e p q.
      both (λ strings. IsTrueOfEntries strings (table_of file bytes) one) (λ strings. IsTrueOfEntries strings (table_of file bytes) other) (one ≡ other) (linked_strings file s) p q (λ strings d h k.
      one_of_entries strings (table_of file bytes) one other h k))

  abbrev ByStrings : DynamicFault → Type 0
  ByStrings = ByStage (IsOk (linked_strings file s)) (IsKnown NoStrings) InEntries

  abbrev ByLink : DynamicFault → Type 0
  ByLink = ByStage (LinksToStrings file s) (IsKnown NotLinked) ByStrings

  strings_ok : (fault : DynamicFault) → InEntries fault → IsOk (linked_strings file s)
  strings_ok fault h =
      both (OfBytes fault) (OfBytes fault) (IsOk (linked_strings file s)) (content file s) h h (λ bytes e p q.
      is_ok (λ strings. IsTrueOfEntries strings (table_of file bytes) fault) (linked_strings file s) p)

  by_size : (fault : DynamicFault) → IsTrueOfDynamic file s fault → ByStage (HasEntrySize file s) (IsKnown EntrySize) ByLink fault
  by_size EntrySize t = inl (t, refl)
  by_size NotLinked t = inr (t.0, inl (t.1, refl))
  by_size NoStrings t = inr (t.0, inr (t.1, inl (λ ok. not_err (linked_strings file s) ok t.2, refl)))
  by_size PartOfEntry t = inr (t.0, inr (t.1, inr (strings_ok PartOfEntry t.2, t.2)))
  by_size NoNull t = inr (t.0, inr (t.1, inr (strings_ok NoNull t.2, t.2)))
  by_size (NoString i) t = inr (t.0, inr (t.1, inr (strings_ok (NoString i) t.2, t.2)))

  pub one_dynamic_fault : IsOnce (IsTrueOfDynamic file s)
  one_dynamic_fault one other x y =
      let strings = one_by_stage (IsOk (linked_strings file s)) (IsKnown NoStrings) InEntries (one_known NoStrings) one_in_entries in
      let link = one_by_stage (LinksToStrings file s) (IsKnown NotLinked) ByStrings (one_known NotLinked) strings in
      one_by_stage (HasEntrySize file s) (IsKnown EntrySize) ByLink (one_known EntrySize) link one other (by_size one x) (by_size other y)
