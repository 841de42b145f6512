-- What is looked up and bound of a partly loaded file is that of the whole file, or a range is missing.
use Rattle.std.proofs.Common.{◌≡◌, ℕ, ◌-◌, ◌==◌, ◌&&◌, ◌||◌, Bool, List, [], ◌∷◌, inl, Result, Ok, Err, refl, sym, ap, subst, nat_lt, if◌then◌else◌}
use Rattle.elf_abi.specs.Values.{sht_dynsym, sht_rel, sht_rela}
use Rattle.elf_records.specs.Number.{ok_map}
use Rattle.elf_records.specs.Record.{◌>>=◌}
use Rattle.elf_records.specs.Relocation.{fields_of_rel, fields_of_rela}
use Rattle.elf_records.specs.declared.parse.ParseError.{ParseError}
use Rattle.elf_records.specs.declared.section.SectionHeader.{SectionHeader}
use Rattle.elf.specs.Answers.{section_data_as_relas, section_data_as_rels}
use Rattle.elf.specs.Headers.{if_found}
use Rattle.elf.specs.ObjectFile.{FileOf, ObjectFile, Partial, Whole, err_map}
use Rattle.elf.specs.Parts.{ArePartOf, Follows, Ranges, loaded}
use Rattle.elf.specs.Readers.{SectionDataAsRelas, SectionDataAsRels}
use Rattle.elf.specs.declared.read_error.ReadError.TheVariants.{Parse}
use Rattle.elf.proofs.Partly.{follows_if, follows_map, part_follows}
use Rattle.elf_dynamic.specs.declared.dynamic_view.error.DynamicError.{DynamicError}
use Rattle.elf_dynamic.specs.declared.dynamic_view.error.DynamicError.TheVariants.{Missing}
use Rattle.elf_dynamic.specs.Linked.{Entries, HashBytes, Nothing, Place, Sections, hash_section, linked_by}
use Rattle.elf_dynamic.specs.dynamic_view.Relocations.{all_parts, relocations}
use Rattle.elf_dynamic.specs.dynamic_view.Versions.{versions}
use Rattle.elf_dynamic.proofs.Following.{all_follow, found_follows, if_follows, map_follows, read_follows, said_follows, then_follows}
use Rattle.elf_linking.specs.DynamicFile.{dynamic_symbols, dynamic_uses, dynamic_versions, hash_parts, or_dynamic, uses_by_all, uses_found, with_symbols}
use Rattle.elf_dynamic.specs.dynamic_view.Laws.{FollowsBy, FollowsWhole}
use Rattle.elf_linking.specs.Following.{LinksFollow, object_missing, uses_missing}
use Rattle.elf_linking.specs.ObjectTable.{or_no_symbols}
use Rattle.elf_linking.specs.SymbolUses.{has_type, is_dynamic, section_uses, sections_uses, uses_after, uses_fault}
use Rattle.elf_linking.specs.declared.bindings.uses.SymbolUses.{SymbolUses}
use Rattle.elf_linking.specs.declared.bindings.uses.UsesError.TheVariants.{Dynamic as Unknown, TooLarge}
use Rattle.elf_linking.specs.declared.resolve.ObjectFault.TheVariants.{Dynamic}

module _ (whole : ObjectFile) (range : Ranges) (is_missing : ℕ × ℕ → Bool) (each : ArePartOf whole is_missing range) where
  abbrev part : FileOf Partial
  part = loaded whole range

  view : FollowsWhole is_missing whole part
  view = all_follow whole range is_missing each

  -- ---- by sections or by entries

  -- what is found in a place, if it is known which one it is
  placed_follows : {A F : Type 0} (to : DynamicError → F) (f g : Place → Result A F) → ((p : Place) → FollowsBy (λ range. to (Missing range)) is_missing (f p) (g p))
      → FollowsBy (λ range. to (Missing range)) is_missing (err_map to (linked_by whole) >>= f) (err_map to (linked_by part) >>= g)
  placed_follows to f g each =
      then_follows (λ range. to (Missing range)) is_missing (err_map to (linked_by whole)) (err_map to (linked_by part)) f g (said_follows Missing is_missing to (linked_by whole) (linked_by part) view.linked) each

  -- ---- the symbols

  symbols_follow : FollowsBy object_missing is_missing (dynamic_symbols whole) (dynamic_symbols part)
  symbols_follow = said_follows Missing is_missing Dynamic _ _ view.linked_symbols

  -- ---- the hash section

  with_symbols_follow : (section : HashBytes) → FollowsBy object_missing is_missing (with_symbols whole section) (with_symbols part section)
  with_symbols_follow section =
      then_follows object_missing is_missing (dynamic_symbols whole >>= or_no_symbols) (dynamic_symbols part >>= or_no_symbols) _ _
      (then_follows object_missing is_missing (dynamic_symbols whole) (dynamic_symbols part) or_no_symbols or_no_symbols symbols_follow (λ o. inl refl)) (λ symbols. inl refl)

  parts_of_hash_follow : FollowsBy object_missing is_missing (hash_parts whole) (hash_parts part)
  parts_of_hash_follow =
      then_follows object_missing is_missing (or_dynamic (hash_section whole)) (or_dynamic (hash_section part)) (if_found (with_symbols whole)) (if_found (with_symbols part))
      (said_follows Missing is_missing Dynamic _ _ view.linked_hash) (λ o. found_follows object_missing is_missing (with_symbols whole) (with_symbols part) o with_symbols_follow)

  -- ---- the versions

  versions_follow : FollowsBy object_missing is_missing (dynamic_versions whole) (dynamic_versions part)
  versions_follow = said_follows Missing is_missing Dynamic _ _ view.linked_versions

  -- ---- the uses of symbols

  same_type : (t : ℕ) (r : Result SectionHeader ParseError) → has_type t (err_map Parse r) ≡ has_type t r
  same_type t (Ok s) = refl
  same_type t (Err e) = refl

  same_kind : (s : SectionHeader) → is_dynamic part s ≡ is_dynamic whole s
  same_kind s = ap (λ (b : Bool). (s.sh_type == sht_rel || s.sh_type == sht_rela) && b) (same_type sht_dynsym (whole.section_at s.sh_link))

  section_uses_follow : (machine : ℕ) (s : SectionHeader) (uses : List SymbolUses) → Follows is_missing (section_uses machine whole s uses) (section_uses machine part s uses)
  section_uses_follow machine s uses =
      follows_if is_missing (s.sh_type == sht_rel) _ _ _ _
      (follows_map is_missing (λ rels. uses_after machine uses (all_parts fields_of_rel rels)) (section_data_as_rels whole s) (section_data_as_rels part s) (part_follows whole range is_missing each (SectionDataAsRels s)))
      (follows_if is_missing (s.sh_type == sht_rela) _ _ (Ok uses) (Ok uses)
      (follows_map is_missing (λ relas. uses_after machine uses (all_parts fields_of_rela relas)) (section_data_as_relas whole s) (section_data_as_relas part s) (part_follows whole range is_missing each (SectionDataAsRelas s))) (inl refl))

  sections_follow : (machine left : ℕ) (sections : List SectionHeader) (uses : List SymbolUses) → FollowsBy uses_missing is_missing (sections_uses machine whole left sections uses) (sections_uses machine part left sections uses)
  sections_follow machine left [] uses = inl refl
  sections_follow machine left (s ∷ sections) uses =
      let kept = sections_uses machine part left sections uses in
      let added = err_map (uses_fault Partial) (section_uses machine part s uses) >>= sections_uses machine part (left - s.sh_size) sections in
      let first = if nat_lt left s.sh_size then Err TooLarge else added in
      subst (λ (b : Bool). FollowsBy uses_missing is_missing (sections_uses machine whole left (s ∷ sections) uses) (if b then first else kept)) (sym (same_kind s))
      (if_follows uses_missing is_missing (is_dynamic whole s) _ first _ kept
      (if_follows uses_missing is_missing (nat_lt left s.sh_size) (Err TooLarge) (Err TooLarge) _ added (inl refl)
      (then_follows uses_missing is_missing (err_map (uses_fault Whole) (section_uses machine whole s uses)) (err_map (uses_fault Partial) (section_uses machine part s uses)) _ _
      (read_follows is_missing (uses_fault Whole) (uses_fault Partial) (λ e. refl) (section_uses machine whole s uses) (section_uses machine part s uses) (section_uses_follow machine s uses)) (sections_follow machine (left - s.sh_size) sections)))
      (sections_follow machine left sections uses))

  uses_found_follow : (machine : ℕ) (uses : List SymbolUses) (p : Place) → FollowsBy uses_missing is_missing (uses_found machine whole uses p) (uses_found machine part uses p)
  uses_found_follow machine uses Sections = sections_follow machine whole.size whole.sections uses
  uses_found_follow machine uses (Entries es) =
      said_follows Missing is_missing Unknown (ok_map (uses_by_all machine uses) (relocations whole es)) (ok_map (uses_by_all machine uses) (relocations part es))
      (map_follows Missing is_missing (uses_by_all machine uses) (relocations whole es) (relocations part es) (view.relocations es))
  uses_found_follow machine uses Nothing = inl refl

  uses_follow : (machine : ℕ) (uses : List SymbolUses) → FollowsBy uses_missing is_missing (dynamic_uses machine whole uses) (dynamic_uses machine part uses)
  uses_follow machine uses = placed_follows Unknown (uses_found machine whole uses) (uses_found machine part uses) (uses_found_follow machine uses)

  pub links_follow : LinksFollow is_missing whole part
  links_follow = record { symbols = symbols_follow; hash = parts_of_hash_follow; versions = versions_follow; uses = uses_follow }
