-- What look-ups use of a file, of a part of it beside the whole: the dynamic symbols, the hash section with
-- what it is checked over, the versions, and the uses that relocations make of the symbols.
use Rattle.std.specs.Prelude.{◌≡◌, ℕ, Bool, List, Result, Err}
use Rattle.elf.specs.ObjectFile.{Extent, FileOf, ObjectFile, Partial}
use Rattle.elf_dynamic.specs.declared.dynamic_view.error.DynamicError.TheVariants.{Missing}
use Rattle.elf_dynamic.specs.dynamic_view.Laws.{FollowsBy}
use Rattle.elf_linking.specs.DynamicFile.{dynamic_symbols, dynamic_uses, dynamic_versions, hash_parts}
use Rattle.elf_linking.specs.declared.bindings.uses.SymbolUses.{SymbolUses}
use Rattle.elf_linking.specs.declared.bindings.uses.UsesError.{UsesError}
use Rattle.elf_linking.specs.declared.bindings.uses.UsesError.TheVariants.{Dynamic as Unknown}
use Rattle.elf_linking.specs.declared.resolve.ObjectFault.{ObjectFault}
use Rattle.elf_linking.specs.declared.resolve.ObjectFault.TheVariants.{Dynamic}

-- the error by which a range is missing, of an object and of the uses of symbols
abbrev pub object_missing : ℕ × ℕ → ObjectFault
object_missing range = Dynamic (Missing range)

abbrev pub uses_missing : ℕ × ℕ → UsesError
uses_missing range = Unknown (Missing range)

-- each result over a part is that of the whole file, or a range is missing
pub record LinksFollow (is_missing : ℕ × ℕ → Bool) (whole : ObjectFile) (part : FileOf Partial) : Type 0 where
  pub symbols : FollowsBy object_missing is_missing (dynamic_symbols whole) (dynamic_symbols part)
  pub hash : FollowsBy object_missing is_missing (hash_parts whole) (hash_parts part)
  pub versions : FollowsBy object_missing is_missing (dynamic_versions whole) (dynamic_versions part)
  pub uses : (machine : ℕ) (uses : List SymbolUses) →
      FollowsBy uses_missing is_missing (dynamic_uses machine whole uses) (dynamic_uses machine part uses)

-- a result is not that a range is missing
abbrev pub IsThere : {A E : Type 0} → (ℕ × ℕ → E) → Result A E → Type 0
IsThere missing r = (range : ℕ × ℕ) → ¬ (r ≡ Err (missing range))

-- a part has all that look-ups use
pub record HasLinks {x : Extent} (part : FileOf x) : Type 0 where
  pub symbols : IsThere object_missing (dynamic_symbols part)
  pub hash : IsThere object_missing (hash_parts part)
  pub versions : IsThere object_missing (dynamic_versions part)
  pub uses : (machine : ℕ) (uses : List SymbolUses) → IsThere uses_missing (dynamic_uses machine part uses)

-- so it has what the whole file has
pub record SameLinks (whole : ObjectFile) (part : FileOf Partial) : Type 0 where
  pub symbols : dynamic_symbols part ≡ dynamic_symbols whole
  pub hash : hash_parts part ≡ hash_parts whole
  pub versions : dynamic_versions part ≡ dynamic_versions whole
  pub uses : (machine : ℕ) (uses : List SymbolUses) → dynamic_uses machine part uses ≡ dynamic_uses machine whole uses
