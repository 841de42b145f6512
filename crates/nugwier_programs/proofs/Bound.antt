-- What is said of the symbols of files: objects that are the same have the same look-ups.
use Rattle.std.proofs.Common.{◌≡◌, ℕ, Bool, List, length, map, Option, Some, None, Result, Ok, Err, ap, sym, subst, ◌∙◌, arith}
use Rattle.std.proofs.lemmas.List.{length-map}
use Rattle.std.proofs.lemmas.Option.{IfSome_then, slice_get-map}
use Rattle.std.specs.Prelude.{slice_get}
use Rattle.std.specs.Option.{IsSomeAnd, option_map}
use Rattle.elf_parts.specs.gnu_symver.Table.{Versions}
use Rattle.elf_records.specs.Table.{Table}
use Rattle.elf_records.specs.declared.symbol.Symbol.{Symbol}
use Rattle.elf_linking.specs.Binding.{FoundAt, IsBindingFor, IsFirst, IsFoundAt, VersionedObject}
use Rattle.elf_linking.specs.declared.BindingFault.{BindingFault}
use Rattle.elf_linking.specs.declared.ReferenceKind.{ReferenceKind}
use Rattle.elf_linking.specs.declared.ReferenceKind.TheVariants.{Address, Copied, JumpSlot}
use Rattle.elf_linking.specs.declared.Unreadable.{Unreadable}
use Rattle.elf_linking.specs.declared.Wanted.{Wanted}
use Rattle.elf_linking.specs.SymbolBindings.{AreAllBound, AreKindsBound, IsBoundBy, IsBoundFor, IsBoundIf, IsNamedBound}
use Rattle.elf_linking.specs.SymbolBindings.{IsSymbolBound, kinds_of}
use Rattle.elf_linking.specs.SymbolUses.{uses_at}
use Rattle.elf_linking.specs.declared.bindings.Bound.{Bound}
use Rattle.elf_linking.specs.declared.bindings.Bound.TheVariants.{To, Weak, Missing}
use Rattle.elf_linking.specs.declared.bindings.kinds.SymbolBinding.{SymbolBinding}
use Rattle.elf_linking.specs.declared.bindings.kinds.SymbolFault.{SymbolFault}
use Rattle.elf_linking.specs.declared.bindings.kinds.SymbolFault.TheVariants.{Name, Object, Version}
use Rattle.elf_linking.specs.declared.bindings.uses.SymbolUses.{SymbolUses}
use Rattle.elf_linking.specs.declared.bindings.uses.UsesError.{UsesError}
use Rattle.nugwier_programs.specs.Bindings.{AreSymbolsSaid, looked_up}
use Rattle.nugwier_report.specs.Said.{Said}

some_weaker : {A : Type 0} (P Q : A → Type 0) → ((x : A) → P x → Q x) → (o : Option A) → IsSomeAnd o P → IsSomeAnd o Q
some_weaker P Q h (Some x) p = h x p
some_weaker P Q h None p = absurd p

first_moved : (At Bt : ℕ → Result (Option (ℕ × Symbol)) Unreadable → Type 0) (n m : ℕ) → ((k : ℕ) (r : Result (Option (ℕ × Symbol)) Unreadable) → At k r → Bt k r) → n ≡ m →
    (result : Result (Option (ℕ × ℕ × Symbol)) BindingFault) → IsFirst At n result → IsFirst Bt m result
first_moved At Bt n m h same (Ok None) none = λ k less. h k (Ok None) (none k (omega (arith, same, less)))
first_moved At Bt n m h same (Ok (Some found)) x = (h found.0 (Ok (Some (found.1, found.2))) x.0, λ k less. h k (Ok None) (x.1 k less))
first_moved At Bt n m h same (Err fault) x = (h fault.object _ x.0, λ k less. h k (Ok None) (x.1 k less))

module _ {C D : Type 0} (f : C → VersionedObject) (g : D → VersionedObject) where
  at_same : (P : VersionedObject → Type 0) (a : Option C) (b : Option D) → option_map f a ≡ option_map g b →
      IsSomeAnd a (λ x. P (f x)) → IsSomeAnd b (λ y. P (g y))
  at_same P (Some x) (Some y) same p = let e : f x ≡ g y = cc in subst P e p
  at_same P (Some x) None same p = absurd (cc)
  at_same P None b same p = absurd p

  module _ (xs : List C) (ys : List D) (same : map f xs ≡ map g ys) where
    pub get_same : (k : ℕ) → option_map f (slice_get xs k) ≡ option_map g (slice_get ys k)
    get_same k = sym (slice_get-map f xs k) ∙ ap (λ (l : List VersionedObject). slice_get l k) same ∙ slice_get-map g ys k

    length_same : length xs ≡ length ys
    length_same = sym (length-map xs f) ∙ ap (λ (l : List VersionedObject). length l) same ∙ length-map ys g

    binding_moved : (name : List ℕ) (wanted : Wanted) (kind : ReferenceKind) (r : Result (Option (ℕ × ℕ × Symbol)) BindingFault) →
        IsBindingFor f xs name wanted kind r → IsBindingFor g ys name wanted kind r
    binding_moved name wanted kind r h =
        first_moved (FoundAt f xs name wanted kind) (FoundAt g ys name wanted kind) (length xs) (length ys)
        (λ k found. at_same (λ o. IsFoundAt kind k o name wanted found) (slice_get xs k) (slice_get ys k) (get_same k)) length_same r h

    bound_moved : (kind : ReferenceKind) (s : Symbol) (name : List ℕ) (wanted : Wanted) (r : Result Bound BindingFault) →
        IsBoundFor f xs kind s name wanted r → IsBoundFor g ys kind s name wanted r
    bound_moved kind s name wanted (Ok (To object symbol)) h = (h.0, binding_moved name wanted kind (Ok (Some (object, symbol, h.0))) h.1)
    bound_moved kind s name wanted (Ok Weak) h = (binding_moved name wanted kind (Ok None) h.0, h.1)
    bound_moved kind s name wanted (Ok Missing) h = (binding_moved name wanted kind (Ok None) h.0, h.1)
    bound_moved kind s name wanted (Err fault) h = binding_moved name wanted kind (Err fault) h

    module _ (strings : List ℕ) (versions : Option Versions) where
      named_moved : (kind : ReferenceKind) (one : ℕ × Symbol) (r : Result Bound BindingFault) →
          IsNamedBound f xs strings versions kind one r → IsNamedBound g ys strings versions kind one r
      named_moved kind one r h = (h.0, h.1, h.2, h.3, bound_moved kind one.1 h.0 h.2 r h.4)

      symbol_moved : (kind : ReferenceKind) (one : ℕ × Symbol) (r : Result Bound SymbolFault) →
          IsSymbolBound f xs strings versions kind one r → IsSymbolBound g ys strings versions kind one r
      symbol_moved kind one (Ok bound) h = named_moved kind one (Ok bound) h
      symbol_moved kind one (Err (Name e)) h = h
      symbol_moved kind one (Err (Version e)) h = h
      symbol_moved kind one (Err (Object fault)) h = named_moved kind one (Err fault) h

      if_moved : (used : Bool) (kind : ReferenceKind) (one : ℕ × Symbol) (o : Option (Result Bound SymbolFault)) →
          IsBoundIf used (IsSymbolBound f xs strings versions kind one) o → IsBoundIf used (IsSymbolBound g ys strings versions kind one) o
      if_moved used kind one None h = h
      if_moved used kind one (Some r) h = (h.0, symbol_moved kind one r h.1)

      kinds_moved : (kinds : SymbolUses) (one : ℕ × Symbol) (b : SymbolBinding) → AreKindsBound f xs strings versions kinds one b →
          AreKindsBound g ys strings versions kinds one b
      kinds_moved kinds one b h = (if_moved kinds.jump_slot JumpSlot one b.jump_slot h.0, if_moved kinds.address Address one b.address h.1, if_moved kinds.copied Copied one b.copied h.2)

      all_moved : (uses : List SymbolUses) (symbols : List (ℕ × Symbol)) (all : List SymbolBinding) → AreAllBound f xs strings versions uses symbols all →
          AreAllBound g ys strings versions uses symbols all
      all_moved uses symbols all h = (
        h.0,
        λ k less. IfSome_then (slice_get symbols k) (h.1 k less)
            (λ one. some_weaker (IsBoundBy f xs strings versions uses one) (IsBoundBy g ys strings versions uses one) (λ b. kinds_moved (kinds_of one.1 (uses_at uses one.0)) one b) (slice_get all k)),
      )

    pub uses_moved : (paths : List (List ℕ)) (all : List VersionedObject) (path : List ℕ) (symbols : Table × List ℕ) (versions : Option Versions) (read : Result (List SymbolUses) UsesError) (said : List Said) →
        AreSymbolsSaid f xs paths all path symbols versions read said → AreSymbolsSaid g ys paths all path symbols versions read said
    uses_moved paths all path symbols versions read said h = (h.0, h.1, h.2, all_moved symbols.1 versions h.0 (looked_up symbols.0 h.0) h.2 h.3, h.4)
