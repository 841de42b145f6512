-- Relocations in order, each with the symbol that it names.
use Rattle.std.proofs.Common.{◌≡◌, ℕ, ◌+◌, ◌<◌, ◌^◌, List, ◌∷◌, length, drop, Option, Some, None, Result, Ok, Err, refl, ap, sym, ◌∙◌, subst}
use Rattle.std.proofs.lemmas.List.{drop_more}
use Rattle.std.proofs.lemmas.Option.{get_or_from_slice_get, slice_get-map, slice_get_within}
use Rattle.std.specs.List.{slice_get}
use Rattle.std.specs.Option.{IsSome, option_map}
use Rattle.std.specs.Result.{IsOk, result_ok}
use Rattle.elf_records.specs.Record.{◌>>=◌, RecordType}
use Rattle.elf_records.specs.StringTable.{string_at}
use Rattle.elf_records.specs.Symbol.{symbol_reads}
use Rattle.elf_records.specs.Table.{Table, table_get, table_items, table_len}
use Rattle.elf_records.specs.declared.parse.ParseError.{ParseError}
use Rattle.elf_records.specs.declared.section.SectionHeader.{SectionHeader}
use Rattle.elf_records.specs.declared.symbol.Symbol.{Symbol}
use Rattle.elf_parts.specs.Hash.{named_symbol, symbol_at}
use Rattle.elf.specs.Data.{content}
use Rattle.elf.specs.ObjectFile.{ObjectFile, table_of}
use Rattle.elf_check.specs.RelocationLists.{AllHaveSymbols, symbol_in, with_symbols}
use Rattle.elf_check.specs.Relocations.{SoundRelocations, linked_symbols}
use Rattle.elf_check.specs.Symbols.{SoundSymbolTable}
use Rattle.elf_check.specs.Sound.{IsSized}
use Rattle.elf_check.proofs.Linked.{relocation_inside}
use Rattle.elf_check.proofs.Tables.{ok_from_some, symbols_read}

-- ---- the next one of a list

pub drop_here : {A : Type 0} (xs : List A) (i : ℕ) (x : A) → slice_get xs i ≡ Some x → drop i xs ≡ x ∷ drop (i + 1) xs
drop_here xs i x e =
    drop_more xs i x (slice_get_within xs i x e) ∙ ap (λ y. y ∷ drop (i + 1) xs) (get_or_from_slice_get xs i x x e)

module _ {R : Type 0} (symbol_of : R → ℕ) (symbols : Option (Table × List ℕ)) where
  pub next_relocation : (rs : List R) (next : ℕ) (r : R) (found : Option (Symbol × List ℕ)) → slice_get rs next ≡ Some r → found ≡ symbol_in symbols (symbol_of r) → with_symbols symbol_of symbols (drop next rs) ≡ (r, found) ∷ with_symbols symbol_of symbols (drop (next + 1) rs)
  next_relocation rs next r found e same =
      ap (with_symbols symbol_of symbols) (drop_here rs next r e)
      ∙ ap (λ (y : Option (Symbol × List ℕ)). (r, y) ∷ with_symbols symbol_of symbols (drop (next + 1) rs)) (sym same)

-- ---- symbols that can be read with their names

bind_is_ok : {A B : Type 0} (r : Result A ParseError) (f : A → Result B ParseError) → IsOk r → ((x : A) → r ≡ Ok x → IsOk (f x)) → IsOk (r >>= f)
bind_is_ok (Ok x) f ok then = then x refl
bind_is_ok (Err e) f ok then = cc

pub named_read : (sections : ℕ) (t : Table) (strings : List ℕ) → length t.bytes < 2 ^ 64 → SoundSymbolTable sections t strings → (i : ℕ) → i < table_len symbol_reads t → IsOk (named_symbol t strings i)
unfolding named_symbol
named_read sections t strings small sound i less =
    bind_is_ok (symbol_at t i) (λ symbol. string_at strings symbol.st_name >>= λ name. Ok (symbol, name)) ((symbols_read t small i).1 less)
    (λ symbol e. bind_is_ok (string_at strings symbol.st_name) (λ name. Ok (symbol, name)) (sound i symbol e).name (λ name d. refl))

-- ---- each relocation has its symbol

pub mapped : {A B : Type 0} (f : A → B) (o : Option A) (y : B) → option_map f o ≡ Some y → (x : A) × (o ≡ Some x) × (f x ≡ y)
mapped f (Some x) y e = (x, refl, cc)
mapped f None y e = cc

some_from_ok : {A E : Type 0} (r : Result A E) → IsOk r → IsSome (result_ok r)
some_from_ok (Ok x) ok = refl
some_from_ok (Err e) ok = cc

pub all_have : {R : Type 0} (symbol_of : R → ℕ) (symbols : Table × List ℕ) (rs : List R) → ((i : ℕ) → i < table_len symbol_reads symbols.0 → IsOk (named_symbol symbols.0 symbols.1 i)) → ((i : ℕ) (r : R) → slice_get rs i ≡ Some r → symbol_of r < table_len symbol_reads symbols.0) → AllHaveSymbols (with_symbols symbol_of (Some symbols) rs)
all_have {R = R} symbol_of symbols rs read inside = λ i found e.
    let f : R → R × Option (Symbol × List ℕ) = λ r. (r, symbol_in (Some symbols) (symbol_of r)) in
    let m = mapped f (slice_get rs i) found (sym (slice_get-map f rs i) ∙ e) in
    subst (λ (x : R × Option (Symbol × List ℕ)). IsSome x.1) m.2
    (some_from_ok (named_symbol symbols.0 symbols.1 (symbol_of m.0)) (read (symbol_of m.0) (inside i m.0 m.1)))

-- those of a sound section that is linked to symbols
pub section_has : {R : Type 0} (reads : RecordType R) (symbol_of : R → ℕ) (file : ObjectFile) → IsSized file → (s : SectionHeader) (bytes : List ℕ) (symbols : Table × List ℕ) → SoundRelocations reads symbol_of file s → content file s ≡ Ok bytes → linked_symbols file s ≡ Ok (Some symbols) → ((i : ℕ) → slice_get (table_items reads (table_of file bytes)) i ≡ result_ok (table_get reads (table_of file bytes) i)) → ((i : ℕ) → i < table_len symbol_reads symbols.0 → IsOk (named_symbol symbols.0 symbols.1 i)) → AllHaveSymbols (with_symbols symbol_of (Some symbols) (table_items reads (table_of file bytes)))
section_has reads symbol_of file sized s bytes symbols sound there linked listed read =
    let t = table_of file bytes in
    all_have symbol_of symbols (table_items reads t) read
    (λ i r e. relocation_inside reads symbol_of file sized s bytes i r symbols sound there (ok_from_some (table_get reads t i) r (sym (listed i) ∙ e)) linked)
