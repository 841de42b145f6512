-- Calls about a sound file.
use Rattle.std.proofs.Common.{◌≡◌, ◌↔◌, ℕ, zero, suc, ◌<◌, Bool, List, [], ◌∷◌, Option, Some, None, Result, Ok, Err, length, slice_get, refl, sym, subst, arith}
use Rattle.std.specs.Prelude.{IsOk, IsSome}
use Rattle.std.specs.Option.{option_map}
use Rattle.std.specs.Result.{result_ok}
use Rattle.elf_records.specs.Number.{ok_map}
use Rattle.elf_records.specs.Record.{◌>>=◌}
use Rattle.elf_records.specs.StringTable.{string_at}
use Rattle.elf_records.specs.Symbol.{symbol_reads}
use Rattle.elf_records.specs.Table.{Table, table_get, table_len}
use Rattle.elf_records.specs.declared.parse.ParseError.{ParseError}
use Rattle.elf_records.specs.declared.section.SectionHeader.{SectionHeader}
use Rattle.elf_records.specs.declared.symbol.Symbol.{Symbol}
use Rattle.elf_parts.specs.Hash.{named_symbol, symbol_at}
use Rattle.elf.specs.Answers.{first_symbols, symbol_version_table}
use Rattle.elf.specs.ObjectFile.{ObjectFile}
use Rattle.elf_check.specs.Sections.{name_in}
use Rattle.elf_c.specs.Check.{AreSymbolsRead, Succeeds}
use Rattle.elf_c.specs.Symbols.{symbols_type}

pub succeeds : {A : Type 0} (r : Result A ParseError) → IsOk r → Succeeds r
succeeds (Ok x) ok = refl
succeeds (Err e) ok = absurd (cc ok)

-- what is listed can be read
pub listed : {A : Type 0} (r : Result A ParseError) (xs : List A) (i : ℕ) → slice_get xs i ≡ result_ok r → i < length xs → IsOk r
listed r [] i is less = absurd (omega (arith, less))
listed (Ok x) (y ∷ xs) i is less = refl
listed (Err e) (y ∷ xs) zero is less = absurd (cc is)
listed (Err e) (y ∷ xs) (suc i) is less = listed (Err e) xs i is (omega (arith, less))

pub ok_if : {A : Type 0} {r : Result A ParseError} {x : A} → r ≡ Ok x → IsOk r
ok_if {A} {r} is = subst (λ (o : Result A ParseError). IsOk o) (sym is) refl

-- a value that is shown another way
pub mapped : {A B : Type 0} (f : A → B) (r : Result A ParseError) → IsOk r → IsOk (ok_map f r)
mapped f (Ok x) ok = refl
mapped f (Err e) ok = absurd (cc ok)

inside : {A B : Type 0} (f : A → B) (r : Result A ParseError) → IsOk (ok_map f r) → IsOk r
inside f (Ok x) ok = refl
inside f (Err e) ok = absurd (cc ok)

-- the name of a section
pub name_read : (names : Result (Option (List ℕ)) ParseError) (s : SectionHeader) (strings : List ℕ) → names ≡ Ok (Some strings) → IsOk (names >>= name_in s) → IsOk (string_at strings s.sh_name)
name_read names s strings is ok =
    let P : Result (Option (List ℕ)) ParseError → Type 0 = λ r. IsOk (r >>= name_in s) in
    inside Some (string_at strings s.sh_name) (subst P is ok)

-- a symbol that is found can be read with its name
pub found : {A B : Type 0} {P : Type 0} (show : B → A) (o : Option B) (r : Result A ParseError) → option_map show o ≡ result_ok r → IsSome o ↔ P → P → IsOk r
found show (Some x) (Ok y) is both p = refl
found show (Some x) (Err e) is both p = absurd (cc is)
found show None r is both p = absurd (cc (both.1 p))

after : {A B : Type 0} (r : Result A ParseError) (f : A → Result B ParseError) → IsOk (r >>= f) → IsOk r
after (Ok x) f ok = refl
after (Err e) f ok = absurd (cc ok)

symbol_read : (symbols : Table) (strings : List ℕ) (i : ℕ) → IsOk (named_symbol symbols strings i) → IsOk (table_get symbol_reads symbols i)
unfolding named_symbol
symbol_read symbols strings i ok =
    after (symbol_at symbols i) (λ (symbol : Symbol). string_at strings symbol.st_name >>= λ name. Ok (symbol, name)) ok

string_read : (symbols : Table) (strings : List ℕ) (i : ℕ) (symbol : Symbol) → table_get symbol_reads symbols i ≡ Ok symbol → IsOk (named_symbol symbols strings i) → IsOk (string_at strings symbol.st_name)
unfolding named_symbol
string_read symbols strings i symbol is ok =
    let named : Symbol → Result (Symbol × List ℕ) ParseError = λ (s : Symbol). string_at strings s.st_name >>= λ name. Ok (s, name) in
    let P : Result Symbol ParseError → Type 0 = λ r. IsOk (r >>= named) in
    after (string_at strings symbol.st_name) (λ (name : List ℕ). Ok (symbol, name)) (subst P is ok)

module _ (file : ObjectFile) (dynamic : Bool) (i : ℕ) where
  pub none_read : IsOk (symbol_version_table file) → first_symbols (symbols_type dynamic) file ≡ Ok None → AreSymbolsRead file dynamic i
  none_read known is = record {
    versions = succeeds (symbol_version_table file) known;
    table = succeeds (first_symbols (symbols_type dynamic) file) (ok_if is);
    symbol = λ symbols strings same less. absurd (cc (is, same));
    name = λ symbols strings symbol same less get. absurd (cc (is, same));
  }

  pub some_read : IsOk (symbol_version_table file) → (table : Table × List ℕ) → first_symbols (symbols_type dynamic) file ≡ Ok (Some table) → (i < table_len symbol_reads table.0 → IsOk (named_symbol table.0 table.1 i)) → AreSymbolsRead file dynamic i
  some_read known table is named =
      let P : Table × List ℕ → Type 0 = λ one. i < table_len symbol_reads one.0 → IsOk (named_symbol one.0 one.1 i) in
      record {
        versions = succeeds (symbol_version_table file) known;
        table = succeeds (first_symbols (symbols_type dynamic) file) (ok_if is);
        symbol = λ symbols strings other less.
            let same : table ≡ (symbols, strings) = cc (is, other) in
            succeeds (table_get symbol_reads symbols i) (symbol_read symbols strings i (subst P same named less));
        name = λ symbols strings symbol other less get.
            let same : table ≡ (symbols, strings) = cc (is, other) in
            succeeds (string_at strings symbol.st_name) (string_read symbols strings i symbol get (subst P same named less));
      }
