-- Lists of symbols whose names can be read.
use Rattle.std.proofs.Common.{◌≡◌, ℕ, ◌+◌, List, [], ◌∷◌, drop, Some, Result, Ok, ap, sym, ◌∙◌}
use Rattle.std.specs.List.{slice_get}
use Rattle.std.specs.Result.{result_ok, result_unwrap_or}
use Rattle.elf_records.specs.Record.{◌>>=◌}
use Rattle.elf_records.specs.StringTable.{string_at}
use Rattle.elf_records.specs.Symbol.{symbol_reads}
use Rattle.elf_records.specs.inner.RecordLaws.{bind-ok}
use Rattle.elf_records.specs.declared.parse.ParseError.{ParseError}
use Rattle.elf_records.specs.declared.symbol.Symbol.{Symbol}
use Rattle.elf_records.specs.Table.{Table, table_get, table_items}
use Rattle.elf_parts.specs.Hash.{named_symbol, symbol_at}
use Rattle.elf_check.specs.Symbols.{AllNamed, SoundSymbolTable, with_names}
use Rattle.elf_check.proofs.Relocated.{drop_here}
use Rattle.elf_check.proofs.Tables.{ok_from_some}

-- the next one, with its name
pub next_named : (t : Table) (strings : List ℕ) (next : ℕ) (found : Symbol × List ℕ) → slice_get (table_items symbol_reads t) next ≡ result_ok (symbol_at t next) → Some found ≡ result_ok (named_symbol t strings next) → with_names strings (drop next (table_items symbol_reads t)) ≡ found ∷ with_names strings (drop (next + 1) (table_items symbol_reads t))
unfolding named_symbol
next_named t strings next found listed e =
    let xs = table_items symbol_reads t in
    let a = bind-ok {A = Symbol} {B = Symbol × List ℕ} (symbol_at t next) (λ symbol. string_at strings symbol.st_name >>= λ name. Ok (symbol, name)) found (ok_from_some (named_symbol t strings next) found (sym e)) in
    let b = bind-ok {A = List ℕ} {B = Symbol × List ℕ} (string_at strings a.0.st_name) (λ name. Ok (a.0, name)) found a.2 in
    let same : (a.0, b.0) ≡ found = cc b.2 in
    ap (with_names strings) (drop_here xs next a.0 (listed ∙ ap result_ok a.1))
    ∙ ap (λ (r : Result (List ℕ) ParseError). (a.0, result_unwrap_or r []) ∷ with_names strings (drop (next + 1) xs)) b.1
    ∙ ap (λ (pair : Symbol × List ℕ). pair ∷ with_names strings (drop (next + 1) xs)) same

-- of a table that is sound
pub named_items : (sections : ℕ) (t : Table) (strings : List ℕ) → ((i : ℕ) → slice_get (table_items symbol_reads t) i ≡ result_ok (table_get symbol_reads t i)) → SoundSymbolTable sections t strings → AllNamed strings (table_items symbol_reads t)
named_items sections t strings listed sound = λ i symbol e.
    (sound i symbol (ok_from_some (table_get symbol_reads t i) symbol (sym (listed i) ∙ e))).name
