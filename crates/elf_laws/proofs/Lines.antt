-- The lines of symbols whose names can be read.
use Rattle.std.proofs.Common.{◌≡◌, ℕ, suc, ◌+◌, List, [], ◌∷◌, length, Option, Some, None, Result, Ok, Err, codes, refl, ap, ◌∙◌}
use Rattle.std.specs.Fmt.{decimal}
use Rattle.std.specs.Result.{IsOk, result_unwrap_or}
use Rattle.elf_records.specs.Number.{ok_map}
use Rattle.elf_records.specs.StringTable.{string_at}
use Rattle.elf_records.specs.Symbol.{symbol_reads}
use Rattle.elf_records.specs.declared.file.FileHeader.{FileHeader}
use Rattle.elf_records.specs.declared.parse.ParseError.{ParseError}
use Rattle.elf_records.specs.declared.symbol.Symbol.{Symbol}
use Rattle.elf_records.specs.Table.{Table, table_items}
use Rattle.elf.specs.Answers.{dynamic_symbol_table, symbol_table}
use Rattle.elf.specs.ObjectFile.{ObjectFile}
use Rattle.elfshow.specs.Question.{DynSyms, Symbols}
use Rattle.elfshow.specs.Text.{symbols_text, unless_none}
use Rattle.elfshow_lines.specs.Counted.{end_line, numbered_lines}
use Rattle.elfshow_lines.specs.Name.{name_read}
use Rattle.elfshow_lines.specs.Pieces.{◌⧺◌, escaped_text, newline}
use Rattle.elfshow_lines.specs.Symbols.{symbol_fields, symbol_line}
use Rattle.elf_check.specs.Symbols.{AllNamed, name_of, with_names}
use Rattle.elf_laws.specs.Answers.{IsAnswered}
use Rattle.elf_laws.specs.Named.{named_line, named_text}

pub name_shown : (r : Result (List ℕ) ParseError) → IsOk r → name_read r ≡ codes "name=" ⧺ escaped_text (result_unwrap_or r [])
name_shown (Ok name) h = refl
name_shown (Err e) h = cc

line_same : (strings : List ℕ) (k : ℕ) (s : Symbol) → IsOk (string_at strings s.st_name) → symbol_line strings k s ≡ named_line k (s, name_of strings s)
line_same strings k s h =
    ap (λ (name : List ℕ). codes "symbol " ⧺ decimal k ⧺ codes " " ⧺ name ⧺ symbol_fields s ⧺ newline) (name_shown (string_at strings s.st_name) h)

numbered_same : (strings : List ℕ) (k : ℕ) (xs : List Symbol) → AllNamed strings xs → numbered_lines (symbol_line strings) k xs ≡ numbered_lines named_line k (with_names strings xs)
numbered_same strings k [] all = refl
numbered_same strings k (x ∷ xs) all =
    let rest = numbered_same strings (k + 1) xs (λ i s e. all (suc i) s e) in
    let here = line_same strings k x (all 0 x refl) in
    ap (λ (line : List ℕ). line ⧺ numbered_lines (symbol_line strings) (k + 1) xs) here ∙ ap (λ (lines : List ℕ). named_line k (x, name_of strings x) ⧺ lines) rest

pub count_same : (strings : List ℕ) (xs : List Symbol) → length xs ≡ length (with_names strings xs)
count_same strings [] = refl
count_same strings (x ∷ xs) = ap suc (count_same strings xs)

text_same : (found : Table × List ℕ) → AllNamed found.1 (table_items symbol_reads found.0) → symbols_text found ≡ named_text found
text_same found all =
    let xs = table_items symbol_reads found.0 in
    ap (λ (lines : List ℕ). lines ⧺ end_line (length xs)) (numbered_same found.1 0 xs all)
    ∙ ap (λ (n : ℕ). numbered_lines named_line 0 (with_names found.1 xs) ⧺ end_line n) (count_same found.1 xs)

-- the answer of the call, where the symbols have names
answer_same : (r : Result (Option (Table × List ℕ)) ParseError) (o : Option (Table × List ℕ)) → r ≡ Ok o → ((found : Table × List ℕ) → o ≡ Some found → AllNamed found.1 (table_items symbol_reads found.0)) →
    IsOk (ok_map (unless_none symbols_text) r) × (ok_map (unless_none symbols_text) r ≡ ok_map (unless_none named_text) r)
answer_same (Ok None) o e all = (refl, refl)
answer_same (Ok (Some found)) o e all = (refl, ap (λ (text : List ℕ). Ok text) (text_same found (all found (cc))))
answer_same (Err d) o e all = absurd (cc e)

pub symbols_answered : {E : Type 0} (header : FileHeader E) (file : ObjectFile) (o : Option (Table × List ℕ)) → symbol_table file ≡ Ok o → ((found : Table × List ℕ) → o ≡ Some found → AllNamed found.1 (table_items symbol_reads found.0)) → IsAnswered header file Symbols
symbols_answered header file o e all = let r = answer_same (symbol_table file) o e all in record { ok = r.0; same = r.1 }

pub dynsyms_answered : {E : Type 0} (header : FileHeader E) (file : ObjectFile) (o : Option (Table × List ℕ)) → dynamic_symbol_table file ≡ Ok o → ((found : Table × List ℕ) → o ≡ Some found → AllNamed found.1 (table_items symbol_reads found.0)) → IsAnswered header file DynSyms
dynsyms_answered header file o e all = let r = answer_same (dynamic_symbol_table file) o e all in record { ok = r.0; same = r.1 }
