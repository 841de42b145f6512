-- The versions of a file that is sound.
use Rattle.std.proofs.Common.{◌≡◌, ◌↔◌, ℕ, ◌<◌, List, length, Some, None, Result, Ok, subst, arith}
use Rattle.std.specs.Option.{IsSomeAnd}
use Rattle.std.specs.Result.{IsOk, IsOkAnd}
use Rattle.elf_records.specs.Symbol.{symbol_reads}
use Rattle.elf_records.specs.Table.{Table, table_items, table_len}
use Rattle.elf_parts.specs.gnu_symver.Records.{version_index_reads}
use Rattle.elf_parts.specs.gnu_symver.Table.{Versions, index_of}
use Rattle.elf.specs.Answers.{dynamic_symbol_table, symbol_version_table}
use Rattle.elf.specs.ObjectFile.{ObjectFile}
use Rattle.elf_check.proofs.SoundVersions.{both_sound}
use Rattle.elf_check.specs.Sound.{SoundFile}
use Rattle.elf_laws.proofs.SureLines.{IsSure, listed_shown}

at_ok : {A E : Type 0} (P : A → Type 0) (r : Result A E) (x : A) → r ≡ Ok x → IsOkAnd r P → P x
at_ok {A = A} {E = E} P r x e h = subst (λ (q : Result A E). IsOkAnd q P) e h

-- with symbols
pub sure_with : (file : ObjectFile) (symbols : Table × List ℕ) (v : Versions) (n : ℕ) → SoundFile file → dynamic_symbol_table file ≡ Ok (Some symbols) → symbol_version_table file ≡ Ok (Some v) → n ≡ table_len version_index_reads v.indexes → ((i : ℕ) → IsOk (index_of v i) ↔ (i < n)) → length (table_items symbol_reads symbols.0) ≡ table_len symbol_reads symbols.0 → IsSure (Some symbols) v
sure_with file symbols v n sound e d count reads all =
    let both = both_sound file v sound.versions d in
    let many = at_ok (λ found. IsSomeAnd found (λ (s : Table × List ℕ). table_len symbol_reads s.0 ≡ table_len version_index_reads v.indexes)) (dynamic_symbol_table file) (Some symbols) e both.many in
    listed_shown v (length (table_items symbol_reads symbols.0)) both.table (λ k less. (reads k).1 (omega (arith, less, all, many, count)))

-- without
pub not_without : (file : ObjectFile) (v : Versions) → SoundFile file → dynamic_symbol_table file ≡ Ok None → symbol_version_table file ≡ Ok (Some v) → ⊥
not_without file v sound e d =
    let both = both_sound file v sound.versions d in
    at_ok (λ found. IsSomeAnd found (λ (s : Table × List ℕ). table_len symbol_reads s.0 ≡ table_len version_index_reads v.indexes)) (dynamic_symbol_table file) None e both.many
