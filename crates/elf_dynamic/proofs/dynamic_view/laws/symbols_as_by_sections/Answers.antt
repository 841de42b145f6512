use Rattle.std.proofs.Common.{◌≡◌, List, ℕ, Option, Some, Result, Ok, Err, refl}
use Rattle.elf_dynamic.proofs.dynamic_view.laws.symbols_as_by_sections.Goals as goal
use Rattle.elf_dynamic.specs.declared.dynamic_view.error.DynamicError.{DynamicError}
use Rattle.elf.specs.ObjectFile.{err_map, table_of}
use Rattle.elf_dynamic.specs.dynamic_view.Entries.{read_error}
use Rattle.elf_records.specs.Number.{ok_map}
use Rattle.elf_records.specs.Record.{◌>>=◌}
use Rattle.elf_records.specs.Table.{Table}

-- both ranges are read in the same order
abbrev pair : Table → List ℕ → Table × List ℕ
pair symbols names = (symbols, names)

read_alike : {E : Type 0} (to : E → DynamicError) (table : List ℕ → Table) (a b : Result (List ℕ) E) → ok_map {A = Table × List ℕ} {B = Option (Table × List ℕ)} Some (ok_map table (err_map to a) >>= λ symbols. err_map to b >>= λ names. Ok (pair symbols names)) ≡ err_map to (ok_map {A = Table × List ℕ} {B = Option (Table × List ℕ)} Some (a >>= λ symbols. b >>= λ names. Ok (pair (table symbols) names)))
read_alike to table (Ok a) (Ok b) = refl
read_alike to table (Ok a) (Err e) = refl
read_alike to table (Err e) b = refl

pub returns : goal.returns
returns c = λ x file entries s linked agree.
    rw (agree.sections, agree.symbols, agree.strings) (read_alike (read_error x) (table_of file) (file.range s.sh_offset s.sh_size) (file.range linked.sh_offset linked.sh_size))
