-- The dynamic entries of a file, by its segment of type PT_DYNAMIC, and their values by tag (gABI, chapter "Dynamic
-- Section").
use Rattle.std.specs.Prelude.{◌≡◌, ℕ, ◌==◌, not, ℤ, List, [], filter, map, if◌then◌else◌, Option, None}
use Rattle.std.specs.Prelude.{Result, Ok, Err, ok_or}
use Rattle.std.specs.List.{last_or, take_while}
use Rattle.elf_abi.specs.Values.{dt_null, pt_dynamic}
use Rattle.elf_records.specs.Dynamic.{d_un_view, dyn_reads, has_tag}
use Rattle.elf_records.specs.Record.{◌>>=◌}
use Rattle.elf_records.specs.Table.{Table, items_left, table_items}
use Rattle.elf_records.specs.declared.dynamic.Dyn.{Dyn}
use Rattle.elf_reading.specs.Refusals.{Kind, kind}
use Rattle.elf.specs.Answers.{segment_dynamic}
use Rattle.elf.specs.Headers.{first_segment_of, if_found}
use Rattle.elf.specs.ObjectFile.{ErrorOf, Extent, FileOf, Partial, Whole, err_map}
use Rattle.elf.specs.declared.read_error.ReadError.TheVariants.{Parse, NotLoaded as NotRead}
use Rattle.elf_dynamic.specs.declared.dynamic_view.entries.TagValues.{TagValues}
use Rattle.elf_dynamic.specs.declared.dynamic_view.error.DynamicError.{DynamicError}
use Rattle.elf_dynamic.specs.declared.dynamic_view.error.DynamicError.TheVariants.{EntrySize, Missing, NoEntry, Read}

-- ---- errors

-- why something cannot be read
abbrev pub read_error : (x : Extent) → ErrorOf x → DynamicError
read_error Whole e = Read e
read_error Partial (Parse e) = Read e
read_error Partial (NotRead range) = Missing range

-- an error of parsing is one that bytes can have: the source and memory had no part in it
abbrev pub IsPlainError : DynamicError → Type 0
IsPlainError (Read e) = kind e ≡ Kind.Refusal
IsPlainError e = Unit {0}

-- ---- the entries

-- the entries up to the first with the tag DT_NULL, which ends the table
abbrev pub before_null : List Dyn → List Dyn
before_null entries = take_while (λ entry. not (has_tag dt_null entry)) entries

abbrev pub entries_in : Table → List Dyn
entries_in table = before_null (table_items dyn_reads table)

-- the table of the first segment of type PT_DYNAMIC, if there is one
abbrev pub dynamic_table : {x : Extent} → FileOf x → Result (Option Table) DynamicError
dynamic_table {x} file =
    err_map (read_error x) (if_found (segment_dynamic file) (first_segment_of pt_dynamic file.segments))

-- ---- their values, each a number or an address

-- the values of the entries with a tag, in order
abbrev pub values_of : ℤ → List Dyn → List ℕ
values_of tag entries = map d_un_view (filter (has_tag tag) entries)

-- The value of a tag. Of several entries with a tag that only one should have the last counts, as for the dynamic
-- linkers of GNU and musl.
abbrev pub value_of : ℤ → List Dyn → Option ℕ
value_of tag entries = last_or None (values_of tag entries)

-- the same of an entry that there has to be
abbrev pub required : ℤ → List Dyn → Result ℕ DynamicError
required tag entries = ok_or (value_of tag entries) (NoEntry tag)

-- the size of a record that an entry gives, if it is the one of the file's class
abbrev pub entry_size : ℤ → ℕ → List Dyn → Result ℕ DynamicError
entry_size tag size entries =
    required tag entries >>= λ found. if found == size then Ok size else Err (EntrySize tag found size)

-- the values that an iterator has left to yield
abbrev pub values_left : {E : Type 0} → TagValues E → List ℕ
values_left s = if s.ended then [] else values_of s.tag (before_null (items_left dyn_reads s.entries))
