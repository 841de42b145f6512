-- The names that the dynamic entries of a file give (gABI, chapter "Dynamic Section"), as C sees them.
use Rattle.std.specs.Prelude.{◌≡◌, ℕ, not, false, if◌then◌else◌, ℤ, List, [], ◌∷◌, drop, filter}
use Rattle.std.specs.Prelude.{Option, Some, None, Result, Ok}
use Rattle.std.specs.List.{take_while}
use Rattle.elf_abi.specs.Values.{dt_null}
use Rattle.elf_records.specs.Dynamic.{d_un_view, dyn_reads, has_tag}
use Rattle.elf_records.specs.Number.{ok_map}
use Rattle.elf_records.specs.Record.{◌>>=◌}
use Rattle.elf_records.specs.Table.{Table, table_items}
use Rattle.elf_records.specs.declared.dynamic.Dyn.{Dyn}
use Rattle.elf.specs.Answers.{dynamic}
use Rattle.elf.specs.Headers.{if_found}
use Rattle.elf.specs.ObjectFile.{Extent, FileOf, err_map}
use Rattle.elf_dynamic.specs.dynamic_view.Entries.{entries_in}
use Rattle.elf_linking.specs.Needed.{is_library, name_of, name_with as name_in, read_error, strings_by}
use Rattle.elf_linking.specs.declared.needed.NamesError.{NamesError}
use Rattle.elf_c.specs.Tables.{table_of_c}
use Rattle.elf_c.specs.declared.dynamic_names.NugwierDynamicNames.{NugwierDynamicNames}
use Rattle.elf_c.specs.declared.dynamic_names.NugwierNeeded.{NugwierNeeded}

-- the dynamic entries of a file with the strings that they name, if it has any
abbrev pub dynamic_names : {x : Extent} → FileOf x → Result (Option (Table × List ℕ)) NamesError
dynamic_names {x} file =
    err_map (read_error x) (dynamic file) >>= if_found (λ entries.
    ok_map (λ strings. (entries, strings)) (strings_by file (entries_in entries)))

abbrev pub names_pair : NugwierDynamicNames → Table × List ℕ
names_pair n = (table_of_c n.entries, n.strings.now)

abbrev pub dynamic_names_view : NugwierDynamicNames → Option (Table × List ℕ)
dynamic_names_view n = if n.found then Some (names_pair n) else None

-- the same struct, with nothing found
abbrev pub no_dynamic_names_in : NugwierDynamicNames → NugwierDynamicNames
no_dynamic_names_in n = record n { found = false }

-- the name that a tag gives, if an entry has it
abbrev pub name_with : ℤ → NugwierDynamicNames → Result (Option (List ℕ)) NamesError
name_with tag n = name_in n.strings.now tag (entries_in (table_of_c n.entries))

-- ---- the libraries that are loaded with the file

-- the entries of these, from entry number n on up to the next DT_NULL; from 0 on they are all of them
abbrev pub libraries_left : Table → ℕ → List Dyn
libraries_left entries n =
    filter is_library (take_while (λ entry. not (has_tag dt_null entry)) (drop n (table_items dyn_reads entries)))

-- the tag of an entry and the library that it names
abbrev pub needed_of : List ℕ → Dyn → Result (ℤ × List ℕ) NamesError
needed_of strings entry = ok_map (λ name. (entry.d_tag, name)) (name_of strings (d_un_view entry))

-- those of the first entry, if there is one
abbrev pub first_needed : List ℕ → List Dyn → Result (Option (ℤ × List ℕ)) NamesError
first_needed strings [] = Ok None
first_needed strings (entry ∷ entries) = ok_map Some (needed_of strings entry)

-- what the library at entry number n or after it is
abbrev pub next_needed : NugwierDynamicNames → ℕ → Result (Option (ℤ × List ℕ)) NamesError
next_needed names n = first_needed names.strings.now (libraries_left (table_of_c names.entries) n)

-- the first of these entries, and the number from which on the others are left; or there is none
abbrev pub IsNextLibrary : Table → List Dyn → Option (Dyn × ℕ) → Type 0
IsNextLibrary entries left None = left ≡ []
IsNextLibrary entries left (Some found) = left ≡ found.0 ∷ libraries_left entries found.1

abbrev pub needed_view : NugwierNeeded → Option (ℤ × List ℕ)
needed_view n = if n.found then Some (n.tag, n.name.now) else None

abbrev pub no_needed_in : NugwierNeeded → NugwierNeeded
no_needed_in n = record n { found = false }
