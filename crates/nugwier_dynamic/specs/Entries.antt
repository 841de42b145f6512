-- What is said of the dynamic entries of a file, and of the libraries and search paths that they name.
use Rattle.std.specs.Prelude.{ℕ, List, [], ◌∷◌, ◌++◌, length, Option, Some, None, Result, Ok, Err, codes}
use Rattle.std.specs.Fmt.{◌++?◌}
use Rattle.std.specs.Option.{option_map}
use Rattle.std.specs.Result.{result_ok}
use Rattle.elf_records.specs.Number.{ok_map}
use Rattle.elf_records.specs.Texts.{digits_of, words}
use Rattle.elf_records.specs.declared.dynamic.Dyn.{Dyn}
use Rattle.elf_records.specs.declared.parse.ParseError.{ParseError}
use Rattle.elf.specs.Answers.{dynamic}
use Rattle.elf.specs.ObjectFile.{ObjectFile}
use Rattle.elf_dynamic.specs.dynamic_view.Entries.{entries_in}
use Rattle.elf_linking.specs.Needed.{strings_by}
use Rattle.elf_linking.specs.Texts.{names_text}
use Rattle.elf_linking.specs.declared.needed.NamesError.{NamesError}
use Rattle.elf_linking.specs.declared.needed.NamesError.TheVariants as error
use Rattle.nugwier_report.specs.Headings.{count_members}
use Rattle.nugwier_report.specs.Reading.{answer_said}
use Rattle.nugwier_dynamic.specs.EntryRows.{entry_said, needed_said}
use Rattle.nugwier_report.specs.Said.{Said, numbered, states, warns, whole}
use Rattle.nugwier_report.specs.declared.problem.Part.TheVariants.{Dynamic, DynamicStrings}
use Rattle.nugwier_layouts.specs.Layouts.{constant}
use Rattle.nugwier_layouts.specs.declared.layouts.TheConstants as layout

-- the machine, the entries up to DT_NULL, and the strings that they name
abbrev pub Entries : Type 0
Entries = ℕ × List Dyn × Result (List ℕ) NamesError

-- those of a file for this machine, if it has any; the strings are found by their address
abbrev pub entries_of : ℕ → ObjectFile → Result (Option Entries) ParseError
entries_of machine file =
    ok_map (option_map (λ table. (machine, entries_in table, strings_by file (entries_in table)))) (dynamic file)

-- ---- the strings

-- why they cannot be found. Of a whole file no bytes are missing, and no memory is needed for them.
abbrev pub strings_text : NamesError → Option (List ℕ)
strings_text error.NoAddress = words (codes "no entry DT_STRTAB gives their address")
strings_text error.NoSize = words (codes "no entry DT_STRSZ gives their size")
strings_text (error.NotLoaded address) =
    words (codes "no segment of type PT_LOAD has them at 0x") ++? digits_of address
strings_text e = names_text e

-- that they cannot be found
abbrev pub strings_missed : Result (List ℕ) NamesError → List Said
strings_missed (Ok strings) = []
strings_missed (Err e) = warns (whole DynamicStrings) (strings_text e) ∷ []

-- ---- what is said

-- of each entry, under a heading
abbrev pub each_said : Entries → List Said
each_said (machine, entries, strings) =
    strings_missed strings
    ++ states (constant layout.ENTRIES_HEADING) (count_members (length entries)) ∷ []
    ++ numbered (entry_said machine (result_ok strings)) 0 entries

-- of the entries that name a library or a search path, if there are strings
abbrev pub needed_if : ℕ → List Dyn → Option (List ℕ) → List Said
needed_if machine entries None = []
needed_if machine entries (Some strings) = numbered (needed_said machine strings) 0 entries

abbrev pub names_said : Entries → List Said
names_said (machine, entries, strings) = strings_missed strings ++ needed_if machine entries (result_ok strings)

abbrev pub all_said : Result (Option Entries) ParseError → List Said
all_said entries = answer_said Dynamic [] each_said entries

abbrev pub all_names_said : Result (Option Entries) ParseError → List Said
all_names_said entries = answer_said Dynamic [] names_said entries

-- ---- of a file for a machine

-- its dynamic entries, if it has any
abbrev pub said_of_entries : ℕ → ObjectFile → List Said
said_of_entries machine file = all_said (entries_of machine file)

-- the libraries that it needs and their search paths
abbrev pub said_of_needed : ℕ → ObjectFile → List Said
said_of_needed machine file = all_names_said (entries_of machine file)
