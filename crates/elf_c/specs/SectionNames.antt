-- The names of sections as C sees them.
use Rattle.std.specs.Prelude.{ℕ, false, if◌then◌else◌, List, Option, Some, None}
use Rattle.elf_c.specs.declared.section_names.NugwierSectionNames.{NugwierSectionNames}

abbrev pub names_view : NugwierSectionNames → Option (List ℕ)
names_view n = if n.found then Some n.strings.now else None

-- the same struct, with nothing found
abbrev pub no_names_in : NugwierSectionNames → NugwierSectionNames
no_names_in n = record n { found = false }

-- the value, or this one if there is none
abbrev pub some_or : {A : Type 0} → A → Option A → A
some_or other None = other
some_or other (Some x) = x
