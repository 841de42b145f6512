-- The names of sections in headings, for people.
use Rattle.std.specs.Prelude.{ℕ, List, [], ◌∷◌, Option, Some, codes, unwrap_or}
use Rattle.elf.specs.Names.{name_table}
use Rattle.elf.specs.ObjectFile.{ObjectFile}
use Rattle.nugwier_report.specs.Reading.{if_read}
use Rattle.nugwier_layouts.specs.Members.{Members, number_content, number, text}

-- the names of the sections, if they can be read
abbrev pub known_names : ObjectFile → Option (List ℕ)
known_names file = if_read (name_table file)

-- the strings that have them, or none if they cannot be read
abbrev pub name_bytes : ObjectFile → List ℕ
name_bytes file = unwrap_or (known_names file) []

-- of section k with this name
abbrev pub heading_members : ℕ → List ℕ → Members
heading_members k name = (codes "section", number k) ∷ (codes "name", text (Some name)) ∷ []

-- of section k with this name, above this number of rows
abbrev pub counted_members : ℕ → List ℕ → Option ℕ → Members
counted_members k name count =
    (codes "section", number k) ∷ (codes "name", text (Some name)) ∷ (codes "count", number_content count) ∷ []

-- the number of rows
abbrev pub count_members : ℕ → Members
count_members count = (codes "count", number count) ∷ []
