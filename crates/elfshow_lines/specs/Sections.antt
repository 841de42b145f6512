-- The lines of section headers.
use Rattle.std.specs.Prelude.{ℕ, List, codes, Option}
use Rattle.std.specs.Fmt.{decimal}
use Rattle.elf_records.specs.declared.section.SectionHeader.{SectionHeader}
use Rattle.elfshow_lines.specs.Pieces.{◌⧺◌, newline, hex}
use Rattle.elfshow_lines.specs.Name.{name_field}

-- what a section is, and its range
unfoldable pub place_fields : SectionHeader → List ℕ
place_fields s =
    codes "nameoff=" ⧺ decimal s.sh_name ⧺ codes " type=" ⧺ decimal s.sh_type ⧺ codes " flags=" ⧺ hex s.sh_flags
    ⧺ codes " addr=" ⧺ hex s.sh_addr ⧺ codes " offset=" ⧺ decimal s.sh_offset ⧺ codes " size=" ⧺ decimal s.sh_size

-- how a section is to be read
unfoldable pub reading_fields : SectionHeader → List ℕ
reading_fields s =
    codes " link=" ⧺ decimal s.sh_link ⧺ codes " info=" ⧺ decimal s.sh_info
    ⧺ codes " align=" ⧺ decimal s.sh_addralign ⧺ codes " entsize=" ⧺ decimal s.sh_entsize

abbrev pub section_fields : SectionHeader → List ℕ
section_fields s = place_fields s ⧺ reading_fields s

-- the line of section k, `names` being the strings that have its name
abbrev pub section_line : Option (List ℕ) → ℕ → SectionHeader → List ℕ
section_line names k s =
    codes "section " ⧺ decimal k ⧺ codes " " ⧺ name_field names s.sh_name ⧺ codes " " ⧺ section_fields s ⧺ newline

-- the line of a section that was looked up
abbrev pub found_line : SectionHeader → List ℕ
found_line s = codes "found " ⧺ section_fields s ⧺ newline
