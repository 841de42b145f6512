-- A table of headers as the file header declares it.
use Rattle.std.specs.Prelude.{ℕ, ◌==◌, if◌then◌else◌, Bool, List, Option, None, Some, Result, Ok}
use Rattle.elf_abi.specs.Values.{pn_xnum}
use Rattle.elf_records.specs.Number.{ok_map}
use Rattle.elf_records.specs.Record.{◌>>=◌}
use Rattle.elf_records.specs.Table.{Table, table_in}
use Rattle.elf_records.specs.declared.file.FileHeader.{FileHeader}
use Rattle.elf_records.specs.declared.parse.ParseError.{ParseError}
use Rattle.elf_records.specs.declared.section.SectionHeader.{SectionHeader}
use Rattle.elf_reading.specs.Opening.{first_section, table_bytes}
use Rattle.elf_reading.specs.declared.tables.CountWord.{CountWord}
use Rattle.elf_reading.specs.declared.tables.CountWord.TheVariants.{ShInfo, ShSize}
use Rattle.elf_reading.specs.declared.tables.DeclaredTable.{DeclaredTable}

-- that of the section headers, and that of the program headers
abbrev pub declared_sections : {E : Type 0} → FileHeader E → DeclaredTable
declared_sections h = record {
  offset = h.e_shoff;
  entsize = h.e_shentsize;
  count = h.e_shnum;
  extended = 0;
  word = ShSize;
}

abbrev pub declared_segments : {E : Type 0} → FileHeader E → DeclaredTable
declared_segments h = record {
  offset = h.e_phoff;
  entsize = h.e_phentsize;
  count = h.e_phnum;
  extended = pn_xnum;
  word = ShInfo;
}

-- the word of the first section header that has a count
abbrev pub count_word : CountWord → SectionHeader → ℕ
count_word ShSize first = first.sh_size
count_word ShInfo first = first.sh_info

-- the number of its records
abbrev pub declared_count :
    {E : Type 0} → (E → Bool) → FileHeader E → DeclaredTable → List ℕ → Result ℕ ParseError
declared_count little h table bytes =
    if table.count == table.extended then ok_map (count_word table.word) (first_section little h bytes)
    else Ok table.count

-- the table of records of this size
abbrev pub declared_table :
    {E : Type 0} → (E → Bool) → FileHeader E → ℕ → DeclaredTable →
    List ℕ → Result (Option Table) ParseError
declared_table little h size table bytes =
    if table.offset == 0 then Ok None
    else declared_count little h table bytes >>= λ count.
    table_bytes size table.entsize count table.offset bytes >>= λ part.
    Ok (Some (table_in (little h.endianness) h.class part))
