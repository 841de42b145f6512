-- The view of an opened file: its header as it is now, its bytes, and the two tables that it declares.
use Rattle.std.specs.Option.{option_map}
use Rattle.elf_records.specs.Table.{table_view}
use Rattle.elf_records.specs.declared.file.FileHeader.{FileHeader}
use Rattle.elf.specs.declared.elf_bytes.ElfBytes.{ElfBytes}
use Rattle.elf_reading.specs.Opening.{FileView}

-- what an `ElfBytes` shows
abbrev pub view : {E : Type 0} → ElfBytes E → FileView E
view file = record {
  ehdr = file.ehdr;
  bytes = file.«data».now;
  sections = option_map table_view file.shdrs;
  segments = option_map table_view file.phdrs;
}

-- the same with another header: `ehdr` may be changed
abbrev pub with_header : {E : Type 0} → FileView E → FileHeader E → FileView E
with_header v header = record v { ehdr = header }
