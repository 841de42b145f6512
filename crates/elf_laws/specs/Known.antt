-- The headers of two files that are written.
use Rattle.std.specs.Prelude.{ℕ, List, ◌++◌}
use Rattle.elf_records.specs.declared.endian.AnyEndian.{AnyEndian}
use Rattle.elf_records.specs.declared.endian.AnyEndian.TheVariants.{Little}
use Rattle.elf_records.specs.declared.file.Class.TheVariants.{ELF32, ELF64}
use Rattle.elf_records.specs.declared.file.FileHeader.{FileHeader}
use Rattle.elf_records.specs.declared.section.SectionHeader.{SectionHeader}
use Rattle.elf_records.specs.declared.segment.ProgramHeader.{ProgramHeader}
use Rattle.elf_laws.specs.Files.{elsewhere, header_of_tables, in_eight, in_four, in_two, loaded_segment, zeros}

-- the header of the file with two sections, and with another e_shstrndx
abbrev pub two_header_with : ℕ → FileHeader AnyEndian
two_header_with shstrndx = record {
  class = ELF32;
  endianness = Little;
  version = 0;
  osabi = 0;
  abiversion = 0;
  e_type = 0;
  e_machine = 0;
  e_entry = 0;
  e_phoff = 0;
  e_shoff = 56;
  e_flags = 0;
  e_ehsize = 0;
  e_phentsize = 0;
  e_phnum = 0;
  e_shentsize = 40;
  e_shnum = 2;
  e_shstrndx = shstrndx;
}

-- the first of its section headers, all of whose fields are 0, and the second
abbrev pub null_header : SectionHeader
null_header = record {
  sh_name = 0;
  sh_type = 0;
  sh_flags = 0;
  sh_addr = 0;
  sh_offset = 0;
  sh_size = 0;
  sh_link = 0;
  sh_info = 0;
  sh_addralign = 0;
  sh_entsize = 0;
}

abbrev pub names_header : SectionHeader
names_header = record {
  sh_name = 1;
  sh_type = 3;
  sh_flags = 0;
  sh_addr = 0;
  sh_offset = 52;
  sh_size = 4;
  sh_link = 0;
  sh_info = 0;
  sh_addralign = 1;
  sh_entsize = 0;
}

-- a file of one section and one segment, both of whose numbers are in the first section header
abbrev pub extended_header : FileHeader AnyEndian
extended_header = record {
  class = ELF64;
  endianness = Little;
  version = 0;
  osabi = 0;
  abiversion = 0;
  e_type = 0;
  e_machine = 0;
  e_entry = 0;
  e_phoff = 128;
  e_shoff = 64;
  e_flags = 0;
  e_ehsize = 0;
  e_phentsize = 56;
  e_phnum = 0xffff;
  e_shentsize = 64;
  e_shnum = 0;
  e_shstrndx = 0;
}

abbrev pub extended_section : SectionHeader
extended_section = record null_header { sh_size = 1; sh_info = 1 }

abbrev pub extended_segment : ProgramHeader
extended_segment = record {
  p_type = 1;
  p_offset = 0;
  p_vaddr = 0x400000;
  p_paddr = 0x400000;
  p_filesz = 4;
  p_memsz = 8;
  p_flags = 5;
  p_align = 4096;
}

abbrev pub extended_file : List ℕ
extended_file =
    header_of_tables (in_eight 128 ++ in_eight 64) (in_two 56 ++ elsewhere) (in_two 64 ++ zeros 4)
    ++ zeros 32 ++ in_eight 1 ++ zeros 4 ++ in_four 1 ++ zeros 16
    ++ loaded_segment
