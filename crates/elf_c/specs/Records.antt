-- Records as C sees them: each field of the struct is that of the record.
use Rattle.elf_records.specs.Dynamic.{d_un_view}
use Rattle.elf_records.specs.declared.dynamic.Dyn.{Dyn}
use Rattle.elf_records.specs.declared.relocation.Rel.{Rel}
use Rattle.elf_records.specs.declared.relocation.Rela.{Rela}
use Rattle.elf_records.specs.declared.section.SectionHeader.{SectionHeader}
use Rattle.elf_records.specs.declared.segment.ProgramHeader.{ProgramHeader}
use Rattle.elf_records.specs.declared.symbol.Symbol.{Symbol}
use Rattle.elf_c.specs.declared.records.NugwierDynamic.{NugwierDynamic}
use Rattle.elf_c.specs.declared.records.NugwierRel.{NugwierRel}
use Rattle.elf_c.specs.declared.records.NugwierRela.{NugwierRela}
use Rattle.elf_c.specs.declared.records.NugwierSection.{NugwierSection}
use Rattle.elf_c.specs.declared.records.NugwierSegment.{NugwierSegment}
use Rattle.elf_c.specs.declared.records.NugwierSymbol.{NugwierSymbol}

abbrev pub symbol_shown : Symbol → NugwierSymbol
symbol_shown s = record {
  name = s.st_name;
  info = s.st_info;
  other = s.st_other;
  shndx = s.st_shndx;
  value = s.st_value;
  size = s.st_size;
}

abbrev pub section_shown : SectionHeader → NugwierSection
section_shown s = record {
  name = s.sh_name;
  kind = s.sh_type;
  flags = s.sh_flags;
  addr = s.sh_addr;
  offset = s.sh_offset;
  size = s.sh_size;
  link = s.sh_link;
  info = s.sh_info;
  addralign = s.sh_addralign;
  entsize = s.sh_entsize;
}

-- the header of a section that C gives
abbrev pub section_in : NugwierSection → SectionHeader
section_in s = record {
  sh_name = s.name;
  sh_type = s.kind;
  sh_flags = s.flags;
  sh_addr = s.addr;
  sh_offset = s.offset;
  sh_size = s.size;
  sh_link = s.link;
  sh_info = s.info;
  sh_addralign = s.addralign;
  sh_entsize = s.entsize;
}

abbrev pub segment_shown : ProgramHeader → NugwierSegment
segment_shown p = record {
  kind = p.p_type;
  flags = p.p_flags;
  offset = p.p_offset;
  vaddr = p.p_vaddr;
  paddr = p.p_paddr;
  filesz = p.p_filesz;
  memsz = p.p_memsz;
  align = p.p_align;
}

-- the header of a segment that C gives
abbrev pub segment_in : NugwierSegment → ProgramHeader
segment_in p = record {
  p_type = p.kind;
  p_offset = p.offset;
  p_vaddr = p.vaddr;
  p_paddr = p.paddr;
  p_filesz = p.filesz;
  p_memsz = p.memsz;
  p_flags = p.flags;
  p_align = p.align;
}

abbrev pub rel_shown : Rel → NugwierRel
rel_shown r = record { offset = r.r_offset; symbol = r.r_sym; kind = r.r_type }

abbrev pub rela_shown : Rela → NugwierRela
rela_shown r = record { offset = r.r_offset; addend = r.r_addend; symbol = r.r_sym; kind = r.r_type }

abbrev pub dynamic_shown : Dyn → NugwierDynamic
dynamic_shown d = record { tag = d.d_tag; value = d_un_view d }
