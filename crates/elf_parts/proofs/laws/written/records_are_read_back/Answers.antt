use Rattle.elf_parts.proofs.ReadStructs.{section_header_is_struct, program_header_is_struct, symbol_is_struct, rel_is_struct}
use Rattle.elf_parts.proofs.ReadStructs.{rela_is_struct, dyn_is_struct, note_header_is_struct, abi_tag_is_struct}
use Rattle.elf_parts.proofs.ReadStructs.{ver_need_is_struct, ver_need_aux_is_struct, ver_def_is_struct, ver_def_aux_is_struct}
use Rattle.elf_parts.proofs.ReadStructs.{version_index_is_struct, sysv_header_is_struct, gnu_header_is_struct, compression_header_is_struct}
use Rattle.elf_parts.proofs.ReadStructs.{u32_is_struct, u64_is_struct}
use Rattle.elf_parts.proofs.laws.written.records_are_read_back.Goals as goal

pub returns-clause-section_header : goal.returns-clause-section_header
returns-clause-section_header c = section_header_is_struct

pub returns-clause-program_header : goal.returns-clause-program_header
returns-clause-program_header c = program_header_is_struct

pub returns-clause-symbol : goal.returns-clause-symbol
returns-clause-symbol c = symbol_is_struct

pub returns-clause-rel : goal.returns-clause-rel
returns-clause-rel c = rel_is_struct

pub returns-clause-rela : goal.returns-clause-rela
returns-clause-rela c = rela_is_struct

pub returns-clause-dynamic : goal.returns-clause-dynamic
returns-clause-dynamic c = dyn_is_struct

pub returns-clause-note_header : goal.returns-clause-note_header
returns-clause-note_header c = note_header_is_struct

pub returns-clause-abi_tag : goal.returns-clause-abi_tag
returns-clause-abi_tag c = abi_tag_is_struct

pub returns-clause-ver_need : goal.returns-clause-ver_need
returns-clause-ver_need c = ver_need_is_struct

pub returns-clause-ver_need_aux : goal.returns-clause-ver_need_aux
returns-clause-ver_need_aux c = ver_need_aux_is_struct

pub returns-clause-ver_def : goal.returns-clause-ver_def
returns-clause-ver_def c = ver_def_is_struct

pub returns-clause-ver_def_aux : goal.returns-clause-ver_def_aux
returns-clause-ver_def_aux c = ver_def_aux_is_struct

pub returns-clause-version_index : goal.returns-clause-version_index
returns-clause-version_index c = version_index_is_struct

pub returns-clause-sysv_header : goal.returns-clause-sysv_header
returns-clause-sysv_header c = sysv_header_is_struct

pub returns-clause-gnu_header : goal.returns-clause-gnu_header
returns-clause-gnu_header c = gnu_header_is_struct

pub returns-clause-compression_header : goal.returns-clause-compression_header
returns-clause-compression_header c = compression_header_is_struct

pub returns-clause-u32 : goal.returns-clause-u32
returns-clause-u32 c = u32_is_struct

pub returns-clause-u64 : goal.returns-clause-u64
returns-clause-u64 c = u64_is_struct
