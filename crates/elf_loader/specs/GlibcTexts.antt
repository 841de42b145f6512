-- The words of the dynamic linker of the GNU C library (GNU C library, elf/dl-load.c and elf/dl-map-segments.h; of an
-- assertion, those after the line of the source).
use Rattle.std.specs.Prelude.{ℕ, List, Option, codes}
use Rattle.elf_records.specs.Texts.{words}
use Rattle.elf_loader.specs.declared.glibc.refusal.Refusal.{Refusal}
use Rattle.elf_loader.specs.declared.glibc.refusal.Refusal.TheVariants as refusal
use Rattle.elf_loader.specs.declared.glibc.refusal.SkipReason.{SkipReason}
use Rattle.elf_loader.specs.declared.glibc.refusal.SkipReason.TheVariants as reason

abbrev pub skip_text : SkipReason → Option (List ℕ)
skip_text reason.NotElf64 = words (codes "wrong ELF class: ELFCLASS32")
skip_text reason.NotElf32 = words (codes "wrong ELF class: ELFCLASS64")
skip_text reason.OtherMachine = words (codes "ELF file of another machine")

abbrev pub refusal_text : Refusal → Option (List ℕ)
refusal_text refusal.FileTooShort = words (codes "file too short")
refusal_text refusal.InvalidHeader = words (codes "invalid ELF header")
refusal_text refusal.NotLittleEndian = words (codes "ELF file data encoding not little-endian")
refusal_text refusal.NotBigEndian = words (codes "ELF file data encoding not big-endian")
refusal_text refusal.IdentVersion = words (codes "ELF file version ident does not match current one")
refusal_text refusal.OsAbi = words (codes "ELF file OS ABI invalid")
refusal_text refusal.AbiVersion = words (codes "ELF file ABI version invalid")
refusal_text refusal.Padding = words (codes "nonzero padding in e_ident")
refusal_text refusal.Version = words (codes "ELF file version does not match current one")
refusal_text refusal.Type = words (codes "only ET_DYN and ET_EXEC can be loaded")
refusal_text refusal.HeaderSize = words (codes "ELF file's phentsize not the expected size")
refusal_text refusal.HeadersOutside = words (codes "cannot read file data")
refusal_text refusal.Misaligned = words (codes "ELF load command address/offset not page-aligned")
refusal_text refusal.NoLoad = words (codes "object file has no loadable segments")
refusal_text refusal.Executable = words (codes "cannot dynamically load executable")
refusal_text refusal.NoDynamic = words (codes "object file has no dynamic section")
refusal_text refusal.NoRoom = words (codes "failed to map segment from shared object")
refusal_text refusal.Overlapping = words (codes "ELF load command address/offset not page-aligned")
refusal_text refusal.DynamicOutside = words (codes "Segmentation fault: no segment has the dynamic section")
refusal_text refusal.PltKind =
    words (codes "elf_get_dynamic_info: Assertion `info[DT_PLTREL]->d_un.d_val == DT_RELA' failed!")
refusal_text refusal.NoRelaSize = words (codes "Segmentation fault: no entry DT_RELAENT")
refusal_text refusal.RelaSize =
    words (codes "elf_get_dynamic_info: Assertion `info[DT_RELAENT]->d_un.d_val == sizeof (ElfW(Rela))' failed!")
refusal_text refusal.NoRelSize = words (codes "Segmentation fault: no entry DT_RELENT")
refusal_text refusal.RelSize =
    words (codes "elf_get_dynamic_info: Assertion `info[DT_RELENT]->d_un.d_val == sizeof (ElfW(Rel))' failed!")
refusal_text refusal.NoRelrSize = words (codes "Segmentation fault: no entry DT_RELRENT")
refusal_text refusal.RelrSize =
    words (codes "elf_get_dynamic_info: Assertion `info[DT_RELRENT]->d_un.d_val == sizeof (ElfW(Relr))' failed!")
refusal_text refusal.PositionIndependent = words (codes "cannot dynamically load position-independent executable")
refusal_text refusal.HashOutside = words (codes "Segmentation fault: no segment has the hash table")
refusal_text refusal.HashWords =
    words (codes "_dl_setup_hash: Assertion `(bitmask_nwords & (bitmask_nwords - 1)) == 0' failed!")
