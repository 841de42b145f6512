-- What a pass over the sections has found so far, with one section more; contracts of private functions speak of it.
use Rattle.std.specs.Prelude.{Some}
use Rattle.elf.specs.Common.{CommonData, CommonPart, Symbols, DynamicSymbols, DynamicEntries, SysvHash, GnuHash}
use Rattle.elf.specs.Common.{Nothing}

-- what a section holds, in the place of an earlier part of its kind
abbrev pub with_part : CommonData → CommonPart → CommonData
with_part found (Symbols part) = record found { symtab = Some part.0; symtab_strs = Some part.1 }
with_part found (DynamicSymbols part) = record found { dynsyms = Some part.0; dynsyms_strs = Some part.1 }
with_part found (DynamicEntries part) = record found { dynamic = Some part }
with_part found (SysvHash part) = record found { sysv_hash = Some part }
with_part found (GnuHash part) = record found { gnu_hash = Some part }
with_part found Nothing = found
