-- The lines of program headers.
use Rattle.std.specs.Prelude.{ℕ, List, codes}
use Rattle.std.specs.Fmt.{decimal}
use Rattle.elf_records.specs.declared.segment.ProgramHeader.{ProgramHeader}
use Rattle.elfshow_lines.specs.Pieces.{◌⧺◌, newline, hex}

-- what a segment is, and its ranges
unfoldable pub segment_places : ProgramHeader → List ℕ
segment_places p =
    codes " type=" ⧺ decimal p.p_type ⧺ codes " flags=" ⧺ hex p.p_flags ⧺ codes " offset=" ⧺ decimal p.p_offset
    ⧺ codes " vaddr=" ⧺ hex p.p_vaddr ⧺ codes " paddr=" ⧺ hex p.p_paddr

-- how many bytes it has in the file and in memory, and how they are aligned
unfoldable pub segment_sizes : ProgramHeader → List ℕ
segment_sizes p =
    codes " filesz=" ⧺ decimal p.p_filesz ⧺ codes " memsz=" ⧺ decimal p.p_memsz ⧺ codes " align=" ⧺ decimal p.p_align

abbrev pub segment_line : ℕ → ProgramHeader → List ℕ
segment_line k p = codes "segment " ⧺ decimal k ⧺ segment_places p ⧺ segment_sizes p ⧺ newline
