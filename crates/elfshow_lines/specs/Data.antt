-- The line of the bytes of a section or a segment.
use Rattle.std.specs.Prelude.{ℕ, List, [], codes, length, Option, Some, None}
use Rattle.std.specs.Fmt.{decimal}
use Rattle.elf_records.specs.declared.compression.CompressionHeader.{CompressionHeader}
use Rattle.elfshow_lines.specs.Pieces.{◌⧺◌, newline, hex_of}

abbrev pub data_fields : List ℕ → List ℕ
data_fields bytes = codes "data size=" ⧺ decimal (length bytes) ⧺ codes " hex=" ⧺ hex_of bytes

-- the compression header, if there is one
abbrev pub compression_fields : Option CompressionHeader → List ℕ
compression_fields None = []
compression_fields (Some c) =
    codes " chtype=" ⧺ decimal c.ch_type ⧺ codes " chsize=" ⧺ decimal c.ch_size
    ⧺ codes " chalign=" ⧺ decimal c.ch_addralign

-- the line of a section's bytes, and of the compression header that stood before them
abbrev pub section_data_line : List ℕ → Option CompressionHeader → List ℕ
section_data_line bytes header = data_fields bytes ⧺ compression_fields header ⧺ newline

abbrev pub segment_data_line : List ℕ → List ℕ
segment_data_line bytes = data_fields bytes ⧺ newline
