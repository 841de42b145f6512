-- The bytes of a section (gABI, chapter "Sections", "Section Compression").
use Rattle.std.specs.Prelude.{ℕ, ◌==◌, if◌then◌else◌, bit_and, List, [], Option, Some, None, Result}
use Rattle.std.specs.Prelude.{Ok, Err}
use Rattle.elf_abi.specs.Values.{shf_compressed, sht_nobits}
use Rattle.elf_records.specs.Compression.{compression_header_layout}
use Rattle.elf_records.specs.Number.{ok_map}
use Rattle.elf_records.specs.Record.{◌>>=◌, record_by, size_by}
use Rattle.elf_records.specs.declared.compression.CompressionHeader.{CompressionHeader}
use Rattle.elf_records.specs.declared.parse.ParseError.{ParseError}
use Rattle.elf_records.specs.declared.parse.ParseError.TheVariants.{UnexpectedSectionType}
use Rattle.elf_records.specs.declared.section.SectionHeader.{SectionHeader}
use Rattle.elf.specs.ObjectFile.{ErrorOf, Extent, FileOf, err_map, parsed, section_part}
use Rattle.elf_reading.specs.Leading.{at_front}

-- a compression header at the front of some bytes, and what follows it
abbrev pub compressed_data : {x : Extent} → FileOf x → List ℕ → Result (List ℕ × CompressionHeader) ParseError
compressed_data file part =
    let header = record_by compression_header_layout file.little file.class in
    at_front (size_by compression_header_layout file.class) header part

-- a section of type SHT_NOBITS has no bytes, and its range is not checked; else its range, and where its
-- flags have SHF_COMPRESSED the header at the front of that, and what follows it
unfoldable pub section_data : {x : Extent} → FileOf x → SectionHeader → Result (List ℕ × Option CompressionHeader) (ErrorOf x)
section_data file s =
    if s.sh_type == sht_nobits then Ok ([], None)
    else section_part file s >>= λ part.
    if bit_and s.sh_flags shf_compressed == 0 then Ok (part, None)
    else err_map (parsed file) (ok_map (λ found. (found.0, Some found.1)) (compressed_data file part))

-- the bytes in which strings or records of a section are looked for
abbrev pub content : {x : Extent} → FileOf x → SectionHeader → Result (List ℕ) (ErrorOf x)
content file s = ok_map (λ found. found.0) (section_data file s)

-- the same of a section that has to be of a type
abbrev pub content_of_type : {x : Extent} → ℕ → FileOf x → SectionHeader → Result (List ℕ) (ErrorOf x)
content_of_type t file s =
    if s.sh_type == t then content file s else Err (parsed file (UnexpectedSectionType (s.sh_type, t)))
