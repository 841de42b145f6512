-- The field table of a program header is three parts; the outer ones are read in the record's own `parse_at`.
use Rattle.std.proofs.Common.{◌≡◌, ℕ, ◌+◌, Bool, List, take, drop, refl, ◌∙◌}
use Rattle.elf_records.specs.declared.file.Class.TheVariants.{ELF32, ELF64}
use Rattle.elf_records.specs.Record.{numbers_at, numbers_end}
use Rattle.elf_records.specs.Segment.{program_header_fields}
use Rattle.elf_records.specs.inner.Extent.{extent_fields}
use Rattle.elf_records.specs.inner.Part.{part_at, part_end}
use Rattle.elf_records.specs.inner.Running.{numbers_from, offset_from}
use Rattle.elf_records.proofs.Parts.{end_of_three, end_of_two, joined, packed_end, packed_part, three_parts}

pub segment_parts_32 :
    (little : Bool) (bytes : List ℕ) (o : ℕ) →
    numbers_at little (program_header_fields ELF32) bytes o
    ≡ joined (numbers_from little (take 1 (program_header_fields ELF32)) bytes o)
    (joined (part_at little (extent_fields ELF32) bytes (o + 4))
    (numbers_from little (drop 6 (program_header_fields ELF32)) bytes (o + 4 + 20)))
unfolding part_at
segment_parts_32 little bytes o =
    packed_part little (program_header_fields ELF32) bytes o refl
    ∙ three_parts 1 5 little (program_header_fields ELF32) bytes o (o + 4) (o + 4 + 20) refl refl

pub segment_end_32 :
    (little : Bool) (bytes : List ℕ) (o : ℕ) →
    numbers_end little 32 (program_header_fields ELF32) bytes o
    ≡ end_of_two (numbers_from little (take 1 (program_header_fields ELF32)) bytes o)
    (offset_from little (take 1 (program_header_fields ELF32)) bytes o)
    (end_of_two (part_at little (extent_fields ELF32) bytes (o + 4))
    (part_end little (extent_fields ELF32) bytes (o + 4))
    (offset_from little (drop 6 (program_header_fields ELF32)) bytes (o + 4 + 20)))
unfolding part_at part_end
segment_end_32 little bytes o =
    packed_end little (program_header_fields ELF32) bytes o refl
    ∙ end_of_three 1 5 little (program_header_fields ELF32) bytes o (o + 4) (o + 4 + 20) refl refl

pub segment_parts_64 :
    (little : Bool) (bytes : List ℕ) (o : ℕ) →
    numbers_at little (program_header_fields ELF64) bytes o
    ≡ joined (numbers_from little (take 2 (program_header_fields ELF64)) bytes o)
    (joined (part_at little (extent_fields ELF64) bytes (o + 8))
    (numbers_from little (drop 7 (program_header_fields ELF64)) bytes (o + 8 + 40)))
unfolding part_at
segment_parts_64 little bytes o =
    packed_part little (program_header_fields ELF64) bytes o refl
    ∙ three_parts 2 5 little (program_header_fields ELF64) bytes o (o + 8) (o + 8 + 40) refl refl

pub segment_end_64 :
    (little : Bool) (bytes : List ℕ) (o : ℕ) →
    numbers_end little 56 (program_header_fields ELF64) bytes o
    ≡ end_of_two (numbers_from little (take 2 (program_header_fields ELF64)) bytes o)
    (offset_from little (take 2 (program_header_fields ELF64)) bytes o)
    (end_of_two (part_at little (extent_fields ELF64) bytes (o + 8))
    (part_end little (extent_fields ELF64) bytes (o + 8))
    (offset_from little (drop 7 (program_header_fields ELF64)) bytes (o + 8 + 40)))
unfolding part_at part_end
segment_end_64 little bytes o =
    packed_end little (program_header_fields ELF64) bytes o refl
    ∙ end_of_three 2 5 little (program_header_fields ELF64) bytes o (o + 8) (o + 8 + 40) refl refl

pub ruleset segment = (segment_parts_32, segment_end_32, segment_parts_64, segment_end_64)
