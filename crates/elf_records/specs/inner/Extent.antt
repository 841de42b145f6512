-- Part of the field table of a program header, read by a function of its own.
use Rattle.std.specs.Prelude.{List}
use Rattle.elf_records.specs.declared.file.Class.{Class}
use Rattle.elf_records.specs.Class.{address_size}
use Rattle.elf_records.specs.Record.{Field}
use Rattle.elf_records.specs.inner.Part.{class_fields}

-- p_offset to p_memsz, which have the same order in both classes
abbrev pub extent_fields : Class → List Field
extent_fields class = class_fields class (address_size class) 5
