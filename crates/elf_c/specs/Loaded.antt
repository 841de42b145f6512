-- A file as far as C has loaded it: the bytes at its start, and ranges.
use Rattle.std.specs.Prelude.{List}
use Rattle.elf_reading.specs.Cache.{Piece}
use Rattle.elf.specs.LoadedRanges.{parts_in, ranges_in}
use Rattle.elf.specs.ObjectFile.{FileOf, ObjectFile, Partial}
use Rattle.elf.specs.Parts.{Ranges, loaded}
use Rattle.elf_c.specs.File.{file_of_c}
use Rattle.elf_c.specs.declared.file.NugwierFile.{NugwierFile}

-- what is loaded
abbrev pub parts_of_c : NugwierFile → List Piece
parts_of_c f = parts_in f.bytes.now f.ranges.now

abbrev pub ranges_of_c : NugwierFile → Ranges
ranges_of_c f = ranges_in f.size (parts_of_c f)

-- its headers, and its size
abbrev pub headers_of_c : NugwierFile → ObjectFile
headers_of_c f = record (file_of_c f) { size = f.size }

-- what calls read
abbrev pub loaded_of_c : NugwierFile → FileOf Partial
loaded_of_c f = loaded (headers_of_c f) (ranges_of_c f)
