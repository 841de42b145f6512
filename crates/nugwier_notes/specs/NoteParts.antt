-- Numbers and texts in the descriptors of notes.
use Rattle.std.specs.Prelude.{ℕ, ◌+◌, ◌==◌, List, drop, length, take, Option, Some, None}
use Rattle.std.specs.List.{position}
use Rattle.std.specs.Result.{result_ok}
use Rattle.elf_records.specs.Class.{address_size}
use Rattle.elf_records.specs.Number.{number_at}
use Rattle.nugwier_notes.specs.declared.properties.NoteFile.{NoteFile}

-- an address of the file
abbrev pub address_in : NoteFile → List ℕ → ℕ → Option ℕ
address_in file bytes o = result_ok (number_at file.is_little (address_size file.class) bytes o)

-- the bytes before the first 0 byte, or all
abbrev pub text_before : List ℕ → Option ℕ → List ℕ
text_before bytes (Some end) = take end bytes
text_before bytes None = bytes

abbrev pub text_in : List ℕ → List ℕ
text_in bytes = text_before bytes (position (λ b. b == 0) bytes)

-- the bytes after a string and the 0 byte at its end
abbrev pub after_string : List ℕ → List ℕ → List ℕ
after_string string bytes = drop (length string + 1) bytes
