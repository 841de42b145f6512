-- What contracts see of entries.
use Rattle.std.specs.Prelude.{ℕ, ◌-◌, length}
use Rattle.elf_archive.specs.Archive as archive
use Rattle.elf_archive.specs.declared.archive.Members.{Members}
use Rattle.elf_archive.specs.declared.entry.Entry.{Entry}
use Rattle.elf_archive.specs.declared.entry.Entry.TheVariants.{File, Index, LongNames}

abbrev pub entry_view : Entry → archive.Entry
entry_view Index = archive.Entry.Index
entry_view (LongNames names) = archive.Entry.LongNames names.now
entry_view (File name content) = archive.Entry.File name.now content.now

abbrev pub entry_and_next : Entry × ℕ → archive.Entry × ℕ
entry_and_next found = (entry_view found.0, found.1)

-- how many bytes are after the offset of an iterator
abbrev pub bytes_left : Members → ℕ
bytes_left s = length s.bytes.now - s.offset
