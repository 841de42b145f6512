use Rattle.std.proofs.Common.{refl, ◌≤◌, ◌<◌, length}
use Rattle.std.specs.Prelude.{◌^◌}
use Rattle.elf_parts.specs.Note.{notes_left}
use Rattle.elf.specs.Readers.{SegmentDataAsNotes}
use Rattle.elf.proofs.stream.Lent.{few_read, notes_within, still_ok}
use Rattle.elf.proofs.stream.Methods.{read}
use Rattle.elf.proofs.elf_stream.ElfStream.segment_data_as_notes.Goals as goal

pub returns : goal.returns
returns g c =
    let little = g.E.EndianParse.little in
    let old = c.args.self.now in
    let made = c.given.ensures in
    let leaves = read little old c.load_segment_notes.new.self (SegmentDataAsNotes c.args.phdr.now) notes_left _ refl c.in_ok-load_segment_notes.ensures c.is_part_of_file.ensures c.segment_data_as_notes.ensures.value c.segment_data_as_notes.ensures.plain made in
    let size = still_ok (λ notes. length (notes_left notes) ≤ c.args.phdr.now.p_filesz) c.segment_data_as_notes.result c.given.result made c.segment_data_as_notes.ensures.size in
    ((refl, (λ _. tt), leaves), record { leaves = tt; few = few_read notes_left c.args.phdr.now.p_filesz old c.load_segment_notes.new.self _ notes_left _ c.given.result (notes_within little old c.args.phdr.now) leaves size; size = size; bound = still_ok (λ notes. length (notes_left notes) < 2 ^ 64) c.segment_data_as_notes.result c.given.result made c.segment_data_as_notes.ensures.bound })
