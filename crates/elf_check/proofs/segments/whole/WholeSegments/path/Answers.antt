use Rattle.std.proofs.Common.{List, ℕ, sym, ap, ◌∙◌, subst}
use Rattle.std.specs.Option.{option_map}
use Rattle.std.specs.Result.{IsOk}
use Rattle.elf_records.specs.StringTable.{string_at, strings_view}
use Rattle.elf.specs.ElfBytes.{view}
use Rattle.elf.specs.ObjectFile.{object_file}
use Rattle.elf_check.specs.Segments.{EndsWithNul, segment_bytes}
use Rattle.elf_check.proofs.SegmentsFound.{and_value, ok_of_some}
use Rattle.elf_check.proofs.SegmentsPaths.{path_read}
use Rattle.elf_check.proofs.Tables.{ok_of_shown}
use Rattle.elf_check.proofs.segments.whole.WholeSegments.path.Goals as goal

pub unwrap-requires : goal.unwrap-requires
unwrap-requires g c =
    let whole = object_file g.E.EndianParse.little (view c.args.self.now.file.now) in
    let p = c.args.phdr.now in
    let bytes = c.unwrap-bytes.result.now in
    let there = ok_of_some (segment_bytes whole p) bytes (sym (ap (option_map (λ b. b.now)) c.unwrap-bytes.ensures) ∙ c.segment_bytes.ensures) in
    let ends = and_value EndsWithNul (segment_bytes whole p) bytes there (c.requires.segment.path c.requires.path c.requires.kept) in
    ok_of_shown (λ b. b.now) c.get_raw.result (string_at (strings_view c.new.result) 0) c.get_raw.ensures
    (subst (λ (xs : List ℕ). IsOk (string_at xs 0)) (sym c.new.ensures) (path_read bytes ends))
