use Rattle.std.proofs.Common.{sym}
use Rattle.elf_abi.specs.Values.{pt_dynamic}
use Rattle.elf.specs.ElfBytes.{view}
use Rattle.elf.specs.ObjectFile.{object_file}
use Rattle.elf_check.specs.Segments.{segment_bytes}
use Rattle.elf_check.proofs.SegmentsFound.{found_sound, some_of_ok}
use Rattle.elf_check.proofs.segments.whole.WholeSegments.dynamic.Goals as goal

pub unwrap-bytes-requires : goal.unwrap-bytes-requires
unwrap-bytes-requires g c =
    let whole = object_file g.E.EndianParse.little (view c.args.self.now.file.now) in
    let p = c.in-Some.phdr in
    some_of_ok (λ b. b.now) c.segment_bytes.result (segment_bytes whole p) c.segment_bytes.ensures
    (found_sound whole pt_dynamic p (sym c.in-Some.ensures) c.args.self.now.sound).bytes
