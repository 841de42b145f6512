use Rattle.std.proofs.Common.{sym}
use Rattle.elf_abi.specs.Values.{pt_interp}
use Rattle.elf.specs.ElfBytes.{view}
use Rattle.elf.specs.ObjectFile.{object_file}
use Rattle.elf_check.proofs.SegmentsFound.{found_sound, found_type}
use Rattle.elf_check.proofs.segments.whole.WholeSegments.interpreter.Goals as goal

pub path-requires-clause-segment : goal.path-requires-clause-segment
path-requires-clause-segment g c =
    let whole = object_file g.E.EndianParse.little (view c.args.self.now.file.now) in
    found_sound whole pt_interp c.in-Some.phdr (sym c.in-Some.ensures) c.args.self.now.sound

pub path-requires-clause-path : goal.path-requires-clause-path
path-requires-clause-path g c =
    let whole = object_file g.E.EndianParse.little (view c.args.self.now.file.now) in
    found_type pt_interp whole.segments c.in-Some.phdr (sym c.in-Some.ensures)
