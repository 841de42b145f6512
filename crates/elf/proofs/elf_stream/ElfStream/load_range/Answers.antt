use Rattle.std.proofs.Common.{[], ◌∷◌}
use Rattle.std.proofs.lemmas.Option.{IfSome_then}
use Rattle.elf.proofs.stream.There.{loads_ranges}
use Rattle.elf.proofs.elf_stream.ElfStream.load_range.Goals as goal

pub returns : goal.returns
returns g c =
    loads_ranges c.args.self.now c.load_inside.new.self ((c.args.start, c.args.size) ∷ []) c.load_inside.result (IfSome_then c.args.self.now.content c.is_part_of_file.ensures (λ bytes of. of.size)) c.load_inside.ensures
