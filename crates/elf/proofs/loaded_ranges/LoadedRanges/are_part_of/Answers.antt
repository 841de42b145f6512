use Rattle.elf.specs.LoadedRanges.{parts_of}
use Rattle.elf.proofs.Held.{loaded_follows}
use Rattle.elf.proofs.loaded_ranges.LoadedRanges.are_part_of.Goals as goal

pub returns : goal.returns
returns g c bytes whole sound start size =
    loaded_follows bytes c.args.self.now.size (parts_of c.args.self.now) whole sound start size
