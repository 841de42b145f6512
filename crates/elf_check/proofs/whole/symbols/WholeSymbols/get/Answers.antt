use Rattle.std.proofs.Common.{sym}
use Rattle.elf_check.proofs.Tables.{ok_of_shown}
use Rattle.elf_check.proofs.whole.symbols.WholeSymbols.get.Goals as goal

pub unwrap-name-requires : goal.unwrap-name-requires
unwrap-name-requires g c =
    let sound = c.args.self.now.sound c.args.index c.in-Ok.symbol (sym c.in-Ok.ensures) in
    ok_of_shown _ c.get_raw.result _ c.get_raw.ensures sound.name
