use Rattle.elf_libraries.proofs.Configuring.{in_order}
use Rattle.elf_libraries.proofs.configured.order.Goals as goal

pub returns : goal.returns
returns c =
    let ensures = c.sort_unstable.ensures in
    in_order c.args.names.now c.sort_unstable.new.self ensures.permutation ensures.sorted
