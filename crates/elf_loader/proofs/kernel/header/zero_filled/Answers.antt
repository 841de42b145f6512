use Rattle.std.proofs.Common.{◌++◌, ◌∙◌, ap, drop, replicate}
use Rattle.elf_loader.proofs.Filled.{filled}
use Rattle.elf_loader.proofs.kernel.header.zero_filled.Goals as goal

pub returns : goal.returns
returns c =
    ap (λ bytes. bytes ++ drop c.up_to_64-count.result (replicate 64 0)) c.copy_from_slice.ensures.after
    ∙ filled c.args.front.now c.up_to_64-count.result c.up_to_64-count.ensures
