use Rattle.std.proofs.Common.{rules}
use Rattle.elf_abi.proofs.Flags.{letters_named, others_unnamed}
use Rattle.elf_abi.proofs.to_str.p_flags_to_string.Goals as goal

pub returns-then-p_flags-lt8 : goal.returns-then-p_flags-lt8
returns-then-p_flags-lt8 c = rw (letters_named c.args.p_flags c.if-p_flags-lt8.true) (search rules)

pub returns-else-p_flags-lt8 : goal.returns-else-p_flags-lt8
returns-else-p_flags-lt8 c = rw (others_unnamed c.args.p_flags c.if-p_flags-lt8.false) (search rules)
