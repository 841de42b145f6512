use Rattle.std.proofs.Common.{◌≡◌, drop}
use Rattle.nugwier_commands.specs.Words.{with_letters}
use Rattle.nugwier_commands.proofs.letters.add_letters.Given as goal

-- the letters so far, and then those that are left, are all
abbrev pub invariant-loop-letter : goal.invariant-loop-letter
invariant-loop-letter l =
    with_letters l.command l.letters (drop l.letter-index l.word) ≡ with_letters l.command l.fn.letters l.word
