use Rattle.std.proofs.Common.{◌≡◌, drop}
use Rattle.nugwier_commands.specs.Words.{after, so_far}
use Rattle.nugwier_commands.proofs.words.parse_rest.Given as goal

-- the words so far, and then those that are left, ask for what all do
abbrev pub invariant-loop-word : goal.invariant-loop-word
invariant-loop-word l =
    after l.command (so_far l.asked) (drop l.word-index l.words) ≡ after l.command (so_far l.initial.asked) l.words
