use Rattle.std.proofs.Common.{◌≡◌, drop}
use Rattle.nugwier_commands.specs.Words.{parsed, parsed_with, so_far}
use Rattle.nugwier_commands.proofs.words.parse_words.Given as goal

-- the options so far, and then the words that are left, ask for what all do
abbrev pub invariant-loop-place : goal.invariant-loop-place
invariant-loop-place l =
    parsed_with (so_far l.asked) (drop l.place l.words) ≡ parsed l.is_colored l.words
