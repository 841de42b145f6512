use Rattle.std.proofs.Common.{◌≡◌, ◌++◌, drop, map}
use Rattle.std.specs.Option.{option_map}
use Rattle.elfshow.specs.Question.{question}
use Rattle.elfshow.specs.Show.{calls_of}
use Rattle.elfshow.proofs.show.parse_calls.Given as goal

-- the calls so far, and then those of the words that are left, are the calls of all words
abbrev pub invariant-loop-word : goal.invariant-loop-word
invariant-loop-word l = option_map (λ left. map question l.calls.items ++ left) (calls_of (drop l.word-index l.words)) ≡ calls_of l.words
