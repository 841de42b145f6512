use Rattle.std.proofs.Common.{◌≡◌, drop}
use Rattle.std.specs.Prelude.{is_some}
use Rattle.elfshow.specs.Show.{calls_of}
use Rattle.elfshow.proofs.show.are_calls.Given as goal

-- the words so far spell calls, so that all do where those that are left do
abbrev pub invariant-loop-word : goal.invariant-loop-word
invariant-loop-word l = is_some (calls_of (drop l.word-index l.words)) ≡ is_some (calls_of l.words)
