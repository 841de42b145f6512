use Rattle.std.proofs.Common.{◌≡◌, drop}
use Rattle.elfshow.specs.Words.{number_of, with_digits}
use Rattle.elfshow.proofs.words.parse_number.Given as goal

-- the number so far, with the digits that are left after it, is that of all digits
abbrev pub invariant-loop-digit : goal.invariant-loop-digit
invariant-loop-digit l = with_digits l.number (drop l.digit-index l.digits) ≡ number_of l.digits
