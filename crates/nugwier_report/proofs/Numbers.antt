-- The number that `parse` reads is the one that the digits write.
use Rattle.std.proofs.Common.{◌≡◌, ℕ, ◌&&◌, List, length, true, Result, Ok, Err, nat_lt, lt-ltb, ltb-true}
use Rattle.std.proofs.lemmas.Bool.{and_parts, cond-false, false_from_ne_true}
use Rattle.std.proofs.lemmas.Str.Parse.{IsNumeralModel, numerals_by_value, tells_all_ascii_digits}
use Rattle.std.specs.Result.{result_ok}
use Rattle.std.specs.Str.{all_ascii_digits}
use Rattle.std.specs.Str.Parse.{ParsesUnsigned, digits_value, without_leading_plus}
use Rattle.nugwier_report.specs.NamedSections.{number_in}

own : IsNumeralModel (λ ds. all_ascii_digits ds ≡ true) (digits_value 10)
own = numerals_by_value (λ ds. all_ascii_digits ds ≡ true) tells_all_ascii_digits

pub number_parsed : {E : Type 0} (word : List ℕ) (r : Result ℕ E) → ParsesUnsigned 64 10 word r → number_in word ≡ result_ok r
unfolding number_in
number_parsed word (Ok n) h = rw (h.1, number_in, lt-ltb _ _ h.0.0.0, own.from _ h.0.0.1, lt-ltb _ _ h.0.1)
number_parsed word (Err e) h = cond-false _ _ _ (false_from_ne_true _ (λ all.
    let digits = without_leading_plus word in
    let outer = and_parts (nat_lt 0 (length digits) && all_ascii_digits digits) _ all in
    let inner = and_parts (nat_lt 0 (length digits)) _ outer.0 in
    h ((ltb-true 0 _ inner.0, own.to digits inner.1), ltb-true _ _ outer.1)))
