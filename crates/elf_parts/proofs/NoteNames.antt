-- A text without the 0 characters at its end.
use Rattle.std.proofs.Common.{◌≡◌, ◌≢◌, ℕ, suc, ◌-◌, Option, Some, None, List, [], ◌∷◌, ◌++◌, length, take, drop, ap}
use Rattle.std.proofs.Common.{sym, ◌∙◌, arith}
use lib.Utf8.{encode}
use Rattle.std.specs.List.{repeat}
use Rattle.std.specs.Option.{IfSome}
use Rattle.std.specs.Str.Pattern.{CutsSuffixes, FindsCharSuffix, IsTrimEndMatches}
use Rattle.std.proofs.lemmas.List.{take-append-drop, append_assoc, append-nil}
use Rattle.std.proofs.Math.Seq.{drop-length}
use Rattle.elf_parts.specs.Note.{IsWithoutNuls}

-- where a 0 character is found at the end, a 0 byte is there
ends_in_nul : (m : List ℕ) (n : ℕ) → FindsCharSuffix 0 m (Some n) → m ≡ take (length m - n) m ++ 0 ∷ []
unfolding encode
ends_in_nul m n found =
    let nothing = drop-length m in
    let last : drop (length m - n) m ≡ 0 ∷ [] = found.1.split ∙ ap (λ xs. 0 ∷ xs) nothing in
    sym (take-append-drop (length m - n) m) ∙ ap (λ xs. take (length m - n) m ++ xs) last

only_nuls : (s r : List ℕ) (ns : List ℕ) → CutsSuffixes (FindsCharSuffix 0) s ns r →
    (n : ℕ) × (s ≡ r ++ repeat n (0 ∷ []))
only_nuls s r [] e = (0, sym e ∙ sym (append-nil r))
only_nuls s r (n ∷ ns) cut =
    let m = cut.0 in
    let before = only_nuls s m ns cut.1 in
    let whole : m ≡ r ++ 0 ∷ [] = ends_in_nul m n cut.2 ∙ ap (λ xs. xs ++ 0 ∷ []) (sym cut.3) in (
      suc before.0,
      before.1 ∙ ap (λ xs. xs ++ repeat before.0 (0 ∷ [])) whole ∙ append_assoc r (0 ∷ []) (repeat before.0 (0 ∷ [])),
    )

no_nul : (r : List ℕ) (o : Option ℕ) → FindsCharSuffix 0 r o → IfSome o (λ n. n ≡ 0) → (front : List ℕ) →
    r ≢ front ++ 0 ∷ []
unfolding encode
no_nul r None found empty front same = found front same
no_nul r (Some n) found empty front same = absurd (omega (arith, found.0))

pub trimmed_nuls : (s r : List ℕ) → IsTrimEndMatches (FindsCharSuffix 0) s r → IsWithoutNuls s r
trimmed_nuls s r trimmed = (only_nuls s r trimmed.0.0 trimmed.0.1, no_nul r trimmed.1.0 trimmed.1.1 trimmed.1.2)
