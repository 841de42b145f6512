-- Templates and names of types of segments: they are short.
use Rattle.std.proofs.Common.{◌≡◌, ℕ, ◌^◌, ◌≤◌, List, [], ◌∷◌, length, Option, Some, None, nat_eq, sym, subst, arith}
use Rattle.std.specs.Borrow.{Bor}
use Rattle.std.specs.Option.{option_copied}
use Rattle.std.specs.Prelude.{IfSome, IsTrue}
use Rattle.std.proofs.lemmas.Bool.Decides.{nat_tests}
use Rattle.elf_abi.specs.Names.{Row, name_of}
use Rattle.elf_abi.specs.SegmentNames.{p_type_names}
use Rattle.elf_c.specs.inner.Writing.{are_short}

-- a number of more than 32 bits is no type
pub unnamed : (p_type : ℕ) → 2 ^ 32 ≤ p_type → name_of nat_eq p_type_names p_type ≡ None
unfolding name_of
unnamed p_type large = grind (arith, nat_tests)

-- what is found in a list of short texts is short
short : (rows : List (Row ℕ)) (kind : ℕ) → IsTrue (are_short rows) → IfSome (name_of nat_eq rows kind) (λ text. length text ≤ 128)
unfolding name_of
short [] kind all = tt
short (row ∷ rows) kind all =
    let rest = short rows kind in
    grind (arith, nat_tests)

-- so is the text that a look-up returns
pub short_found : (rows : List (Row ℕ)) (kind : ℕ) (found : Option (Bor (List ℕ))) → IsTrue (are_short rows) →
    option_copied found ≡ name_of nat_eq rows kind → IfSome found (λ text. length text.now ≤ 128)
short_found rows kind None all is = tt
short_found rows kind (Some name) all is =
    subst (λ (o : Option (List ℕ)). IfSome o (λ text. length text ≤ 128)) (sym is) (short rows kind all)
