-- What is said of the relocations of several places.
use Rattle.std.proofs.Common.{◌≡◌, List, [], ◌∷◌, ◌++◌, append-nil}
use Rattle.std.proofs.lemmas.Grind.{flat_map-append}
use Rattle.std.specs.List.{flat_map}
use Rattle.nugwier_report.specs.Said.{Said}

-- of one place alone
pub said_of_one : {X : Type 0} (said : X → List Said) (x : X) → flat_map said (x ∷ []) ≡ said x
said_of_one said x = append-nil (said x)

-- of two lists of places
pub said_of_both : {X : Type 0} (said : X → List Said) (xs ys : List X) → flat_map said (xs ++ ys) ≡ flat_map said xs ++ flat_map said ys
said_of_both said xs ys = flat_map-append said xs ys
