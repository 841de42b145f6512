-- What is told in two parts, where the whole is given.
use Rattle.std.proofs.Common.{◌≡◌, List, ◌++◌, sym}
use Rattle.nugwier_report.specs.Said.{Said, saying}
use Rattle.nugwier_report.proofs.Saying.{saying_both}

pub said_parts : {A : Type 0} (one : A → Said → A) (t : A) (xs ys : List Said) → saying one t (xs ++ ys) ≡ saying one (saying one t xs) ys
said_parts one t xs ys = sym (saying_both one t xs ys)
