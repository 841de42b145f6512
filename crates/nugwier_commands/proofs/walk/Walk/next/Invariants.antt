use Rattle.std.proofs.Common.{IfSome}
use Rattle.nugwier_commands.proofs.Walks.{IsFoundLater}
use Rattle.nugwier_commands.specs.Walk.{places_of}
use Rattle.nugwier_commands.proofs.walk.Walk.next.Given as goal

-- what is found from here on is what is found
abbrev pub invariant-visits : goal.invariant-visits
invariant-visits g l =
    IfSome (g.F.Files.known l.files) (λ files. IsFoundLater files (places_of l.fn.self) (places_of l.self))
