use Rattle.nugwier_commands.proofs.Walks.{found_here, nothing_here}
use Rattle.nugwier_commands.specs.Walk.{places_of}
use Rattle.nugwier_commands.proofs.walk.Walk.next.Goals as goal

pub returns-in-Some-2 : goal.returns-in-Some-2
returns-in-Some-2 g c =
    let files = c.args.files.now in
    found_here (g.F.Files.known files) c.visits.self.places.items c.pop.new.self.items c.in-Some.place (places_of c.args.self.now) (places_of c.visit.new.self) c.in-Some.ensures.items
    c.in_ok-found.field-0 c.in-Some-2.found c.in-Some-2.is c.in_ok-found.ensures c.visits.invariant

pub visits-preserved : goal.visits-preserved
visits-preserved g c =
    let files = c.args.files.now in
    nothing_here (g.F.Files.known files) c.visits.self.places.items c.pop.new.self.items c.in-Some.place (places_of c.args.self.now) (places_of c.visit.new.self) c.in-Some.ensures.items
    c.in_ok-found.field-0 c.in_default-2.is c.in_ok-found.ensures c.visits.invariant
