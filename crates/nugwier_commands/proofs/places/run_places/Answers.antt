use Rattle.std.proofs.Common.{◌∙◌, ℕ, List, None, Option, ap, map, subst, sym}
use Rattle.std.specs.Borrow.{Bor}
use Rattle.nugwier_commands.specs.Run.{ArePlacesSaid, first_heading}
use Rattle.nugwier_commands.specs.Walk.{found_view, named, places_of}
use Rattle.nugwier_commands.proofs.AllFiles.{ArePlacesSoFar, first_of_all, found_told, places_told}
use Rattle.elf_libraries.specs.Folder.{Place}
use Rattle.nugwier_commands.specs.Words.{task_of}
use Rattle.nugwier_commands.proofs.places.run_places.Goals as goal
use Rattle.nugwier_commands.specs.declared.target.Heading.{Heading}

pub places-init : goal.places-init
places-init g c =
    let one = g.R.Run.one in
    let known = g.F.Files.known c.args.files.now in
    let task = task_of c.args.job.now in
    let first = first_heading task.command None in
    let places = map named task.files in
    let now = c.args.run.now in
    let left = places_of c.in_ok-walk.walk in
    let all = c.in_ok-walk.ensures ∙ ap (λ (paths : List (Bor (List ℕ))). map named paths) c.as_slice.ensures.value in
    subst (λ (heading : Option Heading). ArePlacesSoFar one known task first places now heading left now) (sym c.first_heading-heading.ensures)
    (subst (λ (of : List Place). ArePlacesSoFar one known task first places now first of now) (sym all) (first_of_all one (ArePlacesSaid known task first places) now))

pub returns-in_default : goal.returns-in_default
returns-in_default g c =
    let task = task_of c.args.job.now in
    places_told g.R.Run.one (g.F.Files.known c.args.files.now) task (first_heading task.command None) (map named task.files) c.args.run.now c.places.heading (places_of c.places.walk) (places_of c.next.new.self)
    c.places.run (rw c.in_default.is at c.in_ok-found.ensures) c.places.invariant

pub places-preserved : goal.places-preserved
places-preserved g c =
    let one = g.R.Run.one in
    let known = g.F.Files.known c.args.files.now in
    let task = task_of c.args.job.now in
    let first = first_heading task.command None in
    let files = map named task.files in
    let left = places_of c.next.new.self in
    subst (λ (h : Option Heading). ArePlacesSoFar one known task first files c.args.run.now h left c.run_found.new.run) (sym c.next_heading-heading.ensures)
    (found_told one known task first files c.args.run.now c.places.heading (found_view c.in-Some.found) (places_of c.places.walk) left c.places.run c.run_found.new.run
    c.in_ok-run_found.ensures (rw c.in-Some.is at c.in_ok-found.ensures) c.places.invariant)
