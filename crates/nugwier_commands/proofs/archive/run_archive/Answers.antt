use Rattle.std.proofs.Common.{◌≡◌, ◌∷◌, [], List, Option, Result, Err, ap, sym, subst, refl, ◌∙◌}
use Rattle.elf_archive.specs.Archive.{Item, members_in, members_left}
use Rattle.elf_archive.specs.declared.archive.ArchiveError.{ArchiveError}
use Rattle.elf_records.specs.Number.{ok_map}
use Rattle.nugwier_commands.specs.Run.{AreItemsSaid, AreMembersSaid, IsProblemSaid, broken, items_of, listing_of}
use Rattle.nugwier_commands.proofs.Lifting.{from_one, then_told}
use Rattle.nugwier_commands.specs.Words.{task_of}
use Rattle.nugwier_commands.proofs.archive.run_archive.Goals as goal
use Rattle.nugwier_commands.specs.declared.target.Heading.{Heading}

-- the bytes begin as no archive does
pub returns-in-Err : goal.returns-in-Err
returns-in-Err g c =
    let known = g.F.Files.known c.args.files.now in
    let task = task_of c.args.target.job.now in
    let heading = c.first_heading.result in
    let path = c.args.target.path.now in
    let All = AreMembersSaid known task c.args.target.heading path c.args.bytes.now in
    let is : members_in c.args.bytes.now ≡ Err c.in-Err.error = sym c.members_of.ensures.items ∙ ap (ok_map members_left) c.in-Err.is in
    then_told g.R.Run.one c.tell_broken.result _ _ _ All
    (from_one heading path (IsProblemSaid (broken c.in-Err.error)) All
    (λ named said h.
    let own = listing_of heading path named said in
    subst (λ (k : Option Heading). AreItemsSaid known task k path (items_of (members_in c.args.bytes.now)) (own ∷ [])) c.first_heading.ensures
    (subst (λ (r : Result (List Item) ArchiveError). AreItemsSaid known task heading path (items_of r) (own ∷ [])) (sym is)
    (own, [], (named, said, h, refl), refl, refl))))
    c.tell_broken.ensures
