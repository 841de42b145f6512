use Rattle.std.proofs.Common.{Result, subst, sym, refl}
use Rattle.elf_archive.specs.Archive.{item_view}
use Rattle.elf_archive.specs.declared.archive.ArchiveError.{ArchiveError}
use Rattle.elf_archive.specs.declared.archive.Member.{Member}
use Rattle.nugwier_commands.specs.Run.{IsItemSaid, IsProblemSaid, broken, listing_of}
use Rattle.nugwier_commands.specs.inner.Loading.{IsOneItem}
use Rattle.nugwier_commands.proofs.Lifting.{from_one, then_told}
use Rattle.nugwier_commands.specs.Words.{task_of}
use Rattle.nugwier_commands.proofs.archive.run_item.Goals as goal

pub returns-in-Err : goal.returns-in-Err
returns-in-Err g c =
    let known = g.F.Files.known c.args.files.now in
    let task = task_of c.args.target.job.now in
    let heading = c.args.target.heading in
    let path = c.args.target.path.now in
    let Own = IsOneItem known task heading path (item_view c.args.item) in
    then_told g.R.Run.one c.tell_broken.result _ _ _ Own
    (from_one heading path (IsProblemSaid (broken c.in-Err.error)) Own
    (λ named said h. (
      listing_of heading path named said,
      subst (λ (item : Result Member ArchiveError). IsItemSaid known task heading path (item_view item) (listing_of heading path named said)) (sym c.in-Err.is) (named, said, h, refl),
      refl,
    )))
    c.tell_broken.ensures
