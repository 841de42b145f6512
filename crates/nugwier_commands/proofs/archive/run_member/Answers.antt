use Rattle.std.proofs.Common.{◌≡◌, ◌∙◌, ℕ, List, Ok, ap, subst, refl}
use Rattle.elf_archive.specs.Archive.{member_view}
use Rattle.nugwier_commands.specs.Run.{IsBytesSaid, IsElfSaid, IsHeldSaid, listing_of, member_path}
use Rattle.nugwier_commands.specs.inner.Loading.{IsOneItem}
use Rattle.nugwier_commands.proofs.Lifting.{from_one, then_told}
use Rattle.nugwier_commands.specs.Words.{task_of}
use Rattle.nugwier_commands.proofs.archive.run_member.Goals as goal

pub returns : goal.returns
returns g c =
    let known = g.F.Files.known c.args.files.now in
    let task = task_of c.args.target.job.now in
    let archive = c.args.target.path.now in
    let heading = c.args.target.heading in
    let member = member_view c.args.member in
    let path = c.as_str.result.now in
    let Own = IsOneItem known task heading archive (Ok member) in
    let same : path ≡ member_path archive member = c.as_str.ensures.value ∙ c.in_ok-path.ensures in
    then_told g.R.Run.one c.run_held.result _ _ _ Own
    (from_one heading path (IsHeldSaid known (IsElfSaid (IsBytesSaid task path)) archive member member.bytes) Own
    (λ named said h. (
      listing_of heading path named said,
      (
        named,
        said,
        subst (λ (p : List ℕ). IsHeldSaid known (IsElfSaid (IsBytesSaid task p)) archive member member.bytes named said) same h,
        ap (λ (p : List ℕ). listing_of heading p named said) same,
      ),
      refl,
    )))
    c.run_held.ensures
