use Rattle.std.proofs.Common.{refl, subst, sym}
use Rattle.elf_libraries.specs.Tree.{found_view}
use Rattle.nugwier_programs.specs.Starts.{IsLoadedSaid, undecided_said}
use Rattle.nugwier_programs.specs.Tree.{search_view}
use Rattle.nugwier_programs.specs.declared.starts.Undecided.TheVariants.{Linker, Machine as UnknownMachine}
use Rattle.nugwier_programs.specs.declared.starts.loading.Loader.{Loader}
use Rattle.nugwier_programs.proofs.starts.tell_loaded.Goals as goal

pub returns-in_ok-tell_undecided-in-Other : goal.returns-in_ok-tell_undecided-in-Other
returns-in_ok-tell_undecided-in-Other g c =
    let said = undecided_said Linker in
    (said, subst (λ (l : Loader). IsLoadedSaid (g.F.Files.known c.args.files.now) (search_view c.args.search) c.args.path.now (found_view c.args.program) l said) (sym c.in-Other.is) refl, c.in_ok-tell_undecided-in-Other.ensures)

pub returns-in_ok-tell_undecided-in-Machine : goal.returns-in_ok-tell_undecided-in-Machine
returns-in_ok-tell_undecided-in-Machine g c =
    let said = undecided_said UnknownMachine in
    (said, subst (λ (l : Loader). IsLoadedSaid (g.F.Files.known c.args.files.now) (search_view c.args.search) c.args.path.now (found_view c.args.program) l said) (sym c.in-Machine.is) refl, c.in_ok-tell_undecided-in-Machine.ensures)
