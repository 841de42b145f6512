use Rattle.std.proofs.Common.{◌≡◌, ℕ, List, Option, refl}
use Rattle.std.proofs.lemmas.Result.{IfOk-weaker}
use Rattle.std.specs.Option.{option_map}
use Rattle.elf_libraries.specs.Folder.{KnownFiles, opened_in}
use Rattle.elf_libraries.specs.Tree.{Found, found_view}
use Rattle.nugwier_programs.specs.Tree.{AreNamedObjects, AreObjects, order_view, search_view}
use Rattle.nugwier_programs.proofs.tree.named_objects.Goals as goal

pub returns : goal.returns
returns g c =
    let known = g.F.Files.known c.args.files.now in
    let search = search_view c.args.search in
    let program = found_view c.args.program in
    IfOk-weaker c.objects_by.result
    (λ order. (opened : KnownFiles → List ℕ → Option Found) → option_map opened_in known ≡ option_map opened known → AreObjects opened known search program (order_view order))
    (λ order. AreNamedObjects known search program (order_view order))
    (λ order h. h opened_in refl)
    c.objects_by.ensures
