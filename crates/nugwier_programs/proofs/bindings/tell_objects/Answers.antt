use Rattle.std.proofs.Common.{List, subst}
use Rattle.elf_libraries.specs.Tree.{Entry}
use Rattle.nugwier_programs.specs.Bindings.{AreObjectsSaid}
use Rattle.nugwier_programs.proofs.Scopes.{first_and_others}
use Rattle.nugwier_programs.proofs.bindings.tell_objects.Goals as goal

pub returns : goal.returns
returns g c =
    let said = c.in_ok-tell_program.ensures in
    (said.0, subst (λ (l : List Entry). AreObjectsSaid (g.F.Files.known c.args.files.now) l said.0) (first_and_others c.args.objects.now c.program-item.result c.in-len1-up.len_at_least c.program-item.is) said.1, said.2)
