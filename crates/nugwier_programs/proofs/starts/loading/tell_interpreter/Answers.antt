use Rattle.std.proofs.Common.{◌≡◌, List, Option, ap, sym}
use Rattle.std.specs.Option.{option_map}
use Rattle.std.specs.Vec.{vec_items}
use Rattle.std.proofs.lemmas.Result.{on_ok_weaker}
use Rattle.elf_loader.specs.kernel.Memory.{image_view}
use Rattle.elf_libraries.specs.Folder.{KnownFiles}
use Rattle.nugwier_programs.specs.Loading.{found_said, front_of}
use Rattle.nugwier_programs.proofs.KnownFiles.{known_so}
use Rattle.nugwier_programs.proofs.starts.loading.tell_interpreter.Goals as goal

pub returns : goal.returns
returns g c =
    let path = c.args.path.now in
    let says : Option (List _) → List _ = found_said c.args.platform.now (image_view c.args.program.now) c.args.path.now in
    let content = option_map vec_items c.in_ok-content.content in
    let said = known_so (g.F.Files.known c.args.files.now) (λ (files : KnownFiles). front_of (files.contents path) ≡ content) (λ files. says content ≡ says (front_of (files.contents path))) (λ files is. ap says (sym is)) c.in_ok-content.ensures in
    on_ok_weaker c.tell_found.result (λ told. (says content, said, told)) c.tell_found.ensures
