use Rattle.std.proofs.Common.{◌≡◌, ℕ, List, Option, Result, Ok, ap, sym}
use Rattle.std.specs.Option.{option_map}
use Rattle.std.proofs.lemmas.Result.{on_ok_weaker}
use Rattle.elf_libraries.specs.Folder.{KnownFiles}
use Rattle.elf_loader.specs.declared.glibc.Candidate.{Candidate}
use Rattle.nugwier_programs.specs.Loading.{judged_if, judged_said}
use Rattle.nugwier_programs.proofs.KnownFiles.{known_so}
use Rattle.nugwier_programs.proofs.starts.loading.tell_library.Goals as goal

pub returns : goal.returns
returns g c =
    let path = c.args.path.now in
    let linker = c.args.linker.now in
    let says : Option (Result Candidate (ℕ × ℕ)) → List _ = judged_said path in
    let found : Option (Result Candidate (ℕ × ℕ)) = option_map (λ (found : Candidate). Ok found) c.in_ok-found.found in
    let said = known_so (g.F.Files.known c.args.files.now) (λ (files : KnownFiles). judged_if linker (files.contents path) ≡ found) (λ files. says found ≡ says (judged_if linker (files.contents path))) (λ files is. ap says (sym is)) c.in_ok-found.ensures in
    on_ok_weaker c.tell_judged.result (λ told. (says found, said, told)) c.tell_judged.ensures
