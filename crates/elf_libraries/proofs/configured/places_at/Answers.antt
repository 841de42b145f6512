use Rattle.std.proofs.Common.{◌≡◌, ap, map}
use Rattle.std.proofs.lemmas.Result.{IfOk-weaker}
use Rattle.std.specs.Prelude.{IfSome}
use Rattle.elf_libraries.specs.Folder.{place_of}
use Rattle.elf_libraries.proofs.Configuring.{no_places, places_of_text}
use Rattle.elf_libraries.proofs.Texts.{no_text, text}
use Rattle.elf_libraries.specs.Configured.{places_at, places_in}
use Rattle.elf_libraries.proofs.configured.places_at.Goals as goal

pub returns-in-Ok : goal.returns-in-Ok
returns-in-Ok g c =
    let known = g.F.Files.known c.args.files.now in
    let folder = c.args.folder.now in
    let path = c.in-Ok.folder.now in
    IfOk-weaker c.places_in.result (λ names. IfSome known (λ files. map place_of names.items ≡ places_in (files.folders path)))
    (λ names. IfSome known (λ files. map place_of names.items ≡ places_at files folder))
    (λ names h. places_of_text known (map place_of names.items) folder path c.in-Ok.ensures.cases.0 (text folder c.in-Ok.ensures.cases.1) h)
    c.places_in.ensures

pub returns-in-Err : goal.returns-in-Err
returns-in-Err g c =
    let folder = c.args.folder.now in
    no_places (g.F.Files.known c.args.files.now) (map place_of c.new.result.items) folder (ap (map place_of) c.new.ensures.items) (no_text folder c.in-Err.ensures.cases.0)
