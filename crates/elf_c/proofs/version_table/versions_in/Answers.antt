use Rattle.std.proofs.lemmas.Result.{err_from_is_err_and}
use Rattle.elf_c.proofs.Chosen.{versions_found, versions_refused}
use Rattle.elf_c.specs.Loaded.{loaded_of_c}
use Rattle.elf_c.specs.Versions.{versions_of_c}
use Rattle.elf_c.proofs.version_table.versions_in.Goals as goal

pub returns-in_err-found-in-Some-clause-found : goal.returns-in_err-found-in-Some-clause-found
returns-in_err-found-in-Some-clause-found c =
    let p = err_from_is_err_and c.from_residual.result c.from_residual.ensures.1 in
    rw (p.1, p.2) (versions_refused (loaded_of_c c.args.file.now) c.version_sections-chosen.result c.in-Some.shdr c.version_sections-chosen.ensures (cc c.in-Some.is) c.in_err-found-in-Some.field-0.0 c.in_err-found-in-Some.ensures.found)

pub returns-in_ok-found-in-Some-clause-found : goal.returns-in_ok-found-in-Some-clause-found
returns-in_ok-found-in-Some-clause-found c =
    versions_found (loaded_of_c c.args.file.now) c.version_sections-chosen.result c.in-Some.shdr c.version_sections-chosen.ensures (cc c.in-Some.is) (versions_of_c c.in_ok-found-in-Some.found) c.in_ok-found-in-Some.ensures.found
