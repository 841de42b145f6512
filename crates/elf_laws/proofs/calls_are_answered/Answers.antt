use Rattle.std.proofs.Common.{◌≡◌, ℕ, sym, subst}
use Rattle.std.specs.List.{slice_get}
use Rattle.std.specs.Result.{result_ok}
use Rattle.elf.specs.ObjectFile.{ObjectFile}
use Rattle.elf_check.specs.Whole.{whole_view}
use Rattle.elf_laws.proofs.Calls.{all_answered}
use Rattle.elf_laws.proofs.calls_are_answered.Goals as goal

pub returns : goal.returns
returns g c = λ header call fit.
    let listed : ObjectFile → Type 0 = λ file. (i : ℕ) → slice_get file.sections i ≡ result_ok (file.section_at i) in
    all_answered header (whole_view g.E.EndianParse.little c.args.file.now) c.file.ensures.sound
    (subst listed (sym c.file.ensures.same) c.sections_are_listed.ensures)
    (c.symbols_are_answered.ensures header) (c.dynamic_symbols_are_answered.ensures header) (c.versions_are_answered.ensures header) call fit
