use Rattle.std.proofs.Common.{◌≡◌, ℕ, sym, subst}
use Rattle.std.specs.List.{slice_get}
use Rattle.std.specs.Result.{result_ok}
use Rattle.elf_parts.specs.gnu_symver.Table.{versions_view}
use Rattle.elf.specs.ElfBytes.{view}
use Rattle.elf.specs.ObjectFile.{ObjectFile}
use Rattle.elf_linking.specs.BindingObjects.{GivesVersioned}
use Rattle.elf_linking.specs.VersionedView.{versioned_view}
use Rattle.elf_check.specs.Whole.{whole_view}
use Rattle.elf_check.proofs.Linked.{object_sized}
use Rattle.elf_laws.proofs.Objects.{gives_sound}
use Rattle.elf_laws.proofs.checked_object.Goals as goal

pub returns-clause-given : goal.returns-clause-given
returns-clause-given g c =
    subst (λ (file : ObjectFile). GivesVersioned (versioned_view {E = g.row.E.Denot} {order = g.E.EndianParse} {default = g.E.Default} {equal = g.E.PartialEq} (versions_view {E = g.row.E.Denot})) file c.versioned_object.result) (sym c.file-2.ensures.same) c.versioned_object.ensures

pub returns-clause-sound : goal.returns-clause-sound
returns-clause-sound g c = λ fit.
    let whole = whole_view g.E.EndianParse.little c.args.file.now in
    let listed : ObjectFile → Type 0 = λ file. (i : ℕ) → slice_get file.sections i ≡ result_ok (file.section_at i) in
    let given : ObjectFile → Type 0 = λ file. GivesVersioned (versioned_view {E = g.row.E.Denot} {order = g.E.EndianParse} {default = g.E.Default} {equal = g.E.PartialEq} (versions_view {E = g.row.E.Denot})) file c.versioned_object.result in
    gives_sound whole (object_sized g.E.EndianParse.little (view c.args.file.now.file.now)) c.file.ensures.sound (subst listed (sym c.file.ensures.same) c.sections_are_listed.ensures)
    (versioned_view {E = g.row.E.Denot} {order = g.E.EndianParse} {default = g.E.Default} {equal = g.E.PartialEq} (versions_view {E = g.row.E.Denot}))
    c.versioned_object.result fit (subst given (sym c.file-2.ensures.same) c.versioned_object.ensures)
