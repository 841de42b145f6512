use Rattle.std.proofs.Common.{◌≡◌, ◌∙◌, false, sym}
use Rattle.elf_linking.specs.Binding.{passes_over}
use Rattle.elf_linking.specs.VersionedView.{versioned_view}
use Rattle.elf_linking.proofs.Unnamed.{unnamed}
use Rattle.elf_linking.proofs.VersionedObject.find_at.Goals as goal

pub returns-then-excludes : goal.returns-then-excludes
returns-then-excludes g c =
    let object = versioned_view g.V.SymbolVersions.versions c.args.self.now in
    let nothing = c.excludes.ensures.none c.if-excludes.true c.args.name.now (sym c.requires) in
    let here : passes_over c.args.kind c.args.place ≡ false = sym c.passes_over.ensures ∙ c.if-passes_over.false in
    rw here (unnamed c.args.kind object c.args.name.now nothing c.args.wanted.now)
