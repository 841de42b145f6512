use Rattle.elf_linking.specs.VersionedView.{versioned_view}
use Rattle.elf_laws.proofs.Bindings.{all_bound}
use Rattle.elf_laws.proofs.references_bind.Goals as goal

pub returns : goal.returns
returns g c = λ of. all_bound (versioned_view g.V.SymbolVersions.versions) c.args.objects.now of
