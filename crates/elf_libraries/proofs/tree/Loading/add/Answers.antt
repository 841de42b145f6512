use Rattle.std.proofs.Common.{sym, subst}
use Rattle.std.specs.Prelude.{List, map}
use Rattle.elf_libraries.specs.Tree.{entry_view}
use Rattle.elf_libraries.specs.declared.tree.Object.{Object}
use Rattle.elf_libraries.specs.inner.LoadedNames.{AreNamesOf}
use Rattle.elf_libraries.proofs.Loading.{object_loaded}
use Rattle.elf_libraries.proofs.tree.Loading.add.Goals as goal

pub returns-clause-names : goal.returns-clause-names
returns-clause-names c =
    let object : Object = record { name = c.args.name; loader = c.args.loader; file = c.args.file } in
    let new = c.add_object.new.self in
    subst (λ (objects : List Object). AreNamesOf new (map entry_view objects)) (sym c.in_ok-push.ensures.items)
    (object_loaded c.args.self.now.names new c.args.self.now.objects.items object c.requires c.in_ok-add_object.ensures)
