use Rattle.std.proofs.Common.{◌≡◌, ◌||◌, sym, subst}
use Rattle.std.specs.declared.option.Option.{Option}
use Rattle.elf_libraries.specs.Tree.{same_file}
use Rattle.elf_libraries.specs.declared.tree.Identity.{Identity}
use Rattle.elf_libraries.specs.declared.tree.names.LoadedNames.{LoadedNames}
use Rattle.elf_libraries.specs.inner.LoadedNames.{has_file}
use Rattle.elf_libraries.proofs.Loading.{file_listed}
use Rattle.elf_libraries.proofs.tree.names.LoadedNames.add_file.Goals as goal

pub returns-in_ok-insert-clause-files : goal.returns-in_ok-insert-clause-files
returns-in_ok-insert-clause-files c =
    let old = c.args.self.now in
    let new : LoadedNames = record { set = old.set; files = c.insert.new.self } in
    subst (λ (added : Option Identity). (identity : Option Identity) → has_file new identity ≡ (same_file identity added || has_file old identity)) (sym c.in-Some.is)
    (file_listed old new c.in-Some.added c.in_ok-insert.ensures.keys)
