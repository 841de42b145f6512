use Rattle.std.proofs.Common.{◌≡◌, ◌||◌, Option, ap, sym, subst}
use Rattle.std.specs.Option.{option_map}
use Rattle.elf_libraries.specs.Tree.{entry_view, found_view, identity_of, same_file}
use Rattle.elf_libraries.specs.declared.tree.Identity.{Identity}
use Rattle.elf_libraries.specs.declared.tree.LoadedFile.{LoadedFile}
use Rattle.elf_libraries.specs.inner.LoadedNames.{has_file}
use Rattle.elf_libraries.proofs.Loading.{object_listed}
use Rattle.elf_libraries.proofs.tree.names.LoadedNames.add_object.Goals as goal

pub returns : goal.returns
returns c =
    let named = c.add_names.new.self in
    let new = c.add_file.new.self in
    let is : identity_of (entry_view c.args.object.now).file ≡ c.in-Some.file.identity =
    ap (λ (file : Option LoadedFile). identity_of (option_map found_view file)) c.in-Some.is in
    object_listed c.args.self.now named new (entry_view c.args.object.now) c.in_ok-add_names.ensures.names c.in_ok-add_names.ensures.files
    (subst (λ (added : Option Identity). (identity : Option Identity) → has_file new identity ≡ (same_file identity added || has_file named identity)) (sym is) c.in_ok-add_file.ensures.files)
    c.in_ok-add_file.ensures.names
