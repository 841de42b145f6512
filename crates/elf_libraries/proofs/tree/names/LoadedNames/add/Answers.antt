use Rattle.std.proofs.Common.{◌||◌, ap, ◌∙◌, bytes_eq, nat_cmp, vec_items}
use Rattle.std.specs.BTreeMap.{is_at}
use Rattle.std.specs.Cmp.Lexicographic.{slice_cmp}
use Rattle.std.specs.List.{list_any}
use Rattle.elf_libraries.specs.inner.LoadedNames.{has_name}
use Rattle.elf_libraries.proofs.Loading.{name_added}
use Rattle.elf_libraries.proofs.tree.names.LoadedNames.add.Goals as goal

pub returns-clause-names : goal.returns-clause-names
returns-clause-names c =
    λ name.
    ap (list_any (is_at (λ k. slice_cmp nat_cmp name (vec_items k)))) c.in_ok-insert.ensures.keys
    ∙ name_added name c.in_ok-key.key c.args.self.now.set.keys
    ∙ ap (λ bytes. bytes_eq name bytes || has_name c.args.self.now name) c.in_ok-key.ensures.items
