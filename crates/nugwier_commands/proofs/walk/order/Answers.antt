use Rattle.std.proofs.Common.{rules, string_bytes}
use Rattle.std.proofs.lemmas.List.Sorted.{answers_always, ranks_by}
use Rattle.std.proofs.lemmas.Cmp.{nat_list_cmp_total}
use Rattle.elf_libraries.specs.declared.folder.Entry.{Entry}
use Rattle.nugwier_commands.proofs.Walks.{in_order}
use Rattle.nugwier_commands.proofs.walk.order.Goals as goal

pub returns : goal.returns
returns c =
    let ensures = c.sort_unstable_by.ensures in
    in_order c.args.names.now c.sort_unstable_by.new.self ensures.permutation
    (ensures.sorted _ (ranks_by nat_list_cmp_total (λ (e : Entry). string_bytes e.path)) (answers_always _ _ _ (λ f a r g h. search rules)))
