use Rattle.std.proofs.Common.{◌≡◌, ◌++◌, drop, map}
use Rattle.elf_libraries.specs.Tree.{entry_of, entry_view, in_order}
use Rattle.elf_libraries.proofs.tree.in_order.Given as goal

-- with the objects at the places that are left, those so far are all
abbrev pub invariant-loop-place : goal.invariant-loop-place
invariant-loop-place l =
    let all = map entry_view l.order.objects.items in
    in_order all l.order.scope.items ≡ map entry_of l.objects.items ++ in_order all (drop l.place-index l.order.scope.items)
