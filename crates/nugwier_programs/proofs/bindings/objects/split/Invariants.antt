use Rattle.std.proofs.Common.{◌≡◌, ◌++◌, map}
use Rattle.nugwier_programs.proofs.bindings.objects.split.Given as goal

-- what was split so far, and then what is left, is all
abbrev pub invariant-loop-file : goal.invariant-loop-file
invariant-loop-file l =
    let rest = l.file-iterator.rest.items in
    (l.files.items ++ map (λ one. one.0) rest ≡ map (λ one. one.0) l.fn.found.items)
    × (l.tables.items ++ map (λ one. one.1) rest ≡ map (λ one. one.1) l.fn.found.items)
