use Rattle.std.proofs.Common.{◌∷◌, ◌++◌, ◌∙◌, [], ℕ, List, ap}
use Rattle.std.specs.Global.{Vec}
use Rattle.elf_libraries.proofs.Listed.{set_with}
use Rattle.elf_libraries.proofs.paths.Paths.add.Goals as goal

pub invariant_of-self-in-Continue-branch-4 : goal.invariant_of-self-in-Continue-branch-4
invariant_of-self-in-Continue-branch-4 c =
    set_with c.self.inside.list.items c.push.new.self.items c.self.inside.set c.insert.new.self c.in_ok-key.key c.args.path c.self.invariant
    c.in_ok-is_new.ensures.updates (c.in_ok-key.ensures.items ∙ c.deref.ensures.value)
    (c.in_ok-push.ensures.items ∙ ap (λ (list : List (Vec ℕ)). list ++ c.args.path ∷ []) c.reserve.ensures.items)
