use Rattle.std.proofs.Common.{None, sym, ap, ◌∙◌}
use Rattle.std.specs.List.{last_or}
use Rattle.elf_dynamic.specs.dynamic_view.Entries.{values_left}
use Rattle.elf_dynamic.proofs.Walking.{given_whole}
use Rattle.elf_dynamic.proofs.dynamic_view.entries.last_of.Goals as goal

pub returns : goal.returns
returns g c =
    let ran = c.last.ensures.ran in
    ran.2 ∙ ap (last_or None) (sym (given_whole values_left ran.0 c.args.values _ _ ran.1.1.1 ran.1.1.2))
