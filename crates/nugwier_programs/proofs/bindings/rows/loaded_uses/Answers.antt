use Rattle.std.proofs.Common.{ℕ, ap, ◌∙◌}
use Rattle.elf_records.specs.Endian.{any_is_little}
use Rattle.elf_linking.specs.DynamicFile.{dynamic_uses}
use Rattle.elf_linking.specs.Missing.{loaded_part}
use Rattle.nugwier_programs.proofs.bindings.rows.loaded_uses.Goals as goal

pub returns : goal.returns
returns c =
    let machine = ap (λ stream. stream.headers.ehdr.e_machine) c.linked.view_is in
    c.add_dynamic_uses.ensures
    ∙ ap (λ (m : ℕ). dynamic_uses m (loaded_part any_is_little c.args.file.now.file.now) c.args.uses.now) machine
