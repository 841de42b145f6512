use Rattle.std.proofs.Common.{◌%◌, sym, ◌∙◌}
use Rattle.elf_check.proofs.Kept.{kept_more}
use Rattle.elf_check.proofs.versions.indexes.count_with_kept.Goals as goal

pub returns-then-place-kept-2-clause-sound : goal.returns-then-place-kept-2-clause-sound
returns-then-place-kept-2-clause-sound g c =
    kept_more (g.V.SymbolVersions.versions c.args.table.now) c.args.kept.now (c.args.index.now.0 % 64) c.args.index.now
    c.requires.sound c.if-place-kept-2.true (sym c.count_with_index-count.ensures.count ∙ c.if-count-eq1.true)
