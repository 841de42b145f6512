use Rattle.std.proofs.Common.{refl, ◌∙◌}
use Rattle.elf_parts.specs.gnu_symver.Table.{versions_view}
use Rattle.nugwier_programs.proofs.Scopes.{borrowed, made_same, objects_more}
use Rattle.nugwier_programs.proofs.bindings.objects.index_objects.Goals as goal

pub loop-file-preserved : goal.loop-file-preserved
loop-file-preserved c =
    let versions = borrowed versions_view _ _ c.as_ref.ensures.value in
    let same = c.in_ok-with_index.ensures.object ∙ made_same _ _ _ _ (refl) versions in
    objects_more c.args.files.now c.loop-file.file-index c.file-item.result c.loop-file.objects.items c.push.new.self.items c.in_ok-with_index.field-0 _ _ c.in-Some.table _
    c.loop-file-test.true c.file-item.is c.in-Some.ensures.items c.in_ok-push.ensures.items same c.loop-file.invariant
