use Rattle.std.proofs.Common.{◌≡◌, Some, sym, ◌∙◌, rules}
use Rattle.std.specs.List.{slice_get}
use Rattle.elf_records.specs.Dynamic.{dyn_reads}
use Rattle.elf_records.specs.Table.{table_items, table_view}
use Rattle.elf_c.proofs.DynamicNames.{none_at, one_at, other_at}
use Rattle.elf_c.proofs.dynamic_names.next_library.Goals as goal

pub returns-then-has_tag : goal.returns-then-has_tag
returns-then-has_tag c =
    let t = table_view c.args.entries.now in
    let at = c.loop-at.at in
    let here : slice_get (table_items dyn_reads t) at ≡ Some c.in-Ok.entry = search rules in
    sym c.loop-at.invariant ∙ none_at t at c.in-Ok.entry here (sym c.has_tag.ensures ∙ c.if-has_tag.true)

pub returns-then-is_library : goal.returns-then-is_library
returns-then-is_library c =
    let t = table_view c.args.entries.now in
    let at = c.loop-at.at in
    let here : slice_get (table_items dyn_reads t) at ≡ Some c.in-Ok.entry = search rules in
    sym c.loop-at.invariant
    ∙ one_at t at c.in-Ok.entry here (sym c.has_tag.ensures ∙ c.if-has_tag.false) (sym c.is_library.ensures ∙ c.if-is_library.true)

pub loop-at-preserved : goal.loop-at-preserved
loop-at-preserved c =
    let t = table_view c.args.entries.now in
    let at = c.loop-at.at in
    let here : slice_get (table_items dyn_reads t) at ≡ Some c.in-Ok.entry = search rules in
    sym (other_at t at c.in-Ok.entry here (sym c.has_tag.ensures ∙ c.if-has_tag.false) (sym c.is_library.ensures ∙ c.if-is_library.false))
    ∙ c.loop-at.invariant
