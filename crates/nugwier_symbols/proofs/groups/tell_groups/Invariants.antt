use Rattle.std.proofs.Common.{◌≡◌, map}
use Rattle.std.specs.List.{flat_map}
use Rattle.std.specs.Vec.Iter.{into_iter_items}
use Rattle.nugwier_symbols.specs.Groups.{groups_said, section_group_said}
use Rattle.nugwier_report.specs.Whole.{file_of}
use Rattle.nugwier_report.specs.inner.TypedSections.{section_view}
use Rattle.nugwier_report.specs.Labels.{named_by}
use Rattle.nugwier_report.specs.Said.{saying}
use Rattle.nugwier_symbols.proofs.groups.tell_groups.Given as goal

-- what was said so far, and then what is said of the sections that are left, is the whole
abbrev pub invariant-loop-section : goal.invariant-loop-section
invariant-loop-section g l =
    let whole = file_of (g.R.Headers.file l.file) (g.R.ListedFile.bytes l.file) in
    let named = named_by l.labels in
    saying g.T.Tell.one l.tell (flat_map (section_group_said named whole) (map section_view (into_iter_items l.section-iterator)))
    ≡ saying g.T.Tell.one l.initial.tell (groups_said named whole)
