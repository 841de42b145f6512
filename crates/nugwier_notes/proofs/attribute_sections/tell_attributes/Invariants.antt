use Rattle.std.proofs.Common.{◌≡◌, map}
use Rattle.std.specs.List.{flat_map}
use Rattle.std.specs.Vec.Iter.{into_iter_items}
use Rattle.nugwier_notes.specs.AttributeSections.{attributes_of_section, said_of_attributes}
use Rattle.nugwier_report.specs.Whole.{file_of}
use Rattle.nugwier_report.specs.inner.TypedSections.{section_view}
use Rattle.nugwier_report.specs.Said.{saying}
use Rattle.nugwier_notes.proofs.attribute_sections.tell_attributes.Given as goal

-- what was told so far, and then what is told of the sections that are left, is the whole
abbrev pub invariant-loop-section : goal.invariant-loop-section
invariant-loop-section g l =
    let whole = file_of (g.R.Headers.file l.file) (g.R.ListedFile.bytes l.file) in
    let machine = (g.R.ListedFile.header l.file).e_machine in
    saying g.T.Tell.one l.tell (flat_map (attributes_of_section machine whole) (map section_view (into_iter_items l.section-iterator)))
    ≡ saying g.T.Tell.one l.initial.tell (said_of_attributes machine whole)
