use Rattle.std.proofs.Common.{◌≡◌, map}
use Rattle.std.specs.List.{flat_map}
use Rattle.std.specs.Vec.Iter.{into_iter_items}
use Rattle.nugwier_symbols.specs.Relocations.{placed_said, section_relocations, sections_relocations}
use Rattle.nugwier_symbols.specs.inner.Relocations.{around_view}
use Rattle.nugwier_report.specs.Whole.{file_of}
use Rattle.nugwier_report.specs.inner.TypedSections.{section_view}
use Rattle.nugwier_report.specs.Said.{saying}
use Rattle.nugwier_symbols.proofs.relocations.tell_sections.Given as goal

-- what was said so far, and then what is said of the sections that are left, is the whole
abbrev pub invariant-loop-section : goal.invariant-loop-section
invariant-loop-section g l =
    let whole = file_of (g.R.Headers.file l.file) (g.R.ListedFile.bytes l.file) in
    let said = flat_map (placed_said (around_view g.V.SymbolVersions.versions l.around)) in
    saying g.T.Tell.one l.tell (said (map (section_relocations whole) (map section_view (into_iter_items l.section-iterator))))
    ≡ saying g.T.Tell.one l.initial.tell (said (sections_relocations whole))
