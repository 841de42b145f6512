use Rattle.std.proofs.Common.{◌≡◌, [], ◌∷◌, map}
use Rattle.std.specs.List.{flat_map}
use Rattle.std.specs.Vec.Iter.{into_iter_items}
use Rattle.elf_abi.specs.Values.{sht_gnu_verdef, sht_gnu_verneed}
use Rattle.nugwier_dynamic.specs.VersionLists.{section_versions_said}
use Rattle.nugwier_report.specs.Said.{saying}
use Rattle.nugwier_report.specs.TypedSections.{sections_of}
use Rattle.nugwier_report.specs.Whole.{file_of}
use Rattle.nugwier_report.specs.inner.TypedSections.{section_view}
use Rattle.nugwier_dynamic.proofs.version_lists.tell_sections.Given as goal

-- what was told so far, and then what is told of the sections that are left, is the whole
abbrev pub invariant-loop-section : goal.invariant-loop-section
invariant-loop-section g l =
    let whole = file_of (g.R.Headers.file l.file) (g.R.ListedFile.bytes l.file) in
    let said = flat_map (section_versions_said whole) in
    saying g.T.Tell.one l.tell (said (map section_view (into_iter_items l.section-iterator)))
    ≡ saying g.T.Tell.one l.initial.tell (said (sections_of whole (sht_gnu_verdef ∷ sht_gnu_verneed ∷ [])))
