use Rattle.std.proofs.Common.{◌≡◌, [], ◌∷◌, map}
use Rattle.std.specs.List.{flat_map}
use Rattle.std.specs.Vec.Iter.{into_iter_items}
use Rattle.elf_abi.specs.Values.{sht_gnu_hash, sht_hash}
use Rattle.nugwier_dynamic.specs.Chains.{chains_of}
use Rattle.nugwier_report.specs.Said.{saying}
use Rattle.nugwier_report.specs.TypedSections.{sections_of}
use Rattle.nugwier_report.specs.Whole.{file_of}
use Rattle.nugwier_report.specs.inner.TypedSections.{section_view}
use Rattle.nugwier_dynamic.proofs.chains.tell_sections.Given as goal

-- what was told so far, and then what is told of the hash sections that are left, is the whole
abbrev pub invariant-loop-section : goal.invariant-loop-section
invariant-loop-section g l =
    let whole = file_of (g.R.Headers.file l.file) (g.R.ListedFile.bytes l.file) in
    let said = flat_map (chains_of whole) in
    saying g.T.Tell.one l.tell (said (map section_view (into_iter_items l.section-iterator)))
    ≡ saying g.T.Tell.one l.initial.tell (said (sections_of whole (sht_hash ∷ sht_gnu_hash ∷ [])))
