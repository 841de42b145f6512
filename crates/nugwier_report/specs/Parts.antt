-- The part of a file that a record is of.
use Rattle.std.specs.Prelude.{ℕ, List, codes}
use Rattle.nugwier_layouts.specs.Members.{Content, nothing, number}
use Rattle.nugwier_report.specs.declared.problem.Part.{Part}
use Rattle.nugwier_report.specs.declared.problem.Part.TheVariants as part
use Rattle.nugwier_report.specs.declared.problem.RelocationTable.{RelocationTable}
use Rattle.nugwier_report.specs.declared.problem.RelocationTable.TheVariants as table

-- the number of a section or of a segment
abbrev pub part_member : Part → List ℕ × Content
part_member (part.Section i) = (codes "section", number i)
part_member (part.Segment i) = (codes "segment", number i)
part_member _ = (codes "section", nothing)

-- the tag of the dynamic entry that gives a table of relocations
abbrev pub tag_name : RelocationTable → List ℕ
tag_name table.Rel = codes "DT_REL"
tag_name table.Rela = codes "DT_RELA"
tag_name table.Relr = codes "DT_RELR"
tag_name table.Plt = codes "DT_JMPREL"
