-- What a report writes: a line for each record and, as JSON, for each problem. Problems are also told elsewhere.
use Rattle.std.specs.Prelude.{◌≡◌, ℕ, ◌&&◌, false, List, [], ◌∷◌, Option, Some, None, codes}
use Rattle.std.specs.List.{list_all}
use Rattle.elf_records.specs.declared.file.Class.{Class}
use Rattle.nugwier_layouts.specs.Json.{object}
use Rattle.nugwier_layouts.specs.Layouts.{Layout}
use Rattle.nugwier_report.specs.Labels.{Named, label_of}
use Rattle.nugwier_report.specs.Parts.{part_member}
use Rattle.nugwier_report.specs.Problems.{IsTextAt, problem_line}
use Rattle.nugwier_layouts.specs.Members.{Content, Members, number, text}
use Rattle.nugwier_report.specs.Said.{Line, Said, is_right_line, states, warns}
use Rattle.nugwier_layouts.specs.Text.{bold_if, look_of, row_text}
use Rattle.nugwier_report.specs.Texts.{AreAppended, Written}
use Rattle.nugwier_report.specs.declared.problem.Part.{Part}
use Rattle.nugwier_report.specs.declared.report.Format.{Format}
use Rattle.nugwier_report.specs.declared.report.Format.TheVariants.{Json, Text}
use Rattle.nugwier_report.specs.declared.report.Summary.{Summary}
use Rattle.nugwier_layouts.specs.declared.text.Style.{Style}

-- ---- a record

-- an object, if its layout has a name
abbrev pub object_if : List ℕ → Option (List ℕ) → Members → List ℕ
object_if path (Some name) members = object path name members
object_if path None members = []

-- the row of a record
abbrev pub text_of : Style → Class → Layout → Members → List ℕ
text_of style class layout members =
    bold_if (style.is_colored && layout.is_heading) (row_text (look_of style class) members layout.columns layout.end)

-- in a file of this class
abbrev pub record_line : Format → List ℕ → Class → Layout → Members → List ℕ
record_line Json path class layout members = object_if path layout.name members
record_line (Text style) path class layout members = text_of style class layout members

-- ---- a problem

-- its section or segment
abbrev pub place_member : Option (ℕ × List ℕ) → Part → List ℕ × Content
place_member (Some section) part = (codes "section", number section.0)
place_member None part = part_member part

-- an object with the text that is told of it; among rows for people a problem has none
abbrev pub problem_record : Format → List ℕ → List ℕ × Content → List ℕ → List ℕ
problem_record Json path place told =
    object path (codes "problem") (place ∷ (codes "text", text (Some told)) ∷ [])
problem_record (Text style) path place told = []

-- ---- a report

-- what is written of what is said: in listings, and of a problem the same text elsewhere
abbrev pub AreLines : Format → List ℕ → Named → Said → List ℕ → List ℕ → Type 0
AreLines format path named (states layout members) line problem =
    (line ≡ record_line format path named.class layout members) × (problem ≡ [])
AreLines format path named (warns place fault) line problem =
    (told : List ℕ) × IsTextAt (label_of named place.part) place fault told
    × (line ≡ problem_record format path (place_member (label_of named place.part) place.part) told)
    × (problem ≡ problem_line path told)

-- the same of a line, on its page
abbrev pub AreTextsOfLine : Format → Line → List ℕ → List ℕ → Type 0
AreTextsOfLine format line out err = AreLines format line.0.path line.0.named line.1 out err

-- what was said was written after what the writers had: its records, and, unless a write of a problem failed, its
-- problems. The summary says whether nothing of it is wrong
abbrev pub IsWritten : Format → Written → Written → Summary → List Line → Type 0
IsWritten format before after summary said =
    AreAppended (AreTextsOfLine format) false summary.is_told before after said
    × (summary.is_right ≡ list_all is_right_line said)
