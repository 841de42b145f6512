-- The stages of a check: a subject, or the subjects of all sections or of all segments.
use Rattle.std.specs.Prelude.{◌++◌, ℕ, List, [], if◌then◌else◌, length, nat_lt, slice_get, take, Option, Some, None}
use Rattle.std.specs.List.{flat_map}
use Rattle.elf.specs.ObjectFile.{ObjectFile}
use Rattle.elf_check.specs.AllFaults.{Subject, below}
use Rattle.elf_check.specs.AllFaults.{Definitions, Indexes, LoadOrder, Needs, SectionAt, SectionNames, SegmentAt}
use Rattle.elf_check.specs.AllFaults.{SingleType, Types}
use Rattle.elf_check.specs.declared.walk.Stage.{Stage}
use Rattle.elf_check.specs.declared.walk.Stage.TheVariants as stage

-- the subject of a stage with an index
abbrev pub subject_of : Stage → ℕ → Subject
subject_of stage.SectionNames i = SectionNames
subject_of (stage.SingleType t) i = SingleType t
subject_of stage.Sections i = SectionAt i
subject_of stage.Needs i = Needs
subject_of stage.Definitions i = Definitions
subject_of stage.Indexes i = Indexes
subject_of (stage.Types rule) i = Types rule
subject_of stage.Segments i = SegmentAt i
subject_of stage.LoadOrder i = LoadOrder

-- how many it has
abbrev pub count_of : ObjectFile → Stage → ℕ
count_of file stage.Sections = length file.sections
count_of file stage.Segments = length file.segments
count_of file other = 1

abbrev pub stage_subjects : ObjectFile → Stage → List Subject
stage_subjects file stage = below (subject_of stage) (count_of file stage)

abbrev pub subjects_in : ObjectFile → List Stage → List Subject
subjects_in file stages = flat_map (stage_subjects file) stages

-- those of a stage below an index
abbrev pub begun : ObjectFile → ℕ → Option Stage → List Subject
begun file index None = []
begun file index (Some stage) =
    below (subject_of stage) (if nat_lt index (count_of file stage) then index else count_of file stage)

-- those of the stages before one, and of this one those below an index
abbrev pub checked_in : ObjectFile → List Stage → ℕ → ℕ → List Subject
checked_in file stages stage index = subjects_in file (take stage stages) ++ begun file index (slice_get stages stage)
