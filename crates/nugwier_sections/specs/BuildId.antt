-- What is said of the build id of a file.
use Rattle.std.specs.Prelude.{ℕ, List, [], ◌∷◌, codes}
use Rattle.elf.specs.ObjectFile.{ObjectFile}
use Rattle.elf_tools.specs.BuildId.{build_id}
use Rattle.nugwier_layouts.specs.Layouts.{constant}
use Rattle.nugwier_layouts.specs.Members.{bytes}
use Rattle.nugwier_layouts.specs.declared.layouts.TheConstants as layout
use Rattle.nugwier_report.specs.Reading.{answer_said, missing}
use Rattle.nugwier_report.specs.Said.{Said, states}
use Rattle.nugwier_report.specs.declared.problem.Part.TheVariants.{BuildId}

abbrev pub build_id_said : List ℕ → List Said
build_id_said id = states (constant layout.BUILD_ID) ((codes "build_id", bytes id) ∷ []) ∷ []

-- that there is none is wrong, and so is what cannot be read
abbrev pub said_of_build_id : ObjectFile → List Said
said_of_build_id file = answer_said BuildId (missing BuildId) build_id_said (build_id file)
