-- What is said of what was read.
use Rattle.std.specs.Prelude.{List, [], ◌∷◌, Option, Some, None, Result, Ok, Err}
use Rattle.elf_records.specs.declared.parse.ParseError.{ParseError}
use Rattle.nugwier_report.specs.Said.{Said, whole, wrong}
use Rattle.nugwier_report.specs.declared.problem.Fault.{Fault}
use Rattle.nugwier_report.specs.declared.problem.Fault.TheVariants.{Missing, Read}
use Rattle.nugwier_report.specs.declared.problem.Part.{Part}
use Rattle.nugwier_report.specs.declared.problem.Place.{Place}

-- what was found, if it could be read
abbrev pub if_read : {A E : Type 0} → Result (Option A) E → Option A
if_read (Ok found) = found
if_read (Err e) = None

-- what is wrong with what was not found at a place
abbrev pub fault_said : {A : Type 0} → Place → Result A Fault → List Said
fault_said place (Ok x) = []
fault_said place (Err fault) = wrong place fault ∷ []

-- what is said of what was found, or what is wrong with the part
abbrev pub given_said : {A : Type 0} → Part → (A → List Said) → Result A Fault → List Said
given_said part said (Ok x) = said x
given_said part said (Err fault) = wrong (whole part) fault ∷ []

-- the same of what was read
abbrev pub read_said : {A : Type 0} → Part → (A → List Said) → Result A ParseError → List Said
read_said part said (Ok x) = said x
read_said part said (Err e) = wrong (whole part) (Read e) ∷ []

-- that a file has no such part
abbrev pub missing : Part → List Said
missing part = wrong (whole part) Missing ∷ []

-- what is said of a part that a file may lack: if it does, this is said
abbrev pub found_said : {A : Type 0} → Part → List Said → (A → List Said) → Result (Option A) Fault → List Said
found_said part none said (Ok (Some x)) = said x
found_said part none said (Ok None) = none
found_said part none said (Err fault) = wrong (whole part) fault ∷ []

-- the same of what was read
abbrev pub answer_said : {A : Type 0} → Part → List Said → (A → List Said) → Result (Option A) ParseError → List Said
answer_said part none said (Ok (Some x)) = said x
answer_said part none said (Ok None) = none
answer_said part none said (Err e) = wrong (whole part) (Read e) ∷ []
