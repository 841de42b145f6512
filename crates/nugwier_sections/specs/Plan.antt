-- What is said of what a loader maps.
use Rattle.std.specs.Prelude.{◌≡◌, List, [], ◌∷◌, Result, Ok, Err}
use Rattle.elf.specs.ObjectFile.{ObjectFile}
use Rattle.elf_tools.specs.LoadPlan.{IsPlan, IsTrueOfPlan, error_text, mappings}
use Rattle.elf_tools.specs.declared.load_plan.Mapping.{Mapping}
use Rattle.elf_tools.specs.declared.load_plan.PlanError.{PlanError}
use Rattle.elf_tools.specs.declared.load_plan.PlanError.TheVariants.{Memory}
use Rattle.nugwier_sections.specs.MappingRows.{mapping_said}
use Rattle.nugwier_report.specs.Said.{Said, numbered, states, warns, whole, wrong}
use Rattle.nugwier_report.specs.declared.problem.Fault.TheVariants.{Missing}
use Rattle.nugwier_report.specs.declared.problem.Part.TheVariants.{LoadPlan}
use Rattle.nugwier_layouts.specs.Layouts.{constant}
use Rattle.nugwier_layouts.specs.declared.layouts.TheConstants as layout

-- a heading and each mapping; that there are none is wrong
abbrev pub mappings_said : List Mapping → List Said
mappings_said [] = wrong (whole LoadPlan) Missing ∷ []
mappings_said (m ∷ ms) = states (constant layout.MAPPINGS_HEADING) [] ∷ numbered mapping_said 0 (m ∷ ms)

-- of mappings, or why they cannot be mapped
abbrev pub plan_said : Result (List Mapping) PlanError → List Said
plan_said (Ok all) = mappings_said all
plan_said (Err e) = warns (whole LoadPlan) (error_text e) ∷ []

-- a file has these mappings, and they can be mapped as they are declared; or this is the first thing that is wrong with
-- them. That memory is short says nothing of a file
abbrev pub IsPlanned : ObjectFile → Result (List Mapping) PlanError → Type 0
IsPlanned file (Ok all) = (all ≡ mappings file.segments) × IsPlan file.class file.size all
IsPlanned file (Err Memory) = ⊥
IsPlanned file (Err e) = IsTrueOfPlan file.class file.size (mappings file.segments) e

-- what is said is of its mappings, or of the first thing that is wrong with them
abbrev pub IsPlanSaid : ObjectFile → List Said → Type 0
IsPlanSaid file said = (planned : Result (List Mapping) PlanError) × IsPlanned file planned × (said ≡ plan_said planned)
