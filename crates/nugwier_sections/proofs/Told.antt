-- What was told, where one of several things may be said.
use Rattle.std.proofs.Common.{◌≡◌, OnOk, ℕ, Bool, List, [], ◌∷◌, Option, Result, Ok, Err, Vec, Global, refl, ap, subst, sym}
use Rattle.elf_records.specs.Number.{ok_map}
use Rattle.elf_records.specs.declared.parse.ParseError.{ParseError}
use Rattle.elf.specs.ObjectFile.{ObjectFile}
use Rattle.elf_check.specs.declared.faults.FileFault.{FileFault}
use Rattle.elf_tools.specs.LoadPlan.{IsPlan, IsTrueOfPlan, error_text, mappings}
use Rattle.elf_tools.specs.declared.load_plan.Mapping.{Mapping}
use Rattle.elf_tools.specs.declared.load_plan.PlanError.{PlanError}
use Rattle.elf_tools.specs.declared.load_plan.PlanError.TheVariants.{AddressSpace, FileSize, Memory, OutsideFile, Overlap}
use Rattle.nugwier_sections.specs.Check.{AreFoundSaid, AreReadFaults, IsCheckSaid}
use Rattle.nugwier_sections.specs.Plan.{IsPlanSaid, mappings_said}
use Rattle.nugwier_report.specs.Said.{IsToldAs, Said, saying, warns, whole, wrong}
use Rattle.nugwier_report.specs.declared.problem.Fault.TheVariants.{Read}
use Rattle.nugwier_report.specs.declared.problem.Part.TheVariants.{File, LoadPlan}
use Rattle.nugwier_report.specs.declared.problem.Place.{Place}

pub mapped : (file : ObjectFile) (all shown : List Mapping) → (all ≡ mappings file.segments) × IsPlan file.class file.size (mappings file.segments) → shown ≡ all → IsPlanSaid file (mappings_said shown)
mapped file all shown (are, plan) same = (Ok all, (are, subst (λ (m : List Mapping). IsPlan file.class file.size m) (sym are) plan), ap mappings_said same)

pub not_mapped : (file : ObjectFile) (e : PlanError) → (e ≡ Memory → ⊥) → IsTrueOfPlan file.class file.size (mappings file.segments) e → IsPlanSaid file (warns (whole LoadPlan) (error_text e) ∷ [])
not_mapped file (FileSize k) full h = (Err (FileSize k), h, refl)
not_mapped file (OutsideFile k) full h = (Err (OutsideFile k), h, refl)
not_mapped file (AddressSpace k) full h = (Err (AddressSpace k), h, refl)
not_mapped file (Overlap k) full h = (Err (Overlap k), h, refl)
not_mapped file Memory full h = absurd (full refl)

-- the faults of what was read of a file are those of the file
pub checked : {A E : Type 0} (little : E → Bool) (of_byte : ℕ → Option E) (silent : A → Bool) (one : A → Said → A) (path : List ℕ) (file : ObjectFile) (before after : A) (read : Result (List ℕ) ParseError) (found : Result (List FileFault) ParseError)
    → read ≡ file.range 0 file.size → AreReadFaults little of_byte read found → (said : List Said) × AreFoundSaid path found said × (after ≡ saying one before said)
    → IsToldAs silent one (IsCheckSaid little of_byte path file) before after
checked little of_byte silent one path file before after read found is are (said, of, told) = λ loud.
    (said, (found, subst (λ (r : Result (List ℕ) ParseError). AreReadFaults little of_byte r found) is are, of), told)

-- a file that was not read has no faults
pub not_checked : (path : List ℕ) (found : Result (Vec FileFault Global) ParseError) (e : ParseError) (place : Place) → found ≡ Err e → place ≡ whole File
    → AreFoundSaid path (ok_map (λ faults. faults.items) found) (wrong place (Read e) ∷ [])
not_checked path found e place same is = subst (λ (r : Result (Vec FileFault Global) ParseError). AreFoundSaid path (ok_map (λ faults. faults.items) r) (wrong place (Read e) ∷ [])) (sym same) (ap (λ (p : Place). wrong p (Read e) ∷ []) is)

-- that there is no plan was told, and not for want of memory
pub refused : {A X E : Type 0} (silent : A → Bool) (one : A → Said → A) (file : ObjectFile) (r : Result X E) (e : PlanError) (before after : A) → IsTrueOfPlan file.class file.size (mappings file.segments) e
    → OnOk r (e ≡ Memory → ⊥) → OnOk r (after ≡ saying one before (warns (whole LoadPlan) (error_text e) ∷ [])) → OnOk r (IsToldAs silent one (IsPlanSaid file) before after)
refused silent one file (Ok x) e before after is full told = λ loud. (warns (whole LoadPlan) (error_text e) ∷ [], not_mapped file e full is, told)
refused silent one file (Err x) e before after is full told = tt
