-- Whether a program starts: it does if the kernel loads it and its dynamic linker finds its libraries and their symbols.
use Rattle.std.specs.Prelude.{◌≡◌, ◌++◌, Bool, true, false, List, [], ◌∷◌, ℕ, Option, Some, None, is_some}
use Rattle.std.specs.Prelude.{IfSome, Result, Ok, Err, codes, if◌then◌else◌}
use Rattle.std.specs.Fmt.{◌++?◌}
use Rattle.elf_records.specs.Texts.{words}
use Rattle.elf_records.specs.declared.parse.ParseError.{ParseError}
use Rattle.elf_libraries.specs.Tree.{Found, in_order}
use Rattle.nugwier_layouts.specs.Layouts.{constant}
use Rattle.nugwier_layouts.specs.Members.{Members, flag, text}
use Rattle.nugwier_programs.specs.Bindings.{AreObjectsSaid, IsKept}
use Rattle.elf_loader.specs.declared.glibc.Kind.{Kind as Linker}
use Rattle.nugwier_programs.specs.Loading.{kernel_said, loading_said, opened_judged, program_loader}
use Rattle.nugwier_programs.specs.declared.starts.Undecided.{Undecided}
use Rattle.nugwier_programs.specs.declared.starts.Undecided.TheVariants as undecided
use Rattle.nugwier_programs.specs.declared.starts.loading.Loader.{Loader}
use Rattle.nugwier_programs.specs.declared.starts.loading.Loader.TheVariants as loader
use Rattle.nugwier_report.specs.Problems.{fault_text}
use Rattle.nugwier_programs.specs.Tree.{AreObjects, Known, Order, Search}
use Rattle.nugwier_programs.specs.declared.starts.TheConstants.{START, STARTS}
use Rattle.nugwier_programs.specs.declared.starts.first_reason.FirstReason.{FirstReason}
use Rattle.nugwier_report.specs.Said.{Said, saying, states, warns, whole}
use Rattle.nugwier_report.specs.declared.problem.Place.{Place}
use Rattle.nugwier_report.specs.declared.problem.Fault.TheVariants.{Read}
use Rattle.nugwier_report.specs.declared.problem.Part.TheVariants.{File}

-- the first problem of what is told: its place, and its text if this is stated
abbrev pub first_problem : List Said → Option (Place × Option (List ℕ))
first_problem [] = None
first_problem (states layout members ∷ said) = first_problem said
first_problem (warns place stated ∷ said) = Some (place, stated)

-- ---- what is said

abbrev pub start_members : Bool → Members
start_members starts = (codes "starts", flag starts) ∷ []

abbrev pub start_text : Option (List ℕ) → Option (List ℕ)
start_text reason = words (codes "does not start: ") ++? reason

-- why a program does not start, if there is a problem
abbrev pub first_said : Option (Place × Option (List ℕ)) → List Said
first_said None = []
first_said (Some (place, stated)) = states (constant START) (start_members false) ∷ warns place (start_text stated) ∷ []

-- that it starts, if there is none
abbrev pub none_said : List ℕ → Bool → List Said
none_said path true = []
none_said path false =
    states (constant STARTS) ((codes "path", text (Some path)) ∷ []) ∷ states (constant START) (start_members true) ∷ []

abbrev pub verdict_said : List ℕ → Option (Place × Option (List ℕ)) → List Said
verdict_said path first = first_said first ++ none_said path (is_some first)

-- a teller that passes on the first problem alone
module _ {T : Type 0} (one : T → Said → T) where
  abbrev pub found_reason : FirstReason T → Place → Option (List ℕ) → FirstReason T
  found_reason first place stated = record first {
    is_found = true;
    tell = record first.tell { now = saying one first.tell.now (first_said (Some (place, stated))) };
  }

  abbrev pub reason_one : FirstReason T → Said → FirstReason T
  reason_one first (states layout members) = first
  reason_one first (warns place stated) = if first.is_found then first else found_reason first place stated

-- that it is not decided
abbrev pub undecided_text : Undecided → Option (List ℕ)
undecided_text undecided.Linker =
    words (codes "may start: its dynamic linker is not that of the GNU C library, whose rules alone are known")
undecided_text undecided.Machine = words (codes "may start: it is not known how its machine starts programs")

abbrev pub undecided_said : Undecided → List Said
undecided_said reason =
    states (constant START) ((codes "starts", text None) ∷ []) ∷ warns (whole File) (undecided_text reason) ∷ []

-- ---- what is wrong with the libraries of a program, in the order of loading, and with the symbols

abbrev pub AreReasons : Known → Search → Found → Option Linker → List Said → Type 0
AreReasons known search program linker said =
    (order : Order) × AreObjects (opened_judged linker program.kind) known search program order
    × (loading : List Said) × IfSome known (λ files. loading ≡ loading_said files.contents linker order.0)
    × (symbols : List Said) × AreObjectsSaid known (in_order order.0 order.1) symbols
    × (said ≡ loading ++ symbols)

-- ---- the verdict

-- the first of these reasons, or that the program starts
abbrev pub IsLinkedSaid : Known → Search → List ℕ → Found → Option Linker → List Said → Type 0
IsLinkedSaid known search path program linker said =
    (reasons : List Said) × AreReasons known search program linker reasons
    × (said ≡ verdict_said path (first_problem reasons))

-- by what starts it: of other dynamic linkers and other machines it is not decided
abbrev pub IsLoadedSaid : Known → Search → List ℕ → Found → Loader → List Said → Type 0
IsLoadedSaid known search path program (loader.Gnu linker) said =
    IsLinkedSaid known search path program (Some linker) said
IsLoadedSaid known search path program loader.Kernel said = IsLinkedSaid known search path program None said
IsLoadedSaid known search path program loader.Other said = said ≡ undecided_said undecided.Linker
IsLoadedSaid known search path program loader.Machine said = said ≡ undecided_said undecided.Machine

-- the first thing that the kernel refuses, or the rest
abbrev pub IsSaidUnless : Bool → (List Said → Type 0) → List Said → Type 0
IsSaidUnless true Says rest = rest ≡ []
IsSaidUnless false Says rest = Says rest

-- of a program that was opened
abbrev pub IsBoundStartSaid : Known → Search → List ℕ → Found → List Said → Type 0
IsBoundStartSaid known search path program said =
    (kernel : List Said) × IfSome known (λ files. kernel ≡ kernel_said files.contents program)
    × (by : Loader) × IfSome known (λ files. by ≡ program_loader files.contents program)
    × (rest : List Said)
    × IsSaidUnless (is_some (first_problem kernel)) (IsLoadedSaid known search path program by) rest
    × (said ≡ first_said (first_problem kernel) ++ rest)

-- of a file: one that is no program does not start
abbrev pub IsStartSaid : Known → Search → List ℕ → Result Found ParseError → List Said → Type 0
IsStartSaid known search path (Ok program) said =
    (kept : Found) × IsKept known program kept × IsBoundStartSaid known search path kept said
IsStartSaid known search path (Err e) said = said ≡ first_said (Some (whole File, fault_text (Read e)))
