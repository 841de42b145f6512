-- What was told of files, and how it ended.
use Rattle.std.specs.Prelude.{◌≡◌, ℕ, Bool, true, false, List, [], ◌∷◌, ◌++◌, Option, Result, Ok, Err, Some}
use Rattle.std.specs.List.{flat_map}
use Rattle.elf_archive.specs.Archive.{Item}
use Rattle.elf_libraries.specs.Tree.{Found, file_of, without_bytes}
use Rattle.elf_records.specs.Number.{ok_map}
use Rattle.nugwier_commands.specs.Run.{IsItemSaid, IsPrinted, IsWrong, Known, Listing, lost_text}
use Rattle.nugwier_commands.specs.declared.run.Outcome.{Outcome}
use Rattle.nugwier_commands.specs.declared.run.Outcome.TheVariants.{Done, Stopped, Wrong}
use Rattle.nugwier_commands.specs.declared.target.LostHeaders.{LostHeaders}
use Rattle.nugwier_programs.specs.Bindings.{IsBoundSaid}
use Rattle.nugwier_programs.specs.Starts.{IsBoundStartSaid}
use Rattle.nugwier_programs.specs.Tree.{IsNamedSaid, Search}
use Rattle.nugwier_commands.specs.Formats.{front}
use Rattle.nugwier_report.specs.Labels.{Named, no_sections}
use Rattle.nugwier_report.specs.Said.{Line, Said, on_page, said_if, saying, whole, warns}
use Rattle.nugwier_report.specs.Texts.{Written}
use Rattle.nugwier_report.specs.declared.problem.Part.TheVariants.{SectionHeaders}
use Rattle.nugwier_report.specs.declared.problem.Stop.{Stop}
use Rattle.nugwier_report.specs.declared.problem.Stop.TheVariants.{Memory as IsMemory}
use Rattle.nugwier_report.specs.declared.report.Summary.{Summary}
use Rattle.nugwier_commands.specs.Words.{Task}
use Rattle.nugwier_commands.specs.declared.words.Command.{Command}
use Rattle.nugwier_commands.specs.declared.words.Command.TheVariants.{Bindings, Starts}
use Rattle.nugwier_commands.specs.declared.words.WordError.{WordError}
use Rattle.nugwier_commands.specs.declared.words.WordError.TheVariants.{Memory}
use Rattle.nugwier_commands.specs.declared.target.Heading.{Heading}

-- ---- a report

-- what is said of several files, each on its page
abbrev pub lines_of : List Listing → List Line
lines_of all = flat_map (λ listing. on_page (record { path = listing.path; named = listing.named }) listing.said) all

module _ {R : Type 0} (one : R → Line → R) where
  -- listings of which this is so were told
  abbrev pub AreTold : (List Listing → Type 0) → R → R → Type 0
  AreTold Say before after = (all : List Listing) × Say all × (after ≡ saying one before (lines_of all))

  -- whether they were; if not, nothing was
  abbrev pub IsTried : (List Listing → Type 0) → R → R → Bool → Type 0
  IsTried Say before after true = AreTold Say before after
  IsTried Say before after false = after ≡ before

-- what a run says of an item of an archive
abbrev pub IsOneItem : Known → Task → Option Heading → List ℕ → Item → List Listing → Type 0
IsOneItem known task heading path item all =
    (own : Listing) × IsItemSaid known task heading path item own × (all ≡ own ∷ [])

-- ---- a file

-- that section headers cannot be read, if this is why
abbrev pub unread_said : Option LostHeaders → List Said
unread_said lost = said_if (λ lost. warns (whole SectionHeaders) (lost_text lost.error lost.len) ∷ []) lost

-- that, and then what this says of the file
abbrev pub IsSaidAfter : Option LostHeaders → (Named → List Said → Type 0) → Named → List Said → Type 0
IsSaidAfter lost Says named said = (rest : List Said) × Says named rest × (said ≡ unread_said lost ++ rest)

-- the bytes at the start of the file with this content
abbrev pub IsFrontOf : Option (List ℕ) → List ℕ → Type 0
IsFrontOf content start = (bytes : List ℕ) × (content ≡ Some bytes) × (start ≡ front bytes)

-- the program that these bytes are, by its names alone
abbrev pub IsNamed : List ℕ → Option (List ℕ) → Found → Type 0
IsNamed path content program =
    (bytes : List ℕ) × (content ≡ Some bytes) × (ok_map without_bytes (file_of path bytes) ≡ Ok program)

-- what a command says of a program at this path that was opened by its names alone
abbrev pub IsNamedProgramSaid : Known → Command → Search → List ℕ → Found → Named → List Said → Type 0
IsNamedProgramSaid known Bindings search path program named said =
    (named ≡ no_sections) × IsBoundSaid known search program said
IsNamedProgramSaid known Starts search path program named said =
    (named ≡ no_sections) × IsBoundStartSaid known search path program said
IsNamedProgramSaid known other search path program named said =
    (named ≡ no_sections) × IsNamedSaid known search program said

-- ---- a run

-- a text was printed, or a write of it failed
abbrev pub IsPrintedAs : List ℕ → Written → Written → Outcome → Type 0
IsPrintedAs message before after (Done summary) = IsPrinted message before after summary
IsPrintedAs message before after (Stopped stop) = Unit {0}
IsPrintedAs message before after (Wrong is_told) = ⊥

-- a run goes on as its last step ended
abbrev pub IsOutcomeOf : Result Summary Stop → Outcome → Type 0
IsOutcomeOf (Ok summary) outcome = outcome ≡ Done summary
IsOutcomeOf (Err stop) outcome = outcome ≡ Stopped stop

-- of wrong words nothing is listed; without memory it is not known whether they are wrong
abbrev pub IsWordsTold : WordError → Written → Written → Outcome → Type 0
IsWordsTold Memory before after outcome = outcome ≡ Stopped IsMemory
IsWordsTold error before after outcome =
    (is_told : Bool) × (outcome ≡ Wrong is_told) × IsWrong error before after is_told
