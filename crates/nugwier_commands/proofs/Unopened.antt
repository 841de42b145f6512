-- What is said of a file that opens, and of one that does not.
use Rattle.std.proofs.Common.{◌≡◌, ℕ, Bool, List, Option, Result, Ok, Err, None, OnOk, sym, subst}
use Rattle.elf.specs.StreamFile.{listed_file}
use Rattle.elf_reading.specs.Opening.{FileView, StreamHeaders}
use Rattle.elf_records.specs.declared.endian.AnyEndian.{AnyEndian}
use Rattle.elf_records.specs.declared.parse.ParseError.{ParseError}
use Rattle.nugwier_commands.specs.Run.{IsFileSaid, IsOne, IsOpenedSaid, IsProblemSaid, IsUnopenedSaid, IsViewSaid}
use Rattle.nugwier_commands.specs.declared.target.LostHeaders.{LostHeaders}
use Rattle.nugwier_commands.specs.inner.Loading.{AreTold, IsSaidAfter}
use Rattle.nugwier_report.specs.Labels.{Named}
use Rattle.nugwier_report.specs.Said.{Line, Said}
use Rattle.nugwier_report.specs.Whole.{headers_view, memory_file}
use Rattle.nugwier_report.specs.declared.in_memory.FileInMemory.{FileInMemory}
use Rattle.elf_records.specs.Texts.{error_text}
use Rattle.nugwier_commands.specs.Words.{Task}
use Rattle.nugwier_commands.specs.declared.words.Command.{Command}
use Rattle.nugwier_commands.specs.declared.words.Command.TheVariants.{Check}
use Rattle.nugwier_commands.specs.declared.target.Heading.{Heading}

module _ (task : Task) (path bytes : List ℕ) (error : ParseError) (named : Named) (said : List Said) where
  -- if it is checked
  pub checked_said : (command : Command) (viewed : Result (FileView AnyEndian) ParseError) → command ≡ Check → IsProblemSaid (error_text error) named said
      → IsUnopenedSaid command task path bytes error viewed named said
  checked_said command viewed is h = subst (λ (c : Command). IsUnopenedSaid c task path bytes error viewed named said) (sym is) h

  lost_by : (command : Command) (fault : ParseError) → IsProblemSaid (error_text error) named said → IsUnopenedSaid command task path bytes error (Err fault) named said
  lost_by Check fault h = h
  lost_by other fault h = h

  -- if its segments cannot be read
  pub lost_said : (command : Command) (fault : ParseError) (viewed : Result (FileView AnyEndian) ParseError) → Err fault ≡ viewed → IsProblemSaid (error_text error) named said
      → IsUnopenedSaid command task path bytes error viewed named said
  lost_said command fault viewed is h = subst (λ (v : Result (FileView AnyEndian) ParseError). IsUnopenedSaid command task path bytes error v named said) is (lost_by command fault h)

-- of one that opens, without an error before it
pub opened_said : (task : Task) (path bytes : List ℕ) (named : Named) (said : List Said) (view : FileView AnyEndian) (opened : Result (FileView AnyEndian) ParseError) → Ok view ≡ opened
    → IsSaidAfter None (IsViewSaid task path bytes view) named said → IsOpenedSaid task path bytes opened named said
opened_said task path bytes named said view opened is h =
    subst (λ (o : Result (FileView AnyEndian) ParseError). IsOpenedSaid task path bytes o named said) is
    (subst (λ (s : List Said). IsViewSaid task path bytes view named s) (sym h.2) h.1)

-- what was told of a file in memory was told of the file that was opened over its bytes
pub memory_told : {E R X F : Type 0} (little : E → Bool) (of_byte : ℕ → Option E) (one : R → Line → R) (task : Task) (heading : Option Heading) (path : List ℕ) (lost : Option LostHeaders) (made : FileInMemory E)
    (headers : StreamHeaders E) (bytes : List ℕ) (r : Result X F) (before after : R) → headers_view made ≡ headers → made.bytes.now ≡ bytes
    → OnOk r (AreTold one (IsOne heading path (IsSaidAfter lost (IsFileSaid little of_byte task path made.ehdr (memory_file little made)))) before after)
    → OnOk r (AreTold one (IsOne heading path (IsSaidAfter lost (IsFileSaid little of_byte task path headers.ehdr (listed_file little headers bytes)))) before after)
memory_told {E = E} little of_byte one task heading path lost made headers bytes r before after is same told =
    subst (λ (h : StreamHeaders E). OnOk r (AreTold one (IsOne heading path (IsSaidAfter lost (IsFileSaid little of_byte task path h.ehdr (listed_file little h bytes)))) before after)) is
    (subst (λ (b : List ℕ). OnOk r (AreTold one (IsOne heading path (IsSaidAfter lost (IsFileSaid little of_byte task path made.ehdr (listed_file little (headers_view made) b)))) before after)) same told)
