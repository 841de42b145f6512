-- What is said of a program that is opened by its names is what is said of its bytes.
use Rattle.std.proofs.Common.{◌≡◌, ℕ, List as ListOf, Result, Ok, Err, Option, Some, None, IfSome, inr, sym, subst}
use Rattle.elf_records.specs.Number.{ok_map}
use Rattle.elf_records.specs.declared.endian.AnyEndian.{AnyEndian}
use Rattle.elf_records.specs.declared.parse.ParseError.{ParseError}
use Rattle.elf_reading.specs.Opening.{FileView}
use Rattle.elf_libraries.specs.Tree.{Found, file_of, found_in, linked_file, without_bytes}
use Rattle.nugwier_commands.specs.Run.{IsFoundSaid, IsProgramSaid, IsSaidAt, Known, search_of}
use Rattle.nugwier_commands.specs.inner.Loading.{IsNamed, IsNamedProgramSaid}
use Rattle.elf_libraries.specs.Folder.{KnownFiles}
use Rattle.nugwier_programs.specs.Bindings.{IsBindingsSaid, IsBoundSaid}
use Rattle.nugwier_programs.specs.Starts.{IsBoundStartSaid, IsStartSaid}
use Rattle.nugwier_programs.specs.Tree.{IsNamedSaid, IsTreeSaid}
use Rattle.nugwier_report.specs.Labels.{Named}
use Rattle.nugwier_report.specs.Said.{Said}
use Rattle.nugwier_commands.specs.Words.{Task}
use Rattle.nugwier_commands.specs.declared.words.Command.{Command}
use Rattle.nugwier_commands.specs.declared.words.Command.TheVariants.{Address, Bindings, BuildId, Check, Exports, Harden, List, Needed}
use Rattle.nugwier_commands.specs.declared.words.Command.TheVariants.{Plan, Starts, Symbols, Tree}

-- the file at the path has these bytes
module _ (files : KnownFiles) (task : Task) (path bytes : ListOf ℕ) (program : Found) (named : Named) (said : ListOf Said)
    (there : files.contents path ≡ Some bytes) (is : ok_map without_bytes (file_of path bytes) ≡ Ok program) where
  tree_by : (r : Result Found ParseError) → ok_map without_bytes r ≡ Ok program → IsNamedSaid (Some files) (search_of task) program said
      → IsTreeSaid (Some files) (search_of task) r said
  tree_by (Ok whole) same h =
      let without : without_bytes whole ≡ program = cc same in
      subst (λ (found : Found). IsNamedSaid (Some files) (search_of task) found said) (sym without) h
  tree_by (Err e) same h = absurd (cc same)

  bound_by : (r : Result (FileView AnyEndian) ParseError) → ok_map without_bytes (ok_map (found_in path bytes) r) ≡ Ok program
      → IsBoundSaid (Some files) (search_of task) program said → IsBindingsSaid (Some files) (search_of task) (ok_map (found_in path bytes) r) said
  bound_by (Ok v) same bound =
      let without : without_bytes (found_in path bytes v) ≡ program = cc same in
      (program, inr (sym without, there), bound)
  bound_by (Err e) same bound = absurd (cc same)

  start_by : (r : Result (FileView AnyEndian) ParseError) → ok_map without_bytes (ok_map (found_in path bytes) r) ≡ Ok program
      → IsBoundStartSaid (Some files) (search_of task) path program said
      → IsStartSaid (Some files) (search_of task) path (ok_map (found_in path bytes) r) said
  start_by (Ok v) same start =
      let without : without_bytes (found_in path bytes v) ≡ program = cc same in
      (program, inr (sym without, there), start)
  start_by (Err e) same start = absurd (cc same)

  by_command : (command : Command) → IsNamedProgramSaid (Some files) command (search_of task) path program named said
      → IsProgramSaid (Some files) command task path bytes named said
  by_command List h = (h.0, tree_by (file_of path bytes) is h.1)
  by_command Symbols h = (h.0, tree_by (file_of path bytes) is h.1)
  by_command Needed h = (h.0, tree_by (file_of path bytes) is h.1)
  by_command Exports h = (h.0, tree_by (file_of path bytes) is h.1)
  by_command BuildId h = (h.0, tree_by (file_of path bytes) is h.1)
  by_command Plan h = (h.0, tree_by (file_of path bytes) is h.1)
  by_command Check h = (h.0, tree_by (file_of path bytes) is h.1)
  by_command Harden h = (h.0, tree_by (file_of path bytes) is h.1)
  by_command Address h = (h.0, tree_by (file_of path bytes) is h.1)
  by_command Tree h = (h.0, tree_by (file_of path bytes) is h.1)
  by_command Bindings h = (h.0, bound_by (linked_file bytes) is h.1)
  by_command Starts h = (h.0, start_by (linked_file bytes) is h.1)

pub named_said : (known : Known) (task : Task) (path : ListOf ℕ) (program : Found) (named : Named) (said : ListOf Said)
    → IfSome known (λ files. IsNamed path (files.contents path) program) → IsNamedProgramSaid known task.command (search_of task) path program named said
    → IsSaidAt known (IsProgramSaid known task.command task path) path named said
named_said None task path program named said is h = tt
named_said (Some files) task path program named said is h =
    subst (λ (content : Option (ListOf ℕ)). IsFoundSaid (IsProgramSaid (Some files) task.command task path) content named said) (sym is.1)
    (by_command files task path is.0 program named said is.1 is.2 task.command h)
