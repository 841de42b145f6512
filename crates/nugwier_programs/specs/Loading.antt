-- What the kernel and the dynamic linker refuse to load of a program, and what is said of it.
use Rattle.std.specs.Prelude.{ℕ, ◌+◌, ◌^◌, ◌||◌, nat_lt, take, Bool, if◌then◌else◌, List, [], ◌∷◌, ◌++◌, codes, drop, length, Option, Some, None}
use Rattle.std.specs.Prelude.{◌==◌, Result, Ok, Err, true, false}
use Rattle.std.specs.Fmt.{◌++?◌}
use Rattle.std.specs.List.{flat_map, starts_with}
use Rattle.std.specs.Option.{option_map}
use Rattle.elf.specs.LoadedRanges.{parts_in, ranges_in}
use Rattle.elf.specs.Parts.{Ranges}
use Rattle.elf_libraries.specs.Folder.{KnownFiles, opened_in}
use Rattle.elf_libraries.specs.Tree.{Entry, Found, last_slash}
use Rattle.elf_libraries.specs.declared.tree.Kind.{Kind}
use Rattle.elf_loader.specs.Glibc.{verdict}
use Rattle.elf_loader.specs.GlibcLaws.{whole_file}
use Rattle.elf_loader.specs.GlibcTexts as glibc_texts
use Rattle.elf_loader.specs.declared.glibc.Candidate.{Candidate}
use Rattle.elf_loader.specs.declared.glibc.Candidate.TheVariants as candidate
use Rattle.elf_loader.specs.declared.glibc.Kind.{Kind as Linker}
use Rattle.elf_loader.specs.declared.kernel.platform.Platform.{Platform}
use Rattle.elf_loader.specs.declared.kernel.program.ExecError.{ExecError}
use Rattle.elf_loader.specs.declared.kernel.program.ExecError.TheVariants as exec
use Rattle.elf_loader.specs.declared.kernel.refusal.Refusal.{Refusal}
use Rattle.elf_loader.specs.kernel.Memory.{ImageView}
use Rattle.elf_loader.specs.kernel.Platform.{page_size, platform_of}
use Rattle.elf_loader.specs.kernel.Program.{ProgramView, interpreter_in, memory_of, program_in}
use Rattle.elf_loader.specs.kernel.Texts as kernel_texts
use Rattle.elf_records.specs.Texts.{words}
use Rattle.nugwier_programs.specs.Tree.{object_problem}
use Rattle.nugwier_programs.specs.declared.starts.loading.Loader.{Loader}
use Rattle.nugwier_programs.specs.declared.starts.loading.Loader.TheVariants as loader
use Rattle.nugwier_programs.specs.declared.starts.loading.LoadFault.{LoadFault}
use Rattle.nugwier_programs.specs.declared.starts.loading.LoadFault.TheVariants as fault
use Rattle.nugwier_report.specs.Problems.{quoted}
use Rattle.nugwier_report.specs.Said.{Said, warns, whole}
use Rattle.nugwier_report.specs.declared.problem.Part.TheVariants.{File}

-- ---- what is wrong

abbrev pub load_text : LoadFault → Option (List ℕ)
load_text (fault.Kernel refusal) = kernel_texts.refusal_text refusal
load_text (fault.NoInterpreter path) = words (codes "interpreter ") ++? quoted path ++? words (codes " is not found")
load_text (fault.Library path refusal) = quoted path ++? words (codes ": ") ++? glibc_texts.refusal_text refusal

abbrev pub warned : LoadFault → List Said
warned f = warns (whole File) (load_text f) ∷ []

-- ---- a file, by its front: its first 64 MiB. Of a longer file nothing behind them is looked at, so it is not decided.

unfoldable pub most : ℕ
most = 2 ^ 26

abbrev pub front_of : Option (List ℕ) → Option (List ℕ)
front_of content = option_map (take most) content

-- its size, if it is no longer than its front, or else one that no file has
abbrev pub seen_size : List ℕ → ℕ
seen_size front = if nat_lt (length front) most then length front else 2 ^ 62

abbrev pub seen_ranges : List ℕ → Ranges
seen_ranges front = ranges_in (seen_size front) (parts_in front [])

abbrev pub program_of : Platform → List ℕ → Result ProgramView ExecError
program_of platform front = program_in platform (seen_size front) (seen_ranges front)

abbrev pub interpreter_of : Platform → List ℕ → Result ImageView ExecError
interpreter_of platform front = interpreter_in platform (seen_size front) (seen_ranges front)

-- ---- the kernel: the program, then its interpreter, then both in memory

abbrev pub error_said : ExecError → List Said
error_said (exec.Refused refusal) = warned (fault.Kernel refusal)
error_said (exec.Missing range) = []

abbrev pub refused_said : Result (Unit {0}) Refusal → List Said
refused_said (Ok _) = []
refused_said (Err refusal) = warned (fault.Kernel refusal)

abbrev pub memory_said : Platform → ImageView → Option ImageView → List Said
memory_said platform program interpreter = refused_said (memory_of platform program interpreter)

abbrev pub read_said : Platform → ImageView → Result ImageView ExecError → List Said
read_said platform program (Ok interpreter) = memory_said platform program (Some interpreter)
read_said platform program (Err e) = error_said e

abbrev pub found_said : Platform → ImageView → List ℕ → Option (List ℕ) → List Said
found_said platform program path None = warned (fault.NoInterpreter path)
found_said platform program path (Some bytes) = read_said platform program (interpreter_of platform bytes)

-- `contents` are the contents of the files by their paths
module _ (contents : List ℕ → Option (List ℕ)) where
  abbrev pub interpreter_said : Platform → ImageView → List ℕ → List Said
  interpreter_said platform program path = found_said platform program path (front_of (contents path))

  abbrev pub path_said : Platform → ImageView → Option (List ℕ) → List Said
  path_said platform program None = memory_said platform program None
  path_said platform program (Some path) = interpreter_said platform program path

  abbrev pub program_said : Platform → Result ProgramView ExecError → List Said
  program_said platform (Ok program) = path_said platform program.image program.interpreter
  program_said platform (Err e) = error_said e

  abbrev pub exec_said : Platform → List ℕ → List Said
  exec_said platform bytes = program_said platform (program_of platform bytes)

  -- of a machine that is known
  abbrev pub platform_said : Option Platform → List ℕ → List Said
  platform_said None bytes = []
  platform_said (Some platform) bytes = exec_said platform bytes

  abbrev pub bytes_said : Kind → List ℕ → List Said
  bytes_said kind bytes = platform_said (platform_of kind.machine) bytes

-- ---- what starts a program: the dynamic linker of the GNU C library is known by the name of its file

abbrev pub interpreter_in_program : Result ProgramView ExecError → Option (List ℕ)
interpreter_in_program (Ok program) = program.interpreter
interpreter_in_program (Err e) = None

abbrev pub interpreter_path : Platform → List ℕ → Option (List ℕ)
interpreter_path platform bytes = interpreter_in_program (program_of platform bytes)

abbrev pub name_after : List ℕ → Option ℕ → List ℕ
name_after path None = path
name_after path (Some place) = if nat_lt place (length path) then drop (place + 1) path else path

-- what follows the last slash
abbrev pub last_name : List ℕ → List ℕ
last_name path = name_after path (last_slash 0 None path)

abbrev pub is_glibc : List ℕ → Bool
is_glibc path =
    let name = last_name path in
    starts_with ◌==◌ name (codes "ld-linux") || starts_with ◌==◌ name (codes "ld.so.")
    || starts_with ◌==◌ name (codes "ld64.so.")

abbrev pub linker_for : Kind → Platform → Linker
linker_for kind platform = record {
  class = kind.class;
  order = kind.order;
  machine = kind.machine;
  page_size = page_size platform.page;
  address_space = platform.addresses;
}

-- what starts a program with an interpreter at this path
abbrev pub loader_by : Kind → Platform → List ℕ → Loader
loader_by kind platform path = if is_glibc path then loader.Gnu (linker_for kind platform) else loader.Other

-- with the interpreter that the kernel finds, or without one
abbrev pub loader_if : Kind → Platform → Option (List ℕ) → Loader
loader_if kind platform None = loader.Kernel
loader_if kind platform (Some path) = loader_by kind platform path

abbrev pub loader_of : Kind → Platform → List ℕ → Loader
loader_of kind platform bytes = loader_if kind platform (interpreter_path platform bytes)

abbrev pub platform_loader : Kind → Option Platform → List ℕ → Loader
platform_loader kind None bytes = loader.Machine
platform_loader kind (Some platform) bytes = loader_of kind platform bytes

abbrev pub kind_loader : Kind → List ℕ → Loader
kind_loader kind bytes = platform_loader kind (platform_of kind.machine) bytes

-- ---- a program that was opened, by the front of its bytes, or if none were kept of what is at its path

abbrev pub kept_front : Option (List ℕ) → List ℕ → Option (List ℕ)
kept_front content [] = front_of content
kept_front content (b ∷ bytes) = front_of (Some (b ∷ bytes))

module _ (contents : List ℕ → Option (List ℕ)) where
  abbrev pub program_front : Found → Option (List ℕ)
  program_front program = kept_front (contents program.path) program.bytes

  abbrev pub bytes_said_if : Kind → Option (List ℕ) → List Said
  bytes_said_if kind None = []
  bytes_said_if kind (Some bytes) = bytes_said contents kind bytes

  abbrev pub kernel_said : Found → List Said
  kernel_said program = bytes_said_if program.kind (program_front program)

  abbrev pub loader_with : Kind → Option (List ℕ) → Loader
  loader_with kind None = loader.Kernel
  loader_with kind (Some bytes) = kind_loader kind bytes

  abbrev pub program_loader : Found → Loader
  program_loader program = loader_with program.kind (program_front program)

-- ---- the libraries: the search for a name ends at a file that the dynamic linker refuses

abbrev pub judged : Linker → List ℕ → Result Candidate (ℕ × ℕ)
judged linker bytes = verdict linker (whole_file bytes)

-- of the file that is found, if it is there
abbrev pub judged_if : Linker → Option (List ℕ) → Option (Result Candidate (ℕ × ℕ))
judged_if linker content = option_map (judged linker) content

abbrev pub is_refusal : Option (Result Candidate (ℕ × ℕ)) → Bool
is_refusal (Some (Ok (candidate.Refused refusal))) = true
is_refusal (Some (Ok (candidate.Skipped reason))) = false
is_refusal (Some (Ok (candidate.Loadable loadable))) = false
is_refusal (Some (Err range)) = false
is_refusal None = false

abbrev pub is_refused : Linker → Option (List ℕ) → Bool
is_refused linker content = is_refusal (judged_if linker content)

-- a file that is refused is found, and needs no libraries
abbrev pub refused_file : Kind → List ℕ → Found
refused_file kind path = record { path = path; identity = None; bytes = []; kind = kind; names = Ok None }

abbrev pub opened_judged : Option Linker → Kind → KnownFiles → List ℕ → Option Found
opened_judged None kind files path = opened_in files path
opened_judged (Some linker) kind files path =
    if is_refused linker (files.contents path) then Some (refused_file kind path) else opened_in files path

-- ---- what is said of them, in the order of loading

abbrev pub judged_said : List ℕ → Option (Result Candidate (ℕ × ℕ)) → List Said
judged_said path (Some (Ok (candidate.Refused refusal))) = warned (fault.Library path refusal)
judged_said path (Some (Ok (candidate.Skipped reason))) = []
judged_said path (Some (Ok (candidate.Loadable loadable))) = []
judged_said path (Some (Err range)) = []
judged_said path None = []

abbrev pub library_said : Linker → List ℕ → Option (List ℕ) → List Said
library_said linker path content = judged_said path (judged_if linker content)

module _ (contents : List ℕ → Option (List ℕ)) where
  abbrev pub file_said : Option Linker → Option Found → List Said
  file_said (Some linker) (Some found) = library_said linker found.path (contents found.path)
  file_said (Some linker) None = []
  file_said None file = []

  -- that it is missing, or has names that are not known, and that it is refused
  abbrev pub object_said : Option Linker → List Entry → Entry → List Said
  object_said linker objects e = object_problem objects e ++ file_said linker e.file

  -- the program, and its libraries
  abbrev pub loading_of : Option Linker → List Entry → List Entry → List Said
  loading_of linker objects [] = []
  loading_of linker objects (program ∷ libraries) =
      object_problem objects program ++ flat_map (object_said linker objects) libraries

  abbrev pub loading_said : Option Linker → List Entry → List Said
  loading_said linker objects = loading_of linker objects objects
