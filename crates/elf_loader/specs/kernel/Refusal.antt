-- How the kernel answers what it refuses (execve(2); Linux, fs/binfmt_elf.c).
use Rattle.std.specs.Prelude.{Option, Some, None}
use Rattle.elf_loader.specs.declared.kernel.refusal.Answer.{Answer}
use Rattle.elf_loader.specs.declared.kernel.refusal.Answer.TheVariants.{CorruptedLibrary, ExecFormat, InputOutput}
use Rattle.elf_loader.specs.declared.kernel.refusal.Answer.TheVariants.{InvalidArgument, Killed}
use Rattle.elf_loader.specs.declared.kernel.refusal.Part.{Part}
use Rattle.elf_loader.specs.declared.kernel.refusal.Part.TheVariants.{Interpreter, Program}
use Rattle.elf_loader.specs.declared.kernel.refusal.PathFault.{PathFault}
use Rattle.elf_loader.specs.declared.kernel.refusal.PathFault.TheVariants.{OutsideFile, PastOffsets, Size, Unterminated}
use Rattle.elf_loader.specs.declared.kernel.refusal.Refusal.{Refusal}
use Rattle.elf_loader.specs.declared.kernel.refusal.Refusal.TheVariants as refusal

-- a header: ENOEXEC for the program, ELIBBAD for the interpreter
abbrev pub header_answer : Part → Answer
header_answer Program = ExecFormat
header_answer Interpreter = CorruptedLibrary

-- the path of the interpreter: ENOEXEC for what it is, and the error of the read for where it lies
abbrev pub path_answer : PathFault → Answer
path_answer (Size size) = ExecFormat
path_answer PastOffsets = InvalidArgument
path_answer OutsideFile = InputOutput
path_answer Unterminated = ExecFormat

-- a script is not decided by this file; once the old program is gone, the answer is SIGSEGV
abbrev pub answer_of : Refusal → Option Answer
answer_of refusal.Script = None
answer_of (refusal.Header part fault) = Some (header_answer part)
answer_of (refusal.Path fault) = Some (path_answer fault)
answer_of refusal.ShortInterpreter = Some InputOutput
answer_of (refusal.Memory part fault) = Some Killed
