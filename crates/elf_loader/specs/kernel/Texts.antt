-- The texts of refusals: the kernel's answer in the words of strerror(3) and strsignal(3), the file, and the rule.
use Rattle.std.specs.Prelude.{ℕ, List, Option, codes}
use Rattle.std.specs.Fmt.{◌++?◌}
use Rattle.elf_records.specs.Texts.{DIGITS_of, digits_of, number, words}
use Rattle.elf_loader.specs.declared.kernel.header.HeaderFault.{HeaderFault}
use Rattle.elf_loader.specs.declared.kernel.header.HeaderFault.TheVariants as header
use Rattle.elf_loader.specs.declared.kernel.memory.MemoryFault.{MemoryFault}
use Rattle.elf_loader.specs.declared.kernel.memory.MemoryFault.TheVariants as memory
use Rattle.elf_loader.specs.declared.kernel.memory.SegmentFault.{SegmentFault}
use Rattle.elf_loader.specs.declared.kernel.memory.SegmentFault.TheVariants as segment
use Rattle.elf_loader.specs.declared.kernel.program.ExecError.{ExecError}
use Rattle.elf_loader.specs.declared.kernel.program.ExecError.TheVariants.{Missing, Refused}
use Rattle.elf_loader.specs.declared.kernel.refusal.Answer.{Answer}
use Rattle.elf_loader.specs.declared.kernel.refusal.Answer.TheVariants as answer
use Rattle.elf_loader.specs.declared.kernel.refusal.Part.{Part}
use Rattle.elf_loader.specs.declared.kernel.refusal.Part.TheVariants as part
use Rattle.elf_loader.specs.declared.kernel.refusal.PathFault.{PathFault}
use Rattle.elf_loader.specs.declared.kernel.refusal.PathFault.TheVariants as path
use Rattle.elf_loader.specs.declared.kernel.refusal.Refusal.{Refusal}
use Rattle.elf_loader.specs.declared.kernel.refusal.Refusal.TheVariants as refusal
use Rattle.elf_loader.specs.kernel.Refusal.{header_answer, path_answer}

abbrev pub answer_text : Answer → Option (List ℕ)
answer_text answer.ExecFormat = words (codes "Exec format error")
answer_text answer.InputOutput = words (codes "Input/output error")
answer_text answer.InvalidArgument = words (codes "Invalid argument")
answer_text answer.CorruptedLibrary = words (codes "Accessing a corrupted shared library")
answer_text answer.Killed = words (codes "Segmentation fault")

abbrev pub part_text : Part → Option (List ℕ)
part_text part.Program = words (codes "program")
part_text part.Interpreter = words (codes "interpreter")

abbrev pub type_text : ℕ → Option (List ℕ)
type_text e_type = words (codes "e_type ") ++? number e_type ++? words (codes " is neither ET_EXEC nor ET_DYN")

abbrev pub header_text : HeaderFault → Option (List ℕ)
header_text header.Magic = words (codes "no ELF file")
header_text (header.WrongType e_type) = type_text e_type
header_text (header.WrongMachine e_machine) =
    words (codes "e_machine ") ++? number e_machine ++? words (codes " is another machine or class")
header_text (header.EntrySize size) =
    words (codes "e_phentsize ") ++? number size ++? words (codes " is not the size of a program header")
header_text header.NoSegments = words (codes "no program headers")
header_text (header.TooManySegments count) = number count ++? words (codes " program headers are more than 64 KiB")
header_text header.TableOutsideFile = words (codes "the program headers do not lie in the file")

abbrev pub path_text : PathFault → Option (List ℕ)
path_text (path.Size size) = words (codes "has ") ++? number size ++? words (codes " bytes and not 2 to 4096")
path_text path.PastOffsets = words (codes "its offset is too large")
path_text path.OutsideFile = words (codes "does not lie in the file")
path_text path.Unterminated = words (codes "does not end in a 0 byte")

abbrev pub segment_text : SegmentFault → Option (List ℕ)
segment_text segment.Misaligned = words (codes "p_offset and p_vaddr differ within a page")
segment_text segment.PastOffsets = words (codes "its offset is too large")
segment_text segment.NoPageToFill = words (codes "zeros are to follow bytes past the end of the file")
segment_text segment.NoAddress = words (codes "begins past the last address")
segment_text segment.PastAddresses = words (codes "ends past the last address")
segment_text segment.FileSize = words (codes "has more bytes in the file than in memory")

abbrev pub memory_text : MemoryFault → Option (List ℕ)
memory_text (memory.WrongType e_type) = type_text e_type
memory_text memory.NothingToLoad = words (codes "no segment PT_LOAD")
memory_text (memory.Segment address fault) =
    words (codes "segment at 0x") ++? digits_of address ++? words (codes ": ") ++? segment_text fault
memory_text (memory.Entry entry) =
    words (codes "e_entry 0x") ++? digits_of entry ++? words (codes " is no address of a program")

-- the answer, the file, and the rule
abbrev pub refusal_text : Refusal → Option (List ℕ)
refusal_text refusal.Script = words (codes "a script, which its interpreter runs")
refusal_text (refusal.Header part fault) =
    answer_text (header_answer part) ++? words (codes ": ") ++? part_text part ++? words (codes ": ")
    ++? header_text fault
refusal_text (refusal.Path fault) =
    answer_text (path_answer fault) ++? words (codes ": path of the interpreter: ") ++? path_text fault
refusal_text refusal.ShortInterpreter = words (codes "Input/output error: interpreter: shorter than a file header")
refusal_text (refusal.Memory part fault) =
    words (codes "Segmentation fault: ") ++? part_text part ++? words (codes ": ") ++? memory_text fault

abbrev pub error_text : ExecError → Option (List ℕ)
error_text (Missing range) =
    words (codes "Bytes in range [0x") ++? DIGITS_of range.0 ++? words (codes ", 0x") ++? DIGITS_of range.1
    ++? words (codes ") are not loaded")
error_text (Refused refusal) = refusal_text refusal
