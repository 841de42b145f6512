-- What is said of the notes of the owner CORE, which describe a process that Linux wrote into a core file. Their sources
-- are include/uapi/linux/elf.h, elfcore.h, auxvec.h and fs/binfmt_elf.c of Linux.
use Rattle.std.specs.Prelude.{ℕ, ◌+◌, ◌-◌, ◌*◌, ◌/◌, ◌%◌, ◌==◌, ◌||◌, ◌&&◌, nat_eq, nat_le, Bool, false, true, if◌then◌else◌}
use Rattle.std.specs.Prelude.{List, [], ◌∷◌, ◌++◌}
use Rattle.std.specs.Prelude.{codes, drop, filter, length, take, ℤ, Option, Some, None}
use Rattle.std.specs.Option.{option_and_then, option_map}
use Rattle.std.specs.Result.{result_ok}
use Rattle.std.specs.Str.{bytes_eq}
use Rattle.elf_abi.specs.Names.{Row, name_of}
use Rattle.elf_names.specs.Table.{rows}
use Rattle.elf_records.specs.Class.{address_size}
use Rattle.elf_records.specs.Number.{number_at, signed_number_at}
use Rattle.elf_records.specs.declared.file.Class.{Class}
use Rattle.elf_records.specs.declared.file.Class.TheVariants.{ELF32, ELF64}
use Rattle.nugwier_notes.specs.NoteParts.{address_in, after_string, text_in}
use Rattle.nugwier_report.specs.Parts.{part_member}
use Rattle.nugwier_notes.specs.Properties.{number_in}
use Rattle.nugwier_layouts.specs.Members.{Members, number, signed, text, word}
use Rattle.nugwier_report.specs.Said.{Said, said_if, states}
use Rattle.nugwier_notes.specs.declared.core_notes.AuxiliaryEntry.{AuxiliaryEntry}
use Rattle.nugwier_notes.specs.declared.core_notes.MappedFile.{MappedFile}
use Rattle.nugwier_notes.specs.declared.core_notes.MappedFiles.{MappedFiles}
use Rattle.nugwier_notes.specs.declared.core_notes.ProcessStatus.{ProcessStatus}
use Rattle.nugwier_notes.specs.declared.core_notes.SignalInfo.{SignalInfo}
use Rattle.nugwier_notes.specs.declared.core_notes.TheConstants as names
use Rattle.nugwier_report.specs.declared.problem.Part.{Part}
use Rattle.nugwier_notes.specs.declared.properties.NoteFile.{NoteFile}
use Rattle.nugwier_layouts.specs.Layouts.{constant}
use Rattle.nugwier_layouts.specs.declared.layouts.TheConstants as layout

abbrev pub is_core_note : List ℕ → Bool
is_core_note name = bytes_eq name (codes "CORE\0")

-- ---- the sizes of elf_prstatus and elf_prpsinfo, by the machine (e_machine)

-- of a 32-bit file: EM_386, EM_MIPS (of the ABI o32), EM_PPC, EM_S390, EM_ARM, EM_X86_64 (x32), EM_RISCV; of a 64-bit
-- file: EM_MIPS, EM_PPC64, EM_S390, EM_X86_64, EM_AARCH64, EM_RISCV, EM_LOONGARCH
abbrev pub core_sizes : Class → ℕ → Option (ℕ × ℕ)
core_sizes ELF32 machine =
    if machine == 3 then Some (144, 124)
    else if machine == 8 then Some (256, 128)
    else if machine == 20 then Some (268, 128)
    else if machine == 22 then Some (224, 124)
    else if machine == 40 then Some (148, 124)
    else if machine == 62 then Some (296, 124)
    else if machine == 243 then Some (204, 128)
    else None
core_sizes ELF64 machine =
    if machine == 8 then Some (480, 136)
    else if machine == 21 then Some (504, 136)
    else if machine == 22 then Some (336, 136)
    else if machine == 62 then Some (336, 136)
    else if machine == 183 then Some (392, 136)
    else if machine == 243 then Some (376, 136)
    else if machine == 258 then Some (480, 136)
    else None

abbrev pub is_short : Class → Bool
is_short ELF32 = true
is_short ELF64 = false

-- ---- NT_PRSTATUS: elf_prstatus

abbrev pub short_in : NoteFile → List ℕ → ℕ → Option ℕ
short_in file bytes o = result_ok (number_at file.is_little 2 bytes o)

-- pr_pid follows pr_info, which has 12 bytes, pr_cursig with what fills it up to 4, and pr_sigpend and pr_sighold, which
-- have the size of an address
abbrev pub status_fields : NoteFile → List ℕ → Option ProcessStatus
status_fields file bytes =
    option_and_then (λ signal. option_map (λ pid. record { signal = signal; pid = pid })
    (number_in file.is_little bytes (16 + 2 * address_size file.class))) (short_in file bytes 12)

-- of the ABI n32 of MIPS (EM_MIPS), whose registers have 64 bits
abbrev pub is_n32_status : NoteFile → List ℕ → Bool
is_n32_status file bytes = is_short file.class && file.machine == 8 && length bytes == 440

abbrev pub is_status : NoteFile → List ℕ → Bool
is_status file bytes = elim (core_sizes file.class file.machine) [
  | Some known ↦ length bytes == known.0 || is_n32_status file bytes
  | None ↦ false
]

abbrev pub status_in : NoteFile → List ℕ → Option ProcessStatus
status_in file bytes = if is_status file bytes then status_fields file bytes else None

abbrev pub status_members : Part → ℕ → ProcessStatus → Members
status_members part i status =
    part_member part
    ∷ (codes "note", number i)
    ∷ (codes "pr_cursig", number status.signal)
    ∷ (codes "pr_pid", number status.pid)
    ∷ []

abbrev pub status_said : Part → ℕ → ProcessStatus → List Said
status_said part i status = states (constant layout.PROCESS_STATUS) (status_members part i status) ∷ []

-- ---- NT_PRPSINFO: elf_prpsinfo, which ends in pr_fname, of 16 bytes, and pr_psargs, of 80

abbrev pub is_process : NoteFile → List ℕ → Bool
is_process file bytes = elim (core_sizes file.class file.machine) [
  | Some known ↦ length bytes == known.1
  | None ↦ false
]

abbrev pub process_name : List ℕ → List ℕ
process_name bytes = text_in (take 16 (drop (length bytes - 96) bytes))

abbrev pub process_arguments : List ℕ → List ℕ
process_arguments bytes = text_in (drop (length bytes - 80) bytes)

abbrev pub process_members : Part → ℕ → List ℕ → Members
process_members part i bytes =
    part_member part
    ∷ (codes "note", number i)
    ∷ (codes "pr_fname", text (Some (process_name bytes)))
    ∷ (codes "pr_psargs", text (Some (process_arguments bytes)))
    ∷ []

abbrev pub process_said : NoteFile → Part → ℕ → List ℕ → List Said
process_said file part i bytes =
    if is_process file bytes then states (constant layout.PROCESS_INFO) (process_members part i bytes) ∷ [] else []

-- ---- NT_SIGINFO: siginfo_t, of 128 bytes, which begins with si_signo, si_errno and si_code; on MIPS (EM_MIPS) si_code
-- comes before si_errno

abbrev pub signed_in : NoteFile → List ℕ → ℕ → Option ℤ
signed_in file bytes o = result_ok (signed_number_at file.is_little 4 bytes o)

-- where si_code and si_errno are
abbrev pub signal_offsets : ℕ → ℕ × ℕ
signal_offsets machine = if machine == 8 then (4, 8) else (8, 4)

abbrev pub signal_fields : NoteFile → List ℕ → Option SignalInfo
signal_fields file bytes =
    let offsets = signal_offsets file.machine in
    option_and_then (λ signal. option_and_then (λ code. option_map (λ error.
    record { signal = signal; code = code; error = error })
    (signed_in file bytes offsets.1)) (signed_in file bytes offsets.0)) (signed_in file bytes 0)

abbrev pub signal_in : NoteFile → List ℕ → Option SignalInfo
signal_in file bytes = if length bytes == 128 then signal_fields file bytes else None

abbrev pub signal_members : Part → ℕ → SignalInfo → Members
signal_members part i info =
    part_member part
    ∷ (codes "note", number i)
    ∷ (codes "si_signo", signed info.signal)
    ∷ (codes "si_code", signed info.code)
    ∷ (codes "si_errno", signed info.error)
    ∷ []

abbrev pub signal_said : Part → ℕ → SignalInfo → List Said
signal_said part i info = states (constant layout.SIGNAL_INFO) (signal_members part i info) ∷ []

-- ---- NT_AUXV: entries of two numbers of the size of an address

abbrev pub is_auxiliary : Class → List ℕ → Bool
is_auxiliary ELF32 bytes = length bytes % 8 == 0
is_auxiliary ELF64 bytes = length bytes % 16 == 0

unfoldable pub auxiliary_types : List (Row ℕ)
auxiliary_types = rows names.AUXILIARY.now

abbrev pub entry_in : NoteFile → List ℕ → Option AuxiliaryEntry
entry_in file bytes =
    option_and_then (λ type. option_map (λ value. record { kind = type; value = value })
    (address_in file bytes (address_size file.class))) (address_in file bytes 0)

abbrev pub entry_members : Part → ℕ → AuxiliaryEntry → Members
entry_members part i entry =
    part_member part
    ∷ (codes "note", number i)
    ∷ (codes "a_type", number entry.kind)
    ∷ (codes "a_type_name", word (name_of nat_eq auxiliary_types entry.kind))
    ∷ (codes "a_val", number entry.value)
    ∷ []

abbrev pub entry_said : Part → ℕ → AuxiliaryEntry → List Said
entry_said part i entry = states (constant layout.AUXILIARY_ENTRY) (entry_members part i entry) ∷ []

-- each, no more than the first list has bytes
abbrev pub entries_said : NoteFile → Part → ℕ → List ℕ → List ℕ → List Said
entries_said file part i [] rest = []
entries_said file part i (byte ∷ bytes) rest = elim (entry_in file rest) [
  | Some entry ↦ entry_said part i entry
      ++ entries_said file part i bytes (drop (2 * address_size file.class) rest)
  | None ↦ []
]

abbrev pub auxiliary_said : NoteFile → Part → ℕ → List ℕ → List Said
auxiliary_said file part i bytes =
    if is_auxiliary file.class bytes then entries_said file part i bytes bytes else []

-- ---- NT_FILE: the number of the mappings and the size of a page, which have the size of an address, then three such
-- numbers for each mapping, and then a name for each, with a 0 byte at its end

-- where the names begin after the numbers of the mappings
abbrev pub names_at : Class → ℕ → List ℕ → Option ℕ
names_at ELF32 count bytes = if nat_le count (length bytes / 12) then Some (count * 12) else None
names_at ELF64 count bytes = if nat_le count (length bytes / 24) then Some (count * 24) else None

abbrev pub nul_count : List ℕ → ℕ
nul_count bytes = length (filter (λ b. b == 0) bytes)

-- what follows the first two numbers
abbrev pub mappings_in : NoteFile → List ℕ → List ℕ
mappings_in file bytes = drop (2 * address_size file.class) bytes

-- if there is a name for each
abbrev pub with_names : ℕ → ℕ → List ℕ → ℕ → Option MappedFiles
with_names count page_size bytes at =
    if nat_le count (nul_count (drop at bytes))
    then Some (record { count = count; page_size = page_size; names_at = at })
    else None

abbrev pub files_in : NoteFile → List ℕ → Option MappedFiles
files_in file bytes =
    option_and_then (λ count. option_and_then (λ page_size. option_and_then
    (with_names count page_size (mappings_in file bytes)) (names_at file.class count (mappings_in file bytes)))
    (address_in file bytes (address_size file.class))) (address_in file bytes 0)

abbrev pub mapped_in : NoteFile → List ℕ → Option MappedFile
mapped_in file bytes =
    let size = address_size file.class in
    option_and_then (λ start. option_and_then (λ end. option_map (λ offset.
    record { start = start; end = end; offset = offset })
    (address_in file bytes (2 * size))) (address_in file bytes size)) (address_in file bytes 0)

abbrev pub files_members : Part → ℕ → MappedFiles → Members
files_members part i files =
    part_member part
    ∷ (codes "note", number i)
    ∷ (codes "count", number files.count)
    ∷ (codes "page_size", number files.page_size)
    ∷ []

abbrev pub mapped_members : Part → ℕ → MappedFile → List ℕ → Members
mapped_members part i mapped path =
    part_member part
    ∷ (codes "note", number i)
    ∷ (codes "start", number mapped.start)
    ∷ (codes "end", number mapped.end)
    ∷ (codes "file_ofs", number mapped.offset)
    ∷ (codes "path", text (Some path))
    ∷ []

abbrev pub mapped_said : Part → ℕ → MappedFile → List ℕ → List Said
mapped_said part i mapped path = states (constant layout.MAPPED_FILE) (mapped_members part i mapped path) ∷ []

-- each mapping, by its numbers and its name, and no more than the first list has bytes
abbrev pub mappings_said : NoteFile → Part → ℕ → List ℕ → List ℕ → List ℕ → List Said
mappings_said file part i [] rest names = []
mappings_said file part i (byte ∷ bytes) rest names = elim (mapped_in file rest) [
  | Some mapped ↦ mapped_said part i mapped (text_in names)
      ++ mappings_said file part i bytes (drop (3 * address_size file.class) rest) (after_string (text_in names) names)
  | None ↦ []
]

abbrev pub files_said : NoteFile → Part → ℕ → List ℕ → MappedFiles → List Said
files_said file part i bytes files =
    let mappings = mappings_in file bytes in
    let table = take files.names_at mappings in
    states (constant layout.MAPPED_FILES) (files_members part i files)
    ∷ mappings_said file part i table table (drop files.names_at mappings)

-- ---- by the type

abbrev pub core_said : NoteFile → Part → ℕ → ℕ → List ℕ → List Said
core_said file part i n_type bytes =
    if n_type == 1 then said_if (status_said part i) (status_in file bytes)
    else if n_type == 3 then process_said file part i bytes
    else if n_type == 6 then auxiliary_said file part i bytes
    else if n_type == 0x53494749 then said_if (signal_said part i) (signal_in file bytes)
    else if n_type == 0x46494c45 then said_if (files_said file part i bytes) (files_in file bytes)
    else []
