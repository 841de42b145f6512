-- The types of segments (gABI, chapter "Program Header").
use Rattle.std.specs.Prelude.{ℕ, ◌==◌, if◌then◌else◌, List, [], Option, nat_eq}
use Rattle.std.specs.Option.{option_or}
use Rattle.elf_abi.specs.Values.{em_aarch64, em_arm, em_ia_64, em_mips, em_parisc, em_riscv, em_s390}
use Rattle.elf_abi.specs.SegmentNames.{p_type_names}
use Rattle.elf_abi.specs.Names.{Row, name_of}
use Rattle.elf_names.specs.Table.{rows}
use Rattle.elf_names.specs.declared.segments.TheConstants as names

-- of files of this machine
unfoldable pub segment_types : ℕ → List (Row ℕ)
segment_types e_machine =
    if e_machine == em_arm then rows names.ARM.now
    else if e_machine == em_aarch64 then rows names.AARCH64.now
    else if e_machine == em_riscv then rows names.RISCV.now
    else if e_machine == em_mips then rows names.MIPS.now
    else if e_machine == em_s390 then rows names.S390.now
    else if e_machine == em_parisc then rows names.PARISC.now
    else if e_machine == em_ia_64 then rows names.IA_64.now
    else []

-- of files of any machine
unfoldable pub any_segment_types : List (Row ℕ)
any_segment_types = rows names.ANY.now

-- the name: that of the machine, else that of any machine, else that of the constants of the standard
abbrev pub segment_type_name : ℕ → ℕ → Option (List ℕ)
segment_type_name e_machine value =
    option_or (option_or (name_of nat_eq (segment_types e_machine) value) (name_of nat_eq any_segment_types value)) (name_of nat_eq p_type_names value)
