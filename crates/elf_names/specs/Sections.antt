-- The types of sections (gABI, chapter "Sections").
use Rattle.std.specs.Prelude.{ℕ, ◌==◌, if◌then◌else◌, List, [], Option, nat_eq}
use Rattle.std.specs.Option.{option_or}
use Rattle.elf_abi.specs.Values.{em_aarch64, em_alpha, em_arc_compact, em_arc_compact2, em_arm, em_csky, em_ia_64}
use Rattle.elf_abi.specs.Values.{em_mips, em_parisc, em_riscv, em_x86_64}
use Rattle.elf_abi.specs.SectionNames.{sh_type_names}
use Rattle.elf_abi.specs.Names.{Row, name_of}
use Rattle.elf_names.specs.Table.{rows}
use Rattle.elf_names.specs.declared.machines.TheConstants as linux
use Rattle.elf_names.specs.declared.sections.TheConstants as names

-- of files of this machine
unfoldable pub section_types : ℕ → List (Row ℕ)
section_types e_machine =
    if e_machine == em_x86_64 then rows names.X86_64.now
    else if e_machine == em_arm then rows names.ARM.now
    else if e_machine == em_aarch64 then rows names.AARCH64.now
    else if e_machine == em_riscv then rows names.RISCV.now
    else if e_machine == em_mips then rows names.MIPS.now
    else if e_machine == em_ia_64 then rows names.IA_64.now
    else if e_machine == em_parisc then rows names.PARISC.now
    else if e_machine == em_arc_compact then rows names.ARC.now
    else if e_machine == em_arc_compact2 then rows names.ARC.now
    else if e_machine == em_csky then rows names.CSKY.now
    else if e_machine == em_alpha then rows names.ALPHA.now
    else if e_machine == linux.GNU_ALPHA then rows names.ALPHA.now
    else []

-- of files of any machine
unfoldable pub any_section_types : List (Row ℕ)
any_section_types = rows names.ANY.now

-- the name: that of the machine, else that of any machine, else that of the constants of the standard
abbrev pub section_type_name : ℕ → ℕ → Option (List ℕ)
section_type_name e_machine value =
    option_or (option_or (name_of nat_eq (section_types e_machine) value) (name_of nat_eq any_section_types value)) (name_of nat_eq sh_type_names value)
