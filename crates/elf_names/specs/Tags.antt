-- The tags of dynamic entries (gABI, chapter "Dynamic Section").
use Rattle.std.specs.Prelude.{ℤ, ℕ, ◌==◌, if◌then◌else◌, List, [], Option}
use Rattle.std.specs.Option.{option_or}
use Rattle.std.specs.Ordering.{int_eq}
use Rattle.elf_abi.specs.Values.{em_aarch64, em_alpha, em_altera_nios2, em_arm, em_ia_64, em_mips, em_ppc, em_ppc64}
use Rattle.elf_abi.specs.Values.{em_riscv, em_sparc, em_sparc32plus, em_sparcv9, em_x86_64}
use Rattle.elf_abi.specs.DynamicNames.{d_tag_names}
use Rattle.elf_abi.specs.Names.{Row, name_of}
use Rattle.elf_names.specs.Table.{rows}
use Rattle.elf_names.specs.declared.machines.TheConstants as linux
use Rattle.elf_names.specs.declared.tags.TheConstants as names

-- of files of this machine
unfoldable pub tags : ℕ → List (Row ℤ)
tags e_machine =
    if e_machine == em_x86_64 then rows names.X86_64.now
    else if e_machine == em_aarch64 then rows names.AARCH64.now
    else if e_machine == em_arm then rows names.ARM.now
    else if e_machine == em_mips then rows names.MIPS.now
    else if e_machine == em_ppc then rows names.PPC.now
    else if e_machine == em_ppc64 then rows names.PPC64.now
    else if e_machine == em_riscv then rows names.RISCV.now
    else if e_machine == em_sparc then rows names.SPARC.now
    else if e_machine == em_sparc32plus then rows names.SPARC.now
    else if e_machine == em_sparcv9 then rows names.SPARC.now
    else if e_machine == em_alpha then rows names.ALPHA.now
    else if e_machine == linux.GNU_ALPHA then rows names.ALPHA.now
    else if e_machine == em_ia_64 then rows names.IA_64.now
    else if e_machine == em_altera_nios2 then rows names.NIOS2.now
    else []

-- of files of any machine
unfoldable pub any_tags : List (Row ℤ)
any_tags = rows names.ANY.now

-- the name: that of the machine, else that of any machine, else that of the constants of the standard
abbrev pub tag_name : ℕ → ℤ → Option (List ℕ)
tag_name e_machine value =
    option_or (option_or (name_of int_eq (tags e_machine) value) (name_of int_eq any_tags value)) (name_of int_eq d_tag_names value)
