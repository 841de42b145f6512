-- The types of relocations, by machine.
use Rattle.std.specs.Prelude.{ℕ, ◌==◌, ◌||◌, if◌then◌else◌, List, [], Option, nat_eq}
use Rattle.elf_abi.specs.Values.{em_386, em_68k, em_aarch64, em_alpha, em_altera_nios2, em_amdgpu, em_arc_compact}
use Rattle.elf_abi.specs.Values.{em_arc_compact2, em_arm, em_bpf, em_csky, em_ia_64, em_loongarch, em_microblaze}
use Rattle.elf_abi.specs.Values.{em_mips, em_openrisc, em_parisc, em_ppc, em_ppc64, em_riscv, em_s390, em_sh, em_sparc}
use Rattle.elf_abi.specs.Values.{em_sparc32plus, em_sparcv9, em_x86_64}
use Rattle.elf_abi.specs.Names.{Row, name_of}
use Rattle.elf_names.specs.Table.{rows}
use Rattle.elf_names.specs.declared.machines.TheConstants as linux
use Rattle.elf_names.specs.declared.relocations.aarch64.TheConstants as aarch64
use Rattle.elf_names.specs.declared.relocations.alpha.TheConstants as alpha
use Rattle.elf_names.specs.declared.relocations.amdgpu.TheConstants as amdgpu
use Rattle.elf_names.specs.declared.relocations.arc.TheConstants as arc
use Rattle.elf_names.specs.declared.relocations.arm.TheConstants as arm
use Rattle.elf_names.specs.declared.relocations.bpf.TheConstants as bpf
use Rattle.elf_names.specs.declared.relocations.csky.TheConstants as csky
use Rattle.elf_names.specs.declared.relocations.i386.TheConstants as i386
use Rattle.elf_names.specs.declared.relocations.ia_64.TheConstants as ia_64
use Rattle.elf_names.specs.declared.relocations.loongarch.TheConstants as loongarch
use Rattle.elf_names.specs.declared.relocations.m68k.TheConstants as m68k
use Rattle.elf_names.specs.declared.relocations.microblaze.TheConstants as microblaze
use Rattle.elf_names.specs.declared.relocations.mips.TheConstants as mips
use Rattle.elf_names.specs.declared.relocations.nios2.TheConstants as nios2
use Rattle.elf_names.specs.declared.relocations.openrisc.TheConstants as openrisc
use Rattle.elf_names.specs.declared.relocations.parisc.TheConstants as parisc
use Rattle.elf_names.specs.declared.relocations.ppc.TheConstants as ppc
use Rattle.elf_names.specs.declared.relocations.ppc64.TheConstants as ppc64
use Rattle.elf_names.specs.declared.relocations.riscv.TheConstants as riscv
use Rattle.elf_names.specs.declared.relocations.s390.TheConstants as s390
use Rattle.elf_names.specs.declared.relocations.sh.TheConstants as sh
use Rattle.elf_names.specs.declared.relocations.sparc.TheConstants as sparc
use Rattle.elf_names.specs.declared.relocations.x86_64.TheConstants as x86_64

-- of machines for which fewer systems are made; none of a machine whose types are not known here
unfoldable pub types_of_others : ℕ → List (Row ℕ)
types_of_others e_machine =
    if e_machine == em_68k then rows m68k.TYPES.now
    else if e_machine == em_parisc then rows parisc.TYPES.now
    else if e_machine == em_sh then rows sh.TYPES.now
    else if e_machine == em_sparc || e_machine == em_sparc32plus || e_machine == em_sparcv9
    then rows sparc.TYPES.now
    else if e_machine == em_alpha || e_machine == linux.GNU_ALPHA then rows alpha.TYPES.now
    else if e_machine == em_ia_64 then rows ia_64.TYPES.now
    else if e_machine == em_csky then rows csky.TYPES.now
    else if e_machine == em_arc_compact || e_machine == em_arc_compact2 then rows arc.TYPES.now
    else if e_machine == em_openrisc then rows openrisc.TYPES.now
    else if e_machine == em_microblaze then rows microblaze.TYPES.now
    else if e_machine == em_altera_nios2 then rows nios2.TYPES.now
    else if e_machine == em_bpf then rows bpf.TYPES.now
    else if e_machine == em_amdgpu then rows amdgpu.TYPES.now
    else []

-- the types of relocations with their names
unfoldable pub relocation_types : ℕ → List (Row ℕ)
relocation_types e_machine =
    if e_machine == em_x86_64 then rows x86_64.TYPES.now
    else if e_machine == em_386 then rows i386.TYPES.now
    else if e_machine == em_aarch64 then rows aarch64.TYPES.now
    else if e_machine == em_arm then rows arm.TYPES.now
    else if e_machine == em_mips then rows mips.TYPES.now
    else if e_machine == em_ppc then rows ppc.TYPES.now
    else if e_machine == em_ppc64 then rows ppc64.TYPES.now
    else if e_machine == em_riscv then rows riscv.TYPES.now
    else if e_machine == em_s390 then rows s390.TYPES.now
    else if e_machine == em_loongarch then rows loongarch.TYPES.now
    else types_of_others e_machine

abbrev pub relocation_type_name : ℕ → ℕ → Option (List ℕ)
relocation_type_name e_machine r_type = name_of nat_eq (relocation_types e_machine) r_type
