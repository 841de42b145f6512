-- The names of flags: single bits, and fields of some bits.
use Rattle.std.specs.Prelude.{ℕ, ◌==◌, Bool, if◌then◌else◌, bit_and, List, [], map}
use Rattle.std.specs.Borrow.{Bor}
use Rattle.elf_abi.specs.Values.{em_alpha, em_arm, em_csky, em_ia_64, em_loongarch, em_mips, em_openrisc, em_parisc}
use Rattle.elf_abi.specs.Values.{em_ppc, em_ppc64, em_riscv, em_s390, em_sh, em_sparc, em_sparc32plus, em_sparcv9}
use Rattle.elf_names.specs.declared.flags.TheConstants as names
use Rattle.elf_names.specs.declared.machines.TheConstants as linux

-- the bits that a flag has to do with, their value if it is set, and its name
abbrev pub Flag : Type 0
Flag = ℕ × ℕ × List ℕ

-- whether it is set in a number
abbrev pub is_set : ℕ → Flag → Bool
is_set n flag = bit_and n flag.0 == flag.1

-- a table of the program
abbrev pub flags : List (ℕ × ℕ × record { now : List ℕ }) → List Flag
flags table = map (λ flag. (flag.0, flag.1, flag.2.now)) table

-- the same, as a function returns it
abbrev pub flag_of : ℕ × ℕ × Bor (List ℕ) → Flag
flag_of flag = (flag.0, flag.1, flag.2.now)

abbrev pub flags_of : List (ℕ × ℕ × Bor (List ℕ)) → List Flag
flags_of table = map flag_of table

-- of DT_FLAGS, DT_FLAGS_1, sh_flags, p_flags, and vd_flags and vna_flags
unfoldable pub dynamic_flags : List Flag
dynamic_flags = flags names.DYNAMIC.now

unfoldable pub dynamic_flags_1 : List Flag
dynamic_flags_1 = flags names.DYNAMIC_1.now

unfoldable pub section_flags : List Flag
section_flags = flags names.SECTION.now

unfoldable pub segment_flags : List Flag
segment_flags = flags names.SEGMENT.now

unfoldable pub version_flags : List Flag
version_flags = flags names.VERSION.now

-- of e_flags, by the machine
unfoldable pub file_flags : ℕ → List Flag
file_flags e_machine =
    if e_machine == em_arm then flags names.ARM.now
    else if e_machine == em_mips then flags names.MIPS.now
    else if e_machine == em_ppc then flags names.PPC.now
    else if e_machine == em_ppc64 then flags names.PPC64.now
    else if e_machine == em_riscv then flags names.RISCV.now
    else if e_machine == em_s390 then flags names.S390.now
    else if e_machine == em_loongarch then flags names.LOONGARCH.now
    else if e_machine == em_parisc then flags names.PARISC.now
    else if e_machine == em_sh then flags names.SH.now
    else if e_machine == em_sparc then flags names.SPARC.now
    else if e_machine == em_sparc32plus then flags names.SPARC.now
    else if e_machine == em_sparcv9 then flags names.SPARCV9.now
    else if e_machine == em_alpha then flags names.ALPHA.now
    else if e_machine == linux.GNU_ALPHA then flags names.ALPHA.now
    else if e_machine == em_ia_64 then flags names.IA_64.now
    else if e_machine == em_csky then flags names.CSKY.now
    else if e_machine == em_openrisc then flags names.OPENRISC.now
    else []
