-- The tags of build attributes and their values, by the name of the vendor (Addenda to, and Errata in, the ABI for the Arm
-- Architecture, chapter "Build Attributes"; RISC-V ELF psABI, section "Attributes"; GNU as, section "Object Attributes").
use Rattle.std.specs.Prelude.{ℕ, ◌==◌, ◌||◌, ◌&&◌, nat_eq, if◌then◌else◌, List, [], codes, Option}
use Rattle.std.specs.Str.{bytes_eq}
use Rattle.elf_abi.specs.Values.{em_68k, em_mips, em_ppc, em_ppc64, em_s390, em_sparc, em_sparc32plus, em_sparcv9}
use Rattle.elf_abi.specs.Names.{Row, name_of}
use Rattle.elf_names.specs.Table.{rows}
use Rattle.elf_names.specs.declared.attributes.TheConstants as names

-- what attributes are of
unfoldable pub scopes : List (Row ℕ)
scopes = rows names.SCOPES.now

abbrev pub scope_name : ℕ → Option (List ℕ)
scope_name tag = name_of nat_eq scopes tag

-- ---- tags

-- of GNU, by the machine
unfoldable pub gnu_tags : ℕ → List (Row ℕ)
gnu_tags m =
    if m == em_68k then rows names.M68K_TAGS.now
    else if m == em_mips then rows names.MIPS_TAGS.now
    else if m == em_ppc || m == em_ppc64 then rows names.POWER_TAGS.now
    else if m == em_s390 then rows names.S390_TAGS.now
    else if m == em_sparc || m == em_sparc32plus || m == em_sparcv9
    then rows names.SPARC_TAGS.now
    else rows names.GNU_TAGS.now

unfoldable pub attribute_tags : List ℕ → ℕ → List (Row ℕ)
attribute_tags vendor m =
    if bytes_eq vendor (codes "aeabi") then rows names.ARM_TAGS.now
    else if bytes_eq vendor (codes "riscv") then rows names.RISCV_TAGS.now
    else if bytes_eq vendor (codes "gnu") then gnu_tags m
    else []

abbrev pub attribute_tag_name : List ℕ → ℕ → ℕ → Option (List ℕ)
attribute_tag_name vendor m tag = name_of nat_eq (attribute_tags vendor m) tag

-- ---- values

-- of Arm, by the tag
unfoldable pub arm_values : ℕ → List (Row ℕ)
arm_values tag =
    if tag == 6 then rows names.ARM_ARCHITECTURES.now
    else if tag == 7 then rows names.ARM_PROFILES.now
    else if tag == 8 then rows names.ARM_ISA.now
    else if tag == 9 then rows names.ARM_THUMB.now
    else if tag == 10 then rows names.ARM_FP.now
    else if tag == 11 then rows names.ARM_WMMX.now
    else if tag == 12 then rows names.ARM_SIMD.now
    else if tag == 13 then rows names.ARM_CONFIGURATIONS.now
    else if tag == 14 then rows names.ARM_R9.now
    else if tag == 15 then rows names.ARM_RW_DATA.now
    else if tag == 16 then rows names.ARM_RO_DATA.now
    else if tag == 17 then rows names.ARM_GOT.now
    else if tag == 18 then rows names.ARM_WCHAR.now
    else if tag == 19 || tag == 21 || tag == 22 then rows names.ARM_NEEDED.now
    else if tag == 20 then rows names.ARM_DENORMAL.now
    else if tag == 23 then rows names.ARM_NUMBER_MODEL.now
    else if tag == 24 then rows names.ARM_ALIGN_NEEDED.now
    else if tag == 25 then rows names.ARM_ALIGN_PRESERVED.now
    else if tag == 26 then rows names.ARM_ENUM_SIZE.now
    else if tag == 27 then rows names.ARM_HARD_FP.now
    else if tag == 28 then rows names.ARM_VFP_ARGUMENTS.now
    else if tag == 29 then rows names.ARM_WMMX_ARGUMENTS.now
    else if tag == 30 then rows names.ARM_GOALS.now
    else if tag == 31 then rows names.ARM_FP_GOALS.now
    else if tag == 34 then rows names.ARM_UNALIGNED.now
    else if tag == 36 || tag == 42 || tag == 66 || tag == 70 then rows names.ARM_ALLOWED.now
    else if tag == 38 then rows names.ARM_HALF.now
    else if tag == 44 then rows names.ARM_DIVISION.now
    else if tag == 46 then rows names.ARM_DSP.now
    else if tag == 48 then rows names.ARM_MVE.now
    else if tag == 50 then rows names.ARM_PAC.now
    else if tag == 52 then rows names.ARM_BTI.now
    else if tag == 64 then rows names.ARM_TRUE.now
    else if tag == 68 then rows names.ARM_VIRTUALIZATION.now
    else if tag == 74 then rows names.ARM_BTI_USE.now
    else if tag == 76 then rows names.ARM_PACRET_USE.now
    else []

unfoldable pub attribute_values : List ℕ → ℕ → List (Row ℕ)
attribute_values vendor tag =
    if bytes_eq vendor (codes "aeabi") then arm_values tag
    else if bytes_eq vendor (codes "riscv") && tag == 6 then rows names.RISCV_ACCESS.now
    else []

abbrev pub attribute_value_name : List ℕ → ℕ → ℕ → Option (List ℕ)
attribute_value_name vendor tag value = name_of nat_eq (attribute_values vendor tag) value
