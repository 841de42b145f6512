-- How a relocation refers to its symbol, by its type (the supplements of the processors to the System V ABI, chapter
-- "Dynamic Linking" or "Relocation").
use Rattle.std.specs.Prelude.{ℕ, ◌==◌, if◌then◌else◌, Option, Some, None}
use Rattle.elf_abi.specs.Values.{em_386, em_aarch64, em_arm, em_loongarch, em_ppc, em_ppc64, em_riscv, em_s390}
use Rattle.elf_abi.specs.Values.{em_x86_64}
use Rattle.elf_linking.specs.declared.ReferenceKind.{ReferenceKind}
use Rattle.elf_linking.specs.declared.ReferenceKind.TheVariants.{Address, Copied, JumpSlot}
use Rattle.elf_linking.specs.declared.kinds.LinkageTypes.{LinkageTypes}

-- the relocation types of a jump slot and of a copy
abbrev pub types : ℕ → ℕ → Option LinkageTypes
types jump_slot copied = Some (record { jump_slot = jump_slot; copied = copied })

abbrev pub linkage_types : ℕ → Option LinkageTypes
linkage_types machine =
    if machine == em_x86_64 then types 7 5  -- R_X86_64_JUMP_SLOT, R_X86_64_COPY
    else if machine == em_aarch64 then types 1026 1024  -- R_AARCH64_JUMP_SLOT, R_AARCH64_COPY
    else if machine == em_386 then types 7 5  -- R_386_JMP_SLOT, R_386_COPY
    else if machine == em_arm then types 22 20  -- R_ARM_JUMP_SLOT, R_ARM_COPY
    else if machine == em_riscv then types 5 4  -- R_RISCV_JUMP_SLOT, R_RISCV_COPY
    else if machine == em_ppc64 then types 21 19  -- R_PPC64_JMP_SLOT, R_PPC64_COPY
    else if machine == em_ppc then types 21 19  -- R_PPC_JMP_SLOT, R_PPC_COPY
    else if machine == em_s390 then types 11 9  -- R_390_JMP_SLOT, R_390_COPY
    else if machine == em_loongarch then types 5 4  -- R_LARCH_JUMP_SLOT, R_LARCH_COPY
    else None

abbrev pub kind_by : LinkageTypes → ℕ → ReferenceKind
kind_by linkage r_type =
    if r_type == linkage.jump_slot then JumpSlot
    else if r_type == linkage.copied then Copied
    else Address

-- of a machine whose types are not known here each is by a jump slot
abbrev pub kind_if : Option LinkageTypes → ℕ → ReferenceKind
kind_if (Some linkage) r_type = kind_by linkage r_type
kind_if None r_type = JumpSlot

abbrev pub reference_kind : ℕ → ℕ → ReferenceKind
reference_kind machine r_type = kind_if (linkage_types machine) r_type
