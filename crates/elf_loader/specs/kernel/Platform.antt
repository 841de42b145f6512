-- The kernel of a machine: what it knows of a program before it reads it. The addresses of a program end at TASK_SIZE
-- (Linux, arch/x86/include/asm/page_64_types.h, and the same of other machines).
use Rattle.std.specs.Prelude.{ℕ, ◌-◌, ◌^◌, ◌==◌, Bool, true, false, if◌then◌else◌, Option, Some, None}
use Rattle.std.specs.Prelude.{Result, Ok, Err}
use Rattle.elf_abi.specs.Values.{em_386, em_aarch64, em_arm, em_riscv, em_x86_64}
use Rattle.elf_records.specs.declared.endian.AnyEndian.TheVariants.{Little}
use Rattle.elf_records.specs.declared.file.Class.{Class}
use Rattle.elf_records.specs.declared.file.Class.TheVariants.{ELF32, ELF64}
use Rattle.elf_records.specs.declared.parse.ParseError.{ParseError}
use Rattle.elf_loader.specs.declared.kernel.platform.PageSize.{PageSize}
use Rattle.elf_loader.specs.declared.kernel.platform.PageSize.TheVariants.{Kib16, Kib4, Kib64}
use Rattle.elf_loader.specs.declared.kernel.platform.Platform.{Platform}

-- the bytes of a page
abbrev pub page_size : PageSize → ℕ
page_size Kib4 = 4096
page_size Kib16 = 16384
page_size Kib64 = 65536

-- a machine with pages of 4 KiB and the little order
abbrev pub machine_with : ℕ → Class → Bool → ℕ → Platform
machine_with machine class reads_class addresses = record {
  machine = machine;
  class = class;
  endian = Little;
  reads_class = reads_class;
  page = Kib4;
  addresses = addresses;
}

-- the machines that are known: x86-64 and AArch64 with four levels of page tables, 32-bit programs on these, and 64-bit
-- RISC-V (Sv48), whose kernel looks at the class as well
abbrev pub platform_of : ℕ → Option Platform
platform_of machine =
    if machine == em_x86_64 then Some (machine_with machine ELF64 false (2 ^ 47 - 4096))
    else if machine == em_386 then Some (machine_with machine ELF32 false (2 ^ 32 - 8192))
    else if machine == em_aarch64 then Some (machine_with machine ELF64 false (2 ^ 48))
    else if machine == em_arm then Some (machine_with machine ELF32 false (2 ^ 32 - 4096))
    else if machine == em_riscv then Some (machine_with machine ELF64 true (2 ^ 47))
    else None

-- the machine of this number, if the number is there
abbrev pub platform_named : Result ℕ ParseError → Option Platform
platform_named (Ok machine) = platform_of machine
platform_named (Err e) = None
