-- The folders in which the dynamic linker of glibc looks for libraries that no search path names: those of Debian for
-- the machine, then those of other systems.
use Rattle.std.specs.Prelude.{ℕ, ◌==◌, if◌then◌else◌, List, [], ◌∷◌, codes, drop, slice_get, unwrap_or}
use Rattle.elf_abi.specs.Values.{em_386, em_aarch64, em_arm, em_ppc64, em_riscv, em_s390, em_x86_64}
use Rattle.elf_records.specs.declared.endian.AnyEndian.{AnyEndian}
use Rattle.elf_records.specs.declared.endian.AnyEndian.TheVariants.{Big, Little}
use Rattle.elf_records.specs.declared.file.Class.{Class}
use Rattle.elf_records.specs.declared.file.Class.TheVariants.{ELF32, ELF64}
use Rattle.elf_libraries.specs.declared.tree.Kind.{Kind}

-- ---- the folders of each machine

abbrev pub x86_64 : List (List ℕ)
x86_64 =
    codes "/lib/x86_64-linux-gnu"
    ∷ codes "/usr/lib/x86_64-linux-gnu"
    ∷ codes "/lib64"
    ∷ codes "/usr/lib64"
    ∷ codes "/lib"
    ∷ codes "/usr/lib"
    ∷ []

abbrev pub x32 : List (List ℕ)
x32 =
    codes "/lib/x86_64-linux-gnux32"
    ∷ codes "/usr/lib/x86_64-linux-gnux32"
    ∷ codes "/libx32"
    ∷ codes "/usr/libx32"
    ∷ codes "/lib"
    ∷ codes "/usr/lib"
    ∷ []

abbrev pub i386 : List (List ℕ)
i386 =
    codes "/lib/i386-linux-gnu"
    ∷ codes "/usr/lib/i386-linux-gnu"
    ∷ codes "/lib32"
    ∷ codes "/usr/lib32"
    ∷ codes "/lib"
    ∷ codes "/usr/lib"
    ∷ []

abbrev pub aarch64 : List (List ℕ)
aarch64 =
    codes "/lib/aarch64-linux-gnu"
    ∷ codes "/usr/lib/aarch64-linux-gnu"
    ∷ codes "/lib64"
    ∷ codes "/usr/lib64"
    ∷ codes "/lib"
    ∷ codes "/usr/lib"
    ∷ []

abbrev pub arm : List (List ℕ)
arm =
    codes "/lib/arm-linux-gnueabihf"
    ∷ codes "/usr/lib/arm-linux-gnueabihf"
    ∷ codes "/lib/arm-linux-gnueabi"
    ∷ codes "/usr/lib/arm-linux-gnueabi"
    ∷ codes "/lib"
    ∷ codes "/usr/lib"
    ∷ []

abbrev pub riscv64 : List (List ℕ)
riscv64 =
    codes "/lib/riscv64-linux-gnu"
    ∷ codes "/usr/lib/riscv64-linux-gnu"
    ∷ codes "/lib64/lp64d"
    ∷ codes "/usr/lib64/lp64d"
    ∷ codes "/lib64"
    ∷ codes "/usr/lib64"
    ∷ codes "/lib"
    ∷ codes "/usr/lib"
    ∷ []

abbrev pub powerpc64le : List (List ℕ)
powerpc64le =
    codes "/lib/powerpc64le-linux-gnu"
    ∷ codes "/usr/lib/powerpc64le-linux-gnu"
    ∷ codes "/lib64"
    ∷ codes "/usr/lib64"
    ∷ codes "/lib"
    ∷ codes "/usr/lib"
    ∷ []

abbrev pub s390x : List (List ℕ)
s390x =
    codes "/lib/s390x-linux-gnu"
    ∷ codes "/usr/lib/s390x-linux-gnu"
    ∷ codes "/lib64"
    ∷ codes "/usr/lib64"
    ∷ codes "/lib"
    ∷ codes "/usr/lib"
    ∷ []

abbrev pub others_64 : List (List ℕ)
others_64 =
    codes "/lib64"
    ∷ codes "/usr/lib64"
    ∷ codes "/lib"
    ∷ codes "/usr/lib"
    ∷ []

abbrev pub others_32 : List (List ℕ)
others_32 =
    codes "/lib"
    ∷ codes "/usr/lib"
    ∷ []

-- ---- those of a kind of files

abbrev pub folders_of_ppc64 : AnyEndian → List (List ℕ)
folders_of_ppc64 Little = powerpc64le
folders_of_ppc64 Big = others_64

abbrev pub folders_of_64 : AnyEndian → ℕ → List (List ℕ)
folders_of_64 order machine =
    if machine == em_x86_64 then x86_64
    else if machine == em_aarch64 then aarch64
    else if machine == em_riscv then riscv64
    else if machine == em_ppc64 then folders_of_ppc64 order
    else if machine == em_s390 then s390x
    else others_64

abbrev pub folders_of_32 : ℕ → List (List ℕ)
folders_of_32 machine =
    if machine == em_x86_64 then x32
    else if machine == em_386 then i386
    else if machine == em_arm then arm
    else others_32

abbrev pub folders_by : Class → AnyEndian → ℕ → List (List ℕ)
folders_by ELF64 order machine = folders_of_64 order machine
folders_by ELF32 order machine = folders_of_32 machine

abbrev pub usual_folders : Kind → List (List ℕ)
usual_folders kind = folders_by kind.class kind.order kind.machine

-- ---- what stands for $LIB and $PLATFORM

-- the first usual folder without the slash before it, as on Debian
abbrev pub lib_of : Kind → List ℕ
lib_of kind = drop 1 (unwrap_or (slice_get (usual_folders kind) 0) [])

-- the name of the machine, where the processor does not matter
abbrev pub platform_by : ℕ → List ℕ
platform_by machine =
    if machine == em_x86_64 then codes "x86_64"
    else if machine == em_386 then codes "i686"
    else if machine == em_aarch64 then codes "aarch64"
    else []

abbrev pub platform_of : Kind → List ℕ
platform_of kind = platform_by kind.machine
