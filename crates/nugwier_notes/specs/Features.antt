-- Features that all code of a file has, by the machine.
use Rattle.std.specs.Prelude.{ℕ, ◌==◌, ◌||◌, Bool, if◌then◌else◌, List, []}
use Rattle.elf_abi.specs.Values.{em_386, em_aarch64, em_x86_64}
use Rattle.elf_names.specs.Flags.{Flag, flags as flags_in}
use Rattle.nugwier_notes.specs.declared.features.TheConstants as names

abbrev pub is_x86 : ℕ → Bool
is_x86 machine = machine == em_386 || machine == em_x86_64

abbrev pub is_aarch64 : ℕ → Bool
is_aarch64 machine = machine == em_aarch64

unfoldable pub feature_flags : ℕ → List Flag
feature_flags machine =
    if is_x86 machine then flags_in names.X86_FEATURES.now
    else if is_aarch64 machine then flags_in names.AARCH64_FEATURES.now
    else []
