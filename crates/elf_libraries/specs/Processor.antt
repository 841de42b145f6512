-- The subfolders of glibc-hwcaps that the dynamic linker of glibc searches on this processor (the manual page ld.so(8);
-- x86-64 psABI, section "Micro-Architecture Levels"; glibc, sysdeps/x86_64/dl-hwcaps-subdirs.c). Linux names the features
-- of a processor in /proc/cpuinfo.
use Rattle.std.specs.Prelude.{ℕ, ◌==◌, not, Bool, false, if◌then◌else◌, List, [], ◌∷◌, codes, Option, Some, None, take}
use Rattle.std.specs.List.{find, list_all, list_any, slice_split, starts_with}
use Rattle.std.specs.Option.{option_map}
use Rattle.std.specs.Str.{bytes_eq}
use Rattle.elf_abi.specs.Values.{em_x86_64}
use Rattle.elf_records.specs.declared.file.Class.{Class}
use Rattle.elf_records.specs.declared.file.Class.TheVariants.{ELF32, ELF64}
use Rattle.elf_libraries.specs.declared.tree.Kind.{Kind}
use Rattle.elf_libraries.specs.declared.processor.Level.{Level}
use Rattle.elf_libraries.specs.declared.processor.Level.TheVariants.{Baseline, V2, V3, V4}

-- the first line that begins with "flags" has the features of the first processor, with a space before each
abbrev pub lines_of : List ℕ → List (List ℕ)
lines_of text = slice_split (λ b. b == 10) text

abbrev pub words_of : List ℕ → List (List ℕ)
words_of line = slice_split (λ b. b == 32) line

abbrev pub names_features : List ℕ → Bool
names_features line = starts_with ◌==◌ line (codes "flags")

abbrev pub words_if : Option (List ℕ) → List (List ℕ)
words_if None = []
words_if (Some line) = words_of line

abbrev pub features_in : List ℕ → List (List ℕ)
features_in text = words_if (find names_features (lines_of text))

-- each level needs the features of those below it
abbrev pub has : List (List ℕ) → List ℕ → Bool
has features feature = list_any (bytes_eq feature) features

abbrev pub has_all : List (List ℕ) → List (List ℕ) → Bool
has_all features needed = list_all (has features) needed

-- CMPXCHG16B, LAHF and SAHF, POPCNT, SSE3, SSE4.1, SSE4.2, SSSE3
abbrev pub needed_by_2 : List (List ℕ)
needed_by_2 =
    codes "cx16" ∷ codes "lahf_lm" ∷ codes "popcnt" ∷ codes "pni" ∷ codes "sse4_1" ∷ codes "sse4_2" ∷ codes "ssse3" ∷ []

-- LZCNT is "abm", OSXSAVE "xsave"
abbrev pub needed_by_3 : List (List ℕ)
needed_by_3 =
    codes "abm" ∷ codes "avx" ∷ codes "avx2" ∷ codes "bmi1" ∷ codes "bmi2" ∷ codes "f16c" ∷ codes "fma" ∷ codes "movbe"
    ∷ codes "xsave" ∷ []

abbrev pub needed_by_4 : List (List ℕ)
needed_by_4 =
    codes "avx512f" ∷ codes "avx512bw" ∷ codes "avx512cd" ∷ codes "avx512dq" ∷ codes "avx512vl" ∷ []

abbrev pub level_of : List (List ℕ) → Level
level_of features =
    if not (has_all features needed_by_2) then Baseline
    else if not (has_all features needed_by_3) then V2
    else if not (has_all features needed_by_4) then V3
    else V4

-- the first 64 KiB of /proc/cpuinfo are read; without it no level is known
abbrev pub cpuinfo : (List ℕ → Option (List ℕ)) → Option (List ℕ)
cpuinfo contents = option_map (take 65536) (contents (codes "/proc/cpuinfo"))

abbrev pub level_if : Option (List ℕ) → Level
level_if None = Baseline
level_if (Some text) = level_of (features_in text)

-- only for 64-bit programs of x86-64: the subfolders of other machines are not known here
abbrev pub has_levels : Class → ℕ → Bool
has_levels ELF64 machine = machine == em_x86_64
has_levels ELF32 machine = false

abbrev pub level_for : (List ℕ → Option (List ℕ)) → Kind → Level
level_for contents kind = if has_levels kind.class kind.machine then level_if (cpuinfo contents) else Baseline

-- the subfolders for a processor of this level, the best first
abbrev pub hwcaps_of : Level → List (List ℕ)
hwcaps_of Baseline = []
hwcaps_of V2 = codes "x86-64-v2" ∷ []
hwcaps_of V3 = codes "x86-64-v3" ∷ codes "x86-64-v2" ∷ []
hwcaps_of V4 = codes "x86-64-v4" ∷ codes "x86-64-v3" ∷ codes "x86-64-v2" ∷ []
