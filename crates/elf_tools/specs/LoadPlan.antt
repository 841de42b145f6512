-- What a loader maps where, and when that is a plan (gABI, chapter "Program Header").
use Rattle.std.specs.Prelude.{◌≡◌, ℕ, ◌+◌, ◌^◌, ◌<◌, ◌==◌, ◌&&◌, nat_le, nat_lt, min, max, Bool}
use Rattle.std.specs.Prelude.{true, false, List, length, map, filter, take, slice_get, IfSome, Option, codes}
use Rattle.std.specs.Fmt.{◌++?◌}
use Rattle.std.specs.List.{list_any}
use Rattle.std.specs.Option.{IsSomeAnd}
use Rattle.elf_abi.specs.Values.{pt_load}
use Rattle.elf_records.specs.Class.{address_bits}
use Rattle.elf_records.specs.Texts.{number, words}
use Rattle.elf_records.specs.declared.file.Class.{Class}
use Rattle.elf_records.specs.declared.segment.ProgramHeader.{ProgramHeader}
use Rattle.elf_tools.specs.declared.load_plan.Mapping.{Mapping}
use Rattle.elf_tools.specs.declared.load_plan.PlanError.{PlanError}
use Rattle.elf_tools.specs.declared.load_plan.PlanError.TheVariants.{AddressSpace, FileSize, Memory, OutsideFile}
use Rattle.elf_tools.specs.declared.load_plan.PlanError.TheVariants.{Overlap}

abbrev pub mapping_of : ProgramHeader → Mapping
mapping_of p = record {
  address = p.p_vaddr;
  memory_size = p.p_memsz;
  offset = p.p_offset;
  file_size = p.p_filesz;
  flags = p.p_flags;
}

-- what the segments of type PT_LOAD map
abbrev pub mappings : List ProgramHeader → List Mapping
mappings segments = map mapping_of (filter (λ p. p.p_type == pt_load) segments)

-- there is memory for the bytes of the file
abbrev pub fits : Mapping → Bool
fits m = nat_le m.file_size m.memory_size

-- these bytes lie in a file with this number of bytes
abbrev pub lies_in : ℕ → Mapping → Bool
lies_in count m = nat_le (m.offset + m.file_size) count

-- each address of the mapping is one of the class
abbrev pub is_addressed : Class → Mapping → Bool
is_addressed class m = nat_le (m.address + m.memory_size) (2 ^ address_bits class)

-- all three
abbrev pub is_loadable : Class → ℕ → Mapping → Bool
is_loadable class count m = fits m && lies_in count m && is_addressed class m

-- some address belongs to the mapping and to a range, which is an address and a size: the later of the two starts lies
-- before the earlier of the two ends
abbrev pub meets : Mapping → ℕ × ℕ → Bool
meets m range = nat_lt (max m.address range.0) (min (m.address + m.memory_size) (range.0 + range.1))

-- some address belongs to both mappings
abbrev pub overlap : Mapping → Mapping → Bool
overlap a b = meets a (b.address, b.memory_size)

-- some address of mapping k belongs to an earlier one as well
abbrev pub overlaps_earlier : List Mapping → ℕ → Mapping → Bool
overlaps_earlier all k m = list_any (overlap m) (take k all)

-- the mappings before a place are loadable, and those before a place overlap no earlier one
abbrev pub LoadableBefore : Class → ℕ → List Mapping → ℕ → Type 0
LoadableBefore class count all place =
    (k : ℕ) → k < place → IfSome (slice_get all k) (λ m. is_loadable class count m ≡ true)

abbrev pub ApartBefore : List Mapping → ℕ → Type 0
ApartBefore all place = (k : ℕ) → k < place → IfSome (slice_get all k) (λ m. overlaps_earlier all k m ≡ false)

-- each is loadable, and no address belongs to two
abbrev pub IsPlan : Class → ℕ → List Mapping → Type 0
IsPlan class count all = LoadableBefore class count all (length all) × ApartBefore all (length all)

-- mapping k is the first that is not loadable, and has this fault; and the first that overlaps an earlier one
abbrev pub IsFirstFaulty : Class → ℕ → List Mapping → (Mapping → Type 0) → ℕ → Type 0
IsFirstFaulty class count all faulty k = IsSomeAnd (slice_get all k) faulty × LoadableBefore class count all k

abbrev pub IsFirstOverlap : List Mapping → ℕ → Type 0
IsFirstOverlap all k = IsSomeAnd (slice_get all k) (λ m. overlaps_earlier all k m ≡ true) × ApartBefore all k

-- what an error says of the mappings: what is wrong with the first that is not loadable, in this order; overlaps are
-- checked if all are
abbrev pub IsTrueOfPlan : Class → ℕ → List Mapping → PlanError → Type 0
IsTrueOfPlan class count all (FileSize k) = IsFirstFaulty class count all (λ m. fits m ≡ false) k
IsTrueOfPlan class count all (OutsideFile k) =
    IsFirstFaulty class count all (λ m. (fits m ≡ true) × (lies_in count m ≡ false)) k
IsTrueOfPlan class count all (AddressSpace k) =
    IsFirstFaulty class count all (λ m.
    (fits m ≡ true) × (lies_in count m ≡ true) × (is_addressed class m ≡ false)) k
IsTrueOfPlan class count all (Overlap k) = LoadableBefore class count all (length all) × IsFirstOverlap all k
IsTrueOfPlan class count all Memory = Unit {0}

-- ---- the texts of errors

abbrev pub error_text : PlanError → Option (List ℕ)
error_text (FileSize k) =
    words (codes "mapping ") ++? number k ++? words (codes " has more bytes in the file than in memory")
error_text (OutsideFile k) =
    words (codes "the bytes of mapping ") ++? number k ++? words (codes " do not lie in the file")
error_text (AddressSpace k) = words (codes "mapping ") ++? number k ++? words (codes " ends past the last address")
error_text (Overlap k) = words (codes "mapping ") ++? number k ++? words (codes " overlaps an earlier one")
error_text Memory = words (codes "out of memory")
