-- The versions of a file, and the count of their auxiliary entries.
use Rattle.std.specs.Prelude.{ℕ, ◌-◌, nat_lt, Bool, true, false, if◌then◌else◌, List, [], ◌∷◌, Option, Some, None}
use Rattle.elf_parts.specs.gnu_symver.Lists.{ver_defs_left, ver_needs_left}
use Rattle.nugwier_dynamic.specs.VersionLists.{Records, defined, needed}
use Rattle.nugwier_dynamic.specs.declared.version_lists.Records.{Records as ReadRecords}
use Rattle.nugwier_dynamic.specs.declared.version_lists.Records.TheVariants as read
use Rattle.nugwier_dynamic.specs.declared.version_lists.Versions.{Versions}

-- as the definitions have them
abbrev pub records_view : {E : Type 0} → ReadRecords E → Records
records_view (read.Defined definitions) = defined (ver_defs_left definitions)
records_view (read.Needed needs) = needed (ver_needs_left needs)

abbrev pub versions_view : {E : Type 0} → Versions E → Records × List ℕ
versions_view versions = (records_view versions.records, versions.strings)

-- ---- the count of auxiliary entries, one by one

-- what is left of a number after these, if they are no more
abbrev pub left_of : {A : Type 0} → ℕ → List A → Option ℕ
left_of left [] = Some left
left_of left (x ∷ xs) = if nat_lt left 1 then None else left_of (left - 1) xs

abbrev pub if_left : Option ℕ → (ℕ → Bool) → Bool
if_left None more = false
if_left (Some left) more = more left

-- all auxiliary entries are no more than this number: versions may share theirs
abbrev pub fits : {V A : Type 0} → ℕ → List (V × List A) → Bool
fits left [] = true
fits left (one ∷ more) = if_left (left_of left one.1) (λ n. fits n more)
