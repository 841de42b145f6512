-- The answer for a hash section.
use Rattle.std.specs.Prelude.{◌≡◌, ℕ, ◌==◌, if◌then◌else◌, Option, Some, None, Result, MatchResult}
use Rattle.std.specs.Option.{IsSomeAnd}
use Rattle.std.specs.Result.{IsOkAnd}
use Rattle.elf_abi.specs.Values.{sht_gnu_hash, sht_hash}
use Rattle.elf_records.specs.declared.section.SectionHeader.{SectionHeader}
use Rattle.elf.specs.ObjectFile.{ObjectFile}
use Rattle.elf_hash_check.specs.Object.{IsSound, Object, indexed_count}
use Rattle.elf_linking.specs.ObjectTable.{IsFaultOf, section_object}
use Rattle.elf_hash_check.specs.declared.hashcheck.any.HashKind.TheVariants.{Gnu, Sysv}
use Rattle.elf_linking.specs.declared.resolve.ObjectFault.{ObjectFault}

-- the table of a section of type SHT_GNU_HASH or SHT_HASH, over the dynamic symbols
abbrev pub hash_object : ObjectFile → SectionHeader → Option (Result Object ObjectFault)
hash_object file s =
    if s.sh_type == sht_gnu_hash then Some (section_object Gnu file s)
    else if s.sh_type == sht_hash then Some (section_object Sysv file s)
    else None

-- the count of the symbols of a table that is sound
abbrev pub IsCountOf : Result Object ObjectFault → ℕ → Type 0
IsCountOf object count = IsOkAnd object (λ o. IsSound o × (count ≡ indexed_count o))

-- that count, or the first fault, or why there is no table
abbrev pub IsLint : Result Object ObjectFault → Result ℕ ObjectFault → Type 0
IsLint object result = MatchResult result (IsCountOf object) (IsFaultOf object)

abbrev pub GivesLint : Option (Result Object ObjectFault) → Option (Result ℕ ObjectFault) → Type 0
GivesLint None result = result ≡ None
GivesLint (Some object) result = IsSomeAnd result (IsLint object)
