-- The texts of the faults.
use Rattle.std.specs.Prelude.{ℕ, List, Option, codes}
use Rattle.std.specs.Fmt.{◌++?◌}
use Rattle.elf_hash_check.specs.declared.hashcheck.HashFault.{HashFault}
use Rattle.elf_hash_check.specs.declared.hashcheck.HashFault.TheVariants as hash
use Rattle.elf_records.specs.Texts.{number, words}

abbrev pub fault_text : HashFault → Option (List ℕ)
fault_text (hash.Endless bucket) = words (codes "Endless { bucket: ") ++? number bucket ++? words (codes " }")
fault_text (hash.PastChains bucket index) =
    words (codes "PastChains { bucket: ") ++? number bucket ++? words (codes ", index: ") ++? number index
    ++? words (codes " }")
fault_text (hash.Unreadable index) = words (codes "Unreadable { index: ") ++? number index ++? words (codes " }")
fault_text (hash.WrongBucket bucket index) =
    words (codes "WrongBucket { bucket: ") ++? number bucket ++? words (codes ", index: ") ++? number index
    ++? words (codes " }")
fault_text hash.ShiftTooLarge = words (codes "ShiftTooLarge")
fault_text (hash.WrongHash index) = words (codes "WrongHash { index: ") ++? number index ++? words (codes " }")
fault_text (hash.NoBloomBit index) = words (codes "NoBloomBit { index: ") ++? number index ++? words (codes " }")
fault_text (hash.NotInRun index) = words (codes "NotInRun { index: ") ++? number index ++? words (codes " }")
