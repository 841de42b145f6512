-- A fault that is true of a SysV section means that the section is not sound.
use Rattle.std.proofs.Common.{◌≡◌, ℕ, ◌%◌, ◌<◌, List, Some, ap, sym, ◌∙◌, arith}
use Rattle.elf_records.specs.declared.symbol.Symbol.{Symbol}
use Rattle.elf_parts.specs.Hash.{sysv_hash_of}
use Rattle.elf_parts.specs.Hash.{word_count}
use Rattle.elf_parts.specs.SysvFind.{SysvTable}
use Rattle.elf_hash_check.specs.Faults.{IsTrueOfSysv, Reaches}
use Rattle.elf_hash_check.specs.SoundSysv.{SoundSysv, value}
use Rattle.elf_hash_check.specs.WithSymbols.{WithSymbols, symbol_and_name}
use Rattle.elf_hash_check.specs.declared.hashcheck.HashFault.{HashFault}
use Rattle.elf_hash_check.specs.declared.hashcheck.HashFault.TheVariants.{Endless, NoBloomBit, NotInRun, PastChains}
use Rattle.elf_hash_check.specs.declared.hashcheck.HashFault.TheVariants.{ShiftTooLarge, Unreadable, WrongBucket}
use Rattle.elf_hash_check.specs.declared.hashcheck.HashFault.TheVariants.{WrongHash}
use Rattle.elf_hash_check.proofs.Reading.{some_and}
use Rattle.elf_hash_check.proofs.SysvScan.{before_end, value_before}

module _ (s : WithSymbols SysvTable) where
  -- an index that a chain of a sound section visits
  pub record Reached (bucket index : ℕ) : Type 0 where
    pub inside : index < word_count s.table.chains
    pub found : Symbol × List ℕ
    pub is : symbol_and_name s.symbols s.strings index ≡ Some found
    pub hash : sysv_hash_of found.1 % word_count s.table.buckets ≡ bucket

  reached : SoundSysv s → (bucket index : ℕ) → Reaches s bucket index → Reached bucket index
  reached sound bucket index (below, (j, visits)) =
      let ends = sound bucket below in
      let v = value_before s bucket ends.0 ends.1 j (before_end s bucket ends.0 ends.1 j visits.2) in
      let same : v.index ≡ index = cc (v.is, visits.1) in
      record { inside = omega (arith, v.inside, same); found = v.found; is = ap (symbol_and_name s.symbols s.strings) (sym same) ∙ v.named; hash = v.hash }

  pub true_fault : SoundSysv s → (fault : HashFault) → IsTrueOfSysv s fault → ⊥
  true_fault sound (Endless bucket) h =
      let ends = sound bucket h.0 in
      let x = some_and (value s.table bucket ends.0) _ (h.1 ends.0 ends.1.0) in
      x.2 (cc (x.1, ends.1.1))
  true_fault sound (PastChains bucket index) h = let r = reached sound bucket index h.0 in omega (arith, r.inside, h.1)
  true_fault sound (Unreadable index) h = let r = reached sound h.0.0 index h.0.1 in cc (r.is, h.1)
  true_fault sound (WrongBucket bucket index) h =
      let r = reached sound bucket index h.0 in
      let x = some_and (symbol_and_name s.symbols s.strings index) _ h.1 in
      let same : x.0 ≡ r.found = cc (x.1, r.is) in
      x.2 (ap (λ (f : Symbol × List ℕ). sysv_hash_of f.1 % word_count s.table.buckets) same ∙ r.hash)
  true_fault sound ShiftTooLarge h = h
  true_fault sound (WrongHash index) h = h
  true_fault sound (NoBloomBit index) h = h
  true_fault sound (NotInRun index) h = h
