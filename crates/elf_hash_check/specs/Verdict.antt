-- What a checker says of a hash section.
use Rattle.std.specs.Prelude.{◌≡◌, ℕ, Result, Ok, Err}
use Rattle.std.specs.Result.{IsOkAnd}
use Rattle.elf_parts.specs.GnuFind.{GnuTable}
use Rattle.elf_parts.specs.Hash.{word_count}
use Rattle.elf_parts.specs.SysvFind.{SysvTable}
use Rattle.elf_records.specs.declared.parse.ParseError.{ParseError}
use Rattle.elf_hash_check.specs.declared.hashcheck.Checked.{Checked}
use Rattle.elf_hash_check.specs.declared.hashcheck.Checked.TheVariants.{Faulty, Sound}
use Rattle.elf_hash_check.specs.declared.hashcheck.HashFault.{HashFault}

-- a type C of checked tables, and the view of each: what was checked
module _ {S C : Type 0} (view : C → S) (IsSound : S → Type 0) (IsFault : S → HashFault → Type 0) where
  -- sound exactly if the section is, otherwise a fault that it has, as the checkers say: its first one
  abbrev pub IsVerdict : S → Checked C → Type 0
  IsVerdict s (Sound checked) = IsSound s × (view checked ≡ s)
  IsVerdict s (Faulty fault) = (¬ IsSound s) × IsFault s fault

  -- an error exactly if the section holds no table
  abbrev pub GivesVerdict : Result S ParseError → Result (Checked C) ParseError → Type 0
  GivesVerdict (Err e) result = result ≡ Err e
  GivesVerdict (Ok s) result = IsOkAnd result (IsVerdict s)

-- if the answer is a checked table, this is true of it
abbrev pub OnSound : {C : Type 0} → Result (Checked C) ParseError → (C → Type 0) → Type 0
OnSound (Ok (Sound checked)) P = P checked
OnSound (Ok (Faulty fault)) P = Unit {0}
OnSound (Err e) P = Unit {0}

-- if the answer is a fault, this is true of it
abbrev pub OnFaulty : {C : Type 0} → Result (Checked C) ParseError → (HashFault → Type 0) → Type 0
OnFaulty (Ok (Sound checked)) P = Unit {0}
OnFaulty (Ok (Faulty fault)) P = P fault
OnFaulty (Err e) P = Unit {0}

-- how many chain words a section has
abbrev pub gnu_chain_count : Result GnuTable ParseError → ℕ
gnu_chain_count (Ok t) = word_count t.chains
gnu_chain_count (Err e) = 0

abbrev pub sysv_chain_count : Result SysvTable ParseError → ℕ
sysv_chain_count (Ok t) = word_count t.chains
sysv_chain_count (Err e) = 0
