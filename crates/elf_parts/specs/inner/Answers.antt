-- What a look-up in a hash section answers, or which of its reads failed.
use Rattle.std.specs.Prelude.{◌≡◌, ℕ, List, Option, None, Result, Ok, Err, IsErr}
use Rattle.elf_records.specs.Number.{ok_map}
use Rattle.elf_records.specs.Table.{Table}
use Rattle.elf_records.specs.declared.parse.ParseError.{ParseError}
use Rattle.elf_records.specs.declared.symbol.Symbol.{Symbol}
use Rattle.elf_parts.specs.Hash.{named_symbol, word_at}
use Rattle.elf_parts.specs.declared.hash.Refusal.{Refusal}
use Rattle.elf_parts.specs.declared.hash.Refusal.TheVariants.{BucketAt, ChainAt, SymbolAt}

module _ (buckets chains symbols : Table) (strings : List ℕ) where
  -- the read that failed
  abbrev pub read_again : Refusal → Result (Option (ℕ × Symbol)) ParseError
  read_again (BucketAt bucket) = ok_map (λ _. None) (word_at buckets bucket)
  read_again (ChainAt place) = ok_map (λ _. None) (word_at chains place)
  read_again (SymbolAt index) = ok_map (λ _. None) (named_symbol symbols strings index)

  -- a look-up answers what is to be found, or tells a read whose error that is
  abbrev pub IsAnswered : Result (Option (ℕ × Symbol)) Refusal → Result (Option (ℕ × Symbol)) ParseError → Type 0
  IsAnswered (Ok found) answer = answer ≡ Ok found
  IsAnswered (Err refusal) answer = IsErr answer × (answer ≡ read_again refusal)
