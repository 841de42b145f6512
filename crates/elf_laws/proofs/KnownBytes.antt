-- One name for all that a statement about known bytes unfolds. Where these compute, both sides of it are the same.
use Rattle.std.specs.Prelude.{⊤}
use Rattle.elf_hash_check.specs.WithSymbols.{bloom, symbol_and_name, word}
use Rattle.elf_parts.specs.GnuFind.{bloom_word}
use Rattle.elf_parts.specs.Hash.{gnu_hash_of, long_word_at, named_symbol, sysv_hash_of, word_at}
use Rattle.elf_records.specs.Number.{bytes_at, number_at}
use Rattle.elf_records.specs.Record.{numbers_at, numbers_end}
use Rattle.elf_records.specs.StringTable.{string_at}

unfoldable pub known_bytes : ⊤
unfolding
    bloom symbol_and_name word bloom_word gnu_hash_of long_word_at named_symbol sysv_hash_of word_at bytes_at number_at
    numbers_at numbers_end string_at
known_bytes = tt
