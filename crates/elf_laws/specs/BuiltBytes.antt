-- The bytes of the hash sections that a linker builds.
use Rattle.std.specs.Prelude.{ℕ, Bool, List, [], ◌∷◌, ◌++◌, length, map}
use Rattle.std.specs.List.{range_with_len}
use Rattle.elf_records.specs.Class.{address_bits}
use Rattle.elf_parts.specs.Structs.{gnu_header_struct, sysv_header_struct}
use Rattle.elf_parts.specs.Written.{Member, struct_bytes, table_of, word, xword}
use Rattle.elf_records.specs.declared.file.Class.{Class}
use Rattle.elf_records.specs.declared.file.Class.TheVariants.{ELF32, ELF64}
use Rattle.elf_parts.specs.declared.hash.gnu.GnuHashHeader.{GnuHashHeader}
use Rattle.elf_laws.specs.Built.{bloom_of_all, bucket_after, bucket_word, chain_after, run_word, sysv_bucket}

-- a word as a structure of its own, and a word of eight bytes
abbrev pub one_word : ℕ → List Member
one_word n = word n ∷ []

abbrev pub one_xword : ℕ → List Member
one_xword n = xword n ∷ []

-- what is at the numbers below a count
abbrev pub all_below : ℕ → (ℕ → ℕ) → List ℕ
all_below count at = map at (range_with_len 0 count)

-- the header, the words of the buckets and the chain words
abbrev pub sysv_section_bytes : Bool → ℕ → List (List ℕ) → List ℕ → List ℕ
sysv_section_bytes little nbucket names put =
    let bucket_of = sysv_bucket nbucket names in
    struct_bytes little (sysv_header_struct (record { nbucket = nbucket; nchain = length names }))
    ++ (table_of little one_word (all_below nbucket (bucket_after bucket_of put))
    ++ table_of little one_word (all_below (length names) (chain_after bucket_of put)))

-- bloom words, which have the size of an address
abbrev pub bloom_bytes : Bool → Class → List ℕ → List ℕ
bloom_bytes little ELF32 words = table_of little one_word words
bloom_bytes little ELF64 words = table_of little one_xword words

-- the header, the bloom words, the words of the buckets and the chain words
abbrev pub gnu_section_bytes : Bool → Class → GnuHashHeader → List ℕ → List ℕ
gnu_section_bytes little class h hashes =
    struct_bytes little (gnu_header_struct h)
    ++ (bloom_bytes little class (all_below h.nbloom (bloom_of_all (address_bits class) h.nbloom h.nshift hashes))
    ++ (table_of little one_word (all_below h.nbucket (bucket_word h.nbucket hashes h.table_start_idx))
    ++ table_of little one_word (all_below (length hashes) (run_word h.nbucket hashes))))
