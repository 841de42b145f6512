-- What is said of the chains of hash sections (gABI, chapter "Hash Table", and GNU's).
use Rattle.std.specs.Prelude.{ℕ, zero, suc, ◌+◌, ◌-◌, ◌*◌, ◌%◌, ◌==◌, nat_lt, if◌then◌else◌, List, [], ◌∷◌, ◌++◌}
use Rattle.std.specs.Prelude.{codes, length, sum, Option, Some, None, Result, Ok, Err}
use Rattle.std.specs.List.{flat_map}
use Rattle.std.specs.Option.{option_map}
use Rattle.elf_abi.specs.Values.{sht_gnu_hash, sht_hash}
use Rattle.elf.specs.ObjectFile.{ObjectFile, err_map}
use Rattle.elf_dynamic.specs.declared.dynamic_view.error.DynamicError.{DynamicError}
use Rattle.elf_dynamic.specs.Linked.{Entries, Nothing, Place, Sections, linked_by}
use Rattle.elf_dynamic.specs.dynamic_view.Hashes.{gnu_hash, sysv_hash}
use Rattle.elf_parts.specs.GnuFind.{GnuTable, gnu_section, gnu_view}
use Rattle.elf_parts.specs.Hash.{word_at, word_count}
use Rattle.elf_parts.specs.SysvFind.{SysvTable, sysv_section, sysv_view}
use Rattle.elf_records.specs.Number.{ok_map}
use Rattle.elf_records.specs.Record.{◌>>=◌}
use Rattle.elf_records.specs.Table.{Table, table_items}
use Rattle.elf_records.specs.Word.{u32_reads}
use Rattle.elf_records.specs.declared.dynamic.Dyn.{Dyn}
use Rattle.elf_records.specs.declared.parse.ParseError.{ParseError}
use Rattle.elf_records.specs.declared.section.SectionHeader.{SectionHeader}
use Rattle.nugwier_report.specs.Headings.{known_names}
use Rattle.nugwier_report.specs.Labels.{label_name}
use Rattle.nugwier_report.specs.Reading.{given_said}
use Rattle.nugwier_report.specs.TypedSections.{TypedSection, sections_of}
use Rattle.nugwier_dynamic.specs.declared.chains.HashTable.{HashTable}
use Rattle.nugwier_dynamic.specs.declared.chains.HashTable.TheVariants.{Gnu, SysV}
use Rattle.nugwier_dynamic.specs.ChainRows.{ChainsView, chains_said, entry_chains_said}
use Rattle.nugwier_report.specs.Said.{Said, whole, wrong}
use Rattle.nugwier_dynamic.specs.declared.chain_rows.ChainCount.{ChainCount}
use Rattle.nugwier_report.specs.declared.problem.Fault.{Fault}
use Rattle.nugwier_report.specs.declared.problem.Fault.TheVariants.{Linked, LongChains, Read}
use Rattle.nugwier_report.specs.declared.problem.Part.TheVariants.{Dynamic, Section}

-- a hash section of either kind
pub data HashView : Type 0 where
  sysv : SysvTable → HashView
  gnu : GnuTable → HashView

abbrev pub hash_view : {E : Type 0} → HashTable E → HashView
hash_view (SysV t) = sysv (sysv_view t)
hash_view (Gnu t) = gnu (gnu_view t)

abbrev pub buckets_of : HashView → Table
buckets_of (sysv t) = t.buckets
buckets_of (gnu t) = t.buckets

abbrev pub chain_words_of : HashView → Table
chain_words_of (sysv t) = t.chains
chain_words_of (gnu t) = t.chains

-- ---- the length of a chain: how many symbols it has

abbrev pub word_read : Result ℕ ParseError → Result ℕ Fault
word_read word = err_map Read word

-- SysV: from this symbol on, if it has not more than the limit. The word of a symbol is the next one; symbol 0 is none.
abbrev pub sysv_length : Table → ℕ → ℕ → Result ℕ Fault
sysv_length chains zero index = if index == 0 then Ok 0 else Err LongChains
sysv_length chains (suc limit) index =
    if index == 0 then Ok 0
    else word_read (word_at chains index) >>= λ next. ok_map (λ n. n + 1) (sysv_length chains limit next)

-- GNU: from this word on, if it has not more than the limit. Bit 0 of the last word is set.
abbrev pub gnu_length : Table → ℕ → ℕ → Result ℕ Fault
gnu_length chains zero place = Err LongChains
gnu_length chains (suc limit) place =
    word_read (word_at chains place) >>= λ word.
    if word % 2 == 1 then Ok 1 else ok_map (λ n. n + 1) (gnu_length chains limit (place + 1))

-- of the bucket with this word, its first symbol. GNU: the words are those of the symbols from table_start_idx on
abbrev pub chain_length : HashView → ℕ → ℕ → Result ℕ Fault
chain_length (sysv t) limit first = sysv_length t.chains limit first
chain_length (gnu t) limit first =
    if nat_lt first t.hdr.table_start_idx then Ok 0 else gnu_length t.chains limit (first - t.hdr.table_start_idx)

-- of each of these buckets, if all together have not more symbols than the limit
abbrev pub chain_lengths : HashView → ℕ → List ℕ → Result (List ℕ) Fault
chain_lengths t limit [] = Ok []
chain_lengths t limit (first ∷ buckets) =
    chain_length t limit first >>= λ n. ok_map (λ ns. n ∷ ns) (chain_lengths t (limit - n) buckets)

-- of all buckets. A symbol has a chain word and lies in one chain, so there are not more symbols than chain words.
abbrev pub all_lengths : HashView → Result (List ℕ) Fault
all_lengths t = chain_lengths t (word_count (chain_words_of t)) (table_items u32_reads (buckets_of t))

-- ---- how many chains have a length

-- the number of chains of each length from 0 on, with one more of length n
abbrev pub one_more : List ℕ → ℕ → List ℕ
one_more [] zero = 1 ∷ []
one_more [] (suc n) = 0 ∷ one_more [] n
one_more (c ∷ counts) zero = (c + 1) ∷ counts
one_more (c ∷ counts) (suc n) = c ∷ one_more counts n

-- with one more of each of these lengths
abbrev pub counted_after : List ℕ → List ℕ → List ℕ
counted_after counts [] = counts
counted_after counts (n ∷ lengths) = counted_after (one_more counts n) lengths

-- of each length from n on; this number of symbols lie in shorter chains
abbrev pub counts_from : ℕ → ℕ → List ℕ → List ChainCount
counts_from n shorter [] = []
counts_from n shorter (c ∷ counts) =
    record { buckets = c; symbols = shorter + n * c } ∷ counts_from (n + 1) (shorter + n * c) counts

-- of chains of these lengths
abbrev pub chains_by : List ℕ → ChainsView
chains_by lengths = record {
  lengths = counts_from 0 0 (counted_after [] lengths);
  all = record { buckets = length lengths; symbols = sum lengths };
}

abbrev pub chains_in : HashView → Result ChainsView Fault
chains_in t = ok_map chains_by (all_lengths t)

-- ---- what is said

-- the hash section with these bytes
abbrev pub hash_table : ObjectFile → SectionHeader → List ℕ → Result HashView ParseError
hash_table file s bytes =
    if s.sh_type == sht_hash then ok_map sysv (sysv_section file.little file.class bytes)
    else ok_map gnu (gnu_section file.little file.class bytes)

abbrev pub chains_at : ObjectFile → SectionHeader → List ℕ → Result ChainsView Fault
chains_at file s bytes = err_map Read (hash_table file s bytes) >>= chains_in

-- or why the bytes are not listed
abbrev pub chains_within : ObjectFile → SectionHeader → Result (List ℕ) Fault → Result ChainsView Fault
chains_within file s bytes = bytes >>= chains_at file s

-- of section k, or why its chains are not listed
abbrev pub section_chains_said : ℕ → List ℕ → Result ChainsView Fault → List Said
section_chains_said k name chains = given_said (Section k) (chains_said k name) chains

-- of a hash section
abbrev pub chains_of : ObjectFile → TypedSection → List Said
chains_of file s =
    section_chains_said s.number (label_name (known_names file) s.header) (chains_within file s.header s.bytes)

-- ---- of a file that declares no sections: by its dynamic entries

-- of the hash table whose address the entry with this tag gives
abbrev pub entry_said : List ℕ → Result ChainsView Fault → List Said
entry_said tag chains = given_said Dynamic (entry_chains_said tag) chains

-- if there is such an entry
abbrev pub found_entry_said : List ℕ → Result (Option HashView) DynamicError → List Said
found_entry_said tag (Ok (Some table)) = entry_said tag (chains_in table)
found_entry_said tag (Ok None) = []
found_entry_said tag (Err e) = entry_said tag (Err (Linked e))

abbrev pub sysv_entry : ObjectFile → List Dyn → Result (Option HashView) DynamicError
sysv_entry file entries = ok_map (option_map sysv) (sysv_hash file entries)

abbrev pub gnu_entry : ObjectFile → List Dyn → Result (Option HashView) DynamicError
gnu_entry file entries = ok_map (option_map gnu) (gnu_hash file entries)

abbrev pub entries_said : ObjectFile → List Dyn → List Said
entries_said file entries =
    found_entry_said (codes "DT_HASH") (sysv_entry file entries)
    ++ found_entry_said (codes "DT_GNU_HASH") (gnu_entry file entries)

-- ---- of a file

abbrev pub said_by : ObjectFile → Result Place DynamicError → List Said
said_by file (Ok Sections) = flat_map (chains_of file) (sections_of file (sht_hash ∷ sht_gnu_hash ∷ []))
said_by file (Ok (Entries entries)) = entries_said file entries
said_by file (Ok Nothing) = []
said_by file (Err e) = wrong (whole Dynamic) (Linked e) ∷ []

abbrev pub said_of_chains : ObjectFile → List Said
said_of_chains file = said_by file (linked_by file)
