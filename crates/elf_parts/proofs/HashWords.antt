-- Which words of a hash section can be read.
use Rattle.std.proofs.Common.{◌≡◌, ℕ, ◌+◌, ◌*◌, ◌/◌, ◌^◌, ◌<◌, ◌≤◌, Bool, List, length, drop, Ok, refl, ap, ◌∙◌, subst, arith, length-drop}
use Rattle.std.specs.Result.{IsOk}
use Rattle.std.proofs.lemmas.Grind.{common_steps}
use Rattle.elf_records.specs.Class.{address_size}
use Rattle.elf_parts.specs.GnuFind.{GnuTable, ReadsBloom, bloom_word, bloom_word_by, gnu_of_parts, gnu_section}
use Rattle.elf_parts.specs.Hash.{ReadsBelowCount, gnu_header_layout, long_word_at, sysv_header_layout, word_at}
use Rattle.elf_records.specs.Number.{bytes_at}
use Rattle.elf_records.specs.Record.{◌>>=◌, record_by}
use Rattle.elf_parts.specs.SysvFind.{SysvTable, sysv_of_parts, sysv_section}
use Rattle.elf_records.specs.Table.{Table, table_in}
use Rattle.elf_records.specs.Word.{u32_layout, u32_reads, u64_layout, u64_reads}
use Rattle.elf_records.specs.inner.RecordLaws.{bind-ok, bytes_at-ok, wherever_by}
use Rattle.elf_records.specs.declared.file.Class.{Class}
use Rattle.elf_records.specs.declared.file.Class.TheVariants.{ELF32, ELF64}
use Rattle.elf_parts.specs.declared.hash.gnu.GnuHashHeader.{GnuHashHeader}
use Rattle.elf_parts.specs.declared.hash.sysv.SysVHashHeader.{SysVHashHeader}
use Rattle.elf_records.proofs.Items.{lies}
use Rattle.elf_records.proofs.Places.{item_at-below}

pub words_read : (words : Table) → length words.bytes < 2 ^ 64 → ReadsBelowCount words
unfolding word_at
words_read words short =
    let law = lies u32_reads words.little words.class in
    λ i. item_at-below (record_by u32_layout words.little words.class) 4 words.bytes i law (wherever_by u32_layout refl words.little words.class words.bytes) short

long_word_below : (words : Table) (i : ℕ) → length words.bytes < 2 ^ 64 → i < length words.bytes / 8 → IsOk (long_word_at words i)
unfolding long_word_at
long_word_below words i short below =
    let law = lies u64_reads words.little words.class in
    (item_at-below (record_by u64_layout words.little words.class) 8 words.bytes i law (wherever_by u64_layout refl words.little words.class words.bytes) short).1 below

bloom_below_by : (class : Class) (words : Table) (n i : ℕ) → length words.bytes < 2 ^ 64 → length words.bytes ≡ address_size class * n → i < n → IsOk (bloom_word_by class words i)
bloom_below_by ELF32 words n i short size below = (words_read words short i).1 (omega arith)
bloom_below_by ELF64 words n i short size below = long_word_below words i short (omega arith)

bloom_below : (words : Table) (n i : ℕ) → length words.bytes < 2 ^ 64 → length words.bytes ≡ address_size words.class * n → i < n → IsOk (bloom_word words i)
unfolding bloom_word
bloom_below words n i short size below = bloom_below_by words.class words n i short size below

length-bytes_at : (w : ℕ) (bytes : List ℕ) (o : ℕ) (part : List ℕ) → bytes_at w bytes o ≡ Ok part → (length part ≡ w) × (w ≤ length bytes)
length-bytes_at w bytes o part e =
    let k = bytes_at-ok w bytes o part e in
    let size : length part ≡ w = ap length k.2 ∙ grind (arith, common_steps, k.1) in
    (size, omega (arith, k.1))

-- ---- the table of a GNU section

-- how long the parts of a table are that was cut from a section
record Cut (bytes : List ℕ) (t : GnuTable) : Type 0 where
  pub bloom : length t.bloom.bytes ≡ address_size t.bloom.class * t.hdr.nbloom
  pub bloom_within : length t.bloom.bytes ≤ length bytes
  pub buckets_within : length t.buckets.bytes ≤ length bytes
  pub chains_within : length t.chains.bytes ≤ length bytes

-- the table of these parts, whose chain words are the rest of the bytes
abbrev gnu_parts : Bool → Class → List ℕ → GnuHashHeader → List ℕ → List ℕ → GnuTable
gnu_parts little class bytes header bloom buckets =
    gnu_of_parts little class header bloom buckets
    (drop (16 + address_size class * header.nbloom + 4 * header.nbucket) bytes)

cut_parts : (little : Bool) (class : Class) (bytes : List ℕ) (t : GnuTable) (header : GnuHashHeader) (bloom buckets : List ℕ) → bytes_at (address_size class * header.nbloom) bytes 16 ≡ Ok bloom → bytes_at (4 * header.nbucket) bytes (16 + address_size class * header.nbloom) ≡ Ok buckets → gnu_parts little class bytes header bloom buckets ≡ t → Cut bytes t
cut_parts little class bytes t header bloom buckets e d same =
    let P : GnuTable → Type 0 = λ u. Cut bytes u in
    let a = length-bytes_at _ bytes _ bloom e in
    let b = length-bytes_at _ bytes _ buckets d in
    subst P same (record {
      bloom = a.0;
      bloom_within = omega (arith, a);
      buckets_within = omega (arith, b);
      chains_within = omega (arith, length-drop {A = ℕ});
    })

cut_buckets : (little : Bool) (class : Class) (bytes : List ℕ) (t : GnuTable) (header : GnuHashHeader) (bloom : List ℕ) → bytes_at (address_size class * header.nbloom) bytes 16 ≡ Ok bloom → (bytes_at (4 * header.nbucket) bytes (16 + address_size class * header.nbloom) >>= λ buckets. Ok (gnu_parts little class bytes header bloom buckets)) ≡ Ok t → Cut bytes t
cut_buckets little class bytes t header bloom e d =
    let k = bind-ok {A = List ℕ} {B = GnuTable} (bytes_at (4 * header.nbucket) bytes (16 + address_size class * header.nbloom)) _ t d in
    cut_parts little class bytes t header bloom k.0 e k.1 (cc k.2)

cut_bloom : (little : Bool) (class : Class) (bytes : List ℕ) (t : GnuTable) (header : GnuHashHeader) → (bytes_at (address_size class * header.nbloom) bytes 16 >>= λ bloom. bytes_at (4 * header.nbucket) bytes (16 + address_size class * header.nbloom) >>= λ buckets. Ok (gnu_parts little class bytes header bloom buckets)) ≡ Ok t → Cut bytes t
cut_bloom little class bytes t header d =
    let b = bind-ok {A = List ℕ} {B = GnuTable} (bytes_at (address_size class * header.nbloom) bytes 16) _ t d in
    cut_buckets little class bytes t header b.0 b.1 b.2

cut : (little : Bool) (class : Class) (bytes : List ℕ) (t : GnuTable) → gnu_section little class bytes ≡ Ok t → Cut bytes t
unfolding gnu_section
cut little class bytes t e =
    let h = bind-ok {A = GnuHashHeader} {B = GnuTable} (record_by gnu_header_layout little class bytes 0) _ t e in
    cut_bloom little class bytes t h.0 h.2

pub gnu_section_read : (little : Bool) (class : Class) (bytes : List ℕ) (t : GnuTable) → length bytes < 2 ^ 64 → gnu_section little class bytes ≡ Ok t → ReadsBelowCount t.buckets × ReadsBelowCount t.chains × ReadsBloom t
gnu_section_read little class bytes t short e =
    let c = cut little class bytes t e in (
      words_read t.buckets (omega (arith, c.buckets_within)),
      words_read t.chains (omega (arith, c.chains_within)),
      λ i below. bloom_below t.bloom t.hdr.nbloom i (omega (arith, c.bloom_within)) c.bloom below,
    )

-- ---- the table of a SysV section

of_chains : (little : Bool) (class : Class) (bytes : List ℕ) (t : SysvTable) (w o : ℕ) (buckets : List ℕ) → length bytes < 2 ^ 64 → length buckets ≤ length bytes → (bytes_at w bytes o >>= λ chains. Ok (sysv_of_parts little class buckets chains)) ≡ Ok t → ReadsBelowCount t.buckets × ReadsBelowCount t.chains
of_chains little class bytes t w o buckets short small e =
    let k = bind-ok {A = List ℕ} {B = SysvTable} (bytes_at w bytes o) _ t e in
    let size = length-bytes_at w bytes o k.0 k.1 in
    let same : sysv_of_parts little class buckets k.0 ≡ t = cc k.2 in
    let P : SysvTable → Type 0 = λ u. ReadsBelowCount u.buckets × ReadsBelowCount u.chains in
    subst P same (words_read (table_in little class buckets) (omega (arith, small, short)), words_read (table_in little class k.0) (omega (arith, size, short)))

of_buckets : (little : Bool) (class : Class) (bytes : List ℕ) (t : SysvTable) (header : SysVHashHeader) → length bytes < 2 ^ 64 → (bytes_at (4 * header.nbucket) bytes 8 >>= λ buckets. bytes_at (4 * header.nchain) bytes (8 + 4 * header.nbucket) >>= λ chains. Ok (sysv_of_parts little class buckets chains)) ≡ Ok t → ReadsBelowCount t.buckets × ReadsBelowCount t.chains
of_buckets little class bytes t header short e =
    let b = bind-ok {A = List ℕ} {B = SysvTable} (bytes_at (4 * header.nbucket) bytes 8) _ t e in
    let size = length-bytes_at (4 * header.nbucket) bytes 8 b.0 b.1 in
    of_chains little class bytes t (4 * header.nchain) (8 + 4 * header.nbucket) b.0 short (omega (arith, size)) b.2

pub sysv_section_read : (little : Bool) (class : Class) (bytes : List ℕ) (t : SysvTable) → length bytes < 2 ^ 64 → sysv_section little class bytes ≡ Ok t → ReadsBelowCount t.buckets × ReadsBelowCount t.chains
unfolding sysv_section
sysv_section_read little class bytes t short e =
    let h = bind-ok {A = SysVHashHeader} {B = SysvTable} (record_by sysv_header_layout little class bytes 0) _ t e in
    of_buckets little class bytes t h.0 short h.2
