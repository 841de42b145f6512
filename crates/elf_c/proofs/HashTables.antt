-- A hash section that was opened is the table of its own parts.
use Rattle.std.proofs.Common.{◌≡◌, ◌+◌, ◌*◌, Bool, List, ℕ, Result, Ok, drop, refl, subst}
use Rattle.elf_records.specs.Class.{address_size}
use Rattle.elf_records.specs.Number.{bytes_at}
use Rattle.elf_records.specs.Record.{◌>>=◌, record_by}
use Rattle.elf_records.specs.declared.file.Class.{Class}
use Rattle.elf_records.specs.declared.parse.ParseError.{ParseError}
use Rattle.elf_records.specs.inner.RecordLaws.{bind-ok}
use Rattle.elf_parts.specs.GnuFind.{GnuTable, gnu_of_parts, gnu_section}
use Rattle.elf_parts.specs.Hash.{gnu_header_layout, sysv_header_layout}
use Rattle.elf_parts.specs.SysvFind.{SysvTable, sysv_of_parts, sysv_section}
use Rattle.elf_parts.specs.declared.hash.gnu.GnuHashHeader.{GnuHashHeader}
use Rattle.elf_parts.specs.declared.hash.sysv.SysVHashHeader.{SysVHashHeader}

pub gnu_own : (little : Bool) (class : Class) (bytes : List ℕ) (t : GnuTable) →
    gnu_section little class bytes ≡ Ok t →
    gnu_of_parts little class t.hdr t.bloom.bytes t.buckets.bytes t.chains.bytes ≡ t
unfolding gnu_section
gnu_own little class bytes t read =
    let made : GnuHashHeader → List ℕ → List ℕ → Result GnuTable ParseError =
    λ header bloom buckets. Ok (gnu_of_parts little class header bloom buckets
    (drop (16 + address_size class * header.nbloom + 4 * header.nbucket) bytes)) in
    let after_bloom : GnuHashHeader → List ℕ → Result GnuTable ParseError =
    λ header bloom. bytes_at (4 * header.nbucket) bytes (16 + address_size class * header.nbloom) >>= made header bloom in
    let after_header : GnuHashHeader → Result GnuTable ParseError =
    λ header. bytes_at (address_size class * header.nbloom) bytes 16 >>= after_bloom header in
    let a = bind-ok (record_by gnu_header_layout little class bytes 0) after_header t read in
    let b = bind-ok (bytes_at (address_size class * a.0.nbloom) bytes 16) (after_bloom a.0) t a.2 in
    let c = bind-ok (bytes_at (4 * a.0.nbucket) bytes (16 + address_size class * a.0.nbloom)) (made a.0 b.0) t b.2 in
    let same : gnu_of_parts little class a.0 b.0 c.0
    (drop (16 + address_size class * a.0.nbloom + 4 * a.0.nbucket) bytes) ≡ t = cc c.2 in
    subst (λ (u : GnuTable). gnu_of_parts little class u.hdr u.bloom.bytes u.buckets.bytes u.chains.bytes ≡ u) same refl

pub sysv_own : (little : Bool) (class : Class) (bytes : List ℕ) (t : SysvTable) →
    sysv_section little class bytes ≡ Ok t → sysv_of_parts little class t.buckets.bytes t.chains.bytes ≡ t
unfolding sysv_section
sysv_own little class bytes t read =
    let made : List ℕ → List ℕ → Result SysvTable ParseError =
    λ buckets chains. Ok (sysv_of_parts little class buckets chains) in
    let after_buckets : SysVHashHeader → List ℕ → Result SysvTable ParseError =
    λ header buckets. bytes_at (4 * header.nchain) bytes (8 + 4 * header.nbucket) >>= made buckets in
    let after_header : SysVHashHeader → Result SysvTable ParseError =
    λ header. bytes_at (4 * header.nbucket) bytes 8 >>= after_buckets header in
    let a = bind-ok (record_by sysv_header_layout little class bytes 0) after_header t read in
    let b = bind-ok (bytes_at (4 * a.0.nbucket) bytes 8) (after_buckets a.0) t a.2 in
    let c = bind-ok (bytes_at (4 * a.0.nchain) bytes (8 + 4 * a.0.nbucket)) (made b.0) t b.2 in
    let same : sysv_of_parts little class b.0 c.0 ≡ t = cc c.2 in
    subst (λ (u : SysvTable). sysv_of_parts little class u.buckets.bytes u.chains.bytes ≡ u) same refl
