-- A byte at an even offset.
use Rattle.std.specs.Prelude.{◌≡◌, ℕ, Bool, false, true, ◌≤◌, ◌%◌, if◌then◌else◌, ◌==◌, List, Result, Ok, Err, refl}
use Rattle.std.proofs.Common.{arith, lit≤, sym, ap, ◌∙◌}
use Rattle.std.proofs.lemmas.Grind.{common_steps}
use Rattle.elf_records.specs.Number.{number, number_at, moved_by, ok_map}
use Rattle.elf_records.specs.Record.{ReadsLocally, ReadsOnly, ReadsWithin, RecordType}
use Rattle.elf_records.specs.inner.RecordLaws.{number_at-ok, ok_map-ok}
use Rattle.elf_records.specs.declared.file.Class.{Class}
use Rattle.elf_records.specs.declared.parse.ParseError.{ParseError}
use Rattle.elf_records.specs.declared.parse.ParseError.TheVariants.{BadOffset}
use Rattle.elf_tests.specs.declared.user_types.even_byte.EvenByte.{EvenByte}

abbrev pub even_byte_size : Class → ℕ
even_byte_size class = 1

abbrev pub even_byte : ℕ → EvenByte
even_byte n = record { value = n }

abbrev pub even_byte_at : Bool → Class → List ℕ → ℕ → Result EvenByte ParseError
even_byte_at little class bytes o =
    if o % 2 == 0 then ok_map even_byte (number_at little 1 bytes o) else Err (BadOffset o)

-- a read with an error leaves the offset
abbrev pub even_byte_end : Bool → Class → List ℕ → ℕ → ℕ
even_byte_end little class bytes o = moved_by 1 (even_byte_at little class bytes o) o

pub even_byte_some : (class : Class) → 1 ≤ even_byte_size class
even_byte_some class = lit≤ tt

-- what is read is the number of the byte there
read_number : (little : Bool) (class : Class) (bytes : List ℕ) (o : ℕ) (x : EvenByte) →
    even_byte_at little class bytes o ≡ Ok x → (n : ℕ) × (number_at little 1 bytes o ≡ Ok n) × (even_byte n ≡ x)
read_number little class bytes o x e = ok_map-ok even_byte (number_at little 1 bytes o) x (grind (arith, common_steps))

pub even_byte_within : ReadsWithin even_byte_size even_byte_at even_byte_end
even_byte_within little class bytes o x e =
    let m = read_number little class bytes o x e in
    let k = number_at-ok little 1 bytes o m.0 m.1 in
    (k.1, rw e refl)

pub even_byte_only : ReadsOnly even_byte_size even_byte_at
even_byte_only little class bytes others o p x y e d same =
    let m = read_number little class bytes o x e in
    let n = read_number little class others p y d in
    let a = number_at-ok little 1 bytes o m.0 m.1 in
    let b = number_at-ok little 1 others p n.0 n.1 in
    sym m.2 ∙ ap even_byte (a.2 ∙ ap (number little) same ∙ sym b.2) ∙ n.2

-- an even byte is not local, so there is nothing to show
pub even_byte_locally : false ≡ true → ReadsLocally even_byte_size even_byte_at
even_byte_locally e = cc

abbrev pub even_bytes : RecordType EvenByte
even_bytes = record {
  size = even_byte_size;
  record_at = even_byte_at;
  offset_after = even_byte_end;
  some_size = even_byte_some;
  within = even_byte_within;
  only = even_byte_only;
  local = false;
  locally = even_byte_locally;
}
