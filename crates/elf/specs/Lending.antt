-- What a method of `ElfStream` that returns a borrow leaves, once the borrow has ended.
use Rattle.std.specs.Prelude.{ℕ, Bool, List, Option, Result}
use Rattle.std.specs.Borrow.{Fml, RattleType, MutBor}
use Rattle.std.specs.Io.BufRead.{Rests}
use Rattle.std.specs.declared.alloc.Allocator as allocator
use Rattle.elf_records.specs.declared.parse.ParseError.{ParseError}
use Rattle.elf_reading.specs.declared.source.StreamSource as source
use Rattle.elf.specs.contracts.elf_stream.ElfStream.{the_row}
use Rattle.elf.specs.Ranges.{headers_alone}
use Rattle.elf.specs.StreamFile.{stream_file}
use Rattle.elf.specs.ObjectFile.{ObjectFile}
use Rattle.elf.specs.ElfStream.{Leaves, StreamView}

-- the ghost members of a type of byte orders, with its supertraits
abbrev pub Order : Type 0 → Type 1
Order E = record {
  eq : E → E → Bool;
  is_default : E → Type 0;
  is_clone : E → E → Type 0;
  is_infallible : E → Type 0;
  little : E → Bool;
  of_byte : ℕ → Option E;
}

-- Leaves, of the stream once the result's borrow of it ends, for the ranges that its headers name and for an answer
-- over its file
abbrev pub Lends :
    (E S A : RattleType) → Order E.Denot → source.Ghosts S.Denot → allocator.Ghosts A.Denot →
    MutBor (StreamView E.Denot) → (ObjectFile → List (ℕ × ℕ)) →
    {T Y : Type 0} → (T → Y) → (ObjectFile → Result Y ParseError) → Result T ParseError → Fml
Lends E S A order source alloc stream requested shown answer r =
    Rests (the_row E S A (record { little = order.little; of_byte = order.of_byte })
    (record { is_default = order.is_default }) (record { eq = order.eq }) source alloc) stream
    (λ new. Leaves (requested (headers_alone order.little stream.now)) shown
    (λ bytes. answer (stream_file order.little stream.now bytes)) stream.now new r)
