-- What a stream over bytes gives of a section is what `ElfBytes` gives of it.
use Rattle.std.proofs.Common.{◌≡◌, ℕ, Bool, List, Result, Ok, Err, Option, Some, ap, sym, subst, ◌∙◌, IfSome}
use Rattle.std.specs.Result.{result_ok}
use Rattle.elf_records.specs.Number.{ok_map}
use Rattle.elf_records.specs.declared.compression.CompressionHeader.{CompressionHeader}
use Rattle.elf_records.specs.declared.parse.ParseError.{ParseError}
use Rattle.elf_records.specs.declared.section.SectionHeader.{SectionHeader}
use Rattle.elf.specs.Data.{section_data}
use Rattle.elf.specs.ElfBytes.{with_header}
use Rattle.elf_reading.specs.Opening.{FileView}
use Rattle.elf.specs.ElfStream.{StreamView}
use Rattle.elf_reading.specs.Opening.{headers_of}
use Rattle.elf.specs.ObjectFile.{object_file}
use Rattle.elf_reading.specs.Opening.{opened_file}
use Rattle.elf.specs.Readers.{SameAnswers, SectionData}
use Rattle.elf.specs.StreamFile.{stream_file}
use Rattle.elf_tests.specs.Copies.{IsSectionOf}

ok_is : {A : Type 0} (r : Result A ParseError) (x : A) → result_ok r ≡ Some x → r ≡ Ok x
ok_is (Ok y) x e = let same : y ≡ x = cc in ap Ok same
ok_is (Err f) x e = cc

same_header : {E : Type 0} (v : FileView E) (s : StreamView E) (r : Result (FileView E) ParseError) → r ≡ Ok v → ok_map headers_of r ≡ Ok s.headers → v.ehdr ≡ s.headers.ehdr
same_header v s r is known =
    let both : Ok (headers_of v) ≡ Ok s.headers = ap (ok_map headers_of) (sym is) ∙ known in
    let same : headers_of v ≡ s.headers = cc in ap (λ h. h.ehdr) same

-- by the headers that the opening gave, that both readers answer alike, and what the stream gave
pub copied : {E : Type 0} (little : E → Bool) (of_byte : ℕ → Option E) (bytes : List ℕ) (s : StreamView E) (shdr : SectionHeader) (found : List ℕ × Option CompressionHeader) (copy : List ℕ)
    → ok_map headers_of (opened_file little of_byte bytes) ≡ Ok s.headers
    → ((v : FileView E) × (opened_file little of_byte bytes ≡ Ok v) × SameAnswers (object_file little (with_header v s.headers.ehdr)) (stream_file little s bytes))
    → section_data (stream_file little s bytes) shdr ≡ Ok found → found.0 ≡ copy → IsSectionOf little of_byte bytes shdr copy
copied little of_byte bytes s shdr found copy headers alike gave is =
    let v = alike.0 in
    let header = same_header v s (opened_file little of_byte bytes) alike.1 headers in
    let there = alike.2.methods (SectionData shdr) ∙ ap result_ok gave in
    let here = subst (λ h. result_ok (section_data (object_file little (with_header v h)) shdr) ≡ Some found) (sym header) there in
    (v, alike.1, ap (ok_map (λ f. f.0)) (ok_is (section_data (object_file little v) shdr) found here) ∙ ap Ok is)

pub known_of : (P : List ℕ → Type 0) (o : Option (List ℕ)) (bytes : List ℕ) → o ≡ Some bytes → IfSome o P → P bytes
known_of P o bytes e h = subst (λ o. IfSome o P) e h
