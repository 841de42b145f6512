-- The promises of the library on one page: of bytes, of calls, and of files. `elf_laws::headline::headline` states them
-- all. A file is what the field tables of the standard say of its bytes, and a call of a stream is one that leaves and
-- answers what the contract of its method says. Real calls are such calls: the contract of `elf_laws::asked::make` is that
-- one was made, and that of `elf_laws::steps::take_all` that a list was made, with calls between them that load ranges, and
-- answered alike; `elf_laws::asked::ask` returns the `answer` of a method of `ElfBytes`.
-- `elf_laws::listed::run_both_readers` writes the listing of both readers, and `elf_laws::found` looks names up in hash
-- sections that it checks. That every call returns, and does not panic, is no statement here: the prover asks it of each
-- function.
use Rattle.std.specs.Prelude.{◌≡◌, ◌↔◌, ◌++◌, ◌<◌, ◌^◌, ℕ, Bool, List, [], ◌∷◌, All, length, slice_get}
use Rattle.std.specs.Prelude.{IfErr, Option, Some, Result, Ok, IsOk, IsErr, MatchResult}
use Rattle.std.specs.Result.{IsErrAnd, IsOkAnd, result_ok}
use Rattle.elf_records.specs.Dynamic.{dyn_layout}
use Rattle.elf_records.specs.Number.{ok_map}
use Rattle.elf_records.specs.Record.{RecordType}
use Rattle.elf_records.specs.Relocation.{rel_layout, rela_layout}
use Rattle.elf_records.specs.Section.{section_header_layout}
use Rattle.elf_records.specs.Segment.{program_header_layout}
use Rattle.elf_records.specs.Symbol.{symbol_layout}
use Rattle.elf_records.specs.Table.{Table, table_get, table_items}
use Rattle.elf_records.specs.declared.file.Class.{Class}
use Rattle.elf_records.specs.declared.file.FileHeader.{FileHeader}
use Rattle.elf_records.specs.declared.parse.ParseError.{ParseError}
use Rattle.elf_records.specs.declared.section.SectionHeader.{SectionHeader}
use Rattle.elf_records.specs.declared.segment.ProgramHeader.{ProgramHeader}
use Rattle.elf_parts.specs.GnuFind.{GnuTable, gnu_find, gnu_section}
use Rattle.elf_parts.specs.Structs.{dyn_struct, program_header_struct, rel_struct, rela_struct, section_header_struct}
use Rattle.elf_parts.specs.Structs.{symbol_struct}
use Rattle.elf_parts.specs.SysvFind.{SysvTable, sysv_find, sysv_section}
use Rattle.elf_parts.specs.Written.{IsStruct}
use Rattle.elf_reading.specs.Opening.{FileView, headers_of, opened_file}
use Rattle.elf_reading.specs.Refusals.{Kind, kind}
use Rattle.elf.specs.ElfBytes.{with_header}
use Rattle.elf.specs.ElfStream.{AreCached, IsOpening, Keeps, StreamView, opened_as}
use Rattle.elf.specs.ObjectFile.{ObjectFile, object_file}
use Rattle.elf.specs.Parts.{ArePartOf, Follows, Ranges, loaded}
use Rattle.elf.specs.Ranges.{headers_alone}
use Rattle.elf.specs.Readers.{AreAlike, AreMade, Call, IsAnsweredAlike, Method, Shown, answer, requested_ranges}
use Rattle.elf.specs.StreamFile.{stream_file}
use Rattle.elf_hash_check.specs.Indexed.{IsFirstNamed, IsLeastNamed}
use Rattle.elf_hash_check.specs.Object.{IsFirstOfObject, Object}
use Rattle.elf_hash_check.specs.SoundGnu.{SoundGnu}
use Rattle.elf_hash_check.specs.SoundSysv.{SoundSysv}
use Rattle.elf_hash_check.specs.WithSymbols.{WithSymbols}
use Rattle.elf_hash_check.specs.declared.hashcheck.HashFault.{HashFault}
use Rattle.elf_check.specs.Faults.{IsTrueOfFile}
use Rattle.elf_check.specs.declared.faults.FileFault.{FileFault}
use Rattle.elfshow.specs.Question.{Question}
use Rattle.elfshow.specs.Text.{text}
use Rattle.elf_laws.specs.Asked.{after, put}
use Rattle.elf_laws.specs.WrittenFiles.{IsWritten, written_view}

-- for a type of byte orders, a record type without a version field, and the bytes of a hash section
pub record Headline {E P : Type 0} (little : E → Bool) (of_byte : ℕ → Option E) (reads : RecordType P)
    (section : List ℕ) : Type 0 where
  -- ---- bytes

  -- A record that is written as the C structure of the standard is read back, in both classes and both byte orders:
  -- section headers, program headers, symbols, relocations without and with addends, and dynamic entries.
  pub records_are_structs :
      IsStruct section_header_layout section_header_struct × IsStruct program_header_layout program_header_struct
      × IsStruct symbol_layout symbol_struct × IsStruct rel_layout rel_struct × IsStruct rela_layout rela_struct
      × IsStruct dyn_layout dyn_struct
  -- A file with a header at its front, and tables where the header says, is opened with this header and these tables.
  pub files_are_read_back :
      (h : FileHeader E) (sections : List SectionHeader) (segments : Option (List ProgramHeader)) (bytes : List ℕ) →
      IsWritten little h of_byte sections segments bytes →
      opened_file little of_byte bytes ≡ Ok (written_view little h sections segments bytes)
  -- Item i of a table is what `get(i)` returns, and there is none exactly if `get(i)` returns an error.
  pub items_are_in_order : (t : Table) (i : ℕ) → length t.bytes < 2 ^ 64 →
      slice_get (table_items reads t) i ≡ result_ok (table_get reads t i)
  -- ---- calls, of a stream whose content is known

  -- Both readers open the same files, by both tables or by segments alone, with the same headers. If `ElfStream` alone
  -- refuses a file, the source or memory failed.
  pub opens_alike :
      (bytes : List ℕ) (by_segments can_fail : Bool) (before : ℕ) (opened : Result (StreamView E) ParseError) →
      let file = opened_as little of_byte by_segments bytes in
      IsOpening (ok_map headers_of file) can_fail before opened →
      MatchResult opened (λ s. IsOkAnd file (λ v. s.headers ≡ headers_of v)) (λ e. kind e ≡ Kind.Refusal → IsErr file)
  -- After that each call of a list of calls, with any header put into `ehdr` before it, returns what `ElfBytes` over the
  -- same bytes returns, with that header: the same value, or an error of both, or the source or memory failed. The
  -- sections and segments are still those of `ElfBytes`.
  pub calls_answer_alike :
      (bytes : List ℕ) (by_segments can_fail : Bool) (before : ℕ) (s : StreamView E) (calls : List (Call E)) →
      let file = opened_as little of_byte by_segments bytes in let last = after s calls in
      IsOpening (ok_map headers_of file) can_fail before (Ok s) → s.content ≡ Some bytes → AreMade little s calls →
      IsOkAnd file (λ v. All (IsAnsweredAlike little v) calls
      × (last.headers ≡ headers_of (with_header v last.headers.ehdr)))
  -- A call that follows, and whose ranges are cached, returns what `ElfBytes` returns, whatever the source and memory
  -- do: the same value, or an error of both. It changes nothing.
  pub cached_calls_answer_alike :
      (bytes : List ℕ) (by_segments can_fail : Bool) (before : ℕ) (s : StreamView E) (calls : List (Call E))
      (call : Call E) →
      let file = opened_as little of_byte by_segments bytes in let old = put (after s calls) call.header in
      IsOpening (ok_map headers_of file) can_fail before (Ok s) → s.content ≡ Some bytes →
      AreMade little s (calls ++ (call ∷ [])) →
      AreCached old (requested_ranges call.method (headers_alone little old)) →
      IsOkAnd file (λ v. (call.new ≡ old)
      × AreAlike (answer call.method (object_file little (with_header v call.header))) call.result)
  -- A call that returned a value returns it again, with the same header and arguments, whatever was called between.
  pub calls_answer_again :
      (bytes : List ℕ) (s : StreamView E) (call : Call E) (between : List (Call E))
      (result : Result (Shown call.method) ParseError) (new : StreamView E) →
      let again : Call E = record { header = call.header; method = call.method; result = result; new = new } in
      s.content ≡ Some bytes → AreMade little s (call ∷ (between ++ (again ∷ []))) → IsOk call.result →
      result ≡ call.result
  -- Calls, whatever they return, leave the stream over the same content, with the same sections and segments, and lose
  -- no range that is cached.
  pub streams_keep : (s : StreamView E) (calls : List (Call E)) → AreMade little s calls →
      let last = after s calls in Keeps (put s last.headers.ehdr) last
  -- A call returns `IOError` exactly if the source failed in this call.
  pub failures_are_told : (bytes : List ℕ) (s : StreamView E) (call : Call E) (calls : List (Call E)) →
      s.content ≡ Some bytes → AreMade little s (call ∷ calls) →
      IsErrAnd call.result (λ e. kind e ≡ Kind.SourceFailure) ↔ (s.failures < call.new.failures)
  -- What the bytes of a file refuse to a method is never `IOError` or `OutOfMemory`. So these tell of the source and of
  -- memory.
  pub refusals_are_of_bytes : (v : FileView E) (m : Method) →
      IfErr (answer m (object_file little v)) (λ e. kind e ≡ Kind.Refusal)
  -- A part of a file answers each method as the whole file does, with the same value or the same error, or it names a
  -- range that is missing.
  pub parts_answer_as_whole :
      (whole : ObjectFile) (range : Ranges) (is_missing : ℕ × ℕ → Bool) → ArePartOf whole is_missing range →
      (m : Method) → Follows is_missing (answer m whole) (answer m (loaded whole range))
  -- ---- files

  -- After any calls the listing of a stream is that of `ElfBytes` with the same header, byte for byte.
  pub listings_are_the_same :
      (bytes : List ℕ) (can_fail : Bool) (before : ℕ) (s : StreamView E) (calls : List (Call E))
      (questions : List Question) →
      let file = opened_file little of_byte bytes in let last = after s calls in let h = last.headers.ehdr in
      IsOpening (ok_map headers_of file) can_fail before (Ok s) → AreMade little s calls →
      IsOkAnd file (λ v. text h (stream_file little last bytes) questions
      ≡ text h (object_file little (with_header v h)) questions)
  -- On a sound hash section `find` returns no error: on a GNU section the least index with the name, on a SysV section the
  -- first along its chain, and `None` exactly if no indexed symbol has the name.
  pub gnu_find_is_sound : (order : Bool) (class : Class) (s : WithSymbols GnuTable) (name : List ℕ) →
      gnu_section order class section ≡ Ok s.table → SoundGnu s →
      IsOkAnd (gnu_find s.table s.symbols s.strings name) (IsLeastNamed s name)
  pub sysv_find_is_sound : (order : Bool) (class : Class) (s : WithSymbols SysvTable) (name : List ℕ) →
      sysv_section order class section ≡ Ok s.table → SoundSysv s →
      IsOkAnd (sysv_find s.table s.symbols s.strings name) (IsFirstNamed s name)
  -- A hash section has at most one first fault, and so has a file: no check can name another one.
  pub one_fault :
      ((object : Object) (one other : HashFault) → IsFirstOfObject object one → IsFirstOfObject object other → one ≡ other)
      × ((file : ObjectFile) (one other : FileFault) → IsTrueOfFile file one → IsTrueOfFile file other → one ≡ other)
