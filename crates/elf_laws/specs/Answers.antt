-- What the listing of a sound file answers: no call on a section of its type has an error, each name can be read, and
-- each hash section is sound.
use Rattle.std.specs.Prelude.{◌≡◌, ⊤, ℕ, false, List, [], ◌∷◌, ◌++◌, codes, Option, Result, Ok, IfSome, IsOk, slice_get}
use Rattle.std.specs.Fmt.{decimal}
use Rattle.std.specs.Result.{IsOkAnd}
use Rattle.elf_abi.specs.Values.{pt_dynamic, pt_note, sht_dynsym, sht_gnu_hash, sht_hash, sht_note, sht_rel, sht_rela}
use Rattle.elf_abi.specs.Values.{sht_strtab}
use Rattle.elf_records.specs.Number.{ok_map}
use Rattle.elf_records.specs.Record.{◌>>=◌}
use Rattle.elf_records.specs.declared.file.FileHeader.{FileHeader}
use Rattle.elf_records.specs.declared.parse.ParseError.{ParseError}
use Rattle.elf_records.specs.declared.section.SectionHeader.{SectionHeader}
use Rattle.elf_records.specs.declared.segment.ProgramHeader.{ProgramHeader}
use Rattle.elf.specs.Answers.{dynamic_symbol_table, symbol_table, symbol_version_table}
use Rattle.elf.specs.Headers.{first_segment_of}
use Rattle.elf.specs.Names.{name_table}
use Rattle.elf.specs.ObjectFile.{ObjectFile}
use Rattle.elf_hash_check.specs.Object.{Object, indexed_count}
use Rattle.elf_hash_check.specs.declared.hashcheck.any.HashKind.{HashKind}
use Rattle.elf_hash_check.specs.declared.hashcheck.any.HashKind.TheVariants.{Gnu, Sysv}
use Rattle.elfshow_lines.specs.Counted.{counted_lines}
use Rattle.elfshow_lines.specs.Pieces.{◌⧺◌, newline}
use Rattle.elfshow.specs.Question.{Question, Header, Sections, Segments, Name, Data, Strings, Rels, Relas}
use Rattle.elfshow.specs.Question.{Notes, Seg, SegNotes, Symbols, DynSyms, Dynamic, Versions, Hash}
use Rattle.elfshow.specs.Text.{call_answer, of_section, symbol_count, unless_none}
use Rattle.elf_check.specs.Hashes.{hash_object}
use Rattle.elf_check.specs.Segments.{has_no_bytes}
use Rattle.elf_laws.specs.Named.{named_section, named_text}
use Rattle.elf_laws.specs.Sure.{sure_listed}

-- ---- calls on sections and segments of their type

-- the section, if there is one, has this type
abbrev pub HasType : ℕ → Option SectionHeader → Type 0
HasType t o = IfSome o (λ s. s.sh_type ≡ t)

-- the segment has bytes in the file, and is not unused
abbrev pub HasBytes : ProgramHeader → Type 0
HasBytes p = has_no_bytes p ≡ false

-- the segment is one of notes
abbrev pub HoldsNotes : ProgramHeader → Type 0
HoldsNotes p = (p.p_type ≡ pt_note) × HasBytes p

-- the type of a hash section of a kind
abbrev pub hash_type : HashKind → ℕ
hash_type Sysv = sht_hash
hash_type Gnu = sht_gnu_hash

-- a hash section of a kind, which is linked to dynamic symbols
abbrev pub IsHashSection : HashKind → ObjectFile → SectionHeader → Type 0
IsHashSection kind file s =
    (s.sh_type ≡ hash_type kind) × IsOkAnd (file.section_at s.sh_link) (λ linked. linked.sh_type ≡ sht_dynsym)

-- the call is on a section or a segment of the type that it reads
abbrev pub IsFitting : ObjectFile → Question → Type 0
IsFitting file (Strings i) = HasType sht_strtab (slice_get file.sections i)
IsFitting file (Rels i) = HasType sht_rel (slice_get file.sections i)
IsFitting file (Relas i) = HasType sht_rela (slice_get file.sections i)
IsFitting file (Notes i) = HasType sht_note (slice_get file.sections i)
IsFitting file (Seg j) = IfSome (slice_get file.segments j) HasBytes
IsFitting file (SegNotes j) = IfSome (slice_get file.segments j) HoldsNotes
IsFitting file Dynamic =
    file.declares_sections ≡ false → IfSome (first_segment_of pt_dynamic file.segments) HasBytes
IsFitting file (Hash kind i) = IfSome (slice_get file.sections i) (IsHashSection kind file)
IsFitting file Header = ⊤
IsFitting file Sections = ⊤
IsFitting file Segments = ⊤
IsFitting file (Name name) = ⊤
IsFitting file (Data i) = ⊤
IsFitting file Symbols = ⊤
IsFitting file DynSyms = ⊤
IsFitting file Versions = ⊤

-- ---- answers

-- the line of a hash section that is sound
abbrev pub sound_line : Object → List ℕ
sound_line object = codes "sound indexed=" ⧺ decimal (indexed_count object) ⧺ newline

-- of a hash section, with the symbols to which it is linked
abbrev pub sound_answer : HashKind → ObjectFile → SectionHeader → Result (List ℕ) ParseError
sound_answer kind file s = file.section_at s.sh_link >>= λ linked. ok_map sound_line (hash_object kind file s linked)

-- what a call writes if each name is a name, and each hash section is sound
abbrev pub sure_answer : {E : Type 0} → FileHeader E → ObjectFile → Question → Result (List ℕ) ParseError
sure_answer header file Sections = ok_map (λ names. counted_lines (named_section names) file.sections) (name_table file)
sure_answer header file Symbols = ok_map (unless_none named_text) (symbol_table file)
sure_answer header file DynSyms = ok_map (unless_none named_text) (dynamic_symbol_table file)
sure_answer header file Versions =
    dynamic_symbol_table file >>= λ symbols.
    ok_map (unless_none (sure_listed (symbol_count symbols))) (symbol_version_table file)
sure_answer header file (Hash kind i) = of_section file i (sound_answer kind file)
sure_answer header file call = call_answer header file call

-- the call has an answer, and this is it
pub record IsAnswered {E : Type 0} (header : FileHeader E) (file : ObjectFile) (call : Question) : Type 0 where
  pub ok : IsOk (call_answer header file call)
  pub same : call_answer header file call ≡ sure_answer header file call

-- ---- lists of calls

-- the joined texts of the calls, in order, if all have an answer
abbrev pub sure_texts : {E : Type 0} → FileHeader E → ObjectFile → List Question → Result (List ℕ) ParseError
sure_texts header file [] = Ok []
sure_texts header file (call ∷ calls) =
    sure_answer header file call >>= λ one. ok_map (λ others. one ++ others) (sure_texts header file calls)
