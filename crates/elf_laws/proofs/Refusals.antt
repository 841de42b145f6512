-- What the bytes of a file refuse is no failure of a source and none of memory.
use Rattle.std.proofs.Common.{◌≡◌, ℕ, ◌==◌, Bool, not, List, Option, Some, None, refl}
use Rattle.std.specs.Prelude.{IfErr, Result, Ok, Err}
use Rattle.elf_abi.specs.Values.{pt_dynamic, shn_undef, sht_dynamic, sht_dynsym, sht_note, sht_rel, sht_rela, sht_strtab, sht_symtab}
use Rattle.elf_parts.specs.gnu_symver.Lists.{ver_defs, ver_needs}
use Rattle.elf_records.specs.Compression.{compression_header_layout}
use Rattle.elf_records.specs.Record.{record_by, size_by}
use Rattle.elf_records.specs.Section.{section_header_layout, section_header_reads}
use Rattle.elf_records.specs.Table.{Table}
use Rattle.elf_records.specs.declared.parse.ParseError.{ParseError}
use Rattle.elf_records.specs.declared.parse.ParseError.TheVariants.{BadEntsize, BadOffset, UnexpectedSectionType}
use Rattle.elf_records.specs.declared.section.SectionHeader.{SectionHeader}
use Rattle.elf_records.specs.declared.segment.ProgramHeader.{ProgramHeader}
use Rattle.elf_reading.specs.Opening.{FileView}
use Rattle.elf_reading.specs.Refusals.{Kind, kind}
use Rattle.elf_reading.specs.Versions.{version_sections}
use Rattle.elf_reading.specs.declared.versions.VersionSections.{VersionSections}
use Rattle.elf_reading.proofs.steps.Chains.{IsPlain}
use Rattle.elf_reading.proofs.steps.Plain.{plain_bind, plain_bytes_at, plain_err, plain_front, plain_if, plain_item, plain_map, plain_record_by}
use Rattle.elf.specs.Answers.{first_symbols, section_dynamic, segment_data, segment_dynamic, symbol_sections, symbols_in, with_linked}
use Rattle.elf.specs.Data.{compressed_data, content, content_of_type, section_data}
use Rattle.elf.specs.Headers.{first_section_of, first_segment_of, if_found, section_at}
use Rattle.elf.specs.Names.{name_index, name_section, name_table}
use Rattle.elf.specs.ObjectFile.{ObjectFile, entry_size, err_map, object_file, section_part}
use Rattle.elf.specs.Readers.{Method, answer}
use Rattle.elf.specs.Readers as method
use Rattle.elf.specs.Versions.{linked_strings, version_entries, version_indexes, version_needs, version_definitions, versions_of}

fine : {A : Type 0} {x : A} → IsPlain (Ok x)
fine = record { plain = tt }

plain_same : {A : Type 0} (r : Result A ParseError) → IsPlain r → IsPlain (err_map (λ e. e) r)
plain_same (Ok x) h = fine
plain_same (Err e) h = plain_err e h.plain

plain_found : {A B : Type 0} (f : A → Result B ParseError) → ((x : A) → IsPlain (f x)) → (o : Option A) → IsPlain (if_found f o)
plain_found f h None = fine
plain_found f h (Some x) = plain_map Some (f x) (h x)

module _ (file : ObjectFile) (ranges : (start size : ℕ) → IsPlain (file.range start size)) (headers : (i : ℕ) → IsPlain (file.section_at i)) where
  part : (s : SectionHeader) → IsPlain (section_part file s)
  part s = ranges s.sh_offset s.sh_size

  sized : (size : ℕ) (s : SectionHeader) → IsPlain (entry_size file size s)
  sized size s = plain_if (s.sh_entsize == size) (Ok size) (Err (BadEntsize (s.sh_entsize, size))) fine (plain_err (BadEntsize (s.sh_entsize, size)) refl)

  -- ---- names

  index : IsPlain (name_index file)
  index = plain_if _ _ _ (plain_map _ (file.section_at 0) (headers 0)) fine

  section_of_names : IsPlain (name_section file)
  unfolding name_section
  section_of_names =
      plain_if (not file.declares_sections) (Ok None) _ (fine {x = None}) (plain_if (file.e_shstrndx == shn_undef) (Ok None) _ (fine {x = None})
      (plain_bind (name_index file) _ index (λ i. plain_map Some (file.section_at i) (headers i))))

  names : IsPlain (name_table file)
  unfolding name_table
  names = plain_bind (name_section file) (if_found (section_part file)) section_of_names (plain_found (section_part file) part)

  -- ---- contents

  data_of : (s : SectionHeader) → IsPlain (section_data file s)
  unfolding section_data
  data_of s =
      plain_if _ _ _ fine (plain_bind (section_part file s) _ (part s) (λ bytes.
      plain_if _ _ _ fine (plain_same _ (plain_map _ (compressed_data file bytes) (plain_front (size_by compression_header_layout file.class) (record_by compression_header_layout file.little file.class) bytes (plain_record_by compression_header_layout file.little file.class bytes 0))))))

  contents : (s : SectionHeader) → IsPlain (content file s)
  contents s = plain_map _ (section_data file s) (data_of s)

  typed : (t : ℕ) (s : SectionHeader) → IsPlain (content_of_type t file s)
  typed t s = plain_if (s.sh_type == t) (content file s) (Err (UnexpectedSectionType (s.sh_type, t))) (contents s) (plain_err (UnexpectedSectionType (s.sh_type, t)) refl)

  -- ---- symbols, dynamic entries and versions

  linked : (s : SectionHeader) → IsPlain (with_linked file s)
  linked s = plain_bind (file.section_at s.sh_link) _ (headers s.sh_link) (λ one. plain_bind (entry_size file _ s) _ (sized _ s) (λ _. fine))

  both : (sections : SectionHeader × SectionHeader) → IsPlain (symbols_in file sections)
  both (s, linked) = plain_bind (section_part file s) _ (part s) (λ symbols. plain_bind (section_part file linked) _ (part linked) (λ strings. fine))

  symbols : (t : ℕ) → IsPlain (first_symbols t file)
  symbols t = plain_bind (symbol_sections t file) (if_found (symbols_in file)) (plain_found (with_linked file) linked (first_section_of t file.sections)) (plain_found (symbols_in file) both)

  in_section : (s : SectionHeader) → IsPlain (section_dynamic file s)
  in_section s = plain_bind (entry_size file _ s) _ (sized _ s) (λ _. plain_map _ (content file s) (contents s))

  in_segment : (p : ProgramHeader) → IsPlain (segment_dynamic file p)
  in_segment p = plain_map _ (segment_data file p) (ranges p.p_offset p.p_filesz)

  entries_of : {V A : Type 0} (entries : Table → ℕ → ℕ → List (V × List A)) (s : SectionHeader) → IsPlain (version_entries entries file s)
  entries_of entries s =
      plain_bind (section_part file s) _ (part s) (λ bytes.
      plain_bind (linked_strings file s) _ (plain_bind (file.section_at s.sh_link) (section_part file) (headers s.sh_link) part) (λ strings. fine))

  versions : (chosen : VersionSections) (s : SectionHeader) → IsPlain (versions_of file chosen s)
  versions chosen s =
      plain_bind (version_indexes file s) _ (plain_bind (entry_size file _ s) _ (sized _ s) (λ _. plain_map _ (section_part file s) (part s))) (λ indexes.
      plain_bind (if_found (version_needs file) chosen.needs) _ (plain_found (version_needs file) (entries_of ver_needs) chosen.needs) (λ needs.
      plain_bind (if_found (version_definitions file) chosen.definitions) _ (plain_found (version_definitions file) (entries_of ver_defs) chosen.definitions) (λ definitions. fine)))

  -- ---- methods

  plain_answer : (m : Method) → IsPlain (answer m file)
  plain_answer method.SectionHeadersWithStrtab = plain_map _ (name_table file) names
  plain_answer (method.SectionHeaderByName name) = plain_map _ (name_table file) names
  plain_answer (method.SectionData s) = data_of s
  plain_answer (method.SectionDataAsStrtab s) = typed sht_strtab s
  plain_answer (method.SectionDataAsRels s) = plain_map _ (content_of_type sht_rel file s) (typed sht_rel s)
  plain_answer (method.SectionDataAsRelas s) = plain_map _ (content_of_type sht_rela file s) (typed sht_rela s)
  plain_answer (method.SectionDataAsNotes s) = plain_map _ (content_of_type sht_note file s) (typed sht_note s)
  plain_answer (method.SegmentData p) = ranges p.p_offset p.p_filesz
  plain_answer (method.SegmentDataAsNotes p) = plain_if _ _ _ (plain_map _ (segment_data file p) (ranges p.p_offset p.p_filesz)) (plain_err _ refl)
  plain_answer method.SymbolTable = symbols sht_symtab
  plain_answer method.DynamicSymbolTable = symbols sht_dynsym
  plain_answer method.Dynamic =
      plain_if file.declares_sections _ _ (plain_found (section_dynamic file) in_section (first_section_of sht_dynamic file.sections)) (plain_found (segment_dynamic file) in_segment (first_segment_of pt_dynamic file.segments))
  plain_answer method.SymbolVersionTable = let chosen = version_sections file.sections in plain_found (versions_of file chosen) (versions chosen) chosen.indexes

plain_section_at : (o : Option Table) (i : ℕ) → IsPlain (section_at o i)
plain_section_at None i = plain_err (BadOffset i) refl
plain_section_at (Some t) i =
    plain_item (section_header_reads.record_at t.little t.class) (size_by section_header_layout t.class) t.bytes i (plain_record_by section_header_layout t.little t.class t.bytes)

pub answers_plain : {E : Type 0} (little : E → Bool) (v : FileView E) (m : Method) → IfErr (answer m (object_file little v)) (λ e. kind e ≡ Kind.Refusal)
answers_plain little v m = (plain_answer (object_file little v) (λ start size. plain_bytes_at size v.bytes start) (plain_section_at v.sections) m).plain
