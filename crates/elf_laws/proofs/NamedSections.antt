-- The lines of sections whose names can be read.
use Rattle.std.proofs.Common.{◌≡◌, ℕ, suc, ◌+◌, List, [], ◌∷◌, length, Option, Some, None, Result, Ok, Err, codes, refl, ap, ◌∙◌}
use Rattle.std.specs.Fmt.{decimal}
use Rattle.std.specs.List.{slice_get}
use Rattle.std.specs.Result.{IsOk}
use Rattle.elf_records.specs.Number.{ok_map}
use Rattle.elf_records.specs.Record.{◌>>=◌}
use Rattle.elf_records.specs.StringTable.{string_at}
use Rattle.elf_records.specs.declared.file.FileHeader.{FileHeader}
use Rattle.elf_records.specs.declared.parse.ParseError.{ParseError}
use Rattle.elf_records.specs.declared.section.SectionHeader.{SectionHeader}
use Rattle.elf.specs.Names.{name_table}
use Rattle.elf.specs.ObjectFile.{ObjectFile}
use Rattle.elfshow.specs.Question.{Sections}
use Rattle.elfshow_lines.specs.Counted.{counted_lines, end_line, numbered_lines}
use Rattle.elfshow_lines.specs.Name.{name_field}
use Rattle.elfshow_lines.specs.Pieces.{◌⧺◌, newline}
use Rattle.elfshow_lines.specs.Sections.{section_fields, section_line}
use Rattle.elf_check.specs.Sections.{name_in, section_name}
use Rattle.elf_laws.proofs.Lines.{name_shown}
use Rattle.elf_laws.specs.Answers.{IsAnswered}
use Rattle.elf_laws.specs.Named.{named_section, sure_name}

-- what a value was mapped from
map_from : {A B E : Type 0} (f : A → B) (r : Result A E) → IsOk (ok_map f r) → IsOk r
map_from f (Ok x) h = refl
map_from f (Err e) h = absurd (cc h)

field_same : (names : Option (List ℕ)) (s : SectionHeader) → IsOk (name_in s names) → name_field names s.sh_name ≡ sure_name names s.sh_name
field_same None s h = refl
field_same (Some strings) s h = name_shown (string_at strings s.sh_name) (map_from Some (string_at strings s.sh_name) h)

section_same : (names : Option (List ℕ)) (k : ℕ) (s : SectionHeader) → IsOk (name_in s names) → section_line names k s ≡ named_section names k s
section_same names k s h =
    ap (λ (name : List ℕ). codes "section " ⧺ decimal k ⧺ codes " " ⧺ name ⧺ codes " " ⧺ section_fields s ⧺ newline) (field_same names s h)

sections_same : (names : Option (List ℕ)) (k : ℕ) (xs : List SectionHeader) → ((i : ℕ) (s : SectionHeader) → slice_get xs i ≡ Some s → IsOk (name_in s names)) → numbered_lines (section_line names) k xs ≡ numbered_lines (named_section names) k xs
sections_same names k [] all = refl
sections_same names k (x ∷ xs) all =
    let rest = sections_same names (k + 1) xs (λ i s e. all (suc i) s e) in
    ap (λ (line : List ℕ). line ⧺ numbered_lines (section_line names) (k + 1) xs) (section_same names k x (all 0 x refl))
    ∙ ap (λ (lines : List ℕ). named_section names k x ⧺ lines) rest

answered : (r : Result (Option (List ℕ)) ParseError) (xs : List SectionHeader) → IsOk r → ((i : ℕ) (s : SectionHeader) → slice_get xs i ≡ Some s → IsOk (r >>= name_in s)) →
    IsOk (ok_map (λ names. counted_lines (section_line names) xs) r) × (ok_map (λ names. counted_lines (section_line names) xs) r ≡ ok_map (λ names. counted_lines (named_section names) xs) r)
answered (Ok names) xs ok all =
    (refl, ap (λ (lines : List ℕ). Ok (lines ⧺ end_line (length xs))) (sections_same names 0 xs all))
answered (Err e) xs ok all = absurd (cc ok)

pub sections_named : {E : Type 0} (header : FileHeader E) (file : ObjectFile) → IsOk (name_table file) → ((i : ℕ) (s : SectionHeader) → slice_get file.sections i ≡ Some s → IsOk (section_name file s)) → IsAnswered header file Sections
sections_named header file ok all = let r = answered (name_table file) file.sections ok all in record { ok = r.0; same = r.1 }
