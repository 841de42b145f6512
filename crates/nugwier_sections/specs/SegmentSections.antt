-- Which sections belong to which segments, as linkers and readelf have it (GNU binutils, include/elf/internal.h,
-- ELF_SECTION_IN_SEGMENT_STRICT and ELF_TBSS_SPECIAL).
use Rattle.std.specs.Prelude.{ℕ, ◌+◌, ◌-◌, ◌/◌, ◌==◌, ◌||◌, ◌&&◌, not, nat_le, nat_lt, bit_and, Bool}
use Rattle.std.specs.Prelude.{if◌then◌else◌, List, [], ◌∷◌, ◌++◌, Option, Some, codes, length}
use Rattle.elf_abi.specs.Values.{pt_dynamic, pt_gnu_eh_frame, pt_gnu_relro, pt_gnu_stack, pt_load, pt_note, pt_phdr}
use Rattle.elf_abi.specs.Values.{pt_tls, shf_alloc, shf_tls, sht_nobits}
use Rattle.elf_records.specs.declared.section.SectionHeader.{SectionHeader}
use Rattle.elf_records.specs.declared.segment.ProgramHeader.{ProgramHeader}
use Rattle.nugwier_layouts.specs.Members.{Members, number, text}
use Rattle.nugwier_report.specs.Said.{Said, numbered, states, warns, whole}
use Rattle.nugwier_sections.specs.SectionRows.{name_read}
use Rattle.nugwier_report.specs.declared.problem.Part.TheVariants.{SectionHeaders}
use Rattle.nugwier_layouts.specs.Layouts.{constant}
use Rattle.nugwier_layouts.specs.declared.layouts.TheConstants as layout

-- ---- the rule

abbrev pub has_flag : ℕ → SectionHeader → Bool
has_flag flag s = not (bit_and s.sh_flags flag == 0)

-- it takes no bytes of the file
abbrev pub has_no_bytes : SectionHeader → Bool
has_no_bytes s = s.sh_type == sht_nobits

abbrev pub is_of : ℕ → ProgramHeader → Bool
is_of p_type p = p.p_type == p_type

-- Thread-local data belong to PT_TLS, which has nothing else; of other segments only PT_LOAD and PT_GNU_RELRO have them.
-- PT_PHDR has no sections.
abbrev pub fits_threads : SectionHeader → ProgramHeader → Bool
fits_threads s p =
    if has_flag shf_tls s then is_of pt_tls p || is_of pt_gnu_relro p || is_of pt_load p
    else not (is_of pt_tls p || is_of pt_phdr p)

-- thread-local data without bytes take memory of the thread, and so belong to PT_TLS alone
abbrev pub is_threads_alone : SectionHeader → ProgramHeader → Bool
is_threads_alone s p = has_flag shf_tls s && has_no_bytes s && not (is_of pt_tls p)

-- PT_GNU_SFRAME, and PT_GNU_MBIND_LO to PT_GNU_MBIND_HI
abbrev pub is_gnu_memory : ℕ → Bool
is_gnu_memory p_type = nat_le 0x6474e554 p_type && nat_le p_type 0x6474f554

-- segments that are loaded, or that lie in these, have sections with SHF_ALLOC alone
abbrev pub is_memory : ProgramHeader → Bool
is_memory p =
    is_of pt_load p || is_of pt_dynamic p || is_of pt_gnu_eh_frame p || is_of pt_gnu_stack p
    || is_of pt_gnu_relro p || is_gnu_memory p.p_type

abbrev pub fits_memory : SectionHeader → ProgramHeader → Bool
fits_memory s p = has_flag shf_alloc s || not (is_memory p)

-- these bytes lie in a range, by its start and length; an empty section at its end does not belong to it, unless the range is empty
abbrev pub is_within : ℕ → ℕ → ℕ → ℕ → Bool
is_within place size start length =
    nat_le start place && (length == 0 || nat_lt (place - start) length) && nat_le (place - start + size) length

abbrev pub is_in_file : SectionHeader → ProgramHeader → Bool
is_in_file s p = has_no_bytes s || is_within s.sh_offset s.sh_size p.p_offset p.p_filesz

abbrev pub is_in_memory : SectionHeader → ProgramHeader → Bool
is_in_memory s p = not (has_flag shf_alloc s) || is_within s.sh_addr s.sh_size p.p_vaddr p.p_memsz

-- neither at the start of the range nor at its end
abbrev pub is_inside : ℕ → ℕ → ℕ → Bool
is_inside place start length = nat_lt start place && nat_lt (place - start) length

abbrev pub is_all_inside : SectionHeader → ProgramHeader → Bool
is_all_inside s p =
    (has_no_bytes s || is_inside s.sh_offset p.p_offset p.p_filesz)
    && (not (has_flag shf_alloc s) || is_inside s.sh_addr p.p_vaddr p.p_memsz)

-- PT_DYNAMIC and PT_NOTE have no empty section at their ends, unless they are empty
abbrev pub fits_ends : SectionHeader → ProgramHeader → Bool
fits_ends s p =
    not (is_of pt_dynamic p || is_of pt_note p) || not (s.sh_size == 0) || p.p_memsz == 0 || is_all_inside s p

abbrev pub is_in_segment : SectionHeader → ProgramHeader → Bool
is_in_segment s p =
    fits_threads s p && not (is_threads_alone s p) && fits_memory s p && is_in_file s p && is_in_memory s p
    && fits_ends s p

-- ---- what is said

abbrev pub segment_members : ℕ → Members
segment_members k = (codes "segment", number k) ∷ []

-- section i, with its name if that can be read, in segment k
abbrev pub segment_section_members : Option (List ℕ) → ℕ → ℕ → SectionHeader → Members
segment_section_members names k i s =
    (codes "segment", number k) ∷ (codes "section", number i) ∷ (codes "name", text (name_read names s)) ∷ []

-- section 0 is none
abbrev pub section_in_segment_said : Option (List ℕ) → ℕ → ProgramHeader → ℕ → SectionHeader → List Said
section_in_segment_said names k p i s =
    if not (i == 0) && is_in_segment s p
    then states (constant layout.SEGMENT_SECTION) (segment_section_members names k i s) ∷ [] else []

-- of segment k: its number, its sections, and the end of its line
abbrev pub segment_sections_said : Option (List ℕ) → List SectionHeader → ℕ → ProgramHeader → List Said
segment_sections_said names sections k p =
    states (constant layout.SEGMENT_SECTIONS) (segment_members k)
    ∷ (numbered (section_in_segment_said names k p) 0 sections ++ states (constant layout.SEGMENT_SECTIONS_END) [] ∷ [])

-- more than 2^24 pairs of a section and a segment
abbrev pub are_too_many : List SectionHeader → List ProgramHeader → Bool
are_too_many sections segments = nat_lt (0x1000000 / length sections) (length segments)

unfoldable pub too_many_text : Option (List ℕ)
too_many_text = Some (codes "too many to list those of each segment")

-- a heading, and each segment; that there are too many; nothing if there are no sections or no segments
abbrev pub segments_sections_said : Option (List ℕ) → List SectionHeader → List ProgramHeader → List Said
segments_sections_said names [] segments = []
segments_sections_said names sections [] = []
segments_sections_said names (s ∷ sections) (p ∷ segments) =
    if are_too_many (s ∷ sections) (p ∷ segments) then warns (whole SectionHeaders) too_many_text ∷ []
    else states (constant layout.SEGMENT_SECTIONS_HEADING) []
    ∷ numbered (segment_sections_said names (s ∷ sections)) 0 (p ∷ segments)
