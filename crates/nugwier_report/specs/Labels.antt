-- The class of a file, which gives the digits of its addresses, and the sections with which its problems are told.
use Rattle.std.specs.Prelude.{ℕ, ◌==◌, List, [], Option, Some, None, unwrap_or}
use Rattle.std.specs.Borrow.{Bor}
use Rattle.std.specs.List.{position, slice_get}
use Rattle.std.specs.Option.{option_map}
use Rattle.std.specs.Result.{result_ok}
use Rattle.elf_abi.specs.Values.{sht_dynamic, sht_dynsym, sht_gnu_versym, sht_symtab}
use Rattle.elf_records.specs.StringTable.{string_at}
use Rattle.elf_records.specs.declared.file.Class.{Class}
use Rattle.elf_records.specs.declared.file.Class.TheVariants.{ELF64}
use Rattle.elf_records.specs.declared.section.SectionHeader.{SectionHeader}
use Rattle.nugwier_report.specs.declared.names.Labels.{Labels}
use Rattle.nugwier_report.specs.declared.problem.Part.{Part}
use Rattle.nugwier_report.specs.declared.problem.Part.TheVariants as part

-- the class, the sections, and their names, if these are known
pub record Named : Type 0 where
  pub class : Class
  pub sections : List SectionHeader
  pub names : Option (List ℕ)

abbrev pub no_sections : Named
no_sections = record { class = ELF64; sections = []; names = None }

abbrev pub named_by : Labels → Named
named_by labels = record { class = labels.class; sections = labels.sections.now; names = labels.names }

-- the first section of a type
abbrev pub first_of : ℕ → List SectionHeader → Option ℕ
first_of sh_type sections = position (λ s. s.sh_type == sh_type) sections

-- the number of the section that a part is in, if it is in one
abbrev pub number_of : List SectionHeader → Part → Option ℕ
number_of sections (part.Section k) = Some k
number_of sections part.Symbols = first_of sht_symtab sections
number_of sections part.DynamicSymbols = first_of sht_dynsym sections
number_of sections part.Versions = first_of sht_gnu_versym sections
number_of sections part.Dynamic = first_of sht_dynamic sections
number_of sections other = None

-- the name of a section; a name that is not known is empty
abbrev pub label_name : Option (List ℕ) → SectionHeader → List ℕ
label_name None s = []
label_name (Some names) s = unwrap_or (result_ok (string_at names s.sh_name)) []

-- the number and the name of section k, if there is one
abbrev pub label_at : Named → Option ℕ → Option (ℕ × List ℕ)
label_at named None = None
label_at named (Some k) = option_map (λ s. (k, label_name named.names s)) (slice_get named.sections k)

-- the name of a section; empty if there is none
abbrev pub section_name : Option (ℕ × List ℕ) → List ℕ
section_name (Some label) = label.1
section_name None = []

-- of the section that a part is in
abbrev pub label_of : Named → Part → Option (ℕ × List ℕ)
label_of named part = label_at named (number_of named.sections part)

abbrev pub label_seen : Option (ℕ × Bor (List ℕ)) → Option (ℕ × List ℕ)
label_seen label = option_map (λ l. (l.0, l.1.now)) label
