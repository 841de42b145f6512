-- The parts of a section of build attributes (Addenda to, and Errata in, the ABI for the Arm Architecture, chapter "Build
-- Attributes"; RISC-V ELF psABI, section "Attributes"; GNU as, section "Object Attributes").
use Rattle.std.specs.Prelude.{ℕ, ◌+◌, ◌-◌, ◌%◌, ◌==◌, ◌||◌, ◌&&◌, nat_le, nat_lt, Bool, false, if◌then◌else◌}
use Rattle.std.specs.Prelude.{List, [], ◌∷◌, ◌++◌, codes, drop, length, take, Option, Some, None, Result, Ok, Err}
use Rattle.std.specs.Fmt.{decimal, digits}
use Rattle.std.specs.Option.{option_copied}
use Rattle.std.specs.Str.{bytes_eq}
use Rattle.elf_records.specs.Number.{number_at}
use Rattle.elf_records.specs.Record.{◌>>=◌}
use Rattle.elf_records.specs.declared.parse.ParseError.{ParseError}
use Rattle.elf_attributes.specs.Leb128.{first_number, first_text}
use Rattle.elf_attributes.specs.declared.attributes.Attribute.{Attribute}
use Rattle.elf_attributes.specs.declared.attributes.AttributeError.{AttributeError}
use Rattle.elf_attributes.specs.declared.attributes.AttributeError.TheVariants.{EndlessNumber, EndlessText, Format}
use Rattle.elf_attributes.specs.declared.attributes.AttributeError.TheVariants.{LargeNumber, Length, NoLength}
use Rattle.elf_attributes.specs.declared.attributes.Form.{Form}
use Rattle.elf_attributes.specs.declared.attributes.Form.TheVariants.{Both, Number, Text}
use Rattle.elf_attributes.specs.declared.attributes.Scope.{Scope}
use Rattle.elf_attributes.specs.declared.attributes.Subsection.{Subsection}
use Rattle.elf_attributes.specs.declared.attributes.Vendor.{Vendor}
use Rattle.elf_attributes.specs.declared.attributes.Vendor.TheVariants.{Arm, Gnu, Riscv}

-- the section begins with its format, 'A'
abbrev pub subsections_of : List ℕ → Result (List ℕ) AttributeError
subsections_of [] = Err (Format None)
subsections_of (format ∷ rest) = if format == 65 then Ok rest else Err (Format (Some format))

-- ---- lengths: four bytes, in the byte order of the file

abbrev pub length_read : Result ℕ ParseError → Result ℕ AttributeError
length_read (Ok n) = Ok n
length_read (Err e) = Err NoLength

abbrev pub length_at : Bool → List ℕ → Result ℕ AttributeError
length_at little bytes = length_read (number_at little 4 bytes 0)

-- a part of this length: what it has after its head, and the bytes after it
abbrev pub part_of : ℕ → ℕ → List ℕ → Result (List ℕ × List ℕ) AttributeError
part_of head size bytes =
    if nat_le head size && nat_le size (length bytes) then Ok (drop head (take size bytes), drop size bytes)
    else Err (Length size)

-- ---- a subsection: its length, the name of its vendor, and its content

pub record SubsectionView : Type 0 where
  pub vendor : List ℕ
  pub content : List ℕ

abbrev pub subsection_view : Subsection → SubsectionView
subsection_view s = record { vendor = s.vendor.now; content = s.content.now }

abbrev pub first_subsection : Bool → List ℕ → Result (SubsectionView × List ℕ) AttributeError
first_subsection little bytes =
    length_at little bytes >>= λ size. part_of 4 size bytes >>= λ part. first_text part.0 >>= λ named.
    Ok (record { vendor = named.0; content = named.1 }, part.1)

abbrev pub vendor_of : List ℕ → Option Vendor
vendor_of name =
    if bytes_eq name (codes "aeabi") then Some Arm
    else if bytes_eq name (codes "riscv") then Some Riscv
    else if bytes_eq name (codes "gnu") then Some Gnu
    else None

-- ---- the attributes of one thing: a tag, the length from the tag on, and the content

pub record ScopeView : Type 0 where
  pub tag : ℕ
  pub content : List ℕ

abbrev pub scope_view : Scope → ScopeView
scope_view s = record { tag = s.tag; content = s.content.now }

abbrev pub first_scope : Bool → List ℕ → Result (ScopeView × List ℕ) AttributeError
first_scope little bytes =
    first_number bytes >>= λ tag. length_at little tag.1 >>= λ size.
    part_of (length bytes - length tag.1 + 4) size bytes >>= λ part.
    Ok (record { tag = tag.0; content = part.0 }, part.1)

-- ---- an attribute: a tag, and a value whose form the tag gives

abbrev pub by_parity : ℕ → Form
by_parity tag = if tag % 2 == 1 then Text else Number

-- Tag_CPU_raw_name and Tag_CPU_name of Arm are texts, all others below 32 numbers; Tag_compatibility, 32, of Arm and of GNU
-- is a number and a text
abbrev pub form_of : Vendor → ℕ → Form
form_of Arm tag =
    if tag == 32 then Both
    else if tag == 4 || tag == 5 then Text
    else if nat_lt tag 32 then Number
    else by_parity tag
form_of Gnu tag = if tag == 32 then Both else by_parity tag
form_of Riscv tag = by_parity tag

pub record AttributeView : Type 0 where
  pub tag : ℕ
  pub number : Option ℕ
  pub text : Option (List ℕ)

abbrev pub attribute_view : Attribute → AttributeView
attribute_view a = record { tag = a.tag; number = a.number; text = option_copied a.text }

abbrev pub Found : Type 0
Found = Result (AttributeView × List ℕ) AttributeError

abbrev pub number_attribute : ℕ → List ℕ → Found
number_attribute tag bytes =
    first_number bytes >>= λ found. Ok (record { tag = tag; number = Some found.0; text = None }, found.1)

abbrev pub text_attribute : ℕ → Option ℕ → List ℕ → Found
text_attribute tag n bytes =
    first_text bytes >>= λ found. Ok (record { tag = tag; number = n; text = Some found.0 }, found.1)

abbrev pub pair_attribute : ℕ → List ℕ → Found
pair_attribute tag bytes = first_number bytes >>= λ found. text_attribute tag (Some found.0) found.1

abbrev pub value_of : ℕ → Form → List ℕ → Found
value_of tag Number bytes = number_attribute tag bytes
value_of tag Text bytes = text_attribute tag None bytes
value_of tag Both bytes = pair_attribute tag bytes

abbrev pub first_attribute : Vendor → List ℕ → Found
first_attribute vendor bytes = first_number bytes >>= λ tag. value_of tag.0 (form_of vendor tag.0) tag.1

-- ---- the texts of the errors

abbrev pub error_text : AttributeError → List ℕ
error_text (Format (Some format)) = codes "build attributes of unknown format 0x" ++ digits 16 false format
error_text (Format None) = codes "build attributes without a format"
error_text NoLength = codes "no room for a length of build attributes"
error_text (Length n) = codes "a length of build attributes, " ++ (decimal n ++ codes ", does not fit")
error_text EndlessNumber = codes "a number of build attributes does not end"
error_text LargeNumber = codes "a number of build attributes has more than 64 bits"
error_text EndlessText = codes "a text of build attributes does not end"
