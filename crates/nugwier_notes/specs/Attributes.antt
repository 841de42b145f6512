-- What is said of build attributes.
use Rattle.std.specs.Prelude.{ℕ, ◌==◌, ◌||◌, Bool, true, false, if◌then◌else◌, List, [], ◌∷◌, ◌++◌, codes, Option, Some}
use Rattle.std.specs.Prelude.{None, Result, Ok, Err}
use Rattle.std.specs.Option.{is_some, option_and_then}
use Rattle.elf_attributes.specs.Attributes.{AttributeView, SubsectionView, first_attribute, first_scope, first_subsection}
use Rattle.elf_attributes.specs.Attributes.{error_text, subsections_of, vendor_of}
use Rattle.elf_attributes.specs.Leb128.{after_list, first_number}
use Rattle.elf_attributes.specs.declared.attributes.AttributeError.{AttributeError}
use Rattle.elf_attributes.specs.declared.attributes.Vendor.{Vendor}
use Rattle.elf_names.specs.Attributes.{attribute_tag_name, attribute_value_name, scope_name}
use Rattle.nugwier_layouts.specs.Members.{number_content}
use Rattle.nugwier_layouts.specs.Members.{Content, Members, bytes as bytes_content, nothing, number, text}
use Rattle.nugwier_report.specs.Said.{Said, states, whole}
use Rattle.nugwier_layouts.specs.Members.{word}
use Rattle.nugwier_report.specs.Said.{warns}
use Rattle.nugwier_notes.specs.declared.attributes.AttributePlace.{AttributePlace}
use Rattle.nugwier_report.specs.declared.problem.Part.TheVariants.{Section}
use Rattle.nugwier_notes.specs.declared.properties.NoteFile.{NoteFile}
use Rattle.nugwier_layouts.specs.Layouts.{Layout, constant}
use Rattle.nugwier_layouts.specs.declared.layouts.TheConstants as layout

-- where attributes are: the machine of the file, their section, the name of their vendor, and what they are of
pub record PlaceView : Type 0 where
  pub machine : ℕ
  pub section : ℕ
  pub vendor : List ℕ
  pub scope : ℕ

abbrev pub place_view : AttributePlace → PlaceView
place_view p = record { machine = p.machine; section = p.section; vendor = p.vendor.now; scope = p.scope }

abbrev pub of_scope : NoteFile → ℕ → List ℕ → ℕ → PlaceView
of_scope file k vendor scope = record { machine = file.machine; section = k; vendor = vendor; scope = scope }

abbrev pub attributes_wrong : ℕ → AttributeError → List Said
attributes_wrong k e = warns (whole (Section k)) (Some (error_text e)) ∷ []

-- ---- an attribute

abbrev pub text_content : Option (List ℕ) → Content
text_content (Some t) = text (Some t)
text_content None = nothing

abbrev pub number_name : List ℕ → ℕ → Option ℕ → Option (List ℕ)
number_name vendor tag n = option_and_then (λ value. attribute_value_name vendor tag value) n

-- members that say what attributes are of
abbrev pub scope_members : PlaceView → Members
scope_members p =
    (codes "section", number p.section)
    ∷ (codes "vendor", text (Some p.vendor))
    ∷ (codes "scope", number p.scope)
    ∷ (codes "scope_name", word (scope_name p.scope))
    ∷ []

abbrev pub attribute_members : PlaceView → AttributeView → Members
attribute_members p a =
    scope_members p
    ++ (codes "tag", number a.tag)
    ∷ (codes "tag_name", word (attribute_tag_name p.vendor p.machine a.tag))
    ∷ (codes "number", number_content a.number)
    ∷ (codes "number_name", word (number_name p.vendor a.tag a.number))
    ∷ (codes "text", text_content a.text)
    ∷ []

-- by whether it has a number, a name of this number, and a text
abbrev pub attribute_layout : Bool → Bool → Bool → Layout
attribute_layout true has_name true = constant layout.PAIR_ATTRIBUTE
attribute_layout false has_name has_text = constant layout.TEXT_ATTRIBUTE
attribute_layout true true false = constant layout.NAMED_ATTRIBUTE
attribute_layout true false false = constant layout.NUMBER_ATTRIBUTE

abbrev pub attribute_said : PlaceView → AttributeView → List Said
attribute_said p a =
    states (attribute_layout (is_some a.number) (is_some (number_name p.vendor a.tag a.number)) (is_some a.text))
    (attribute_members p a) ∷ []

-- each, up to one that does not fit, and no more than the first list has bytes
abbrev pub attributes_said : PlaceView → Vendor → List ℕ → List ℕ → List Said
attributes_said p vendor [] rest = []
attributes_said p vendor (byte ∷ bytes) [] = []
attributes_said p vendor (byte ∷ bytes) (first ∷ rest) = elim (first_attribute vendor (first ∷ rest)) [
  | Ok found ↦ attribute_said p found.0 ++ attributes_said p vendor bytes found.1
  | Err e ↦ attributes_wrong p.section e
]

-- ---- what attributes are of

abbrev pub target_members : PlaceView → ℕ → Members
target_members p n = scope_members p ++ (codes "number", number n) ∷ []

-- each number before a number 0, and no more than the first list has bytes
abbrev pub targets_said : PlaceView → List ℕ → List ℕ → List Said
targets_said p [] rest = []
targets_said p (byte ∷ bytes) rest = elim (first_number rest) [
  | Ok found ↦ if found.0 == 0 then []
      else states (constant layout.ATTRIBUTE_TARGET) (target_members p found.0) ∷ targets_said p bytes found.1
  | Err e ↦ []
]

-- the attributes after the numbers, if these end
abbrev pub listed_said : PlaceView → Vendor → Result (List ℕ) AttributeError → List Said
listed_said p vendor (Ok bytes) = attributes_said p vendor bytes bytes
listed_said p vendor (Err e) = attributes_wrong p.section e

-- after Tag_Section (2) and Tag_Symbol (3) there are numbers of sections and of symbols; under a tag that is neither of
-- these nor Tag_File (1) the attributes are not known
abbrev pub scope_said : PlaceView → Vendor → List ℕ → List Said
scope_said p vendor bytes =
    states (constant layout.ATTRIBUTE_SCOPE) (scope_members p)
    ∷ (if p.scope == 2 || p.scope == 3 then targets_said p bytes bytes ++ listed_said p vendor (after_list bytes bytes)
    else if p.scope == 1 then attributes_said p vendor bytes bytes
    else [])

abbrev pub scopes_said : NoteFile → ℕ → List ℕ → Vendor → List ℕ → List ℕ → List Said
scopes_said file k name vendor [] rest = []
scopes_said file k name vendor (byte ∷ bytes) [] = []
scopes_said file k name vendor (byte ∷ bytes) (first ∷ rest) = elim (first_scope file.is_little (first ∷ rest)) [
  | Ok found ↦ scope_said (of_scope file k name found.0.tag) vendor found.0.content
      ++ scopes_said file k name vendor bytes found.1
  | Err e ↦ attributes_wrong k e
]

-- ---- a subsection

-- of a vendor whose attributes have a known form, or as its bytes
abbrev pub subsection_said : NoteFile → ℕ → SubsectionView → List Said
subsection_said file k s = elim (vendor_of s.vendor) [
  | Some vendor ↦ scopes_said file k s.vendor vendor s.content s.content
  | None ↦ states (constant layout.VENDOR_ATTRIBUTES) ((codes "section", number k) ∷ (codes "vendor", text (Some s.vendor))
      ∷ (codes "content", bytes_content s.content) ∷ []) ∷ []
]

abbrev pub subsections_said : NoteFile → ℕ → List ℕ → List ℕ → List Said
subsections_said file k [] rest = []
subsections_said file k (byte ∷ bytes) [] = []
subsections_said file k (byte ∷ bytes) (first ∷ rest) = elim (first_subsection file.is_little (first ∷ rest)) [
  | Ok found ↦ subsection_said file k found.0 ++ subsections_said file k bytes found.1
  | Err e ↦ attributes_wrong k e
]

-- ---- a section

abbrev pub build_attributes_said : ℕ → NoteFile × List ℕ → List Said
build_attributes_said k attributes = elim (subsections_of attributes.1) [
  | Ok bytes ↦ subsections_said attributes.0 k bytes bytes
  | Err e ↦ attributes_wrong k e
]
