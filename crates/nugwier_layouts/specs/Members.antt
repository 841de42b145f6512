-- The members of records, and what the code has, as members.
use Rattle.std.specs.Prelude.{ℕ, ℤ, Bool, List, Option, Some, None, map}
use Rattle.std.specs.Borrow.{Bor}
use Rattle.std.specs.Option.{option_copied}
use Rattle.elf_names.specs.Flags.{Flag, flags_of}
use Rattle.nugwier_layouts.specs.declared.json.Value.{Value}
use Rattle.nugwier_layouts.specs.declared.json.Value.TheVariants as value

-- the value of a member
pub data Content : Type 0 where
  nothing : Content
  flag : Bool → Content
  number : ℕ → Content
  signed : ℤ → Content
  word : Option (List ℕ) → Content
  character : Option ℕ → Content
  text : Option (List ℕ) → Content
  bytes : List ℕ → Content
  flags : List Flag → ℕ → Content

-- the members of a record, each with its key
abbrev pub Members : Type 0
Members = List (List ℕ × Content)

-- a number, if it is known
abbrev pub number_content : Option ℕ → Content
number_content (Some n) = number n
number_content None = nothing

-- ---- what the code has

abbrev pub content_of : Value → Content
content_of value.Null = nothing
content_of (value.Flag b) = flag b
content_of (value.Number n) = number n
content_of (value.Signed n) = signed n
content_of (value.Word w) = word (option_copied w)
content_of (value.Character c) = character c
content_of (value.Text t) = text (option_copied t)
content_of (value.Bytes b) = bytes b.now
content_of (value.Flags table n) = flags (flags_of table.now) n

abbrev pub member_said : Bor (List ℕ) × Value → List ℕ × Content
member_said m = (m.0.now, content_of m.1)

abbrev pub members_said : List (Bor (List ℕ) × Value) → Members
members_said ms = map member_said ms
