-- What is said of section groups (gABI, chapter "Sections", "Section Groups").
use Rattle.std.specs.Prelude.{ℕ, ◌==◌, ◌&&◌, not, nat_lt, Bool, if◌then◌else◌, List, [], ◌∷◌, ◌++◌, Option, Some}
use Rattle.std.specs.Prelude.{Result, codes, length}
use Rattle.std.specs.Result.{result_ok}
use Rattle.elf_names.specs.Flags.{Flag, flags as flags_in}
use Rattle.elf_records.specs.Number.{ok_map}
use Rattle.elf_records.specs.Table.{items_left}
use Rattle.elf_records.specs.Word.{u32_reads}
use Rattle.elf_records.specs.declared.parse.ParseError.{ParseError}
use Rattle.nugwier_report.specs.Labels.{Named, label_at, section_name}
use Rattle.nugwier_layouts.specs.Members.{Members, flags, number, text}
use Rattle.nugwier_report.specs.Said.{Said, numbered, states, unread, wrong}
use Rattle.nugwier_symbols.specs.declared.group_rows.Group.{Group}
use Rattle.nugwier_symbols.specs.declared.group_rows.TheConstants as names
use Rattle.nugwier_report.specs.declared.problem.Fault.TheVariants.{Missing}
use Rattle.nugwier_report.specs.declared.problem.Item.TheVariants.{Member, Signature}
use Rattle.nugwier_report.specs.declared.problem.Part.TheVariants.{Section}
use Rattle.nugwier_layouts.specs.Layouts.{constant}
use Rattle.nugwier_layouts.specs.declared.layouts.TheConstants as layout

-- a group: its flag word, the numbers of its members, and its signature, the name of a symbol
pub record GroupView : Type 0 where
  pub flags : ℕ
  pub members : List ℕ
  pub signature : Result (List ℕ) ParseError

abbrev pub group_view : {E : Type 0} → Group E → GroupView
group_view group = record {
  flags = group.flags;
  members = items_left u32_reads group.members;
  signature = ok_map (λ name. name.now) group.signature;
}

unfoldable pub group_flags : List Flag
group_flags = flags_in names.GROUP.now

-- the name of section k
abbrev pub name_at : Named → ℕ → List ℕ
name_at named k = section_name (label_at named (Some k))

-- the group of section k, with its signature, if that can be read
abbrev pub group_members : Named → ℕ → ℕ → Option (List ℕ) → Members
group_members named k flag_word signature =
    (codes "section", number k)
    ∷ (codes "name", text (Some (name_at named k)))
    ∷ (codes "flags", number flag_word)
    ∷ (codes "flags_names", flags group_flags flag_word)
    ∷ (codes "signature", text signature)
    ∷ []

-- member i of the group of section k, which is section n
abbrev pub member_members : Named → ℕ → ℕ → ℕ → Members
member_members named k i n =
    (codes "section", number k)
    ∷ (codes "index", number i)
    ∷ (codes "member", number n)
    ∷ (codes "name", text (Some (name_at named n)))
    ∷ []

-- section 0 is none
abbrev pub is_section : Named → ℕ → Bool
is_section named n = not (n == 0) && nat_lt n (length named.sections)

-- a member, or that there is no such section
abbrev pub member_said : Named → ℕ → ℕ → ℕ → List Said
member_said named k i n =
    if is_section named n then states (constant layout.GROUP_MEMBER) (member_members named k i n) ∷ []
    else wrong (record { part = Section k; item = Member n }) Missing ∷ []

-- that the signature cannot be read, then the group, and each member
abbrev pub group_said : Named → ℕ → GroupView → List Said
group_said named k group =
    unread (record { part = Section k; item = Signature }) group.signature
    ++ (states (constant layout.GROUP) (group_members named k group.flags (result_ok group.signature))
    ∷ numbered (member_said named k) 0 group.members)
