-- When the needs and the definitions of versions are sound (GNU symbol versioning).
use Rattle.std.specs.Prelude.{ℕ, ◌+◌, ◌*◌, ◌<◌, ◌≤◌, Bool, List, length, IsTrue, Result}
use Rattle.std.specs.Str.{is_utf8}
use Rattle.std.specs.Result.{IsOkAnd}
use Rattle.elf_records.specs.Record.{record_by}
use Rattle.elf_records.specs.StringTable.{string_at}
use Rattle.elf_records.specs.declared.file.Class.{Class}
use Rattle.elf_records.specs.declared.parse.ParseError.{ParseError}
use Rattle.elf_records.specs.Table.{Table}
use Rattle.elf_parts.specs.gnu_symver.Links.{links_in}
use Rattle.elf_parts.specs.gnu_symver.Records.{ver_def_aux_layout, ver_def_layout, ver_need_aux_layout, ver_need_layout}
use Rattle.elf_parts.specs.declared.gnu_symver.records.VerDef.{VerDef}
use Rattle.elf_parts.specs.declared.gnu_symver.records.VerDefAux.{VerDefAux}
use Rattle.elf_parts.specs.declared.gnu_symver.records.VerNeed.{VerNeed}
use Rattle.elf_parts.specs.declared.gnu_symver.records.VerNeedAux.{VerNeedAux}
use Rattle.elf_check.specs.Chains.{SoundChain, total_extent}

-- a string that can be read, and is text
abbrev pub IsText : Result (List ℕ) ParseError → Type 0
IsText raw = IsOkAnd raw (λ bytes. IsTrue (is_utf8 bytes))

-- the string at an offset
abbrev pub IsTextAt : List ℕ → ℕ → Type 0
IsTextAt strings o = IsText (string_at strings o)

-- ---- entries: needs, or definitions

-- the entries of some bytes
abbrev pub entry_links :
    {V : Type 0} → (Bool → Class → List ℕ → ℕ → Result V ParseError) → (V → ℕ) → Table → ℕ → List (ℕ × V)
entry_links record_at distance t count = links_in record_at distance t count 0

module _ {V : Type 0} (record_at : Bool → Class → List ℕ → ℕ → Result V ParseError) (distance extent : V → ℕ)
    (IsSound : List ℕ → Table → ℕ × V → Type 0) where
  -- There are exactly as many entries as the section declares, each sound, and their auxiliary records do not take more
  -- bytes than there are. So a check of them all is linear. A few may lie in the same bytes, as linkers write it.
  pub record SoundEntries (strings : List ℕ) (t : Table) (count : ℕ) : Type 0 where
    pub fit : total_extent extent (entry_links record_at distance t count) ≤ length t.bytes
    pub chain : SoundChain distance (IsSound strings t) count (entry_links record_at distance t count)

-- ---- needs

abbrev pub SoundNeedAux : List ℕ → Table → ℕ × VerNeedAux → Type 0
SoundNeedAux strings t link = IsTextAt strings link.1.vna_name

-- the versions of a need
abbrev pub need_aux_links : Table → ℕ × VerNeed → List (ℕ × VerNeedAux)
need_aux_links t link =
    links_in (record_by ver_need_aux_layout) (λ x. x.vna_next) t link.1.vn_cnt (link.0 + link.1.vn_aux)

-- the name of the file is text, there are exactly as many versions as it says, and the name of each is text
pub record SoundNeed (strings : List ℕ) (t : Table) (link : ℕ × VerNeed) : Type 0 where
  pub file : IsTextAt strings link.1.vn_file
  pub versions : SoundChain (λ x. x.vna_next) (SoundNeedAux strings t) link.1.vn_cnt (need_aux_links t link)

-- the needs of some bytes
abbrev pub need_links : Table → ℕ → List (ℕ × VerNeed)
need_links = entry_links (record_by ver_need_layout) (λ x. x.vn_next)

-- how many bytes the versions of a need take
abbrev pub need_extent : VerNeed → ℕ
need_extent need = need.vn_cnt * 16

abbrev pub SoundNeeds : List ℕ → Table → ℕ → Type 0
SoundNeeds = SoundEntries (record_by ver_need_layout) (λ x. x.vn_next) need_extent SoundNeed

-- ---- definitions

abbrev pub SoundDefAux : List ℕ → Table → ℕ × VerDefAux → Type 0
SoundDefAux strings t link = IsTextAt strings link.1.vda_name

abbrev pub def_aux_links : Table → ℕ × VerDef → List (ℕ × VerDefAux)
def_aux_links t link =
    links_in (record_by ver_def_aux_layout) (λ x. x.vda_next) t link.1.vd_cnt (link.0 + link.1.vd_aux)

-- there is a name, there are exactly as many names as it says, and each is text
pub record SoundDef (strings : List ℕ) (t : Table) (link : ℕ × VerDef) : Type 0 where
  pub some : 0 < link.1.vd_cnt
  pub names : SoundChain (λ x. x.vda_next) (SoundDefAux strings t) link.1.vd_cnt (def_aux_links t link)

abbrev pub def_links : Table → ℕ → List (ℕ × VerDef)
def_links = entry_links (record_by ver_def_layout) (λ x. x.vd_next)

-- how many bytes the names of a definition take
abbrev pub def_extent : VerDef → ℕ
def_extent definition = definition.vd_cnt * 8

abbrev pub SoundDefs : List ℕ → Table → ℕ → Type 0
SoundDefs = SoundEntries (record_by ver_def_layout) (λ x. x.vd_next) def_extent SoundDef
