-- The lists of version records: the entries of a section, each with its auxiliary entries. A need is an entry whose
-- auxiliary entries are the versions that are needed, a definition one whose auxiliary entries are its names.
use Rattle.std.specs.Prelude.{ℕ, ◌+◌, Bool, List, map, Result}
use Rattle.elf_records.specs.Record.{record_by}
use Rattle.elf_records.specs.Table.{Table}
use Rattle.elf_parts.specs.gnu_symver.Links.{links_in, links_left, links_view, records_of}
use Rattle.elf_parts.specs.gnu_symver.Records.{ver_def_aux_layout, ver_def_layout, ver_need_aux_layout, ver_need_layout}
use Rattle.elf_records.specs.declared.file.Class.{Class}
use Rattle.elf_parts.specs.declared.gnu_symver.lists.AuxIterator.{AuxIterator}
use Rattle.elf_parts.specs.declared.gnu_symver.links.Links.{Links}
use Rattle.elf_parts.specs.declared.gnu_symver.lists.EntryIterator.{EntryIterator}
use Rattle.elf_parts.specs.declared.gnu_symver.records.VerDef.{VerDef}
use Rattle.elf_parts.specs.declared.gnu_symver.records.VerDefAux.{VerDefAux}
use Rattle.elf_parts.specs.declared.gnu_symver.records.VerNeed.{VerNeed}
use Rattle.elf_parts.specs.declared.gnu_symver.records.VerNeedAux.{VerNeedAux}
use Rattle.elf_records.specs.declared.parse.ParseError.{ParseError}

-- ---- auxiliary entries, by the entry at an offset and the distance to the next one

module _ {A : Type 0} (record_at : Bool → Class → List ℕ → ℕ → Result A ParseError) (distance : A → ℕ) where
  -- the auxiliary entries from `start` on
  abbrev pub aux_records : Table → ℕ → ℕ → List A
  aux_records t count start = records_of (links_in record_at distance t count start)

  -- an entry with its auxiliary entries: it gives their number, and the distance from its own start to the first
  abbrev pub with_aux_records : {V : Type 0} → (V → ℕ) → (V → ℕ) → Table → ℕ × V → V × List A
  with_aux_records count aux t link = (link.1, aux_records t (count link.1) (link.0 + aux link.1))

  -- those that an iterator has left to yield
  abbrev pub aux_left : {E : Type 0} → AuxIterator E A → List A
  aux_left s = records_of (links_left record_at distance s.links)

  -- an entry with the links to its auxiliary entries, these taken as the list that they give
  abbrev pub links_entry : {E V : Type 0} → V × Links E A → V × List A
  links_entry item = (item.0, records_of (links_left record_at distance item.1))

  -- an item of the entries, its iterator taken as the list that it gives
  abbrev pub entry_view : {E V : Type 0} → V × AuxIterator E A → V × List A
  entry_view item = (item.0, aux_left item.1)

-- the bytes that an iterator over auxiliary entries reads
abbrev pub aux_view : {E A : Type 0} → AuxIterator E A → Table
aux_view s = links_view s.links

-- ---- entries, by the entry at an offset, the distance to the next one, and the entry with its auxiliary entries

module _ {V A : Type 0} (record_at : Bool → Class → List ℕ → ℕ → Result V ParseError) (distance : V → ℕ)
    (with_aux : Table → ℕ × V → V × List A) where
  -- the entries from `start` on, each with its auxiliary entries
  abbrev pub entries_in : Table → ℕ → ℕ → List (V × List A)
  entries_in t count start = map (with_aux t) (links_in record_at distance t count start)

  -- those that an iterator has left to yield
  abbrev pub entries_left : {E : Type 0} → EntryIterator E V A → List (V × List A)
  entries_left s = map (with_aux (links_view s.links)) (links_left record_at distance s.links)

-- ---- needs

-- the versions that are needed of one file; the first begins at `start`
abbrev pub ver_need_aux_records : Table → ℕ → ℕ → List VerNeedAux
ver_need_aux_records t count start = aux_records (record_by ver_need_aux_layout) (λ x. x.vna_next) t count start

-- a need with its versions
abbrev pub ver_need_with_aux : Table → ℕ × VerNeed → VerNeed × List VerNeedAux
ver_need_with_aux =
    with_aux_records (record_by ver_need_aux_layout) (λ x. x.vna_next) (λ x. x.vn_cnt) (λ x. x.vn_aux)

-- the needs, each with its versions
abbrev pub ver_needs : Table → ℕ → ℕ → List (VerNeed × List VerNeedAux)
ver_needs t count start = entries_in (record_by ver_need_layout) (λ x. x.vn_next) ver_need_with_aux t count start

-- what is left of an iterator over the versions of one file, and of one over the needs
abbrev pub ver_need_aux_left : {E : Type 0} → AuxIterator E VerNeedAux → List VerNeedAux
ver_need_aux_left s = aux_left (record_by ver_need_aux_layout) (λ x. x.vna_next) s

abbrev pub ver_needs_left : {E : Type 0} → EntryIterator E VerNeed VerNeedAux → List (VerNeed × List VerNeedAux)
ver_needs_left s = entries_left (record_by ver_need_layout) (λ x. x.vn_next) ver_need_with_aux s

-- ---- definitions

-- the names of one version; the first begins at `start`
abbrev pub ver_def_aux_records : Table → ℕ → ℕ → List VerDefAux
ver_def_aux_records t count start = aux_records (record_by ver_def_aux_layout) (λ x. x.vda_next) t count start

-- a definition with its names
abbrev pub ver_def_with_aux : Table → ℕ × VerDef → VerDef × List VerDefAux
ver_def_with_aux =
    with_aux_records (record_by ver_def_aux_layout) (λ x. x.vda_next) (λ x. x.vd_cnt) (λ x. x.vd_aux)

-- the definitions, each with its names
abbrev pub ver_defs : Table → ℕ → ℕ → List (VerDef × List VerDefAux)
ver_defs t count start = entries_in (record_by ver_def_layout) (λ x. x.vd_next) ver_def_with_aux t count start

-- what is left of an iterator over the names of one version, and of one over the definitions
abbrev pub ver_def_aux_left : {E : Type 0} → AuxIterator E VerDefAux → List VerDefAux
ver_def_aux_left s = aux_left (record_by ver_def_aux_layout) (λ x. x.vda_next) s

abbrev pub ver_defs_left : {E : Type 0} → EntryIterator E VerDef VerDefAux → List (VerDef × List VerDefAux)
ver_defs_left s = entries_left (record_by ver_def_layout) (λ x. x.vd_next) ver_def_with_aux s

-- an item of the definitions, its iterator taken as the list that it gives
abbrev pub ver_def_view : {E : Type 0} → VerDef × AuxIterator E VerDefAux → VerDef × List VerDefAux
ver_def_view item = entry_view (record_by ver_def_aux_layout) (λ x. x.vda_next) item
