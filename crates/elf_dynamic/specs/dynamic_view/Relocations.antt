-- The relocations (gABI, chapter "Dynamic Section").
use Rattle.std.specs.Prelude.{ℕ, ◌+◌, ℤ, pos, max, Bool, if◌then◌else◌, List, [], ◌∷◌, map, Option, Some, None}
use Rattle.std.specs.Prelude.{Result, Ok, Err}
use Rattle.std.specs.Option.{option_map}
use Rattle.std.specs.Ordering.{int_eq}
use Rattle.elf_abi.specs.Values.{dt_jmprel, dt_pltrel, dt_pltrelsz, dt_rel, dt_rela, dt_relaent, dt_relasz, dt_relent}
use Rattle.elf_abi.specs.Values.{dt_relr, dt_relrent, dt_relrsz, dt_relsz}
use Rattle.elf_records.specs.Class.{address_size}
use Rattle.elf_records.specs.Number.{ok_map}
use Rattle.elf_records.specs.Record.{◌>>=◌, size_by}
use Rattle.elf_records.specs.Relocation.{fields_of_rel, fields_of_rela, rel_layout, rel_reads, rela_layout, rela_reads}
use Rattle.elf_records.specs.declared.dynamic.Dyn.{Dyn}
use Rattle.elf_records.specs.declared.relocation.Rel.{Rel}
use Rattle.elf_records.specs.declared.relocation.Rela.{Rela}
use Rattle.elf_records.specs.declared.relocation.RelocationFields.{RelocationFields}
use Rattle.elf.specs.Answers.{rels_left, relas_left}
use Rattle.elf.specs.Headers.{if_found}
use Rattle.elf.specs.ObjectFile.{Extent, FileOf, records_of}
use Rattle.elf_dynamic.specs.declared.dynamic_view.error.DynamicError.{DynamicError}
use Rattle.elf_dynamic.specs.declared.dynamic_view.error.DynamicError.TheVariants.{UnknownKind}
use Rattle.elf_dynamic.specs.declared.dynamic_view.relocations.PltRelocations.{PltRelocations}
use Rattle.elf_dynamic.specs.declared.dynamic_view.relocations.PltRelocations.TheVariants.{Rel as OfRel, Rela as OfRela}
use Rattle.elf_dynamic.specs.dynamic_view.Entries.{entry_size, required, value_of}
use Rattle.elf_dynamic.specs.dynamic_view.Segments.{bytes_of}

-- ---- a table whose entries say its address, its size, and the size of a record of it

-- the bytes of the table at an address
abbrev pub table_at : {x : Extent} → FileOf x → ℤ → ℤ → ℕ → List Dyn → ℕ → Result (List ℕ) DynamicError
table_at file size_tag entry_tag size entries address =
    required size_tag entries >>= λ total. entry_size entry_tag size entries >>= λ _. bytes_of file address total

-- the same, if an entry gives its address
abbrev pub table_bytes : {x : Extent} → FileOf x → ℤ → ℤ → ℤ → ℕ → List Dyn → Result (Option (List ℕ)) DynamicError
table_bytes file address_tag size_tag entry_tag size entries =
    if_found (table_at file size_tag entry_tag size entries) (value_of address_tag entries)

-- without an addend
abbrev pub rels : {x : Extent} → FileOf x → List Dyn → Result (Option (List Rel)) DynamicError
rels file entries =
    ok_map (option_map (records_of rel_reads file))
    (table_bytes file dt_rel dt_relsz dt_relent (size_by rel_layout file.class) entries)

-- with an addend
abbrev pub relas : {x : Extent} → FileOf x → List Dyn → Result (Option (List Rela)) DynamicError
relas file entries =
    ok_map (option_map (records_of rela_reads file))
    (table_bytes file dt_rela dt_relasz dt_relaent (size_by rela_layout file.class) entries)

-- the bytes of the packed relative ones, whose words have the size of an address
abbrev pub relr_bytes : {x : Extent} → FileOf x → List Dyn → Result (Option (List ℕ)) DynamicError
relr_bytes file entries = table_bytes file dt_relr dt_relrsz dt_relrent (address_size file.class) entries

-- ---- those of the procedure linkage table, which are of either kind

pub data PltList : Type 0 where
  Rels : List Rel → PltList
  Relas : List Rela → PltList

-- whether DT_PLTREL gives this tag
abbrev pub is_kind : ℤ → ℕ → Bool
is_kind tag kind = int_eq (pos kind) tag

-- those at an address, which are of the kind that DT_PLTREL gives
abbrev pub plt_of : {x : Extent} → FileOf x → ℕ → ℕ → ℕ → Result PltList DynamicError
plt_of file kind address size =
    if is_kind dt_rel kind then ok_map (λ bytes. Rels (records_of rel_reads file bytes)) (bytes_of file address size)
    else if is_kind dt_rela kind
    then ok_map (λ bytes. Relas (records_of rela_reads file bytes)) (bytes_of file address size)
    else Err (UnknownKind kind)

abbrev pub plt_at : {x : Extent} → FileOf x → List Dyn → ℕ → Result PltList DynamicError
plt_at file entries address =
    required dt_pltrelsz entries >>= λ size. required dt_pltrel entries >>= λ kind. plt_of file kind address size

abbrev pub plt_relocations : {x : Extent} → FileOf x → List Dyn → Result (Option PltList) DynamicError
plt_relocations file entries = if_found (plt_at file entries) (value_of dt_jmprel entries)

-- those that an iterator has left to yield
abbrev pub plt_left : {E : Type 0} → PltRelocations E → PltList
plt_left (OfRel rels) = Rels (rels_left rels)
plt_left (OfRela relas) = Relas (relas_left relas)

-- ---- all of them, each by the index of its symbol and its type

abbrev pub parts_of : RelocationFields → ℕ × ℕ
parts_of r = (r.r_sym, r.r_type)

-- those of relocations with these fields
abbrev pub all_parts : {P : Type 0} → (P → RelocationFields) → List P → List (ℕ × ℕ)
all_parts fields relocations = map (λ r. parts_of (fields r)) relocations

abbrev pub list_of : Option PltList → List (ℕ × ℕ)
list_of None = []
list_of (Some (Rels rels)) = all_parts fields_of_rel rels
list_of (Some (Relas relas)) = all_parts fields_of_rela relas

-- those without addends, those with addends, and those of the procedure linkage table
pub record RelocationLists : Type 0 where
  pub rels : List (ℕ × ℕ)
  pub relas : List (ℕ × ℕ)
  pub plt : List (ℕ × ℕ)

abbrev pub relocations : {x : Extent} → FileOf x → List Dyn → Result RelocationLists DynamicError
relocations file entries =
    rels file entries >>= λ r. relas file entries >>= λ a. plt_relocations file entries >>= λ p.
    Ok (record { rels = list_of (option_map Rels r); relas = list_of (option_map Relas a); plt = list_of p })

-- one past the largest index of a symbol that they name, and at least this number
abbrev pub named_count : ℕ → List (ℕ × ℕ) → ℕ
named_count count [] = count
named_count count (r ∷ relocations) = named_count (max count (r.0 + 1)) relocations

abbrev pub count_all : RelocationLists → ℕ
count_all r = named_count (named_count (named_count 0 r.rels) r.relas) r.plt

abbrev pub count_named : {x : Extent} → FileOf x → List Dyn → Result ℕ DynamicError
count_named file entries = ok_map count_all (relocations file entries)
