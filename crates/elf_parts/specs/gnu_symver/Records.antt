-- The records of GNU symbol versioning: the needs, the definitions, and the version indexes of symbols. The field
-- tables are the same in both classes; the version of a record is not stored.
use Rattle.std.specs.Prelude.{refl, ℕ, ◌%◌, ◌^◌, nat_le, Bool, List, [], ◌∷◌, slice_index}
use Rattle.elf_abi.specs.Values.{ver_def_current, ver_need_current}
use Rattle.elf_records.specs.Record.{Field, field, version_field, Layout, RecordType}
use Rattle.elf_records.specs.inner.RecordLaws.{by_layout}
use Rattle.elf_parts.specs.declared.gnu_symver.records.VerDef.{VerDef}
use Rattle.elf_parts.specs.declared.gnu_symver.records.VerDefAux.{VerDefAux}
use Rattle.elf_parts.specs.declared.gnu_symver.records.VerNeed.{VerNeed}
use Rattle.elf_parts.specs.declared.gnu_symver.records.VerNeedAux.{VerNeedAux}
use Rattle.elf_parts.specs.declared.gnu_symver.records.VersionIndex.{VersionIndex}

-- ---- needs: a file, and the versions that are needed of it

abbrev pub ver_need_fields : List Field
ver_need_fields =
    version_field 0 2 ver_need_current ∷  -- vn_version
    field 2 2 ∷  -- vn_cnt
    field 4 4 ∷  -- vn_file
    field 8 4 ∷  -- vn_aux
    field 12 4 ∷  -- vn_next
    []

abbrev pub ver_need : List ℕ → VerNeed
ver_need n = record {
  vn_cnt = slice_index n 1;
  vn_file = slice_index n 2;
  vn_aux = slice_index n 3;
  vn_next = slice_index n 4;
}

abbrev pub ver_need_layout : Layout VerNeed
ver_need_layout = record { fields = λ _. ver_need_fields; make = λ _. ver_need }

abbrev pub ver_need_reads : RecordType VerNeed
ver_need_reads = by_layout ver_need_layout refl

abbrev pub ver_need_aux_fields : List Field
ver_need_aux_fields =
    field 0 4 ∷  -- vna_hash
    field 4 2 ∷  -- vna_flags
    field 6 2 ∷  -- vna_other
    field 8 4 ∷  -- vna_name
    field 12 4 ∷  -- vna_next
    []

abbrev pub ver_need_aux : List ℕ → VerNeedAux
ver_need_aux n = record {
  vna_hash = slice_index n 0;
  vna_flags = slice_index n 1;
  vna_other = slice_index n 2;
  vna_name = slice_index n 3;
  vna_next = slice_index n 4;
}

abbrev pub ver_need_aux_layout : Layout VerNeedAux
ver_need_aux_layout = record { fields = λ _. ver_need_aux_fields; make = λ _. ver_need_aux }

abbrev pub ver_need_aux_reads : RecordType VerNeedAux
ver_need_aux_reads = by_layout ver_need_aux_layout refl

-- ---- definitions: a version, and its names

abbrev pub ver_def_fields : List Field
ver_def_fields =
    version_field 0 2 ver_def_current ∷  -- vd_version
    field 2 2 ∷  -- vd_flags
    field 4 2 ∷  -- vd_ndx
    field 6 2 ∷  -- vd_cnt
    field 8 4 ∷  -- vd_hash
    field 12 4 ∷  -- vd_aux
    field 16 4 ∷  -- vd_next
    []

abbrev pub ver_def : List ℕ → VerDef
ver_def n = record {
  vd_flags = slice_index n 1;
  vd_ndx = slice_index n 2;
  vd_cnt = slice_index n 3;
  vd_hash = slice_index n 4;
  vd_aux = slice_index n 5;
  vd_next = slice_index n 6;
}

abbrev pub ver_def_layout : Layout VerDef
ver_def_layout = record { fields = λ _. ver_def_fields; make = λ _. ver_def }

abbrev pub ver_def_reads : RecordType VerDef
ver_def_reads = by_layout ver_def_layout refl

abbrev pub ver_def_aux_fields : List Field
ver_def_aux_fields =
    field 0 4 ∷  -- vda_name
    field 4 4 ∷  -- vda_next
    []

abbrev pub ver_def_aux : List ℕ → VerDefAux
ver_def_aux n = record {
  vda_name = slice_index n 0;
  vda_next = slice_index n 1;
}

abbrev pub ver_def_aux_layout : Layout VerDefAux
ver_def_aux_layout = record { fields = λ _. ver_def_aux_fields; make = λ _. ver_def_aux }

abbrev pub ver_def_aux_reads : RecordType VerDefAux
ver_def_aux_reads = by_layout ver_def_aux_layout refl

-- ---- the version index of a symbol: bit 15 says that the version is hidden, the rest is the index

abbrev pub version_index_fields : List Field
version_index_fields =
    field 0 2 ∷  -- vs_vers
    []

abbrev pub version_index_layout : Layout VersionIndex
version_index_layout = record { fields = λ _. version_index_fields; make = λ _ n. record { 0 = slice_index n 0 } }

abbrev pub version_index_reads : RecordType VersionIndex
version_index_reads = by_layout version_index_layout refl

abbrev pub version_index : VersionIndex → ℕ
version_index version = version.0 % 2 ^ 15

abbrev pub version_is_hidden : VersionIndex → Bool
version_is_hidden version = nat_le (2 ^ 15) version.0
