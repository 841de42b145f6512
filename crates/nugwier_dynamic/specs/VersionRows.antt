-- What is said of the versions that a file defines, and of those that it needs of other files (GNU symbol versioning).
use Rattle.std.specs.Prelude.{ℕ, List, [], ◌∷◌, ◌++◌, Option, codes}
use Rattle.std.specs.List.{flat_map}
use Rattle.std.specs.Result.{result_ok}
use Rattle.elf_parts.specs.declared.gnu_symver.records.VerDef.{VerDef}
use Rattle.elf_parts.specs.declared.gnu_symver.records.VerDefAux.{VerDefAux}
use Rattle.elf_parts.specs.declared.gnu_symver.records.VerNeed.{VerNeed}
use Rattle.elf_parts.specs.declared.gnu_symver.records.VerNeedAux.{VerNeedAux}
use Rattle.elf_names.specs.Flags.{version_flags}
use Rattle.elf_records.specs.StringTable.{string_at}
use Rattle.nugwier_report.specs.Parts.{part_member}
use Rattle.nugwier_layouts.specs.Members.{Members, flags, number, text}
use Rattle.nugwier_report.specs.Said.{Said, states, unread}
use Rattle.nugwier_report.specs.declared.problem.Item.TheVariants.{VersionName}
use Rattle.nugwier_report.specs.declared.problem.Part.{Part}
use Rattle.nugwier_layouts.specs.Layouts.{constant}
use Rattle.nugwier_layouts.specs.declared.layouts.TheConstants as layout

-- the name at this offset of the strings, if it can be read
abbrev pub version_name : List ℕ → ℕ → Option (List ℕ)
version_name strings offset = result_ok (string_at strings offset)

-- that it cannot be read: of the version of this index; index 0 stands for the name of a needed file
abbrev pub version_name_unread : Part → List ℕ → ℕ → ℕ → List Said
version_name_unread part strings index offset =
    unread (record { part = part; item = VersionName index }) (string_at strings offset)

-- ---- definitions

abbrev pub definition_members : Part → VerDef → Members
definition_members part definition =
    part_member part
    ∷ (codes "vd_flags", number definition.vd_flags)
    ∷ (codes "vd_flags_names", flags version_flags definition.vd_flags)
    ∷ (codes "vd_ndx", number definition.vd_ndx)
    ∷ (codes "vd_cnt", number definition.vd_cnt)
    ∷ (codes "vd_hash", number definition.vd_hash)
    ∷ []

-- a name of the definition of this index
abbrev pub name_members : Part → ℕ → VerDefAux → Option (List ℕ) → Members
name_members part index aux name =
    part_member part
    ∷ (codes "vd_ndx", number index)
    ∷ (codes "vda_name", number aux.vda_name)
    ∷ (codes "name", text name)
    ∷ []

abbrev pub name_said : Part → List ℕ → ℕ → VerDefAux → List Said
name_said part strings index aux =
    version_name_unread part strings index aux.vda_name
    ++ states (constant layout.VERDAUX) (name_members part index aux (version_name strings aux.vda_name)) ∷ []

-- its own name, and those of the versions that it is a successor of
abbrev pub names_said : Part → List ℕ → ℕ → List VerDefAux → List Said
names_said part strings index names = flat_map (name_said part strings index) names

abbrev pub definition_said : Part → List ℕ → VerDef × List VerDefAux → List Said
definition_said part strings definition =
    states (constant layout.VERDEF) (definition_members part definition.0) ∷ []
    ++ names_said part strings definition.0.vd_ndx definition.1
    ++ states (constant layout.VERDEF_END) [] ∷ []

-- each definition, in order
abbrev pub definitions_said : Part → List ℕ → List (VerDef × List VerDefAux) → List Said
definitions_said part strings definitions = flat_map (definition_said part strings) definitions

-- ---- needs

-- a file from which versions are needed, with its name
abbrev pub need_members : Part → VerNeed → Option (List ℕ) → Members
need_members part need name =
    part_member part
    ∷ (codes "vn_cnt", number need.vn_cnt)
    ∷ (codes "vn_file", number need.vn_file)
    ∷ (codes "name", text name)
    ∷ []

-- a version that is needed of the file whose name is at this offset
abbrev pub version_members : Part → ℕ → VerNeedAux → Option (List ℕ) → Members
version_members part file version name =
    part_member part
    ∷ (codes "vn_file", number file)
    ∷ (codes "vna_hash", number version.vna_hash)
    ∷ (codes "vna_flags", number version.vna_flags)
    ∷ (codes "vna_flags_names", flags version_flags version.vna_flags)
    ∷ (codes "vna_other", number version.vna_other)
    ∷ (codes "vna_name", number version.vna_name)
    ∷ (codes "name", text name)
    ∷ []

abbrev pub version_said : Part → List ℕ → ℕ → VerNeedAux → List Said
version_said part strings file version =
    version_name_unread part strings version.vna_other version.vna_name
    ++ states (constant layout.VERNAUX) (version_members part file version (version_name strings version.vna_name)) ∷ []

abbrev pub versions_said : Part → List ℕ → ℕ → List VerNeedAux → List Said
versions_said part strings file versions = flat_map (version_said part strings file) versions

abbrev pub need_said : Part → List ℕ → VerNeed × List VerNeedAux → List Said
need_said part strings need =
    version_name_unread part strings 0 need.0.vn_file
    ++ states (constant layout.VERNEED) (need_members part need.0 (version_name strings need.0.vn_file)) ∷ []
    ++ versions_said part strings need.0.vn_file need.1

-- each file, in order
abbrev pub needs_said : Part → List ℕ → List (VerNeed × List VerNeedAux) → List Said
needs_said part strings needs = flat_map (need_said part strings) needs
