-- What is known of versions that were checked.
use Rattle.std.specs.Prelude.{◌≡◌, ℕ, List, [], map, Result, Ok, ⊤}
use Rattle.std.specs.Result.{result_unwrap_or}
use Rattle.std.specs.declared.cmp.PartialEq.{Ghosts as PartialEqGhosts}
use Rattle.std.specs.declared.default.Default.{Ghosts as DefaultGhosts}
use Rattle.elf_records.specs.declared.endian.EndianParse.{Ghosts as EndianGhosts}
use Rattle.elf_records.specs.declared.parse.ParseError.{ParseError}
use Rattle.elf_parts.specs.gnu_symver.Table.{Definition, GivesTexts, Versions, names_left, versions_view}
use Rattle.elf_parts.specs.gnu_symver.VersionEntry.{ByDefinition, ByNeed}
use Rattle.elf_check.specs.versions.Indexes.{CheckedVersion, GlobalVersion, LocalVersion, NamedVersion}
use Rattle.elf_check.specs.declared.whole.versions.WholeVersion.{WholeVersion}
use Rattle.elf_check.specs.declared.whole.versions.WholeVersion.TheVariants.{Defined, Global, Local, Required}
use Rattle.elf_check.specs.declared.whole.versions.WholeDefinition.{WholeDefinition}
use Rattle.elf_check.specs.declared.whole.versions.WholeVersions.{WholeVersions}
use Rattle.elf_check.specs.declared.whole.names.WholeNames.{WholeNames}

-- the bytes of names that can be read
abbrev pub bytes_of : List (Result (List ℕ) ParseError) → List (List ℕ)
bytes_of names = map (λ (raw : Result (List ℕ) ParseError). result_unwrap_or raw []) names

module _ {E : Type 0} {order : EndianGhosts E} {default : DefaultGhosts E} {equal : PartialEqGhosts E} where
  abbrev pub whole_versions : WholeVersions E order default equal → Versions
  whole_versions s = versions_view s.table

  -- the names that an iterator has left to yield
  abbrev pub texts_left : WholeNames E order default equal → List (List ℕ)
  texts_left s = bytes_of (names_left s.names)

  -- the definition, with its names as texts
  pub record ShowsDefinition (definition : Definition) (found : WholeDefinition E order default equal) : Type 0 where
    pub hash : found.hash ≡ definition.hash
    pub flags : found.flags ≡ definition.flags
    pub hidden : found.hidden ≡ definition.hidden
    pub names : texts_left found.names ≡ bytes_of definition.names

  -- the version, with its names as texts
  abbrev pub Shows : CheckedVersion → WholeVersion E order default equal → Type 0
  Shows LocalVersion Local = ⊤
  Shows GlobalVersion Global = ⊤
  Shows (NamedVersion (ByDefinition definition)) (Defined found) = ShowsDefinition definition found
  Shows (NamedVersion (ByNeed needed)) (Required found) = GivesTexts needed (Ok found)
  Shows version shown = ⊥
