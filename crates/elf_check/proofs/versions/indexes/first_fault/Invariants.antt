use Rattle.std.proofs.Common.{◌≡◌, ◌<◌, ℕ, Ok}
use Rattle.elf_parts.specs.gnu_symver.Table.{index_of}
use Rattle.elf_parts.specs.declared.gnu_symver.records.VersionIndex.{VersionIndex}
use Rattle.elf_check.specs.inner.Kept.{AreSound}
use Rattle.elf_check.specs.versions.Indexes.{count_with_index}
use Rattle.elf_check.proofs.versions.indexes.first_fault.Given as goal

-- the indexes so far are those of one version each, and so are the numbers that are kept
abbrev pub invariant-loop-symbol : goal.invariant-loop-symbol
invariant-loop-symbol g l = record {
  before : (k : ℕ) (version : VersionIndex) → k < l.symbol → index_of (g.V.SymbolVersions.versions l.table) k ≡ Ok version → count_with_index (g.V.SymbolVersions.versions l.table) version ≡ 1;
  kept : AreSound (g.V.SymbolVersions.versions l.table) l.kept;
}
