-- Numbers of versions that were looked up, and are kept.
use Rattle.std.specs.Prelude.{◌≡◌, ℕ, ◌<◌, List, length, get_or}
use Rattle.elf_parts.specs.gnu_symver.Table.{Versions}
use Rattle.elf_check.specs.versions.Indexes.{count_with_index}

-- each of them is that of one version
abbrev pub AreSound : Versions → List ℕ → Type 0
AreSound versions kept =
    (k : ℕ) → k < length kept → count_with_index versions (record { 0 = get_or kept k 0 }) ≡ 1
