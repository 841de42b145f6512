use Rattle.std.proofs.Common.{ℕ, subst, sym}
use Rattle.elf_parts.specs.GnuFind.{gnu_view}
use Rattle.elf_hash_check.specs.Indexed.{IndexedGnu, IsNumberOf}
use Rattle.elf_hash_check.proofs.Intervals.{number_of_interval}
use Rattle.elf_hash_check.proofs.hashcheck.gnu.CheckedGnuHash.indexed.Goals as goal

pub returns-clause-members : goal.returns-clause-members
returns-clause-members g c =
    let t = gnu_view c.args.self.now.table in
    let P : ℕ → Type 0 = λ n. IsNumberOf n (IndexedGnu t) in
    subst P (sym c.args.self.now.counted) (number_of_interval t.hdr.table_start_idx _)
