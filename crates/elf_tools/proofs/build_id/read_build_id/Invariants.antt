use Rattle.std.proofs.Common.{◌≡◌, ◌⊎◌, ℕ, IfSome}
use Rattle.elf_tools.specs.BuildId.{MissesId}
use Rattle.elf_linking.specs.Missing.{loaded_part}
use Rattle.elf_linking.proofs.Missing.{Loading}
use Rattle.elf_tools.proofs.build_id.read_build_id.Given as goal

-- what was loaded so far was missing, and no source has failed; after a round something was missing at first
abbrev pub invariant-rounds : goal.invariant-rounds
invariant-rounds g l =
    let little = g.E.EndianParse.little in
    let old = l.fn.stream in
    Loading little MissesId old l.stream × IfSome old.content (λ bytes. l.stream.failures ≡ old.failures)
    × ((l.round ≡ 0) ⊎ ((range : ℕ × ℕ) × MissesId (loaded_part little old) range))
