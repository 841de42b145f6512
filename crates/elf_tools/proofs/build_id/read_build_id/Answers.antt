use Rattle.std.proofs.Common.{◌≡◌, ℕ, inr, Err, IfSome, sym, ap, subst, ◌∙◌}
use Rattle.std.specs.Vec.{vec_items}
use Rattle.std.proofs.lemmas.Result.{err_from_is_err_and}
use Rattle.elf_reading.specs.Refusals.{IsRefused, kind}
use Rattle.elf.specs.StreamFile.{stream_file}
use Rattle.elf.specs.declared.read_error.ReadError.TheVariants.{NotLoaded, Parse}
use Rattle.elf.proofs.stream.Steps.{keeps_then}
use Rattle.elf_tools.specs.BuildId.{MissesId, build_id}
use Rattle.elf_tools.proofs.BuildIds.{id_copied, id_memory, id_refused, missed_memory}
use Rattle.elf_linking.specs.Missing.{loaded_part}
use Rattle.elf_linking.proofs.Missing.{has_loaded, known_before, load_refused, loads_more, missed_first, same_failures}
use Rattle.elf_tools.proofs.build_id.read_build_id.Goals as goal

pub returns-in-Ok-clause-id : goal.returns-in-Ok-clause-id
returns-in-Ok-clause-id g c =
    let little = g.E.EndianParse.little in
    let old = c.args.stream.now in
    let now = c.rounds.stream in
    let keeps = c.rounds.invariant.0.keeps in
    record {
      keeps = keeps;
      answers = id_copied little old now keeps vec_items old.content _ c.copied.result (known_before little old now keeps c.is_part_of_file.ensures) c.rounds.invariant.1 c.in-Ok.ensures.value c.copied.ensures;
    }

pub returns-in-Ok-clause-memory : goal.returns-in-Ok-clause-memory
returns-in-Ok-clause-memory g c =
    id_memory g.E.EndianParse.little c.args.stream.now c.rounds.stream vec_items _ c.copied.result c.rounds.invariant.0 c.in-Ok.ensures.value c.copied.ensures

pub returns-in-Parse-clause-id : goal.returns-in-Parse-clause-id
returns-in-Parse-clause-id g c =
    let little = g.E.EndianParse.little in
    let old = c.args.stream.now in
    let now = c.rounds.stream in
    let keeps = c.rounds.invariant.0.keeps in
    let error : c.in-Err.error ≡ Parse c.in-Parse.error = c.in-Parse.is in
    record {
      keeps = keeps;
      answers = id_refused little old now keeps old.content c.in-Parse.error (known_before little old now keeps c.is_part_of_file.ensures) c.rounds.invariant.1 (ap Err (sym error) ∙ c.in-Err.ensures.value) (rw error at c.in-Err.ensures.plain);
    }

pub returns-in_err-load_range-in-NotLoaded-clause-id : goal.returns-in_err-load_range-in-NotLoaded-clause-id
returns-in_err-load_range-in-NotLoaded-clause-id g c =
    let p = err_from_is_err_and c.from_residual.result c.from_residual.ensures.1 in
    let old = c.args.stream.now in
    let middle = c.rounds.stream in
    let new = c.load_range.new.self in
    let keeps = c.rounds.invariant.0.keeps in
    let error = c.in_err-load_range-in-NotLoaded.field-0.0 in
    rw (p.1, p.2) (record {
      keeps = keeps_then old middle new keeps c.load_range.ensures.left.keeps;
      answers = load_refused old middle keeps old.content new.failures (kind error) (λ bytes. build_id (stream_file g.E.EndianParse.little old bytes) ≡ Err error) c.rounds.invariant.1
          (subst (λ known. IfSome known (λ bytes. IsRefused middle.failures new.failures middle.can_fail ⊥ (kind error))) keeps.content c.in_err-load_range-in-NotLoaded.ensures.reason);
    })

pub returns-in_err-load_range-in-NotLoaded-clause-memory : goal.returns-in_err-load_range-in-NotLoaded-clause-memory
returns-in_err-load_range-in-NotLoaded-clause-memory g c =
    let p = err_from_is_err_and c.from_residual.result c.from_residual.ensures.1 in
    let little = g.E.EndianParse.little in
    let old = c.args.stream.now in
    let middle = c.rounds.stream in
    let range : ℕ × ℕ = (c.in-NotLoaded.start, c.in-NotLoaded.end) in
    let error : c.in-Err.error ≡ NotLoaded range = c.in-NotLoaded.is in
    let missed = sym c.in-Err.ensures.value ∙ ap Err error in
    let first = missed_first little MissesId old middle middle range c.rounds.invariant.0 c.is_part_of_file.ensures missed in
    rw (p.1, p.2) (λ memory. missed_memory (loaded_part little old) first.0 first.1)

pub returns-in_err-load_range-in-NotLoaded-clause-only : goal.returns-in_err-load_range-in-NotLoaded-clause-only
returns-in_err-load_range-in-NotLoaded-clause-only g c =
    let little = g.E.EndianParse.little in
    let old = c.args.stream.now in
    let middle = c.rounds.stream in
    let new = c.load_range.new.self in
    let range : ℕ × ℕ = (c.in-NotLoaded.start, c.in-NotLoaded.end) in
    let error : c.in-Err.error ≡ NotLoaded range = c.in-NotLoaded.is in
    let missed = sym c.in-Err.ensures.value ∙ ap Err error in
    has_loaded little MissesId old new (loads_more little MissesId old middle new range c.rounds.invariant.0 c.is_part_of_file.ensures missed c.saturating_sub.ensures c.load_range.ensures.left)

pub rounds-preserved : goal.rounds-preserved
rounds-preserved g c =
    let little = g.E.EndianParse.little in
    let old = c.args.stream.now in
    let middle = c.rounds.stream in
    let new = c.load_range.new.self in
    let range : ℕ × ℕ = (c.in-NotLoaded.start, c.in-NotLoaded.end) in
    let error : c.in-Err.error ≡ NotLoaded range = c.in-NotLoaded.is in
    let missed = sym c.in-Err.ensures.value ∙ ap Err error in (
      loads_more little MissesId old middle new range c.rounds.invariant.0 c.is_part_of_file.ensures missed c.saturating_sub.ensures c.load_range.ensures.left,
      same_failures old middle new c.rounds.invariant.0.keeps c.rounds.invariant.1 c.in_ok-load_range-in-NotLoaded.ensures.reason,
      inr (missed_first little MissesId old middle new range c.rounds.invariant.0 c.is_part_of_file.ensures missed),
    )
