use Rattle.std.proofs.Common.{◌≡◌, ℕ, inr, None, Ok, Err, Some, IfSome, subst}
use Rattle.std.specs.Prelude.{◌≢◌}
use Rattle.std.specs.Option.{option_map}
use Rattle.elf_reading.specs.Refusals.{IsRefused, kind}
use Rattle.elf_linking.specs.Missing.{loaded_part}
use Rattle.elf_linking.specs.Needed.{MissesNames, missing_of, names, names_view}
use Rattle.elf.specs.StreamFile.{stream_file}
use Rattle.elf_linking.specs.declared.needed.NamesError.TheVariants.{Read}
use Rattle.elf_linking.proofs.Missing.{has_loaded, held_first, known_before, load_refused, loads_more, missed_first, same_failures}
use Rattle.elf_linking.proofs.Naming.{answered_memory, missed_names, missed_of, stream_answered}
use Rattle.elf.proofs.stream.Steps.{keeps_then}
use Rattle.elf_linking.proofs.needed.read_dynamic_names.Goals as goal

pub returns-in_default-clause-names : goal.returns-in_default-clause-names
returns-in_default-clause-names g c =
    let little = g.E.EndianParse.little in
    let old = c.args.stream.now in
    let now = c.rounds.stream in
    let keeps = c.rounds.invariant.0.keeps in
    let none : missing_of c.dynamic_names-found.result ≡ None = let a = c.missing_of.ensures in let b = c.in_default.ensures in cc in
    record {
      keeps = keeps;
      answers = stream_answered little old now keeps old.content (option_map names_view) c.dynamic_names-found.result (known_before little old now keeps c.is_part_of_file.ensures) c.rounds.invariant.1 c.dynamic_names-found.ensures.names none;
    }

pub returns-in_default-clause-memory : goal.returns-in_default-clause-memory
returns-in_default-clause-memory g c =
    let little = g.E.EndianParse.little in
    let old = c.args.stream.now in
    answered_memory (option_map names_view) (names (loaded_part little c.rounds.stream)) c.dynamic_names-found.result (names (loaded_part little old) ≢ Ok None) c.dynamic_names-found.ensures.names (λ memory.
    held_first little MissesNames (λ part. names part ≢ Ok None) old c.rounds.stream c.rounds.invariant.0 (missed_names (loaded_part little old)) (c.dynamic_names-found.ensures.memory memory))

pub returns-in-Err-clause-names : goal.returns-in-Err-clause-names
returns-in-Err-clause-names g c =
    let old = c.args.stream.now in
    let middle = c.rounds.stream in
    let new = c.load_range.new.self in
    let keeps = c.rounds.invariant.0.keeps in
    record {
      keeps = keeps_then old middle new keeps c.load_range.ensures.left.keeps;
      answers = load_refused old middle keeps old.content new.failures (kind c.in-Err.error) (λ bytes. names (stream_file g.E.EndianParse.little old bytes) ≡ Err (Read c.in-Err.error)) c.rounds.invariant.1
          (subst (λ known. IfSome known (λ bytes. IsRefused middle.failures new.failures middle.can_fail ⊥ (kind c.in-Err.error))) keeps.content c.in-Err.ensures.reason);
    }

pub returns-in-Err-clause-memory : goal.returns-in-Err-clause-memory
returns-in-Err-clause-memory g c =
    let little = g.E.EndianParse.little in
    let old = c.args.stream.now in
    let middle = c.rounds.stream in
    let range : ℕ × ℕ = (c.in-Some.start, c.in-Some.end) in
    let some : missing_of c.dynamic_names-found.result ≡ Some range = let a = c.missing_of.ensures in let b = c.in-Some.ensures in cc in
    let missed = missed_of (option_map names_view) (names (loaded_part little middle)) c.dynamic_names-found.result range c.dynamic_names-found.ensures.names some in
    let first = missed_first little MissesNames old middle middle range c.rounds.invariant.0 c.is_part_of_file.ensures missed in
    λ memory. missed_names (loaded_part little old) first.0 first.1

pub returns-in-Err-clause-only : goal.returns-in-Err-clause-only
returns-in-Err-clause-only g c =
    let little = g.E.EndianParse.little in
    let old = c.args.stream.now in
    let middle = c.rounds.stream in
    let new = c.load_range.new.self in
    let range : ℕ × ℕ = (c.in-Some.start, c.in-Some.end) in
    let some : missing_of c.dynamic_names-found.result ≡ Some range = let a = c.missing_of.ensures in let b = c.in-Some.ensures in cc in
    let missed = missed_of (option_map names_view) (names (loaded_part little middle)) c.dynamic_names-found.result range c.dynamic_names-found.ensures.names some in
    has_loaded little MissesNames old new (loads_more little MissesNames old middle new range c.rounds.invariant.0 c.is_part_of_file.ensures missed c.saturating_sub.ensures c.load_range.ensures.left)

pub rounds-preserved : goal.rounds-preserved
rounds-preserved g c =
    let little = g.E.EndianParse.little in
    let old = c.args.stream.now in
    let middle = c.rounds.stream in
    let new = c.load_range.new.self in
    let range : ℕ × ℕ = (c.in-Some.start, c.in-Some.end) in
    let some : missing_of c.dynamic_names-found.result ≡ Some range = let a = c.missing_of.ensures in let b = c.in-Some.ensures in cc in
    let missed = missed_of (option_map names_view) (names (loaded_part little middle)) c.dynamic_names-found.result range c.dynamic_names-found.ensures.names some in (
      loads_more little MissesNames old middle new range c.rounds.invariant.0 c.is_part_of_file.ensures missed c.saturating_sub.ensures c.load_range.ensures.left,
      same_failures old middle new c.rounds.invariant.0.keeps c.rounds.invariant.1 c.in-Ok.ensures.reason,
      inr (missed_first little MissesNames old middle new range c.rounds.invariant.0 c.is_part_of_file.ensures missed),
    )
