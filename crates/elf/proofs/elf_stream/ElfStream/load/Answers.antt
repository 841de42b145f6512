use Rattle.std.proofs.Common.{rules, arith, length, ◌≡◌, ◌<◌, ◌+◌, ◌-◌, refl}
use Rattle.std.specs.Prelude.{◌^◌}
use Rattle.elf.proofs.stream.Loads.{load_answered, needed_there, refused_for}
use Rattle.elf_reading.proofs.Cached.{sound_put, cached_put, loaded_put, only_put}
use Rattle.elf.proofs.stream.Pieces.{sound_cached}
use Rattle.elf.proofs.elf_stream.ElfStream.load.Goals as goal
use Rattle.elf_reading.proofs.steps.Ranges.{refused_past, refused_past_64}

pub returns-in_default-clause-answer : goal.returns-in_default-clause-answer
returns-in_default-clause-answer g c = refused_past_64 _ c.args.start c.args.size _ (omega (arith, c.in_default.ensures))

pub returns-then-holds-clause-answer : goal.returns-then-holds-clause-answer
returns-then-holds-clause-answer g c =
    rw (← c.self.view_is) (sound_cached _ c.self.inside.len c.self.inside.cache c.args.start c.args.size _ c.self.invariant.sound (omega (arith, c.in-Some.ensures)) (search rules))

pub returns-then-end-self-clause-answer : goal.returns-then-end-self-clause-answer
returns-then-end-self-clause-answer g c =
    rw (← c.self.view_is) (refused_past _ c.self.inside.len c.args.start c.args.size _ c.self.invariant.sound.len (omega (arith, c.in-Some.ensures)))

pub invariant_of-self-2 : goal.invariant_of-self-2
invariant_of-self-2 g c =
    rw c.fetch.ensures.content record {
      sound = sound_put _ c.self.inside.len c.self.inside.cache c.put.new.self c.args.start c.in-Some.end (record { start = c.args.start; bytes = c.in_ok-bytes.bytes.items }) c.put.result c.self.invariant.sound c.put.ensures.put (c.put.ensures.refused (omega (arith, c.in-Some.ensures, c.in_ok-bytes.ensures.len)))
          (omega (arith, c.in-Some.ensures)) c.if-end-self.false refl
          c.in_ok-bytes.ensures.len c.in_ok-bytes.ensures.bytes;
      tables = c.self.invariant.tables;
    }

pub returns-clause-keeps : goal.returns-clause-keeps
returns-clause-keeps g c =
    rw (← c.self.view_is) record {
      content = c.fetch.ensures.content;
      can_fail = c.fetch.ensures.nature;
      by_segments = refl;
      headers = refl;
      size = refl;
      cached = cached_put c.self.inside.cache c.put.new.self (record { start = c.args.start; bytes = c.in_ok-bytes.bytes.items }) c.put.result c.put.ensures.put (c.put.ensures.refused (omega (arith, c.in-Some.ensures, c.in_ok-bytes.ensures.len)));
    }

pub returns-clause-loaded : goal.returns-clause-loaded
returns-clause-loaded g c =
    let end : c.in-Some.end ≡ c.args.start + c.args.size = omega (arith, c.in-Some.ensures) in
    let low : c.args.start + c.args.size < 2 ^ 64 = omega (arith, c.in-Some.ensures) in
    let long : length c.in_ok-bytes.bytes.items ≡ c.in-Some.end - c.args.start = c.in_ok-bytes.ensures.len in
    loaded_put c.self.inside.cache c.put.new.self (record { start = c.args.start; bytes = c.in_ok-bytes.bytes.items }) c.args.start (c.args.start + c.args.size) c.put.result low c.put.ensures.put refl (omega arith)

pub returns-clause-only : goal.returns-clause-only
returns-clause-only g c =
    let long : length c.in_ok-bytes.bytes.items ≡ c.in-Some.end - c.args.start = c.in_ok-bytes.ensures.len in
    rw (← c.self.view_is)
    (only_put c.self.inside.cache c.put.new.self (record { start = c.args.start; bytes = c.in_ok-bytes.bytes.items }) c.args.start (c.args.start + c.args.size) c.put.result c.put.ensures.put (c.put.ensures.refused (omega (arith, c.in-Some.ensures, c.in_ok-bytes.ensures.len))) refl (omega arith))

pub returns-clause-answer : goal.returns-clause-answer
returns-clause-answer g c =
    let low : c.args.start + c.args.size < 2 ^ 64 = omega (arith, c.in-Some.ensures) in
    rw (← c.self.view_is)
    (load_answered _ c.self.inside.len c.args.start c.args.size _ _ _ c.put.result c.self.invariant.sound.len low (omega (arith, c.in-Some.ensures)) c.in_ok-bytes.ensures.reason (refused_for _ c.put.result (c.put.ensures.refused (omega (arith, c.in-Some.ensures, c.in_ok-bytes.ensures.len)))))

pub returns-in_err-bytes-clause-needed : goal.returns-in_err-bytes-clause-needed
returns-in_err-bytes-clause-needed g c =
    rw (← c.self.view_is)
    (needed_there _ c.self.inside.len c.args.start c.args.size _ c.self.invariant.sound.len (omega (arith, c.in-Some.ensures)) (omega (arith, c.in-Some.ensures)))

pub returns-clause-needed : goal.returns-clause-needed
returns-clause-needed g c =
    rw (← c.self.view_is)
    (needed_there _ c.self.inside.len c.args.start c.args.size _ c.self.invariant.sound.len (omega (arith, c.in-Some.ensures)) (omega (arith, c.in-Some.ensures)))
