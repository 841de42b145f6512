use Rattle.std.proofs.Common.{arith, refl}
use Rattle.std.proofs.lemmas.List.{length-replicate}
use Rattle.elf_reading.proofs.steps.Chains.{array_answered}
use Rattle.elf_reading.proofs.steps.Ranges.{refused_past_64, refused_past}
use Rattle.elf_reading.proofs.opening.source.read_array.Goals as goal

pub returns-in_default : goal.returns-in_default
returns-in_default g c = record {
  content = refl;
  nature = refl;
  answer = refused_past_64 _ c.args.start _ _ (omega (arith, c.in_default.ensures));
  memory = tt;
}

pub returns-then-end-len : goal.returns-then-end-len
returns-then-end-len g c = record {
  content = refl;
  nature = refl;
  answer = refused_past _ c.args.len c.args.start _ _ c.requires (omega (arith, c.in-Some.ensures));
  memory = tt;
}

pub returns : goal.returns
returns g c = record {
  content = c.in_ok-read_at.ensures.content;
  nature = c.in_ok-read_at.ensures.nature;
  answer = array_answered _ c.args.len c.args.start _ c.in-Some.end _ _ (g.S.StreamSource.can_fail c.args.source.now) _ _ c.requires (omega (arith, c.in-Some.ensures)) (omega (arith, c.in-Some.ensures)) c.if-end-len.false (length-replicate _ _) c.in_ok-read_at.ensures.bytes c.in_ok-read_at.ensures.reason;
  memory = tt;
}
