use Rattle.elfshow_lines.proofs.Pairs.{halves_small, halves_digits}
use Rattle.std.proofs.Common.{ℕ, List, ◌<◌, ◌∙◌, map, ap, sym, subst, false}
use Rattle.std.specs.Fmt.{digit_glyph}
use lib.Lanes.{Each1}
use Rattle.elfshow_lines.proofs.line_buffer.pairs.pairs_of_block.Goals as goal

pub lane_digits-requires : goal.lane_digits-requires
lane_digits-requires c = subst (λ (ns : List ℕ). Each1 (λ n. n < 16) ns) (sym c.halves.ensures) (halves_small c.args.block.now c.fits-block)

pub returns : goal.returns
returns c = c.lane_digits.ensures ∙ ap (λ (ns : List ℕ). map (λ n. digit_glyph false n) ns) c.halves.ensures ∙ halves_digits c.args.block.now
