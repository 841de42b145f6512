use Rattle.std.proofs.Common.{ℕ, ◌∙◌, ap, take}
use Rattle.std.proofs.lemmas.List.{take_min}
use Rattle.nugwier_programs.specs.Loading.{most}
use Rattle.nugwier_programs.proofs.starts.loading.front_in.Goals as goal

pub returns : goal.returns
unfolding most
returns c = ap (λ (n : ℕ). take n c.args.bytes.now) c.min.ensures ∙ take_min most c.args.bytes.now
