use Rattle.std.proofs.lemmas.Bool.{le-ltb}
use Rattle.nugwier_layouts.proofs.text.add_wide.Goals as goal

pub returns-else-n-lt4294967296 : goal.returns-else-n-lt4294967296
returns-else-n-lt4294967296 g c = rw (le-ltb c.args.n 4294967296 c.if-n-lt4294967296.false) c.add_all_digits.ensures
