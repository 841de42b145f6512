use Rattle.std.proofs.Common.{◌≡◌, drop}
use Rattle.nugwier_commands.specs.Formats.{formats_of, name_in}
use Rattle.nugwier_commands.proofs.formats.name_in.Given as goal

-- those that were passed do not begin so
abbrev pub invariant-loop-format : goal.invariant-loop-format
invariant-loop-format l =
    name_in l.fn.front (formats_of (drop l.format-index l.formats)) ≡ name_in l.fn.front (formats_of l.formats)
