use Rattle.std.proofs.Common.{◌∙◌}
use Rattle.nugwier_commands.proofs.Digits.{number_of-parsed}
use Rattle.nugwier_commands.proofs.address.parse_number.Goals as goal

pub returns : goal.returns
returns c =
    c.ok.ensures.value ∙ number_of-parsed c.args.digits.now c.from_str_radix.result (cc) c.from_str_radix.ensures.value
