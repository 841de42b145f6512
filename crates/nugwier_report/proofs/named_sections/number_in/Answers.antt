use Rattle.std.proofs.Common.{sym, ◌∙◌}
use Rattle.nugwier_report.proofs.Numbers.{number_parsed}
use Rattle.nugwier_report.proofs.named_sections.number_in.Goals as goal

pub returns : goal.returns
returns c = c.ok.ensures.value ∙ sym (number_parsed c.args.word.now c.parse.result c.parse.ensures.value.0)
