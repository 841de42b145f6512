use Rattle.nugwier_layouts.proofs.JsonReading.{read_back}
use Rattle.nugwier_layouts.proofs.json.a_string_is_read_back.Goals as goal

pub returns : goal.returns
returns c = read_back c.args.text.now c.utf8.text
