use Rattle.std.proofs.Common.{◌∙◌, Option, ap, sym}
use Rattle.std.proofs.lemmas.Result.{on_ok_weaker}
use Rattle.nugwier_layouts.specs.Members.{members_said}
use Rattle.nugwier_report.specs.Said.{Said}
use Rattle.nugwier_symbols.specs.RelocationRows.{stated}
use Rattle.nugwier_symbols.specs.declared.relocation_rows.MipsInfo.{MipsInfo}
use Rattle.nugwier_symbols.proofs.relocation_rows.state.Goals as goal

pub returns-in-Some : goal.returns-in-Some
returns-in-Some g c =
    let members = members_said c.args.members.now in
    let same = ap (λ (mips : Option MipsInfo). stated mips members) (sym c.in-Some.is) in
    on_ok_weaker c.state.result (λ h. h ∙ ap (λ (s : Said). g.T.Tell.one c.args.tell.now s) same) c.state.ensures
