use Rattle.std.proofs.Common.{◌≡◌}
use Rattle.std.specs.List.{flat_map}
use Rattle.elf_dynamic.specs.Relr.{addresses_left}
use Rattle.nugwier_symbols.specs.RelocationRows.{relative_said}
use Rattle.nugwier_report.specs.Said.{saying}
use Rattle.nugwier_symbols.proofs.relocation_rows.tell_relative.Given as goal

-- what was said so far, and then what is said of the addresses that are left, is the whole
abbrev pub invariant-loop-address : goal.invariant-loop-address
invariant-loop-address g l =
    let said = flat_map (relative_said l.part) in
    saying g.T.Tell.one l.tell (said (addresses_left l.address-iterator)) ≡ saying g.T.Tell.one l.initial.tell (said (addresses_left l.fn.addresses))
