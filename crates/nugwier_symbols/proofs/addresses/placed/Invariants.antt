use Rattle.std.proofs.Common.{◌≡◌, ◌++◌, List, drop, map}
use Rattle.nugwier_symbols.specs.Addresses.{placed}
use Rattle.nugwier_report.specs.Whole.{file_of}
use Rattle.nugwier_symbols.specs.Addresses.{sought}
use Rattle.nugwier_symbols.specs.declared.addresses.AskedAddress.{AskedAddress}
use Rattle.nugwier_symbols.proofs.addresses.placed.Given as goal

-- the addresses so far, and then those that are left, are all
abbrev pub invariant-loop-one : goal.invariant-loop-one
invariant-loop-one g l =
    let file = file_of (g.R.Headers.file l.file) (g.R.ListedFile.bytes l.file) in
    let all = λ (asked : List AskedAddress). map (placed (g.R.ListedFile.header l.file).e_type file) (map sought asked) in
    l.addresses.items ++ all (drop l.one-index l.asked) ≡ all l.asked
