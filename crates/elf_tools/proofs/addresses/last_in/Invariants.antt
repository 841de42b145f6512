use Rattle.std.proofs.Common.{◌≡◌, drop}
use Rattle.std.specs.List.{filter, last_or}
use Rattle.elf_tools.specs.Addresses.{is_in, last_in}
use Rattle.elf_tools.proofs.addresses.last_in.Given as goal

-- the last one so far, and then those that are left, have the last one of all
abbrev pub invariant-loop-symbol : goal.invariant-loop-symbol
invariant-loop-symbol l =
    last_or l.last (filter (is_in l.section) (drop l.symbol-index l.symbols)) ≡ last_in l.section l.symbols
