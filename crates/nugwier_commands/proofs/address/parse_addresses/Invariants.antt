use Rattle.std.proofs.Common.{◌≡◌, [], drop, map}
use Rattle.nugwier_commands.specs.Words.{addresses_after}
use Rattle.nugwier_symbols.specs.Addresses.{sought}
use Rattle.nugwier_commands.proofs.address.parse_addresses.Given as goal

-- the addresses so far, and then those that are left, are all
abbrev pub invariant-loop-word : goal.invariant-loop-word
invariant-loop-word l =
    addresses_after (map sought l.addresses.items) (drop l.word-index l.words) ≡ addresses_after [] l.words
