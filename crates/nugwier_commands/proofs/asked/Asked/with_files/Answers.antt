use Rattle.std.proofs.Common.{◌≡◌, ◌≤◌, List, [], ◌∷◌, Result, Ok, drop, length, map, take, ap, sym, ◌∙◌, subst, arith}
use Rattle.std.proofs.Common.{◌-◌, Bor, ℕ}
use Rattle.std.proofs.lemmas.List.{take_all}
use Rattle.nugwier_commands.specs.Words.{Answer, IsParsed, SoFar, addresses_after, at_addresses, so_far}
use Rattle.nugwier_symbols.specs.Addresses.{Sought, sought}
use Rattle.nugwier_commands.specs.Words.{with_addresses, with_files}
use Rattle.nugwier_commands.specs.declared.words.Command.{Command}
use Rattle.nugwier_commands.specs.declared.words.Command.TheVariants.{Address}
use Rattle.nugwier_commands.specs.declared.words.WordError.{WordError}
use Rattle.nugwier_commands.proofs.asked.Asked.with_files.Goals as goal

-- one file or more, with these addresses after the first one
with_address : (asked : SoFar) (files : List (Bor (List ℕ))) (addresses : List Sought) → 1 ≤ length files → addresses_after [] (take (length files - 1) (drop 1 files)) ≡ Ok addresses → with_files Address asked files ≡ with_addresses asked (take 1 files) addresses
with_address asked [] addresses some e = absurd (omega (arith, some))
with_address asked (file ∷ others) addresses some e =
    let all : length others ≤ length (file ∷ others) - 1 = omega arith in
    ap (at_addresses asked (file ∷ [])) (ap (addresses_after []) (sym (take_all (length (file ∷ others) - 1) others all)) ∙ e)

pub returns-in_ok-addresses-in-Address : goal.returns-in_ok-addresses-in-Address
returns-in_ok-addresses-in-Address c =
    let asked = so_far c.args.self in
    let files = c.args.self.files.items in
    let addresses = map sought c.in_ok-addresses-in-Address.addresses.items in
    let here : with_files Address asked files ≡ with_addresses asked (take 1 files) addresses =
    subst (λ (files : List (Bor (List ℕ))). with_files Address asked files ≡ with_addresses asked (take 1 files) addresses) c.as_slice.ensures.value
    (with_address asked c.as_slice.result.now addresses c.in-len1-up.len_at_least c.in_ok-addresses-in-Address.ensures) in
    subst (λ (answer : Result Answer WordError). IsParsed answer c.at_addresses.result)
    (sym (ap (λ (command : Command). with_files command asked files) c.in-Address.is ∙ here))
    c.at_addresses.ensures
