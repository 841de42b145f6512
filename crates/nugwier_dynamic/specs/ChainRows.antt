-- What is said of the chains of hash sections.
use Rattle.std.specs.Prelude.{ℕ, List, [], ◌∷◌, Option, Some, None, codes}
use Rattle.nugwier_layouts.specs.Members.{Members, number, text, word}
use Rattle.nugwier_report.specs.Parts.{part_member}
use Rattle.nugwier_report.specs.Said.{Said, numbered, states}
use Rattle.nugwier_report.specs.declared.problem.Part.{Part}
use Rattle.nugwier_report.specs.declared.problem.Part.TheVariants.{Dynamic, Section}
use Rattle.nugwier_dynamic.specs.declared.chain_rows.ChainCount.{ChainCount}
use Rattle.nugwier_dynamic.specs.declared.chain_rows.Chains.{Chains}
use Rattle.nugwier_layouts.specs.Layouts.{constant}
use Rattle.nugwier_layouts.specs.declared.layouts.TheConstants as layout

-- of each length from 0 on, how many buckets have such a chain, and how many symbols lie in chains that are not longer;
-- and how many there are of all
pub record ChainsView : Type 0 where
  pub lengths : List ChainCount
  pub all : ChainCount

abbrev pub chains_view : Chains → ChainsView
chains_view chains = record { lengths = chains.lengths.items; all = chains.all }

-- the chains of section k, of this name
abbrev pub chains_members : ℕ → List ℕ → ChainCount → Members
chains_members k name all =
    (codes "section", number k)
    ∷ (codes "name", text (Some name))
    ∷ (codes "buckets", number all.buckets)
    ∷ []

-- of the hash table whose address the entry with this tag gives
abbrev pub entry_chains_members : List ℕ → ChainCount → Members
entry_chains_members tag all = (codes "table", text (Some tag)) ∷ (codes "buckets", number all.buckets) ∷ []

-- those of length n, of a part or of the table of an entry
abbrev pub length_members : Part → Option (List ℕ) → ChainCount → ℕ → ChainCount → Members
length_members part tag all n count =
    part_member part
    ∷ (codes "length", number n)
    ∷ (codes "buckets", number count.buckets)
    ∷ (codes "all_buckets", number all.buckets)
    ∷ (codes "symbols", number count.symbols)
    ∷ (codes "all_symbols", number all.symbols)
    ∷ (codes "table", word tag)
    ∷ []

abbrev pub length_said : Part → Option (List ℕ) → ChainCount → ℕ → ChainCount → List Said
length_said part tag all n count = states (constant layout.CHAIN_LENGTH) (length_members part tag all n count) ∷ []

abbrev pub lengths_said : Part → Option (List ℕ) → ChainsView → List Said
lengths_said part tag chains = numbered (length_said part tag chains.all) 0 chains.lengths

abbrev pub chains_said : ℕ → List ℕ → ChainsView → List Said
chains_said k name chains =
    states (constant layout.CHAINS_HEADING) (chains_members k name chains.all) ∷ lengths_said (Section k) None chains

abbrev pub entry_chains_said : List ℕ → ChainsView → List Said
entry_chains_said tag chains =
    states (constant layout.CHAINS_TABLE_HEADING) (entry_chains_members tag chains.all) ∷ lengths_said Dynamic (Some tag) chains
