-- What the bloom words exclude is not found.
use Rattle.std.proofs.Common.{◌≡◌, ℕ, ◌==◌, ◌||◌, if◌then◌else◌, Bool, true, false, List, Option, None, Result, Ok, Err, refl, subst, sym}
use Rattle.elf_records.specs.Record.{◌>>=◌}
use Rattle.elf_records.specs.Table.{Table}
use Rattle.elf_records.specs.declared.parse.ParseError.{ParseError}
use Rattle.elf_records.specs.declared.symbol.Symbol.{Symbol}
use Rattle.elf_parts.specs.GnuFind.{GnuTable, excluded_by, excludes, find_by_hash, gnu_find, passes}
use Rattle.elf_parts.specs.Hash.{gnu_hash_of, word_count}

-- no bucket or no bloom word, or a bloom word that does not let the hash pass
not_found : (buckets bloom : Bool) (passed : Result Bool ParseError) (found : Result (Option (ℕ × Symbol)) ParseError) →
    (bloom || excluded_by passed) ≡ true →
    (if buckets || bloom then Ok None else passed >>= λ yes. if yes then found else Ok None) ≡ Ok None
not_found true bloom passed found e = refl
not_found false true passed found e = refl
not_found false false (Ok true) found e = absurd (cc (e))
not_found false false (Ok false) found e = refl
not_found false false (Err error) found e = absurd (cc (e))

at_name : (t : GnuTable) (symbols : Table) (strings name : List ℕ) → excludes t (gnu_hash_of name) ≡ true →
    gnu_find t symbols strings name ≡ Ok None
unfolding gnu_find
at_name t symbols strings name e =
    not_found (word_count t.buckets == 0) (t.hdr.nbloom == 0) (passes t (gnu_hash_of name))
    (find_by_hash t symbols strings name) e

pub or_by : (a b : Bool) → b ≡ true → (a || b) ≡ true
or_by true b e = refl
or_by false b e = e

pub excluded : (t : GnuTable) (hash : ℕ) → excludes t hash ≡ true → (symbols : Table) (strings name : List ℕ) →
    gnu_hash_of name ≡ hash → gnu_find t symbols strings name ≡ Ok None
excluded t hash e symbols strings name same =
    at_name t symbols strings name (subst (λ (h : ℕ). excludes t h ≡ true) (sym same) e)
