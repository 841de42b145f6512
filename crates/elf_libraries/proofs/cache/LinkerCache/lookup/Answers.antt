use Rattle.std.proofs.Common.{◌≡◌, ◌+◌, ℕ, List, Option, Some, None, [], true, false, ap, sym, drop, refl, ◌∙◌, Bor}
use Rattle.std.specs.Prelude.{is_some}
use Rattle.std.proofs.lemmas.List.{at_drop_more}
use Rattle.elf_libraries.specs.Cache.{cache_view, cached_path, flags_view, or_later}
use Rattle.elf_libraries.specs.Search.{folders_view, path_view}
use Rattle.elf_libraries.proofs.cache.LinkerCache.lookup.Goals as goal

found : (o : Option (Bor (List ℕ))) (later : Option (List ℕ)) → is_some o ≡ true → path_view o ≡ or_later (path_view o) later
found None later some = cc
found (Some b) later some = refl

not_found : (o : Option (Bor (List ℕ))) (later : Option (List ℕ)) → is_some o ≡ false → later ≡ or_later (path_view o) later
not_found None later none = refl
not_found (Some b) later none = cc

-- what stands past the end
abbrev no_hwcap : Bor (List ℕ)
no_hwcap = record { ref_ptr = (0, 0); now = [] }

pub returns-then-is_some : goal.returns-then-is_some
returns-then-is_some c =
    let hwcaps = c.args.hwcaps.now in
    let i = c.loop-hwcap.hwcap-index in
    let all : List (Bor (List ℕ)) → Option (List ℕ) =
    λ left. cached_path (cache_view c.args.self.now) (flags_view c.args.flags.now) (folders_view left) c.args.name.now in
    let later = all (drop (i + 1) hwcaps) in
    found c.path_at-found.result later (sym c.is_some.ensures ∙ c.if-is_some.true)
    ∙ (ap (λ (o : Option (List ℕ)). or_later o later) c.path_at-found.ensures
    ∙ (sym (at_drop_more all hwcaps i no_hwcap c.loop-hwcap-test.true) ∙ c.loop-hwcap.invariant))

pub loop-hwcap-preserved : goal.loop-hwcap-preserved
loop-hwcap-preserved c =
    let hwcaps = c.args.hwcaps.now in
    let i = c.loop-hwcap.hwcap-index in
    let all : List (Bor (List ℕ)) → Option (List ℕ) =
    λ left. cached_path (cache_view c.args.self.now) (flags_view c.args.flags.now) (folders_view left) c.args.name.now in
    let later = all (drop (i + 1) hwcaps) in
    not_found c.path_at-found.result later (sym c.is_some.ensures ∙ c.if-is_some.false)
    ∙ (ap (λ (o : Option (List ℕ)). or_later o later) c.path_at-found.ensures
    ∙ (sym (at_drop_more all hwcaps i no_hwcap c.loop-hwcap-test.true) ∙ c.loop-hwcap.invariant))
