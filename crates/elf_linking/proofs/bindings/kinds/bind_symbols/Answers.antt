use Rattle.std.proofs.Common.{ℕ, ◌<◌, length, get_or, ap, subst, ◌∙◌}
use Rattle.std.proofs.lemmas.Option.{slice_get-get_or}
use Rattle.std.specs.Option.{option_map}
use Rattle.elf_records.specs.declared.symbol.Symbol.{Symbol}
use Rattle.elf_linking.specs.VersionedView.{versioned_view}
use Rattle.elf_linking.specs.SymbolBindings.{AreKindsBound, IsBoundBy, kinds_of}
use Rattle.elf_linking.specs.declared.bindings.uses.SymbolUses.{SymbolUses}
use Rattle.elf_linking.proofs.Tables.{paired_push}
use Rattle.elf_linking.proofs.bindings.kinds.bind_symbols.Goals as goal

pub loop-place-preserved : goal.loop-place-preserved
loop-place-preserved g c =
    let symbols = c.args.symbols.now in
    let place = c.loop-place.place in
    let nothing : ℕ × Symbol = (0, record { st_name = 0; st_value = 0; st_size = 0; st_info = 0; st_other = 0; st_shndx = 0 }) in
    let one : ℕ × Symbol = get_or symbols place nothing in
    let inside : place < length symbols = c.loop-place-test.true in
    let view = versioned_view g.V.SymbolVersions.versions in
    let versions = option_map (λ table. g.V.SymbolVersions.versions table.now) c.args.versions in
    let same = c.kinds_of-kinds.ensures ∙ ap (λ (uses : SymbolUses). kinds_of one.1 uses) c.uses_at.ensures in
    let bound = subst (λ (kinds : SymbolUses). AreKindsBound view c.args.objects.now c.args.strings.now versions kinds one c.bind_kinds.result) same c.bind_kinds.ensures in
    paired_push (IsBoundBy view c.args.objects.now c.args.strings.now versions c.args.uses.now) symbols c.loop-place.all.items c.push.new.self.items place one c.bind_kinds.result
    c.loop-place.invariant.0 c.in_ok-push.ensures.items c.loop-place.invariant.1 (slice_get-get_or symbols place nothing inside) bound
