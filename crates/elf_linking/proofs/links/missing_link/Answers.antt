use Rattle.std.proofs.Common.{◌≡◌, ℕ, Option, Some, None, IsNone, refl, sym, ◌∙◌}
use Rattle.std.specs.Option.{option_map}
use Rattle.elf.specs.Answers.{symbols_view}
use Rattle.elf.specs.Parts.{loaded}
use Rattle.elf_parts.specs.gnu_symver.Table.{versions_view}
use Rattle.elf_linking.specs.DynamicFile.{dynamic_symbols, dynamic_versions, hash_parts}
use Rattle.elf_linking.specs.ObjectTable.{hash_view}
use Rattle.elf_linking.proofs.Whole.{found_there, uses_there}
use Rattle.elf_linking.proofs.links.missing_link.Goals as goal

none_is : (o : Option (ℕ × ℕ)) → IsNone o → o ≡ None
none_is None none = refl
none_is (Some x) none = cc none

pub returns : goal.returns
returns g c = λ none.
    let part = loaded (g.R.Headers.file c.args.file.now) (g.R.Reader.ranges c.args.file.now) in
    let last = none_is c.missing_uses.result none in
    record {
      symbols = found_there (option_map symbols_view) c.dynamic_symbols.result (dynamic_symbols part) c.dynamic_symbols.ensures (sym c.missing_in.ensures ∙ c.in_default.is);
      hash = found_there (option_map hash_view) c.hash_parts.result (hash_parts part) c.hash_parts.ensures (sym c.missing_in-2.ensures ∙ c.in_default-missing_in.is);
      versions = found_there (option_map versions_view) c.versions.result (dynamic_versions part) c.versions.ensures (sym c.missing_in-3.ensures ∙ c.in_default-missing_in-2.is);
      uses = uses_there part _ c.add_dynamic_uses.result _ c.add_dynamic_uses.ensures (sym c.missing_uses.ensures ∙ last);
    }
