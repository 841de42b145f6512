use Rattle.std.proofs.Common.{◌≡◌, ◌++◌, length, map}
use Rattle.std.specs.List.{enumerate_from}
use Rattle.std.specs.Option.{option_map}
use Rattle.elf_records.specs.Symbol.{symbol_reads}
use Rattle.elf_records.specs.Table.{items_left, table_items, table_view}
use Rattle.elf_tools.specs.SymbolVersions.{symbol_view, versioned_symbols, with_version}
use Rattle.elf_tools.proofs.symbol_versions.versioned_symbols.Given as goal

-- with the symbols that are left, those so far are all
abbrev pub invariant-loop-symbol : goal.invariant-loop-symbol
invariant-loop-symbol g l =
    let versions = option_map (λ table. g.V.SymbolVersions.versions table.now) l.versions in
    let left = items_left symbol_reads l.symbol-iterator in
    (goal.iterator-loop-symbol g).can_next l.symbol-iterator × (goal.iterator-loop-symbol g).is_finite l.symbol-iterator ×
    (versioned_symbols versions (table_items symbol_reads (table_view l.symbols))
    ≡ map symbol_view l.all.items ++ map (with_version versions) (enumerate_from (length l.all.items) left))
