-- What is looked up most often, as C sees it.
use Rattle.std.specs.Prelude.{◌≡◌, false, [], Some, None, if◌then◌else◌}
use Rattle.std.specs.Option.{option_map}
use Rattle.elf.specs.Common.{CommonData}
use Rattle.elf_c.specs.HashTables.{gnu_of_c, sysv_of_c}
use Rattle.elf_c.specs.Symbols.{dynamic_view, symbols_view_of_c}
use Rattle.elf_c.specs.Tables.{HasNoBytes}
use Rattle.elf_c.specs.declared.common.NugwierCommon.{NugwierCommon}
use Rattle.elf_c.specs.declared.hash_tables.NugwierGnu.{NugwierGnu}
use Rattle.elf_c.specs.declared.hash_tables.NugwierSysv.{NugwierSysv}
use Rattle.elf_c.specs.declared.symbols.NugwierDynamicTable.{NugwierDynamicTable}
use Rattle.elf_c.specs.declared.symbols.NugwierSymbolTable.{NugwierSymbolTable}

-- what a struct holds
abbrev pub common_of_c : NugwierCommon → CommonData
common_of_c c = record {
  symtab = option_map (λ pair. pair.0) (symbols_view_of_c c.symbols);
  symtab_strs = option_map (λ pair. pair.1) (symbols_view_of_c c.symbols);
  dynsyms = option_map (λ pair. pair.0) (symbols_view_of_c c.dynamic_symbols);
  dynsyms_strs = option_map (λ pair. pair.1) (symbols_view_of_c c.dynamic_symbols);
  dynamic = dynamic_view c.dynamics;
  sysv_hash = if c.has_sysv then Some (sysv_of_c c.sysv) else None;
  gnu_hash = if c.has_gnu then Some (gnu_of_c c.gnu) else None;
}

-- ---- a part that is not found: each number is 0, each `bool` is false, and there are no bytes

abbrev pub AreNoSymbols : NugwierSymbolTable → Type 0
AreNoSymbols s = (s.found ≡ false) × HasNoBytes false false s.symbols × (s.strings.now ≡ [])

abbrev pub AreNoDynamics : NugwierDynamicTable → Type 0
AreNoDynamics d = (d.found ≡ false) × HasNoBytes false false d.entries

abbrev pub IsNoSysv : NugwierSysv → Type 0
IsNoSysv s = (s.little ≡ false) × (s.is_64 ≡ false) × (s.buckets.now ≡ []) × (s.chains.now ≡ [])

abbrev pub IsNoGnu : NugwierGnu → Type 0
IsNoGnu g =
    (g.little ≡ false) × (g.is_64 ≡ false) × (g.nbucket ≡ 0) × (g.first ≡ 0) × (g.nbloom ≡ 0) × (g.nshift ≡ 0)
    × (g.bloom.now ≡ []) × (g.buckets.now ≡ []) × (g.chains.now ≡ [])

abbrev pub MissingAreEmpty : NugwierCommon → Type 0
MissingAreEmpty c =
    (c.symbols.found ≡ false → AreNoSymbols c.symbols)
    × (c.dynamic_symbols.found ≡ false → AreNoSymbols c.dynamic_symbols)
    × (c.dynamics.found ≡ false → AreNoDynamics c.dynamics)
    × (c.has_sysv ≡ false → IsNoSysv c.sysv)
    × (c.has_gnu ≡ false → IsNoGnu c.gnu)
