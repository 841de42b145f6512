-- The options of `symbols`, which are those of GNU nm: which symbols are listed (binutils, nm.c, `filter_symbols`), and
-- the numbers that rows show (`print_symbol_info_bsd`, `print_symbol_info_posix`).
use Rattle.std.specs.Prelude.{ℕ, ◌==◌, ◌&&◌, ◌||◌, not, Bool, true, false, if◌then◌else◌}
use Rattle.elf_abi.specs.Values.{shn_abs, shn_undef, stb_local, stt_file, stt_section}
use Rattle.elf_records.specs.Symbol.{symbol_binding, symbol_type}
use Rattle.elf_records.specs.declared.symbol.Symbol.{Symbol}
use Rattle.nugwier_symbols.specs.declared.symbol_options.Extent.{Extent}
use Rattle.nugwier_symbols.specs.declared.symbol_options.Extent.TheVariants.{All, Defined, Undefined}
use Rattle.nugwier_symbols.specs.declared.symbol_options.SymbolOptions.{SymbolOptions}
use Rattle.nugwier_symbols.specs.declared.symbol_options.SymbolOrder.{SymbolOrder}
use Rattle.nugwier_symbols.specs.declared.symbol_options.SymbolOrder.TheVariants as order
use Rattle.nugwier_layouts.specs.Layouts.{Layout, constant}
use Rattle.nugwier_layouts.specs.declared.layouts.TheConstants as layout

abbrev pub no_options : SymbolOptions
no_options = record {
  is_dynamic = false;
  is_external = false;
  extent = All;
  order = order.Table;
  has_sizes = false;
  is_portable = false;
  functions_only = false;
}

-- ---- which symbols are listed

-- nm takes those of sections and of files as for debuggers, and leaves them out
abbrev pub is_for_debuggers : Symbol → Bool
is_for_debuggers s = symbol_type s == stt_section || symbol_type s == stt_file

-- other files can see it: it is not local
abbrev pub is_external : Symbol → Bool
is_external s = not (symbol_binding s == stb_local)

abbrev pub is_of_extent : Extent → Symbol → Bool
is_of_extent All s = true
is_of_extent Undefined s = s.st_shndx == shn_undef
is_of_extent Defined s = not (s.st_shndx == shn_undef)

-- by size only what has one, and is neither undefined nor absolute
abbrev pub is_sized : SymbolOrder → Symbol → Bool
is_sized order.Size s = not (s.st_size == 0) && not (s.st_shndx == shn_undef) && not (s.st_shndx == shn_abs)
is_sized _ s = true

-- symbol 0 is none
abbrev pub is_selected : SymbolOptions → ℕ → Symbol → Bool
is_selected options i s =
    not (i == 0) && not (is_for_debuggers s) && (not options.is_external || is_external s)
    && is_of_extent options.extent s && is_sized options.order s

-- ---- rows

-- a size that is shown and not 0 follows the value; in the order of sizes it stands in its place
abbrev pub sized_layout : Bool → SymbolOrder → Layout
sized_layout true _ = constant layout.VALUED_AND_SIZED_SYMBOL
sized_layout false order.Size = constant layout.SIZED_SYMBOL
sized_layout false _ = constant layout.VALUED_SYMBOL

-- an undefined symbol has no number
abbrev pub letter_layout : SymbolOptions → Symbol → Layout
letter_layout options s =
    if s.st_shndx == shn_undef then constant layout.UNDEFINED_SYMBOL else if s.st_size == 0 then constant layout.VALUED_SYMBOL
    else sized_layout options.has_sizes options.order

-- in the form of POSIX (nm, option -P)
abbrev pub portable_layout : Symbol → Layout
portable_layout s =
    if s.st_shndx == shn_undef then constant layout.PORTABLE_UNDEFINED else if s.st_size == 0 then constant layout.PORTABLE
    else constant layout.PORTABLE_SIZED

abbrev pub row_layout : SymbolOptions → Symbol → Layout
row_layout options s = if options.is_portable then portable_layout s else letter_layout options s
