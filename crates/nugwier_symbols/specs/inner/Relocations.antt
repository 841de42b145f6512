-- The relocations of a place, and what they are told by.
use Rattle.std.specs.Prelude.{ℕ, Option, Result}
use Rattle.std.specs.Option.{option_and_then, option_map}
use Rattle.elf.specs.Answers.{relas_left, rels_left}
use Rattle.elf_dynamic.specs.Relr.{addresses_left}
use Rattle.elf_parts.specs.gnu_symver.Table.{Versions}
use Rattle.elf_records.specs.Number.{ok_map}
use Rattle.elf_records.specs.Table.{table_view}
use Rattle.nugwier_report.specs.Labels.{named_by}
use Rattle.nugwier_report.specs.Said.{Said}
use Rattle.nugwier_report.specs.declared.problem.Fault.{Fault}
use Rattle.nugwier_report.specs.declared.problem.Part.{Part}
use Rattle.nugwier_symbols.specs.Relocations.{Place, PlacedRelocations, Records, Surroundings, Symbols, count_of}
use Rattle.nugwier_symbols.specs.Relocations.{heading_of, in_section, in_table, part_of, relas, relative, rels}
use Rattle.nugwier_symbols.specs.declared.relocations.NamedSymbols.{NamedSymbols}
use Rattle.nugwier_symbols.specs.declared.relocations.Place.{Place as PlaceIn}
use Rattle.nugwier_symbols.specs.declared.relocations.Place.TheVariants as place
use Rattle.nugwier_symbols.specs.declared.relocations.Records.{Records as RecordsIn}
use Rattle.nugwier_symbols.specs.declared.relocations.Records.TheVariants as records
use Rattle.nugwier_symbols.specs.declared.relocations.Surroundings.{Surroundings as Around}

abbrev pub records_view : {E : Type 0} → RecordsIn E → Records
records_view (records.Rels left) = rels (rels_left left)
records_view (records.Relas left) = relas (relas_left left)
records_view (records.Relative left) = relative (addresses_left left)

-- how many there are, if that is told
abbrev pub counted_view : {E : Type 0} → Option (RecordsIn E) → Option ℕ
counted_view counted = option_and_then count_of (option_map records_view counted)

abbrev pub place_view : PlaceIn → Place
place_view (place.Section k name) = in_section k name.now
place_view (place.Table table) = in_table table

abbrev pub place_part : PlaceIn → Part
place_part place = part_of (place_view place)

abbrev pub place_heading : PlaceIn → Option ℕ → Said
place_heading place count = heading_of (place_view place) count

abbrev pub symbols_view : {E : Type 0} → NamedSymbols E → Symbols
symbols_view symbols = ((table_view symbols.table, symbols.strings), symbols.is_dynamic)

abbrev pub placed_view : {E : Type 0} → PlaceIn → Option (RecordsIn E) → Result (Option (NamedSymbols E)) Fault →
    Result (RecordsIn E) Fault → PlacedRelocations
placed_view place counted symbols records = record {
  place = place_view place;
  count = counted_view counted;
  symbols = ok_map (option_map symbols_view) symbols;
  records = ok_map records_view records;
}

abbrev pub around_view : {V : Type 0} → (V → Versions) → Around V → Surroundings
around_view versions around = record {
  machine = around.machine;
  versions = option_map (λ v. versions v.now) around.versions;
  named = named_by around.labels.now;
}
