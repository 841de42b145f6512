use Rattle.std.proofs.Common.{[], ◌∷◌}
use Rattle.elf.specs.Readers as methods
use Rattle.elf.specs.StreamFile.{stream_file}
use Rattle.elf.proofs.stream.Needs.{section_data_needs}
use Rattle.elfshow.proofs.StreamCalls.{first_refused, then_loaded}
use Rattle.elfshow.proofs.stream.load_checked.Goals as goal

pub returns-in-Ok : goal.returns-in-Ok
returns-in-Ok g c =
    let file = stream_file g.E.EndianParse.little c.args.stream.now in
    then_loaded g.E.EndianParse.little c.args.stream.now c.load_section_data.new.stream (methods.SectionData c.args.section.now) (methods.DynamicSymbolTable ∷ []) c.load_dynamic_symbols.new.stream _ c.load_section_data.result c.load_dynamic_symbols.result
    (λ bytes ok. section_data_needs (file bytes) c.args.section.now ok) c.in-Ok.is c.load_section_data.ensures c.load_dynamic_symbols.ensures

pub returns-in-Err : goal.returns-in-Err
returns-in-Err g c =
    first_refused g.E.EndianParse.little c.args.stream.now c.load_section_data.new.stream (methods.SectionData c.args.section.now) (methods.DynamicSymbolTable ∷ []) c.in-Err.error c.load_section_data.result c.in-Err.is c.load_section_data.ensures
