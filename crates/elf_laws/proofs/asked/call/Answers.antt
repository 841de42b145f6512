use Rattle.elf_laws.proofs.Made.{was_asked}
use Rattle.elf_laws.proofs.asked.call.Goals as goal

pub returns-in-SectionHeadersWithStrtab : goal.returns-in-SectionHeadersWithStrtab
returns-in-SectionHeadersWithStrtab g c = was_asked g.E.EndianParse.little c.args.stream.now c.call_section_headers.new.stream c.call_section_headers.result c.in-SectionHeadersWithStrtab.is c.call_section_headers.ensures

pub returns-in-SectionHeaderByName : goal.returns-in-SectionHeaderByName
returns-in-SectionHeaderByName g c = was_asked g.E.EndianParse.little c.args.stream.now c.call_by_name.new.stream c.call_by_name.result c.in-SectionHeaderByName.is c.call_by_name.ensures

pub returns-in-SectionData : goal.returns-in-SectionData
returns-in-SectionData g c = was_asked g.E.EndianParse.little c.args.stream.now c.call_data.new.stream c.call_data.result c.in-SectionData.is c.call_data.ensures

pub returns-in-SectionDataAsStrtab : goal.returns-in-SectionDataAsStrtab
returns-in-SectionDataAsStrtab g c = was_asked g.E.EndianParse.little c.args.stream.now c.call_strings.new.stream c.call_strings.result c.in-SectionDataAsStrtab.is c.call_strings.ensures

pub returns-in-SectionDataAsRels : goal.returns-in-SectionDataAsRels
returns-in-SectionDataAsRels g c = was_asked g.E.EndianParse.little c.args.stream.now c.call_rels.new.stream c.call_rels.result c.in-SectionDataAsRels.is c.call_rels.ensures

pub returns-in-SectionDataAsRelas : goal.returns-in-SectionDataAsRelas
returns-in-SectionDataAsRelas g c = was_asked g.E.EndianParse.little c.args.stream.now c.call_relas.new.stream c.call_relas.result c.in-SectionDataAsRelas.is c.call_relas.ensures

pub returns-in-SectionDataAsNotes : goal.returns-in-SectionDataAsNotes
returns-in-SectionDataAsNotes g c = was_asked g.E.EndianParse.little c.args.stream.now c.call_notes.new.stream c.call_notes.result c.in-SectionDataAsNotes.is c.call_notes.ensures

pub returns-in-SegmentData : goal.returns-in-SegmentData
returns-in-SegmentData g c = was_asked g.E.EndianParse.little c.args.stream.now c.call_segment.new.stream c.call_segment.result c.in-SegmentData.is c.call_segment.ensures

pub returns-in-SegmentDataAsNotes : goal.returns-in-SegmentDataAsNotes
returns-in-SegmentDataAsNotes g c = was_asked g.E.EndianParse.little c.args.stream.now c.call_segment_notes.new.stream c.call_segment_notes.result c.in-SegmentDataAsNotes.is c.call_segment_notes.ensures

pub returns-in-SymbolTable : goal.returns-in-SymbolTable
returns-in-SymbolTable g c = was_asked g.E.EndianParse.little c.args.stream.now c.call_symbols.new.stream c.call_symbols.result c.in-SymbolTable.is c.call_symbols.ensures

pub returns-in-DynamicSymbolTable : goal.returns-in-DynamicSymbolTable
returns-in-DynamicSymbolTable g c = was_asked g.E.EndianParse.little c.args.stream.now c.call_dynamic_symbols.new.stream c.call_dynamic_symbols.result c.in-DynamicSymbolTable.is c.call_dynamic_symbols.ensures

pub returns-in-Dynamic : goal.returns-in-Dynamic
returns-in-Dynamic g c = was_asked g.E.EndianParse.little c.args.stream.now c.call_dynamic.new.stream c.call_dynamic.result c.in-Dynamic.is c.call_dynamic.ensures

pub returns-in-SymbolVersionTable : goal.returns-in-SymbolVersionTable
returns-in-SymbolVersionTable g c = was_asked g.E.EndianParse.little c.args.stream.now c.call_versions.new.stream c.call_versions.result c.in-SymbolVersionTable.is c.call_versions.ensures
