use Rattle.elf.specs.ElfBytes.{view}
use Rattle.elf_laws.proofs.Made.{told_as_asked}
use Rattle.elf_laws.proofs.asked.ask.Goals as goal

pub returns-in-SectionHeadersWithStrtab : goal.returns-in-SectionHeadersWithStrtab
returns-in-SectionHeadersWithStrtab g c = told_as_asked g.E.EndianParse.little (view c.args.file.now) c.tell_section_headers.result c.in-SectionHeadersWithStrtab.is c.tell_section_headers.ensures

pub returns-in-SectionHeaderByName : goal.returns-in-SectionHeaderByName
returns-in-SectionHeaderByName g c = told_as_asked g.E.EndianParse.little (view c.args.file.now) c.tell_by_name.result c.in-SectionHeaderByName.is c.tell_by_name.ensures

pub returns-in-SectionData : goal.returns-in-SectionData
returns-in-SectionData g c = told_as_asked g.E.EndianParse.little (view c.args.file.now) c.tell_data.result c.in-SectionData.is c.tell_data.ensures

pub returns-in-SectionDataAsStrtab : goal.returns-in-SectionDataAsStrtab
returns-in-SectionDataAsStrtab g c = told_as_asked g.E.EndianParse.little (view c.args.file.now) c.tell_strings.result c.in-SectionDataAsStrtab.is c.tell_strings.ensures

pub returns-in-SectionDataAsRels : goal.returns-in-SectionDataAsRels
returns-in-SectionDataAsRels g c = told_as_asked g.E.EndianParse.little (view c.args.file.now) c.tell_rels.result c.in-SectionDataAsRels.is c.tell_rels.ensures

pub returns-in-SectionDataAsRelas : goal.returns-in-SectionDataAsRelas
returns-in-SectionDataAsRelas g c = told_as_asked g.E.EndianParse.little (view c.args.file.now) c.tell_relas.result c.in-SectionDataAsRelas.is c.tell_relas.ensures

pub returns-in-SectionDataAsNotes : goal.returns-in-SectionDataAsNotes
returns-in-SectionDataAsNotes g c = told_as_asked g.E.EndianParse.little (view c.args.file.now) c.tell_notes.result c.in-SectionDataAsNotes.is c.tell_notes.ensures

pub returns-in-SegmentData : goal.returns-in-SegmentData
returns-in-SegmentData g c = told_as_asked g.E.EndianParse.little (view c.args.file.now) c.tell_segment.result c.in-SegmentData.is c.tell_segment.ensures

pub returns-in-SegmentDataAsNotes : goal.returns-in-SegmentDataAsNotes
returns-in-SegmentDataAsNotes g c = told_as_asked g.E.EndianParse.little (view c.args.file.now) c.tell_segment_notes.result c.in-SegmentDataAsNotes.is c.tell_segment_notes.ensures

pub returns-in-SymbolTable : goal.returns-in-SymbolTable
returns-in-SymbolTable g c = told_as_asked g.E.EndianParse.little (view c.args.file.now) c.tell_symbols.result c.in-SymbolTable.is c.tell_symbols.ensures

pub returns-in-DynamicSymbolTable : goal.returns-in-DynamicSymbolTable
returns-in-DynamicSymbolTable g c = told_as_asked g.E.EndianParse.little (view c.args.file.now) c.tell_dynamic_symbols.result c.in-DynamicSymbolTable.is c.tell_dynamic_symbols.ensures

pub returns-in-Dynamic : goal.returns-in-Dynamic
returns-in-Dynamic g c = told_as_asked g.E.EndianParse.little (view c.args.file.now) c.tell_dynamic.result c.in-Dynamic.is c.tell_dynamic.ensures

pub returns-in-SymbolVersionTable : goal.returns-in-SymbolVersionTable
returns-in-SymbolVersionTable g c = told_as_asked g.E.EndianParse.little (view c.args.file.now) c.tell_versions.result c.in-SymbolVersionTable.is c.tell_versions.ensures
