use Rattle.std.proofs.Common.{map}
use Rattle.elf_reading.specs.Cache.{range_of}
use Rattle.elf.proofs.stream.Opened.{of_file}
use Rattle.elf.proofs.elf_stream.ElfStream.is_of_file.Goals as goal

pub returns : goal.returns
returns g c =
    let stream = c.self.inside in
    rw (← c.self.view_is)
    (of_file g.E.EndianParse.little g.E.EndianParse.of_byte _ (record {
      content = g.S.StreamSource.content stream.source;
      can_fail = g.S.StreamSource.can_fail stream.source;
      failures = g.S.StreamSource.failures stream.source;
      by_segments = stream.by_segments;
      headers = record {
        ehdr = stream.ehdr;
        declares_sections = stream.declares_sections;
        sections = stream.shdrs.items;
        segments = stream.phdrs.items;
      };
      cached = map range_of stream.cache;
      size = stream.len;
      parts = stream.cache;
    }) c.self.invariant.tables)
