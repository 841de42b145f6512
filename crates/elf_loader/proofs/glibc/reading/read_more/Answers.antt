use Rattle.elf_loader.proofs.GlibcReading.{more_read}
use Rattle.elf_loader.proofs.glibc.reading.read_more.Goals as goal

pub returns-clause-sound : goal.returns-clause-sound
returns-clause-sound g c =
    let read = c.in_ok-bytes.ensures in
    more_read (g.S.StreamSource.content c.args.source.now) c.args.range.1 (record { start = c.args.range.0; bytes = c.in_ok-bytes.bytes }) c.args.fetched.now.items c.push.new.self.items c.in_default.ensures.items read.len read.bytes
