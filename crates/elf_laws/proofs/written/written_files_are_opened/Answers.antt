use Rattle.elf_laws.proofs.WrittenFiles.{file_opened, listed_sections, listed_segments, names_read}
use Rattle.elf_laws.proofs.written.written_files_are_opened.Goals as goal

pub returns : goal.returns
returns g c = record {
  view = λ little of_byte h sections segments bytes w. file_opened little h of_byte sections segments bytes w;
  sections = λ little of_byte h sections segments bytes w. listed_sections little h sections bytes w.small w.sections_lie;
  segments = λ little of_byte h sections segments bytes w.
      listed_segments little h sections segments bytes w.small w.segments_lie;
  names = λ little of_byte h sections segments names bytes w.
      names_read little h of_byte sections segments names bytes w.small w.sections_lie;
}
