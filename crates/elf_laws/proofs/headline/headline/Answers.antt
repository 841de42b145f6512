use Rattle.std.proofs.Common.{sym}
use Rattle.elf.specs.ElfStream.{opened_as}
use Rattle.elf_reading.specs.Opening.{opened_file}
use Rattle.elf_laws.specs.Asked.{after}
use Rattle.elf_laws.proofs.Promises.{all_kept, answered_again, cached_alike, failures_told, headers_kept, of_opened, opened_alike}
use Rattle.elf_laws.proofs.Refusals.{answers_plain}
use Rattle.elf_laws.proofs.headline.headline.Goals as goal

pub returns : goal.returns
returns g c =
    let little = g.E.EndianParse.little in
    let of_byte = g.E.EndianParse.of_byte in
    let structs = c.records_are_read_back.ensures in
    record {
      records_are_structs = (structs.section_header, structs.program_header, structs.symbol, structs.rel, structs.rela, structs.dynamic);
      files_are_read_back = λ h sections segments bytes written. c.written_files_are_opened.ensures.view little of_byte h sections segments bytes written;
      items_are_in_order = c.list_is_what_get_gives.ensures;
      opens_alike = λ bytes by_segments can_fail before opened is. opened_alike (opened_as little of_byte by_segments bytes) can_fail before opened is;
      calls_answer_alike = λ bytes by_segments can_fail before s calls is content made.
          of_opened (opened_as little of_byte by_segments bytes) s.headers _ is.1 (λ v read headers.
          (c.calls_answer_alike.ensures.calls bytes v s calls by_segments read content headers made, headers_kept little v s calls made headers));
      cached_calls_answer_alike = λ bytes by_segments can_fail before s calls call is content made cached.
          of_opened (opened_as little of_byte by_segments bytes) s.headers _ is.1 (λ v read headers.
          cached_alike little bytes v (λ s calls content headers made. c.calls_answer_alike.ensures.calls bytes v s calls by_segments read content headers made) s calls call content headers made cached);
      calls_answer_again = answered_again little;
      streams_keep = all_kept little;
      failures_are_told = failures_told little;
      refusals_are_of_bytes = answers_plain little;
      parts_answer_as_whole = c.part_answers_as_whole.ensures.part;
      listings_are_the_same = λ bytes can_fail before s calls questions is made.
          of_opened (opened_file little of_byte bytes) s.headers _ is.1 (λ v read headers.
          let last = after s calls in
          let same = headers_kept little v s calls made headers in
          sym (c.texts_are_the_same.ensures bytes v last.headers.ehdr last questions read same));
      gnu_find_is_sound = c.gnu_find_on_sound.ensures;
      sysv_find_is_sound = c.sysv_find_on_sound.ensures;
      one_fault = (c.one_first_fault.ensures, c.one_fault_of_a_file.ensures);
    }
