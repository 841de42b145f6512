use Rattle.std.proofs.lemmas.Result.{err_from_is_err_and}
use Rattle.std.proofs.Common.{refl, ◌≤◌, ◌<◌, length}
use Rattle.std.specs.Prelude.{◌^◌}
use Rattle.elf_records.specs.Relocation.{rel_reads}
use Rattle.elf.specs.Answers.{rels_left}
use Rattle.elf.specs.ObjectFile.{records_of}
use Rattle.elf.specs.Data.{content_of_type}
use Rattle.elf.specs.Readers.{SectionDataAsRels}
use Rattle.elf.specs.StreamFile.{stream_file}
use Rattle.elf.proofs.stream.Lent.{few_read, still_ok, typed_within}
use Rattle.elf.proofs.stream.Methods.{read, refused}
use Rattle.elf.proofs.stream.Needs.{ok_inside}
use Rattle.elf.proofs.elf_stream.ElfStream.section_data_as_rels.Goals as goal

pub returns-in_err-load_typed : goal.returns-in_err-load_typed
returns-in_err-load_typed g c =
    let leaves = refused g.E.EndianParse.little c.args.self.now c.load_typed.new.self (SectionDataAsRels c.args.shdr.now) rels_left c.from_residual.ensures.1 c.in_err-load_typed.ensures in
    let is = err_from_is_err_and c.from_residual.result c.from_residual.ensures.1 in
    ((refl, (λ _. tt), leaves), record { leaves = tt; few = rw is.1 tt; size = rw is.1 tt; bound = rw is.1 tt })

pub returns : goal.returns
returns g c =
    let little = g.E.EndianParse.little in
    let old = c.args.self.now in
    let made = c.given.ensures in
    let leaves = read little old c.load_typed.new.self (SectionDataAsRels c.args.shdr.now) rels_left _ refl c.in_ok-load_typed.ensures c.is_part_of_file.ensures c.section_data_as_rels.ensures.value c.section_data_as_rels.ensures.plain made in
    let size = still_ok (λ found. length (rels_left found) ≤ c.args.shdr.now.sh_size) c.section_data_as_rels.result c.given.result made c.section_data_as_rels.ensures.size in (
      (refl, (λ _. tt), leaves),
      record {
        leaves = tt;
        few = few_read rels_left c.args.shdr.now.sh_size old c.load_typed.new.self _ rels_left _ c.given.result
            (λ bytes ok. typed_within little old 9 c.args.shdr.now refl bytes (ok_inside (records_of rel_reads (stream_file little old bytes)) (content_of_type 9 (stream_file little old bytes) c.args.shdr.now) ok))
            leaves size;
        size = size;
        bound = still_ok (λ found. length (rels_left found) < 2 ^ 64) c.section_data_as_rels.result c.given.result made c.section_data_as_rels.ensures.bound;
      },
    )
