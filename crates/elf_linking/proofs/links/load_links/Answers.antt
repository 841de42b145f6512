use Rattle.std.proofs.Common.{refl, subst, sym}
use Rattle.elf.specs.Loaded.{is_not_cached, loaded_ranges}
use Rattle.elf.specs.StreamFile.{stream_file}
use Rattle.elf.proofs.stream.Parted.{streamed_loaded}
use Rattle.elf_linking.specs.Following.{LinksFollow}
use Rattle.elf_linking.specs.Missing.{loaded_part}
use Rattle.elf_linking.proofs.Known.{if_known, when_known}
use Rattle.elf_linking.proofs.Whole.{same_links}
use Rattle.elf_linking.proofs.links.load_links.Goals as goal

pub returns-in_default-clause-links : goal.returns-in_default-clause-links
returns-in_default-clause-links g c =
    let little = g.E.EndianParse.little in
    let stream = c.rounds.stream in
    let has = c.missing_link.ensures (rw c.in_default.is refl) in
    when_known stream.content _ (λ bytes known.
    let whole = stream_file little stream bytes in
    let of = if_known stream.content bytes _ c.is_part_of_file.ensures known in
    let follow = c.part_links_as_whole.ensures whole (loaded_ranges stream) (is_not_cached stream) of.part in
    same_links (is_not_cached stream) whole (loaded_part little stream)
    (subst (λ part. LinksFollow (is_not_cached stream) whole part) (sym (streamed_loaded little stream bytes of)) follow) has)
