use Rattle.std.proofs.Common.{◌+◌, length, ap, arith, rules}
use Rattle.elf_records.specs.Record.{record_by}
use Rattle.elf_records.specs.StringTable.{strings_view}
use Rattle.elf_parts.proofs.LinkedRecords.{count_bounds}
use Rattle.elf_parts.specs.gnu_symver.Links.{links_left, links_view}
use Rattle.elf_parts.specs.gnu_symver.Records.{ver_need_aux_layout}
use Rattle.elf_check.specs.versions.Records.{IsTextAt, SoundNeedAux, need_aux_links}
use Rattle.elf_check.proofs.ChainSteps.{no_fault}
use Rattle.elf_check.proofs.versions.records.VerNeedCheckable.is_sound.Goals as goal

pub chain_fault-requires : goal.chain_fault-requires
chain_fault-requires g c =
    let d = c.args.self.now in
    let few = count_bounds (record_by ver_need_aux_layout) (λ x. x.vna_next) (links_view c.args.links.now) d.vn_cnt (c.args.start + d.vn_aux) in
    let same = ap length c.aux_links-versions.ensures.items in
    omega (arith, few, same)

pub returns : goal.returns
returns g c =
    let d = c.args.self.now in
    let t = links_view c.args.links.now in
    let file : IsTextAt (strings_view c.args.strings.now) d.vn_file = search rules in
    let r =
    no_fault (λ x. x.vna_next) (SoundNeedAux (strings_view c.args.strings.now) t) d.vn_cnt
    (links_left (record_by ver_need_aux_layout) (λ x. x.vna_next) c.aux_links-versions.result) (need_aux_links t (c.args.start, d))
    c.chain_fault.result c.is_none.result c.aux_links-versions.ensures.items c.is_none.ensures c.chain_fault.ensures in
    (λ none. record { file = file; versions = r.0 none }, λ sound. r.1 sound.versions)
