use Rattle.std.proofs.Common.{ℕ, ◌↔◌, ◌<◌, IsOk, MatchOption, sym, subst, rules}
use Rattle.elf_records.specs.Table.{table_view}
use Rattle.elf_parts.specs.gnu_symver.Table.{Versions, index_of, versions_view}
use Rattle.elf.specs.ElfBytes.{view}
use Rattle.elf.specs.ObjectFile.{object_file}
use Rattle.elf_check.specs.versions.InFile.{AreAsMany}
use Rattle.elf_check.specs.versions.Indexes.{IsTrueOfFirst, SoundIndexes}
use Rattle.elf_check.proofs.VersionFaults.{indexes_alone, indexes_read}
use Rattle.elf_check.proofs.versions.indexes_fault.Goals as goal

pub first_fault-requires : goal.first_fault-requires
first_fault-requires g c =
    let N : Versions → Type 0 = λ v. (i : ℕ) → IsOk (index_of v i) ↔ (i < c.len-count.result) in
    subst N (sym c.new-versions.ensures)
    (indexes_read (table_view c.indexes-indexes.result) ((versions_view c.args.table.now).indexes) c.len-count.result c.indexes-indexes.ensures c.len-count.ensures.count c.len-count.ensures.short)

pub returns : goal.returns
returns g c =
    let whole = object_file g.E.EndianParse.little (view c.args.file.now) in
    let v = versions_view c.args.table.now in
    let many : AreAsMany whole v = search rules in
    let P : Versions → Type 0 = λ x. MatchOption c.first_fault.result (SoundIndexes x) (IsTrueOfFirst x) in
    indexes_alone whole v c.first_fault.result many (subst P c.new-versions.ensures c.first_fault.ensures)
