use Rattle.std.proofs.Common.{ℕ, ◌≡◌, Option, subst}
use Rattle.std.specs.List.{slice_get}
use Rattle.std.specs.Result.{result_ok}
use Rattle.elf.specs.Headers.{section_at}
use Rattle.elf_records.specs.Table.{Table, table_view}
use Rattle.elf_reading.specs.Opening.{section_list}
use Rattle.elf.proofs.readers.sections_are_listed.Goals as goal

pub returns-in-Some : goal.returns-in-Some
returns-in-Some g c =
    let P : Option Table → Type 0 = λ o. (i : ℕ) → slice_get (section_list o) i ≡ result_ok (section_at o i) in
    subst P c.in-Some.ensures (λ i. c.list_is_what_get_gives.ensures (table_view c.in-Some.shdrs) i c.len.ensures.short)
