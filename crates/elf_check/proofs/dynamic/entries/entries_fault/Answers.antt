use Rattle.std.proofs.Common.{List, ◌≡◌, ℕ, true, rules, sym, ◌∙◌, subst}
use Rattle.std.specs.List.{list_all}
use Rattle.elf_records.specs.Dynamic.{dyn_reads}
use Rattle.elf_records.specs.StringTable.{strings_view}
use Rattle.elf_records.specs.Table.{Table, table_items, table_view}
use Rattle.elf_check.specs.Dynamic.{before_null, has_its_string}
use Rattle.elf_check.proofs.Entries.{all_pass}
use Rattle.elf_check.proofs.dynamic.entries.entries_fault.Goals as goal

pub returns-in-None : goal.returns-in-None
returns-in-None g c =
    let strings = strings_view c.args.strings.now in
    let items = table_items dyn_reads (table_view c.new-table.result) in
    let S : List ℕ → Type 0 = λ s. list_all (has_its_string s) (before_null items) ≡ true in
    let T : Table → Type 0 = λ t. list_all (has_its_string strings) (before_null (table_items dyn_reads t)) ≡ true in
    let all = all_pass (has_its_string c.new.result) (before_null items) (sym c.first_without_string.ensures ∙ c.in-None.is) in
    record { whole = search rules; ends = search rules; read = subst T c.new-table.ensures (subst S c.new.ensures all) }
