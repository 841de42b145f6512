use Rattle.std.proofs.Common.{◌≡◌, ◌++◌, List, [], ℕ, length, ap, ◌∙◌, arith}
use Rattle.elf_records.specs.Table.{items_left, table_items, table_view}
use Rattle.elf_records.specs.declared.file.Class.{Class}
use Rattle.elf_dynamic.specs.Relr.{addresses_from, marked_words, relr_reads}
use Rattle.elf_dynamic.proofs.Marked.{addresses_by_bytes, addresses_few, marked_none}
use Rattle.elf_dynamic.proofs.relr.RelrIterator.new.Goals as goal

-- no bitmap is left, and the words are those of the table
pub returns-clause-items : goal.returns-clause-items
returns-clause-items g c =
    let class = c.class-class.result in
    let words = table_items relr_reads (table_view c.args.table.now) in
    let none : marked_words class 0 0 c.words_of_bitmap.result ≡ [] =
    marked_none class 0 0 c.words_of_bitmap.result (omega (arith, c.words_of_bitmap.ensures.value)) in
    ap (λ (xs : List ℕ). xs ++ addresses_from class 0 (items_left relr_reads c.iter.result)) none
    ∙ ap (addresses_from class 0) c.iter.ensures.items
    ∙ ap (λ (k : Class). addresses_from k 0 words) c.class-class.ensures

pub returns-clause-few : goal.returns-clause-few
returns-clause-few g c =
    let table = table_view c.args.table.now in
    let words = table_items relr_reads table in
    let same = ap length (returns-clause-items g c) in
    let few = addresses_few table.class 0 words in
    let fit = addresses_by_bytes table.class (length table.bytes) (length words) c.iter_gives_len_records.ensures in
    omega (arith, same, few, fit)
