use Rattle.std.proofs.Common.{◌∷◌, Option, List, ℕ, Ok, Err, sym, ap, ◌∙◌, arith, drop}
use Rattle.std.proofs.lemmas.List.{take_rest}
use Rattle.std.specs.List.{cons_option}
use Rattle.std.specs.Option.{option_map}
use Rattle.elf_archive.specs.Archive.{Item, entry_in, items_from, member_of, ok_map}
use Rattle.elf_archive.specs.inner.Entries.{entry_and_next, entry_view}
use Rattle.elf_archive.proofs.Walks.{entry_after, none_left, not_read, read_first}
use Rattle.elf_archive.proofs.archive.Members.step.Goals as goal

pub returns-in-Ok-clause-value : goal.returns-in-Ok-clause-value
returns-in-Ok-clause-value c =
    let s = c.args.self.now in
    let read = ap (entry_in s.is_thin s.offset s.names.now) (sym (take_rest s.bytes.now s.offset)) ∙ sym c.entry_in.ensures ∙ ap (ok_map entry_and_next) c.in-Ok.is in
    read_first s.is_thin s.bytes.now s.offset s.names.now (entry_view c.in-Ok.entry, c.in-Ok.next) c.requires read
    ∙ ap (λ (names : List ℕ). cons_option (option_map Ok (member_of s.is_thin s.offset (entry_view c.in-Ok.entry))) (items_from s.is_thin s.bytes.now names c.in-Ok.next)) (sym c.names_after-self.ensures)
    ∙ ap (λ (item : Option Item). cons_option item (items_from s.is_thin s.bytes.now c.names_after-self.result.now c.in-Ok.next)) (sym c.item_of.ensures)

pub returns-in-Ok-clause-fewer : goal.returns-in-Ok-clause-fewer
returns-in-Ok-clause-fewer c =
    let s = c.args.self.now in
    let read = ap (entry_in s.is_thin s.offset s.names.now) (sym (take_rest s.bytes.now s.offset)) ∙ sym c.entry_in.ensures ∙ ap (ok_map entry_and_next) c.in-Ok.is in
    let later = entry_after s.is_thin s.offset s.names.now (drop s.offset s.bytes.now) (entry_view c.in-Ok.entry, c.in-Ok.next) read in
    omega (arith, c.requires, later)

pub returns-in-Err-clause-value : goal.returns-in-Err-clause-value
returns-in-Err-clause-value c =
    let s = c.args.self.now in
    let read = ap (entry_in s.is_thin s.offset s.names.now) (sym (take_rest s.bytes.now s.offset)) ∙ sym c.entry_in.ensures ∙ ap (ok_map entry_and_next) c.in-Err.is in
    not_read s.is_thin s.bytes.now s.offset s.names.now c.in-Err.error c.requires read
    ∙ ap (λ (items : List Item). Err c.in-Err.error ∷ items) (sym (none_left s.is_thin _ s.offset s.names.now (omega arith)))
