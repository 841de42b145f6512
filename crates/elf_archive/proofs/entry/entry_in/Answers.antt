use Rattle.std.proofs.Common.{◌≡◌, ℕ, List, Some, ap, sym, ◌∙◌, take, drop}
use Rattle.std.proofs.lemmas.List.{take_rest}
use Rattle.elf_archive.specs.Archive.{content_of, held_at, sized_at}
use Rattle.elf_archive.specs.Fields.{decimal_in, trimmed}
use Rattle.elf_archive.proofs.Walks.{entry_by}
use Rattle.elf_archive.proofs.entry.entry_in.Goals as goal

-- the parts of the header are those that the definition takes
pub returns-in-Some : goal.returns-in-Some
returns-in-Some c =
    let thin = c.args.is_thin in
    let o = c.args.offset in
    let names = c.args.names.now in
    let bytes = c.args.bytes.now in
    let size = c.in-Some.size in
    let spelled : decimal_in (trimmed 32 (take 10 (drop 48 bytes))) ≡ Some size =
    ap decimal_in (sym c.trimmed.ensures) ∙ sym c.decimal_in.ensures ∙ c.in-Some.is in
    c.held_at.ensures
    ∙ ap (held_at o names c.trimmed-name.result.now) c.content_of-content.ensures.value
    ∙ ap (λ (after : List ℕ). held_at o names c.trimmed-name.result.now (content_of thin c.trimmed-name.result.now size after)) (take_rest bytes 60)
    ∙ ap (λ (name : List ℕ). sized_at thin o names name (drop 60 bytes) (Some size)) c.trimmed-name.ensures
    ∙ sym (entry_by thin o names bytes size (sym c.has_header.ensures.value ∙ c.if-not-has_header.false) spelled)
