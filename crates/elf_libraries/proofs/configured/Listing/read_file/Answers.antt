use Rattle.std.proofs.Common.{◌≡◌, ◌++◌, ◌∙◌, [], ℕ, List, ap, map, subst, sym}
use Rattle.std.specs.Prelude.{IfSome, unwrap_or}
use Rattle.elf_libraries.specs.Conf.{Entry, conf_entries, line_view}
use Rattle.elf_libraries.proofs.Configuring.{file_read, not_passed, on_ok_both}
use Rattle.elf_libraries.specs.Configured.{is_passed, lists_of, pending_in, pending_of, with_read}
use Rattle.elf_libraries.proofs.configured.Listing.read_file.Goals as goal

pub returns : goal.returns
returns g c =
    let known = g.F.Files.known c.args.files.now in
    let path = c.args.path.items in
    let content = c.in_ok-content.content.items in
    let others = pending_in c.args.self.now in
    let lists = lists_of c.args.self.now in
    let passed = sym (ap (λ (p : List ℕ). is_passed p lists) c.deref.ensures.value)
    ∙ not_passed c.in_ok-add_read.field-0 (is_passed c.deref.result.now lists) c.in_ok-add_read.ensures.added c.if-not-branch.false in
    let is = subst (λ (p : List ℕ). IfSome known (λ files. content ≡ unwrap_or (files.contents p) [])) c.deref-2.ensures.value c.in_ok-content.ensures in
    let lines = c.in_ok-lines.ensures ∙ ap conf_entries c.deref-3.ensures.value in
    on_ok_both c.enter_lines.result (λ pending grown.
    file_read known path content others lists _ _ passed is
    (pending ∙ ap (λ (p : List ℕ). map (pending_of p) (map line_view c.in_ok-lines.lines.items) ++ pending_in c.add_read.new.self) c.deref-4.ensures.value
    ∙ ap (λ (l : List Entry). map (pending_of path) l ++ pending_in c.add_read.new.self) lines
    ∙ ap (λ l. map (pending_of path) (conf_entries content) ++ l) c.in_ok-add_read.ensures.pending)
    (grown ∙ c.in_ok-add_read.ensures.lists ∙ ap (λ (p : List ℕ). with_read p lists) c.deref.ensures.value)) c.enter_lines.ensures.pending c.enter_lines.ensures.lists
