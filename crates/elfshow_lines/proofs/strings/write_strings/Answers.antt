use Rattle.std.proofs.Common.{rules, ◌≡◌, ◌+◌, ◌<◌, length, [], Some, Ok, Err, subst, arith}
use Rattle.elf_records.specs.StringTable.{string_at, strings_view}
use Rattle.elfshow_lines.specs.Counted.{counted_lines}
use Rattle.elfshow_lines.specs.Strings.{string_line, strings_of}
use Rattle.elfshow_lines.proofs.StringWalk.{string_lies, text_end, text_left, text_step}
use Rattle.elfshow_lines.proofs.Adding.{Leads, adds_more, lines_before}
use Rattle.elfshow_lines.proofs.Writing.{leaves_last}
use Rattle.elfshow_lines.proofs.strings.write_strings.Goals as goal

pub loop-string-smaller : goal.loop-string-smaller
loop-string-smaller g c =
    let bytes = strings_view c.args.strings in
    let string = c.in-Ok.string.now in
    let read : string_at bytes c.loop-string.offset ≡ Ok string = search rules in
    let lies = string_lies bytes c.loop-string.offset string read in
    omega (arith, lies)

pub loop-string-preserved : goal.loop-string-preserved
loop-string-preserved g c =
    let contents = g.W.Write.contents in
    let bytes = strings_view c.args.strings in
    let string = c.in-Ok.string.now in
    let offset = c.loop-string.offset in
    let count = c.loop-string.count in
    let before = c.loop-string.invariant in
    let whole = counted_lines string_line (strings_of bytes) in
    let read : string_at bytes offset ≡ Ok string = search rules in
    let lies = string_lies bytes offset string read in
    let behind : offset + (length string + 1) ≡ offset + length string + 1 = omega arith in
    let less : count < length bytes = omega (arith, lies, before.0) in
    let step = subst (λ t. Leads (contents c.args.out.now) (Some []) (contents c.loop-string.out) c.loop-string.lines t whole) (text_step bytes count offset string less read) before.2 in
    let text = adds_more (contents c.args.out.now) (Some []) (contents c.loop-string.out) c.loop-string.lines _ _ (string_line 0 (offset, string)) (text_left bytes (count + 1) (offset + length string + 1)) whole step c.add_string.ensures in
    (omega (arith, before.0), omega (arith, lies), rw behind text)

pub returns : goal.returns
returns g c =
    let contents = g.W.Write.contents in
    let bytes = strings_view c.args.strings in
    let offset = c.loop-string.offset in
    let count = c.loop-string.count in
    let whole = counted_lines string_line (strings_of bytes) in
    let ended : string_at bytes offset ≡ Err c.in_default.field-0 = search rules in
    let left = subst (λ t. Leads (contents c.args.out.now) (Some []) (contents c.loop-string.out) c.loop-string.lines t whole) (text_end bytes count offset _ ended) c.loop-string.invariant.2 in
    leaves_last c.write_end.result _ _ _ _ whole (lines_before _ _ _ _ _ whole left c.in_ok-end.ensures) c.write_end.ensures
