use Rattle.std.proofs.Common.{◌≡◌, ◌++◌, drop, true}
use Rattle.std.specs.Prelude.{slice_range}
use Rattle.elfshow_lines.specs.Pieces.{escaped_text}
use Rattle.elfshow_lines.proofs.line_buffer.plain.is_block_plain.Given as goal

-- if the bytes so far are plain, they and then the escaped text of the others are the escaped text of all
abbrev pub invariant-loop-byte : goal.invariant-loop-byte
invariant-loop-byte l =
    l.plain ≡ true → slice_range l.bytes 0 l.byte-index ++ escaped_text (drop l.byte-index l.bytes) ≡ escaped_text l.bytes
