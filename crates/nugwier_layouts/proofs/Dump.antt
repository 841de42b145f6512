-- The lines of a dump, one more at a time.
use Rattle.std.proofs.Common.{◌≡◌, ℕ, zero, suc, ◌+◌, ◌-◌, ◌*◌, ◌%◌, ◌<◌, ◌≤◌, List, [], drop, take, ap, sym, ◌∙◌, arith}
use Rattle.std.proofs.Math.Nat.{min-le_left, min-le_right}
use Rattle.std.proofs.lemmas.List.{drop-drop}
use Rattle.std.specs.Hash.DefaultHasher.{wrapping_add}
use Rattle.std.specs.Int.{div_ceil}
use Rattle.elfshow_lines.specs.Pieces.{◌⧺◌}
use Rattle.nugwier_layouts.specs.Text.{dump_line, dump_lines}

-- a line with a number below the count begins in the bytes
pub line_begins : (size line : ℕ) → line < div_ceil size 16 → 16 * line < size
line_begins size line h = omega (arith, h, min-le_left 1 (size % 16), min-le_right 1 (size % 16))

-- the next line, and then those after it, are those that are left
pub next_line : (address count line : ℕ) (all : List ℕ) → line < count → dump_line (wrapping_add address (16 * line)) (take 16 (drop (16 * line) all)) ⧺ dump_lines address (count - (line + 1)) (16 * (line + 1)) (drop (16 * (line + 1)) all) ≡ dump_lines address (count - line) (16 * line) (drop (16 * line) all)
next_line address count line all h =
    let left : count - line ≡ suc (count - (line + 1)) = omega (arith, h) in
    let next : 16 * (line + 1) ≡ 16 * line + 16 = omega arith in
    let front = dump_line (wrapping_add address (16 * line)) (take 16 (drop (16 * line) all)) in
    ap (λ n. front ⧺ dump_lines address (count - (line + 1)) n (drop n all)) next
    ∙ ap (λ (t : List ℕ). front ⧺ dump_lines address (count - (line + 1)) (16 * line + 16) t) (sym (drop-drop 16 (16 * line) all))
    ∙ sym (ap (λ n. dump_lines address n (16 * line) (drop (16 * line) all)) left)

-- none is left
pub no_lines : (address count line offset : ℕ) (all : List ℕ) → count ≤ line → dump_lines address (count - line) offset all ≡ []
no_lines address count line offset all h = let none : count - line ≡ zero = omega (arith, h) in ap (λ n. dump_lines address n offset all) none
