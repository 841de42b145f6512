use Rattle.std.proofs.Common.{◌≡◌, ℕ, ◌+◌, ◌*◌, ◌/◌, ◌%◌, ◌<◌, List, take, drop, get_or, length, ap, sym, ◌∙◌, arith}
use Rattle.std.proofs.lemmas.List.{drop-drop, take-take}
use Rattle.elf_parts.specs.Hash.{gnu_hash_from, gnu_hash_of}
use Rattle.elf_parts.proofs.Hashing.{block_at, in_two}
use Rattle.elf_parts.proofs.hash.gnu.eight.gnu_hash.Goals as goal

pub loop-block-init : goal.loop-block-init
unfolding gnu_hash_of
loop-block-init c =
    let name = c.args.name.now in
    let few = length name % 8 in
    let head = c.hash_head-hash.ensures ∙ ap (λ (n : ℕ). gnu_hash_of (take n c.in-Some.first.now)) c.as_rchunks.ensures.front_len
    ∙ ap (λ (bytes : List ℕ). gnu_hash_of (take few bytes)) c.in-Some.ensures.cases.same ∙ ap gnu_hash_of (take-take few 8 name (omega arith)) in
    ap (λ (h : ℕ). gnu_hash_from h (drop (few + 8 * 0) name)) head ∙ ap (λ (n : ℕ). gnu_hash_from (gnu_hash_of (take few name)) (drop n name)) (omega arith)
    ∙ in_two few 5381 name

pub loop-block-preserved : goal.loop-block-preserved
loop-block-preserved c =
    let name = c.args.name.now in
    let few = length name % 8 in
    let place = c.loop-block.block-index in
    let hash = c.loop-block.hash in
    let rest = drop (few + 8 * place) name in
    let within : place < length name / 8 = omega (arith, c.loop-block-test.true, c.as_rchunks.ensures.back_len) in
    let block = ap (λ (all : List (List ℕ)). get_or all place _) c.as_rchunks.ensures.back ∙ block_at (length name / 8) place (drop few name) _ within
    ∙ ap (take 8) (drop-drop (8 * place) few name) in
    let eight = c.hash_eight-hash.ensures ∙ ap (gnu_hash_from hash) block in
    let behind : drop 8 rest ≡ drop (few + 8 * (place + 1)) name = drop-drop 8 (few + 8 * place) name ∙ ap (λ (n : ℕ). drop n name) (omega arith) in
    ap (λ (h : ℕ). gnu_hash_from h (drop (few + 8 * (place + 1)) name)) eight ∙ ap (gnu_hash_from (gnu_hash_from hash (take 8 rest))) (sym behind)
    ∙ in_two 8 hash rest ∙ c.loop-block.invariant
