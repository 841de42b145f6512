-- Records that are read in turn, each from its own bytes.
use Rattle.std.proofs.Common.{◌≡◌, ℕ, suc, ◌+◌, ◌*◌, ◌^◌, ◌<◌, ◌≤◌, List, [], ◌∷◌, length, take, drop, true, Result, Ok, sym, ap, subst, ◌∙◌, arith}
use Rattle.std.proofs.Math.Nat.{suc-mul}
use Rattle.std.proofs.lemmas.Grind.{common_steps}
use Rattle.std.proofs.lemmas.List.{drop-drop, length-drop}
use Rattle.elf_records.specs.Record.{RecordType}
use Rattle.elf_records.specs.Table.{Table, item_at, table_get}
use Rattle.elf_records.specs.declared.parse.ParseError.{ParseError}
use Rattle.elf_records.proofs.Items.{read_locally}

get_read : {A : Type 0} (gives : List ℕ → ℕ → Result A ParseError) (size : ℕ) (bytes : List ℕ) (i : ℕ) (x : A) → 1 ≤ size →
    length bytes < 2 ^ 64 → i * size + size ≤ length bytes → gives bytes (i * size) ≡ Ok x → item_at gives size bytes i ≡ Ok x
get_read gives size [] i x some small within e = absurd (omega arith)
get_read gives size (b ∷ bytes) i x some small within e = grind (arith, common_steps)

-- the place after record i is that of the next one
pub next_place : (i size : ℕ) → (i + 1) * size ≡ i * size + size
next_place i size =
    let next : i + 1 ≡ suc i = omega arith in
    ap (λ (n : ℕ). n * size) next ∙ omega (arith, suc-mul i size)

-- the bytes that are left, if they are enough for a record, begin with its own bytes
pub room : (bytes left : List ℕ) (place size : ℕ) → place ≤ length bytes → left ≡ drop place bytes → size ≤ length left →
    place + size ≤ length bytes
room bytes left place size within is fits = omega (arith, ap length is, length-drop place bytes)

-- the bytes that are left after it
pub after_own : (bytes left : List ℕ) (i size : ℕ) → left ≡ drop (i * size) bytes →
    drop size left ≡ drop ((i + 1) * size) bytes
after_own bytes left i size is =
    ap (drop size) is ∙ drop-drop size (i * size) bytes ∙ ap (λ (o : ℕ). drop o bytes) (sym (next_place i size))

-- after the next record there are still as many bytes
pub more_room : (bytes left : List ℕ) (first n size : ℕ) → (first + n) * size ≤ length bytes →
    left ≡ drop ((first + n) * size) bytes → size ≤ length left → (first + (n + 1)) * size ≤ length bytes
more_room bytes left first n size start is fits =
    let next : first + (n + 1) ≡ (first + n) + 1 = omega arith in
    let within = room bytes left ((first + n) * size) size start is fits in
    subst (λ (i : ℕ). i * size ≤ length bytes) (sym next)
    (subst (λ (o : ℕ). o ≤ length bytes) (sym (next_place (first + n) size)) within)

-- and these are left
pub more_left : (bytes left after : List ℕ) (first n size : ℕ) → left ≡ drop ((first + n) * size) bytes →
    after ≡ drop size left → after ≡ drop ((first + (n + 1)) * size) bytes
more_left bytes left after first n size is back =
    let next : first + (n + 1) ≡ (first + n) + 1 = omega arith in
    back ∙ after_own bytes left (first + n) size is ∙ ap (λ (i : ℕ). drop (i * size) bytes) (sym next)

-- a record that its own bytes give is that of the table
pub own_record : {A : Type 0} (reads : RecordType A) (t : Table) (i size : ℕ) (left own : List ℕ) (x : A) →
    reads.local ≡ true → size ≡ reads.size t.class → length t.bytes < 2 ^ 64 → i * size ≤ length t.bytes →
    left ≡ drop (i * size) t.bytes → size ≤ length left → own ≡ take size left →
    reads.record_at t.little t.class own 0 ≡ Ok x → table_get reads t i ≡ Ok x
own_record {A = A} reads t i size left own x local same small start is fits front read =
    let own_size = reads.size t.class in
    let place = i * own_size in
    let start_is : place ≤ length t.bytes = subst (λ (s : ℕ). i * s ≤ length t.bytes) same start in
    let left_is : left ≡ drop place t.bytes = subst (λ (s : ℕ). left ≡ drop (i * s) t.bytes) same is in
    let fits_is : own_size ≤ length left = subst (λ (s : ℕ). s ≤ length left) same fits in
    let front_is : own ≡ take own_size left = subst (λ (s : ℕ). own ≡ take s left) same front in
    let within : place + own_size ≤ length t.bytes = room t.bytes left place own_size start_is left_is fits_is in
    let P : List ℕ → Type 0 = λ bytes. reads.record_at t.little t.class bytes 0 ≡ Ok x in
    let own_is : own ≡ take own_size (drop place t.bytes) = front_is ∙ ap (take own_size) left_is in
    let there : reads.record_at t.little t.class t.bytes place ≡ Ok x =
    read_locally reads t.little t.class t.bytes place x local (omega (arith, within, small)) within (subst P own_is read) in
    get_read (reads.record_at t.little t.class) own_size t.bytes i x (reads.some_size t.class) small within there
