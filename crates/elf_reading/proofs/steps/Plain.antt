-- What reads bytes alone is refused for no source and no memory.
use Rattle.std.proofs.Common.{◌≡◌, ℕ, ◌+◌, ◌*◌, Bool, true, false, List, [], ◌∷◌, refl, sym, subst, Option, Some, None}
use Rattle.elf_records.specs.declared.file.Class.TheVariants.{ELF32, ELF64}
use Rattle.elf_records.specs.declared.parse.ParseError.TheVariants.{BadOffset, IntegerOverflow, SliceReadError, UnsupportedElfClass}
use Rattle.std.specs.Prelude.{◌^◌, ◌==◌, nat_le, nat_lt, length, take, drop, Result, Ok, Err, IfErr, ok_or, if◌then◌else◌}
use Rattle.elf_records.specs.File.{byte_in, class_of, ident_of, magic_in, order_of, version_in}
use Rattle.elf_records.specs.Number.{bytes_at, number_at, ok_map}
use Rattle.elf_records.specs.Record.{◌>>=◌, Field, Layout, field_value, numbers_at, record_by}
use Rattle.elf_records.specs.Table.{item_at}
use Rattle.elf_records.specs.declared.file.Class.{Class}
use Rattle.elf_records.specs.declared.parse.ParseError.{ParseError}
use Rattle.elf_reading.specs.Refusals.{Kind, kind}
use Rattle.elf_reading.specs.Leading.{at_front}
use Rattle.elf_reading.specs.Refusals.{IsNoAllocationFailure}
use Rattle.elf_reading.proofs.steps.Chains.{IsPlain}

plain_ok : {A : Type 0} {x : A} → IsPlain (Ok x)
plain_ok = record { plain = tt }

pub plain_err : {A : Type 0} (e : ParseError) → kind e ≡ Kind.Refusal → IsPlain {A = A} (Err e)
plain_err e h = record { plain = h }

pub plain_bind : {A B : Type 0} (x : Result A ParseError) (f : A → Result B ParseError) → IsPlain x → ((a : A) → IsPlain (f a)) → IsPlain (x >>= f)
plain_bind (Ok a) f h more = more a
plain_bind (Err e) f h more = plain_err e h.plain

pub plain_map : {A B : Type 0} (f : A → B) (x : Result A ParseError) → IsPlain x → IsPlain (ok_map f x)
plain_map f (Ok a) h = plain_ok
plain_map f (Err e) h = plain_err e h.plain

plain_ok_or : {A : Type 0} (o : Option A) (e : ParseError) → kind e ≡ Kind.Refusal → IsPlain (ok_or o e)
plain_ok_or None e h = plain_err e h
plain_ok_or (Some a) e h = plain_ok

pub plain_if : {A : Type 0} (b : Bool) (x y : Result A ParseError) → IsPlain x → IsPlain y → IsPlain (if b then x else y)
plain_if true x y h i = h
plain_if false x y h i = i

pub plain_bytes_at : (width : ℕ) (bytes : List ℕ) (o : ℕ) → IsPlain (bytes_at width bytes o)
unfolding bytes_at
plain_bytes_at width bytes o =
    plain_if (nat_le (2 ^ 64) (o + width)) (Err IntegerOverflow) (if nat_lt (length bytes) (o + width) then Err (SliceReadError (o, o + width)) else Ok (take width (drop o bytes))) (plain_err IntegerOverflow refl)
    (plain_if (nat_lt (length bytes) (o + width)) (Err (SliceReadError (o, o + width))) (Ok (take width (drop o bytes))) (plain_err (SliceReadError (o, o + width)) refl) plain_ok)

plain_number_at : (little : Bool) (width : ℕ) (bytes : List ℕ) (o : ℕ) → IsPlain (number_at little width bytes o)
unfolding number_at
plain_number_at little width bytes o = plain_map _ _ (plain_bytes_at width bytes o)

plain_value : (o : Option ℕ) (n : ℕ) → IsPlain (field_value o n)
plain_value None n = plain_ok
plain_value (Some v) n = plain_if _ _ _ plain_ok (plain_err _ refl)

plain_numbers_at : (little : Bool) (fields : List Field) (bytes : List ℕ) (o : ℕ) → IsPlain (numbers_at little fields bytes o)
unfolding numbers_at
plain_numbers_at little [] bytes o = plain_ok
plain_numbers_at little (f ∷ fs) bytes o =
    plain_bind (number_at little f.width bytes (o + f.place)) _ (plain_number_at little f.width bytes (o + f.place)) (λ x.
    plain_bind (field_value f.version x) _ (plain_value f.version x) (λ n.
    plain_bind (numbers_at little fs bytes o) _ (plain_numbers_at little fs bytes o) (λ ns. plain_ok)))

pub plain_record_by : {A : Type 0} (layout : Layout A) (little : Bool) (class : Class) (bytes : List ℕ) (o : ℕ) → IsPlain (record_by layout little class bytes o)
plain_record_by layout little class bytes o = plain_map _ _ (plain_numbers_at little (layout.fields class) bytes o)

plain_byte : (bytes : List ℕ) (place : ℕ) → IsPlain (byte_in bytes place)
plain_byte bytes place = plain_ok_or _ _ refl

plain_class : (n : ℕ) → IsPlain (class_of n)
plain_class n = plain_if (n == 1) (Ok ELF32) (if n == 2 then Ok ELF64 else Err (UnsupportedElfClass n)) plain_ok (plain_if (n == 2) (Ok ELF64) (Err (UnsupportedElfClass n)) plain_ok (plain_err (UnsupportedElfClass n) refl))

plain_magic : (bytes : List ℕ) → IsPlain (magic_in bytes)
plain_magic bytes =
    plain_bind (byte_in bytes 0) _ (plain_byte bytes 0) (λ a. plain_bind (byte_in bytes 1) _ (plain_byte bytes 1) (λ b.
    plain_bind (byte_in bytes 2) _ (plain_byte bytes 2) (λ c. plain_bind (byte_in bytes 3) _ (plain_byte bytes 3) (λ d. plain_if _ _ _ plain_ok (plain_err _ refl)))))

pub plain_ident : {E : Type 0} (of_byte : ℕ → Option E) (bytes : List ℕ) → IsPlain (ident_of of_byte bytes)
unfolding ident_of
plain_ident of_byte bytes =
    plain_bind (magic_in bytes) _ (plain_magic bytes) (λ _. plain_bind (version_in bytes) _ (plain_bind (byte_in bytes 6) _ (plain_byte bytes 6) (λ v. plain_if _ _ _ plain_ok (plain_err _ refl))) (λ _.
    plain_bind (byte_in bytes 4) _ (plain_byte bytes 4) (λ k. plain_bind (class_of k) _ (plain_class k) (λ class.
    plain_bind (byte_in bytes 5) _ (plain_byte bytes 5) (λ o. plain_bind (order_of of_byte o) _ (plain_ok_or _ _ refl) (λ order.
    plain_bind (byte_in bytes 7) _ (plain_byte bytes 7) (λ abi. plain_bind (byte_in bytes 8) _ (plain_byte bytes 8) (λ v. plain_ok))))))))

plain_kind_at : {A : Type 0} (e : ParseError) → IsPlain {A = A} (Err e) → kind e ≡ Kind.Refusal
plain_kind_at e h = h.plain

-- an error that such a reader gives
pub plain_kind : {A : Type 0} (e : ParseError) (r : Result A ParseError) → Err e ≡ r → IsPlain r → kind e ≡ Kind.Refusal
plain_kind e r is plain = plain_kind_at e (subst (λ z. IsPlain z) (sym is) plain)

no_want : (e : ParseError) → kind e ≡ Kind.Refusal → IsNoAllocationFailure (kind e)
no_want e h = rw h tt

-- it is never an allocation failure
pub plain_no_want : {A : Type 0} (r x : Result A ParseError) → r ≡ x → IsPlain x → IfErr r (λ e. IsNoAllocationFailure (kind e))
plain_no_want (Ok a) x is plain = tt
plain_no_want (Err e) x is plain = no_want e (plain_kind e x is plain)

pub plain_front : {A : Type 0} (size : ℕ) (gives : List ℕ → ℕ → Result A ParseError) (bytes : List ℕ) → IsPlain (gives bytes 0) → IsPlain (at_front size gives bytes)
plain_front size gives bytes plain = plain_bind (gives bytes 0) _ plain (λ x. plain_ok)

-- section header i of a table
pub plain_item : {A : Type 0} (gives : List ℕ → ℕ → Result A ParseError) (size : ℕ) (bytes : List ℕ) (i : ℕ) → ((o : ℕ) → IsPlain (gives bytes o)) → IsPlain (item_at gives size bytes i)
plain_item gives size bytes i plain =
    plain_if (length bytes == 0) (Err (BadOffset i)) _ (plain_err (BadOffset i) refl)
    (plain_if (nat_le (2 ^ 64) (i * size)) (Err IntegerOverflow) _ (plain_err IntegerOverflow refl)
    (plain_if (nat_lt (length bytes) (i * size)) (Err (BadOffset i)) (gives bytes (i * size)) (plain_err (BadOffset i) refl) (plain (i * size))))
