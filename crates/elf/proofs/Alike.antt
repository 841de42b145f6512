-- Alike answers of a chain of steps: what is alike at a step is alike at its end.
use Rattle.std.proofs.Common.{◌≡◌, Bool, true, false, if◌then◌else◌, Option, Some, None, Result, Ok, Err, refl, ap, subst}
use Rattle.std.specs.Result.{result_ok}
use Rattle.elf_records.specs.Number.{ok_map}
use Rattle.elf_records.specs.Record.{◌>>=◌}
use Rattle.elf_records.specs.declared.parse.ParseError.{ParseError}
use Rattle.elf.specs.Headers.{if_found}
use Rattle.elf.specs.Readers.{AreAlike}

pub alike_map : {A B X Y : Type 0} (f : A → B) (p : Result A X) (q : Result A Y) → AreAlike p q → AreAlike (ok_map f p) (ok_map f q)
alike_map f (Ok x) (Ok y) h = let same : x ≡ y = cc in ap (λ z. Some (f z)) same
alike_map f (Ok x) (Err e) h = cc
alike_map f (Err e) (Ok y) h = cc
alike_map f (Err e) (Err d) h = refl

-- a step and those after it
pub alike_bind : {A B X Y : Type 0} (p : Result A X) (q : Result A Y) (f : A → Result B X) (g : A → Result B Y) → AreAlike p q → ((x : A) → AreAlike (f x) (g x)) → AreAlike (p >>= f) (q >>= g)
alike_bind (Ok x) (Ok y) f g h later = let same : x ≡ y = cc in subst (λ z. AreAlike (f x) (g z)) same (later x)
alike_bind (Ok x) (Err e) f g h later = cc
alike_bind (Err e) (Ok y) f g h later = cc
alike_bind (Err e) (Err d) f g h later = refl

-- the first step
pub alike_first : {A B : Type 0} (p q : Result A ParseError) (f : A → Result B ParseError) → AreAlike p q → AreAlike (p >>= f) (q >>= f)
alike_first (Ok x) (Ok y) f h = let same : x ≡ y = cc in ap (λ z. result_ok (f z)) same
alike_first (Ok x) (Err e) f h = cc
alike_first (Err e) (Ok y) f h = cc
alike_first (Err e) (Err d) f h = refl

-- the steps after the first
pub alike_later : {A B : Type 0} (p : Result A ParseError) (f g : A → Result B ParseError) → ((x : A) → AreAlike (f x) (g x)) → AreAlike (p >>= f) (p >>= g)
alike_later (Ok x) f g h = h x
alike_later (Err e) f g h = refl

pub alike_if : {A : Type 0} (test : Bool) (p q r s : Result A ParseError) → AreAlike p q → AreAlike r s → AreAlike (if test then p else r) (if test then q else s)
alike_if true p q r s then_so else_so = then_so
alike_if false p q r s then_so else_so = else_so

-- of a header, if there is one
pub alike_found : {A B : Type 0} (f g : A → Result B ParseError) (o : Option A) → ((x : A) → AreAlike (f x) (g x)) → AreAlike (if_found f o) (if_found g o)
alike_found f g None h = refl
alike_found f g (Some x) h = alike_map Some (f x) (g x) (h x)
