-- That strings end in a 0 byte is true in one way only: so a struct can store it.
use Rattle.std.specs.Prelude.{ℕ, List}
use Rattle.std.specs.Coded.{Coded-set, codes}
use Rattle.elf_check.specs.Strings.{IsEmptyOrEndsWithNul}

pub EndsInNul-prop : (bytes : List ℕ) → IsProp (IsEmptyOrEndsWithNul bytes)
EndsInNul-prop bytes = hlevel (Coded-set, codes)
