-- That a table of versions is sound is true in one way only: so a struct can store it.
use Rattle.std.specs.Prelude.{ℕ, List, Option, Some, None, IfSome, Result}
use Rattle.elf_records.specs.declared.parse.ParseError.{ParseError}
use Rattle.std.specs.List.{AllByRecursion, AllByRecursion-prop}
use Rattle.std.specs.Coded.{Coded-set, codes, le_prop, Unit-prop}
use Rattle.std.specs.Result.{IsOkAnd-prop}
use Rattle.elf_parts.specs.gnu_symver.Table.{Definitions, Needs, Versions}
use Rattle.elf_records.specs.Table.{Table}
use Rattle.elf_parts.specs.declared.gnu_symver.records.VerDef.{VerDef}
use Rattle.elf_parts.specs.declared.gnu_symver.records.VerNeed.{VerNeed}
use Rattle.elf_check.specs.versions.Records.{IsText, SoundDef, SoundDefs, SoundNeed, SoundNeeds}
use Rattle.elf_check.specs.versions.Indexes.{SoundVersionTable, TextDefinitions, TextNeeds}

pub IfSome-prop : {A : Type 0} (P : A → Type 0) → ((x : A) → IsProp (P x)) → (o : Option A) → IsProp (IfSome o P)
IfSome-prop P p None = Unit-prop
IfSome-prop P p (Some x) = p x

TextNeeds-prop : (needs : Needs) → IsProp (TextNeeds needs)
TextNeeds-prop needs = hlevel (AllByRecursion-prop, IsOkAnd-prop, Coded-set, codes)

TextDefinitions-prop : (defs : Definitions) → IsProp (TextDefinitions defs)
TextDefinitions-prop defs = hlevel (AllByRecursion-prop, IsOkAnd-prop, Coded-set, codes)

pub SoundVersionTable-prop : (versions : Versions) → IsProp (SoundVersionTable versions)
SoundVersionTable-prop versions = hlevel (
  IfSome-prop TextNeeds TextNeeds-prop,
  IfSome-prop TextDefinitions
      TextDefinitions-prop,
  Coded-set,
  codes,
)

SoundNeed-prop : (strings : List ℕ) (t : Table) (link : ℕ × VerNeed) → IsProp (SoundNeed strings t link)
SoundNeed-prop strings t link = hlevel (AllByRecursion-prop, IsOkAnd-prop, Coded-set, codes)

SoundDef-prop : (strings : List ℕ) (t : Table) (link : ℕ × VerDef) → IsProp (SoundDef strings t link)
SoundDef-prop strings t link = hlevel (AllByRecursion-prop, IsOkAnd-prop, le_prop, Coded-set, codes)

pub SoundNeeds-prop : (strings : List ℕ) (t : Table) (count : ℕ) → IsProp (SoundNeeds strings t count)
SoundNeeds-prop strings t count = hlevel (AllByRecursion-prop, SoundNeed-prop, le_prop, Coded-set, codes)

pub SoundDefs-prop : (strings : List ℕ) (t : Table) (count : ℕ) → IsProp (SoundDefs strings t count)
SoundDefs-prop strings t count = hlevel (AllByRecursion-prop, SoundDef-prop, le_prop, Coded-set, codes)

pub AllText-prop : (names : List (Result (List ℕ) ParseError)) → IsProp (AllByRecursion IsText names)
AllText-prop names = hlevel (AllByRecursion-prop, IsOkAnd-prop, Coded-set, codes)
