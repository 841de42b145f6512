-- That the segments of a file are sound is true in one way only: so a struct can store it.
use Rattle.std.specs.Prelude.{ℕ, Bool, List}
use Rattle.std.specs.Coded.{Coded-set, codes, le_prop}
use Rattle.std.specs.Result.{IsOkAnd-prop}
use Rattle.elf_records.specs.declared.segment.ProgramHeader.{ProgramHeader}
use Rattle.elf.specs.ObjectFile.{ObjectFile, object_file}
use Rattle.elf_reading.specs.Opening.{FileView}
use Rattle.elf_check.specs.Segments.{EndsWithNul, SoundDynamicSegment, SoundSegment, SoundSegments, SoundTypes}
use Rattle.elf_check.specs.inner.VersionProps.{IfSome-prop}

EndsWithNul-prop : (bytes : List ℕ) → IsProp (EndsWithNul bytes)
EndsWithNul-prop bytes = hlevel (Coded-set, codes)

SoundDynamicSegment-prop : (file : ObjectFile) (p : ProgramHeader) → IsProp (SoundDynamicSegment file p)
SoundDynamicSegment-prop file p = hlevel (IsOkAnd-prop, IfSome-prop, le_prop, Coded-set, codes)

SoundSegment-prop : (file : ObjectFile) (p : ProgramHeader) → IsProp (SoundSegment file p)
SoundSegment-prop file p = hlevel (IsOkAnd-prop, EndsWithNul-prop, SoundDynamicSegment-prop, le_prop, Coded-set, codes)

SoundTypes-prop : (segments : List ProgramHeader) → IsProp (SoundTypes segments)
SoundTypes-prop segments = hlevel (le_prop, Coded-set, codes)

pub SoundSegments-prop : (file : ObjectFile) → IsProp (SoundSegments file)
SoundSegments-prop file = hlevel (SoundSegment-prop, SoundTypes-prop, le_prop, Coded-set, codes)

-- ---- what the structs store, of a file that was opened

abbrev pub SoundView : {E : Type 0} → (E → Bool) → FileView E → Type 0
SoundView little v = SoundSegments (object_file little v)

pub SoundView-prop : {E : Type 0} (little : E → Bool) (v : FileView E) → IsProp (SoundView little v)
SoundView-prop little v = SoundSegments-prop (object_file little v)
