-- A partly loaded program is read as the whole one, or a range is missing.
use Rattle.std.proofs.Common.{ℕ, ◌==◌, ◌+◌, ◌^◌, ◌||◌, Bool, true, false, if◌then◌else◌, List, length, inl, inr, Option, Some, None, Result, Ok, Err, refl, ap, nat_le, nat_lt, min, codes}
use Rattle.std.specs.List.{starts_with}
use Rattle.elf_records.specs.Number.{bytes_at, ok_map}
use Rattle.elf_records.specs.Record.{◌>>=◌}
use Rattle.elf_records.specs.declared.parse.ParseError.{ParseError}
use Rattle.elf_records.specs.declared.segment.ProgramHeader.{ProgramHeader}
use Rattle.elf_reading.specs.Cache.{Piece}
use Rattle.elf.specs.LoadedRanges.{is_missing, ranges_in}
use Rattle.elf.specs.ObjectFile.{err_map}
use Rattle.elf.specs.Parts.{Follows}
use Rattle.elf.specs.declared.read_error.ReadError.{ReadError}
use Rattle.elf.specs.declared.read_error.ReadError.TheVariants.{Parse}
use Rattle.elf.proofs.Held.{loaded_follows}
use Rattle.elf_loader.specs.declared.kernel.header.Header.{Header}
use Rattle.elf_loader.specs.declared.kernel.header.HeaderFault.{HeaderFault}
use Rattle.elf_loader.specs.declared.kernel.header.HeaderFault.TheVariants.{Magic, TableOutsideFile}
use Rattle.elf_loader.specs.declared.kernel.platform.Platform.{Platform}
use Rattle.elf_loader.specs.declared.kernel.program.ExecError.{ExecError}
use Rattle.elf_loader.specs.declared.kernel.refusal.Part.{Part}
use Rattle.elf_loader.specs.declared.kernel.refusal.Part.TheVariants as part
use Rattle.elf_loader.specs.declared.kernel.refusal.PathFault.TheVariants.{OutsideFile}
use Rattle.elf_loader.specs.declared.kernel.refusal.Refusal.{Refusal}
use Rattle.elf_loader.specs.declared.kernel.refusal.Refusal.TheVariants as refusal
use Rattle.elf_loader.specs.kernel.Header.{header_in, header_size, interpreter_fault, program_fault, table_size, zero_filled}
use Rattle.elf_loader.specs.kernel.Partly.{ArePartsOf, FollowsWhole, whole_ranges}
use Rattle.elf_loader.specs.kernel.Program.{given, image_in, image_with, interpreter_in, path_in, path_of, path_segment, program_at, program_in, read, terminated, with_path}

module _ (away : ℕ × ℕ → Bool) where
  given_follows : (r : Refusal) (x : Result (List ℕ) ParseError) (y : Result (List ℕ) ReadError) → Follows away x y → FollowsWhole away (given r (err_map Parse x)) (given r y)
  given_follows r x y (inl h) = inl (ap (given r) h)
  given_follows r x y (inr h) = inr (h.0, h.1, ap (given r) h.2)

  bind_follows : {A B : Type 0} (x y : Result A ExecError) (f g : A → Result B ExecError) → FollowsWhole away x y → ((a : A) → FollowsWhole away (f a) (g a)) → FollowsWhole away (x >>= f) (y >>= g)
  bind_follows (Ok a) y f g (inl h) later = rw h (later a)
  bind_follows (Err e) y f g (inl h) later = inl (ap (λ r. r >>= g) h)
  bind_follows x y f g (inr h) later = inr (h.0, h.1, ap (λ r. r >>= g) h.2)

  map_follows : {A B : Type 0} (f : A → B) (x y : Result A ExecError) → FollowsWhole away x y → FollowsWhole away (ok_map f x) (ok_map f y)
  map_follows f x y (inl h) = inl (ap (ok_map f) h)
  map_follows f x y (inr h) = inr (h.0, h.1, ap (ok_map f) h.2)

  unless_follows : {A : Type 0} (test : Bool) (p x y : Result A ExecError) → FollowsWhole away x y → FollowsWhole away (if test then p else x) (if test then p else y)
  unless_follows true p x y h = inl refl
  unless_follows false p x y h = h

module _ (platform : Platform) (bytes : List ℕ) (parts : List Piece) (sound : ArePartsOf bytes parts) where
  abbrev size : ℕ
  size = length bytes

  abbrev away : ℕ × ℕ → Bool
  away = is_missing size parts

  read_follows : (start count : ℕ) (r : Refusal) → FollowsWhole away (read (whole_ranges bytes) start count r) (read (ranges_in size parts) start count r)
  read_follows start count r = given_follows away r (bytes_at count bytes start) (ranges_in size parts start count) (loaded_follows bytes size parts refl sound start count)

  image_follows : (p : Part) (header : Header) (fault : Option HeaderFault) → FollowsWhole away (image_in platform size (whole_ranges bytes) p header fault) (image_in platform size (ranges_in size parts) p header fault)
  image_follows p header (Some fault) = inl refl
  image_follows p header None = map_follows away (image_with platform size header) _ _ (read_follows header.e_phoff (table_size platform header) (refusal.Header p TableOutsideFile))

  path_in_follows : (p : ProgramHeader) → FollowsWhole away (path_in (whole_ranges bytes) p) (path_in (ranges_in size parts) p)
  path_in_follows p =
      unless_follows away (nat_lt p.p_filesz 2 || nat_lt 4096 p.p_filesz) _ _ _
      (unless_follows away (nat_le (2 ^ 63) (p.p_offset + p.p_filesz)) _ _ _
      (bind_follows away _ _ terminated terminated (read_follows p.p_offset p.p_filesz (refusal.Path OutsideFile)) (λ bytes. inl refl)))

  path_of_follows : (p : Option ProgramHeader) → FollowsWhole away (path_of (whole_ranges bytes) p) (path_of (ranges_in size parts) p)
  path_of_follows None = inl refl
  path_of_follows (Some p) = map_follows away Some _ _ (path_in_follows p)

  program_at_follows : (header : Header) → FollowsWhole away (program_at platform size (whole_ranges bytes) header) (program_at platform size (ranges_in size parts) header)
  program_at_follows header =
      bind_follows away _ _ _ _ (image_follows part.Program header (program_fault platform header)) (λ image.
      map_follows away (with_path image) _ _ (path_of_follows (path_segment image)))

  pub program_follows : FollowsWhole away (program_in platform size (whole_ranges bytes)) (program_in platform size (ranges_in size parts))
  program_follows =
      bind_follows away _ _ _ _ (read_follows 0 (min 64 size) (refusal.Header part.Program Magic)) (λ front.
      unless_follows away (starts_with ◌==◌ front (codes "#!")) _ _ _
      (program_at_follows (header_in platform (zero_filled front))))

  pub interpreter_follows : FollowsWhole away (interpreter_in platform size (whole_ranges bytes)) (interpreter_in platform size (ranges_in size parts))
  interpreter_follows =
      bind_follows away _ _ _ _ (read_follows 0 (header_size platform.class) refusal.ShortInterpreter) (λ front.
      image_follows part.Interpreter (header_in platform front) (interpreter_fault platform (header_in platform front)))
