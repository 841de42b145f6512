-- What is said of a file by the bytes at its start.
use Rattle.std.proofs.Common.{◌≡◌, Bool, true, false, ℕ, List, [], ◌∷◌, Option, Some, None, IfSome, ◌⊎◌, ⊎_elim, refl, sym, ap, ◌∙◌, subst}
use Rattle.std.specs.declared.io.ErrorKind.{ErrorKind}
use Rattle.std.specs.declared.io.ErrorKind.TheVariants.{OutOfMemory}
use Rattle.nugwier_commands.specs.Run.{AreBytesSaid, AreFoundSaid, AreKindSaid, ArePathSaid, IsBegunSaid, IsContentSaid, IsElfSaid}
use Rattle.nugwier_commands.specs.Run.{IsFoundSaid, IsProblemSaid, IsSaidAt, Known, Listing, Saying, is_archive, listing_of}
use Rattle.nugwier_commands.specs.inner.Loading.{IsFrontOf}
use Rattle.elf_libraries.specs.Folder.{KnownFiles}
use Rattle.nugwier_commands.specs.Formats.{front, is_elf, not_elf}
use Rattle.nugwier_report.specs.Labels.{Named}
use Rattle.nugwier_report.specs.Said.{Said, warns, whole}
use Rattle.nugwier_report.specs.declared.problem.Part.TheVariants.{File}
use Rattle.nugwier_commands.specs.Words.{Task}
use Rattle.nugwier_commands.specs.declared.target.Heading.{Heading}

module _ (IsSaid : Saying) where
  -- of a file that begins as an ELF file
  pub elf_begun : (bytes start : List ℕ) (named : Named) (said : List Said) → start ≡ front bytes → is_elf start ≡ true → IsSaid bytes named said → IsElfSaid IsSaid bytes named said
  elf_begun bytes start named said same is h =
      subst (λ (b : Bool). IsBegunSaid b IsSaid bytes named said) (sym is ∙ ap is_elf same) h

  -- of any other file
  pub other_begun : (bytes start : List ℕ) (fault : Option (List ℕ)) (named : Named) (said : List Said) → start ≡ front bytes → is_elf start ≡ false → fault ≡ not_elf start
      → IsProblemSaid fault named said → IsElfSaid IsSaid bytes named said
  other_begun bytes start fault named said same is told h =
      subst (λ (b : Bool). IsBegunSaid b IsSaid bytes named said) (sym is ∙ ap is_elf same)
      (h.0, h.1 ∙ ap (λ (f : Option (List ℕ)). warns (whole File) f ∷ []) (told ∙ ap not_elf same))

module _ (known : Known) (task : Task) (heading : Option Heading) (path : List ℕ) where
  -- of a file that is told as one file
  pub one_file : (bytes start : List ℕ) (named : Named) (said : List Said) → start ≡ front bytes → is_archive task.command start ≡ false
      → IsElfSaid (IsContentSaid known task.command task path) bytes named said → AreBytesSaid known task heading path bytes (listing_of heading path named said ∷ [])
  one_file bytes start named said same is h =
      subst (λ (b : Bool). AreKindSaid known task heading path bytes b (listing_of heading path named said ∷ [])) (sym is ∙ ap (is_archive task.command) same) (named, said, h, refl)

module _ (files : KnownFiles) (task : Task) (heading : Option Heading) (path start : List ℕ) (begins : IsFrontOf (files.contents path) start) where
  -- by the content at the path
  found : (all : List Listing) → AreBytesSaid (Some files) task heading path begins.0 all → ArePathSaid (Some files) task heading path all
  found all h = subst (λ (content : Option (List ℕ)). AreFoundSaid (Some files) task heading path content all) (sym begins.1) h

  elf_found : (named : Named) (said : List Said) → is_archive task.command start ≡ false → is_elf start ≡ true
      → IsSaidAt (Some files) (IsContentSaid (Some files) task.command task path) path named said → ArePathSaid (Some files) task heading path (listing_of heading path named said ∷ [])
  elf_found named said is_file is h =
      found (listing_of heading path named said ∷ [])
      (one_file (Some files) task heading path begins.0 start named said begins.2 is_file
      (elf_begun (IsContentSaid (Some files) task.command task path) begins.0 start named said begins.2 is
      (subst (λ (content : Option (List ℕ)). IsFoundSaid (IsContentSaid (Some files) task.command task path) content named said) begins.1 h)))

  other_found : (fault : Option (List ℕ)) (named : Named) (said : List Said) → is_archive task.command start ≡ false → is_elf start ≡ false → fault ≡ not_elf start
      → IsProblemSaid fault named said → ArePathSaid (Some files) task heading path (listing_of heading path named said ∷ [])
  other_found fault named said is_file is told h =
      found (listing_of heading path named said ∷ [])
      (one_file (Some files) task heading path begins.0 start named said begins.2 is_file
      (other_begun (IsContentSaid (Some files) task.command task path) begins.0 start fault named said begins.2 is told h))

-- of the file at a path, by the bytes at its start
pub elf_said : (known : Known) (task : Task) (heading : Option Heading) (path start : List ℕ) (named : Named) (said : List Said) → IfSome known (λ files. IsFrontOf (files.contents path) start)
    → is_archive task.command start ≡ false → is_elf start ≡ true → IsSaidAt known (IsContentSaid known task.command task path) path named said
    → ArePathSaid known task heading path (listing_of heading path named said ∷ [])
elf_said None task heading path start named said begins is_file is h = tt
elf_said (Some files) task heading path start named said begins is_file is h = elf_found files task heading path start begins named said is_file is h

pub other_said : (known : Known) (task : Task) (heading : Option Heading) (path start : List ℕ) (fault : Option (List ℕ)) (named : Named) (said : List Said) → IfSome known (λ files. IsFrontOf (files.contents path) start)
    → is_archive task.command start ≡ false → is_elf start ≡ false → fault ≡ not_elf start → IsProblemSaid fault named said
    → ArePathSaid known task heading path (listing_of heading path named said ∷ [])
other_said None task heading path start fault named said begins is_file is told h = tt
other_said (Some files) task heading path start fault named said begins is_file is told h = other_found files task heading path start begins fault named said is_file is told h

-- the error is that there is no such file, unless an allocation failed
pub missing_from : (known : Known) (path : List ℕ) (kind : ErrorKind) → IfSome known (λ files. (files.contents path ≡ None) ⊎ (kind ≡ OutOfMemory)) → (kind ≡ OutOfMemory → ⊥)
    → IfSome known (λ files. files.contents path ≡ None)
missing_from None path kind h other = tt
missing_from (Some files) path kind h other = ⊎_elim (λ none. none) (λ is. absurd (other is)) h

-- of a file that is not there
pub missing_said : (known : Known) (task : Task) (heading : Option Heading) (path : List ℕ) (named : Named) (said : List Said)
    → IfSome known (λ files. files.contents path ≡ None) → IsProblemSaid None named said
    → ArePathSaid known task heading path (listing_of heading path named said ∷ [])
missing_said None task heading path named said is h = tt
missing_said (Some files) task heading path named said is h =
    subst (λ (content : Option (List ℕ)). AreFoundSaid (Some files) task heading path content (listing_of heading path named said ∷ [])) (sym is) (named, said, h, refl)

-- of a file that was read, by what this says of its bytes
pub read_as : (known : Known) (IsSaid : Saying) (path bytes : List ℕ) (named : Named) (said : List Said)
    → IfSome known (λ files. files.contents path ≡ Some bytes) → IsSaid bytes named said → IsSaidAt known IsSaid path named said
read_as None IsSaid path bytes named said is h = tt
read_as (Some files) IsSaid path bytes named said is h = subst (λ (content : Option (List ℕ)). IsFoundSaid IsSaid content named said) (sym is) h

-- of a file that is not there, by what this says of the bytes of one that is
pub missing_as : (known : Known) (IsSaid : Saying) (path : List ℕ) (named : Named) (said : List Said)
    → IfSome known (λ files. files.contents path ≡ None) → IsProblemSaid None named said → IsSaidAt known IsSaid path named said
missing_as None IsSaid path named said is h = tt
missing_as (Some files) IsSaid path named said is h = subst (λ (content : Option (List ℕ)). IsFoundSaid IsSaid content named said) (sym is) h

-- by other words
found_as : (content : Option (List ℕ)) (IsSaid Others : Saying) (named : Named) (said : List Said) → ((bytes : List ℕ) → IsSaid bytes named said → Others bytes named said)
    → IsFoundSaid IsSaid content named said → IsFoundSaid Others content named said
found_as (Some bytes) IsSaid Others named said lift h = lift bytes h
found_as None IsSaid Others named said lift h = h

pub said_as : (known : Known) (path : List ℕ) (IsSaid Others : Saying) (named : Named) (said : List Said) → ((bytes : List ℕ) → IsSaid bytes named said → Others bytes named said)
    → IsSaidAt known IsSaid path named said → IsSaidAt known Others path named said
said_as None path IsSaid Others named said lift h = tt
said_as (Some files) path IsSaid Others named said lift h = found_as (files.contents path) IsSaid Others named said lift h

-- of a file that was opened at its path
pub source_said : (known : Known) (IsSaid : Saying) (path : List ℕ) (content : Option (List ℕ)) (named : Named) (said : List Said)
    → IfSome known (λ files. (bytes : List ℕ) × (files.contents path ≡ Some bytes) × (content ≡ Some bytes)) → IfSome content (λ bytes. IsSaid bytes named said)
    → IsSaidAt known IsSaid path named said
source_said None IsSaid path content named said opened h = tt
source_said (Some files) IsSaid path content named said (bytes, there, same) h =
    subst (λ (found : Option (List ℕ)). IsFoundSaid IsSaid found named said) (sym there) (subst (λ (found : Option (List ℕ)). IfSome found (λ b. IsSaid b named said)) same h)
