-- The links of a file to the files that have its debug information (GDB manual, section "Debugging Information in Separate
-- Files").
use Rattle.std.specs.Prelude.{ℕ, ◌+◌, ◌==◌, Bool, List, codes, drop, take, Some, None, Result, Ok, Err}
use Rattle.std.specs.Int.{next_multiple_of}
use Rattle.std.specs.List.{position}
use Rattle.elf_records.specs.Number.{number_at}
use Rattle.elf_records.specs.Record.{◌>>=◌}
use Rattle.elf_records.specs.declared.parse.ParseError.{ParseError}
use Rattle.elf_tools.specs.declared.debug_link.DebugAltLink.{DebugAltLink}
use Rattle.elf_tools.specs.declared.debug_link.DebugLink.{DebugLink}
use Rattle.elf_tools.specs.declared.debug_link.DebugLinkError.{DebugLinkError}
use Rattle.elf_tools.specs.declared.debug_link.DebugLinkError.TheVariants.{EndlessName, NoChecksum}

-- ---- .gnu_debuglink: a name that a zero byte ends, and from the next multiple of four bytes on the checksum of the file

pub record LinkView : Type 0 where
  pub name : List ℕ
  pub crc : ℕ

abbrev pub link_view : DebugLink → LinkView
link_view link = record { name = link.name.now; crc = link.crc }

abbrev pub crc_read : Result ℕ ParseError → Result ℕ DebugLinkError
crc_read (Ok crc) = Ok crc
crc_read (Err e) = Err NoChecksum

-- four bytes, in the byte order of the file
abbrev pub crc_at : Bool → List ℕ → ℕ → Result ℕ DebugLinkError
crc_at little section place = crc_read (number_at little 4 section place)

abbrev pub debug_link : Bool → List ℕ → Result LinkView DebugLinkError
debug_link little section = elim (position (λ b. b == 0) section) [
  | Some end ↦
      crc_at little section (next_multiple_of (end + 1) 4) >>= λ crc.
      Ok (record { name = take end section; crc = crc })
  | None ↦ Err EndlessName
]

-- ---- .gnu_debugaltlink: a path that a zero byte ends, and the build ID of the file

pub record AltLinkView : Type 0 where
  pub name : List ℕ
  pub build_id : List ℕ

abbrev pub alt_link_view : DebugAltLink → AltLinkView
alt_link_view link = record { name = link.name.now; build_id = link.build_id.now }

abbrev pub debug_alt_link : List ℕ → Result AltLinkView DebugLinkError
debug_alt_link section = elim (position (λ b. b == 0) section) [
  | Some end ↦ Ok (record { name = take end section; build_id = drop (end + 1) section })
  | None ↦ Err EndlessName
]

-- ---- the texts of the errors

abbrev pub error_text : DebugLinkError → List ℕ
error_text EndlessName = codes "the file name of a debug link does not end"
error_text NoChecksum = codes "no room for the checksum of a debug link"
