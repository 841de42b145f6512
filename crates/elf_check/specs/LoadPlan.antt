-- What a loader maps of a file that was checked (gABI, chapter "Program Loading").
use Rattle.std.specs.Prelude.{◌≡◌, ℕ, ◌<◌, ◌≤◌, ◌==◌, Bool, List, slice_get, Some}
use Rattle.std.specs.List.{filter}
use Rattle.std.specs.declared.cmp.PartialEq.{Ghosts as PartialEqGhosts}
use Rattle.std.specs.declared.default.Default.{Ghosts as DefaultGhosts}
use Rattle.elf_abi.specs.Values.{pt_load}
use Rattle.elf_records.specs.declared.endian.EndianParse.{Ghosts as EndianGhosts}
use Rattle.elf_records.specs.declared.file.Class.{Class}
use Rattle.elf_records.specs.declared.segment.ProgramHeader.{ProgramHeader}
use Rattle.elf.specs.ObjectFile.{ObjectFile}
use Rattle.elf_check.specs.Segments.{FitsMemory, HasAddresses, memory_end}
use Rattle.elf_check.specs.SegmentsBytes.{with_bytes}
use Rattle.elf_check.specs.SegmentsWhole.{segments_left}
use Rattle.elf_check.specs.declared.segments.plan.WholeLoads.{WholeLoads}

-- whether a segment is loaded, by its type
abbrev pub is_loaded : ProgramHeader × List ℕ → Bool
is_loaded segment = segment.0.p_type == pt_load

-- the loaded segments in the order of the table, each with its bytes in the file; the rest of its memory is 0
abbrev pub load_plan : ObjectFile → List (ProgramHeader × List ℕ)
load_plan file = filter is_loaded (with_bytes file file.segments)

-- each has memory for its bytes, at addresses of the class, and ends before the next one begins
pub record IsPlan (class : Class) (plan : List (ProgramHeader × List ℕ)) : Type 0 where
  pub each :
      (i : ℕ) (s : ProgramHeader × List ℕ) → slice_get plan i ≡ Some s → FitsMemory s.0 × HasAddresses class s.0
  pub rise :
      (i k : ℕ) (s t : ProgramHeader × List ℕ) → i < k → slice_get plan i ≡ Some s → slice_get plan k ≡ Some t →
      memory_end s.0 ≤ t.0.p_vaddr

module _ {E : Type 0} {order : EndianGhosts E} {default : DefaultGhosts E} {equal : PartialEqGhosts E} where
  -- the segments that an iterator has left to yield
  abbrev pub loads_left : (E → Bool) → WholeLoads E order default equal → List (ProgramHeader × List ℕ)
  loads_left little s = filter is_loaded (segments_left little s.segments)
