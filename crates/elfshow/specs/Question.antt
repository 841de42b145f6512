-- The question of a call: the call itself, with bytes in place of references, and one question for both kinds of hash
-- section.
use Rattle.std.specs.Prelude.{ℕ, List}
use Rattle.elf_hash_check.specs.declared.hashcheck.any.HashKind.{HashKind}
use Rattle.elf_hash_check.specs.declared.hashcheck.any.HashKind.TheVariants.{Gnu, Sysv}
use Rattle.elfshow.specs.declared.calls.Call.{Call}
use Rattle.elfshow.specs.declared.calls.Call.TheVariants as call

pub data Question : Type 0 where
  Header : Question
  Sections : Question
  Segments : Question
  Name : List ℕ → Question
  Data : ℕ → Question
  Strings : ℕ → Question
  Rels : ℕ → Question
  Relas : ℕ → Question
  Notes : ℕ → Question
  Seg : ℕ → Question
  SegNotes : ℕ → Question
  Symbols : Question
  DynSyms : Question
  Dynamic : Question
  Versions : Question
  Hash : HashKind → ℕ → Question

abbrev pub question : Call → Question
question call.Header = Header
question call.Sections = Sections
question call.Segments = Segments
question (call.Name name) = Name name.now
question (call.Data i) = Data i
question (call.Strings i) = Strings i
question (call.Rels i) = Rels i
question (call.Relas i) = Relas i
question (call.Notes i) = Notes i
question (call.Seg j) = Seg j
question (call.SegNotes j) = SegNotes j
question call.Symbols = Symbols
question call.DynSyms = DynSyms
question call.Dynamic = Dynamic
question call.Versions = Versions
question (call.Sysv i) = Hash Sysv i
question (call.Gnu i) = Hash Gnu i
