use Rattle.std.proofs.Common.{◌≡◌, All, map, take, IfSome}
use Rattle.std.specs.Io.KnownBytes.{Appends}
use Rattle.elf.specs.StreamFile.{stream_file}
use Rattle.elf.specs.ElfStream.{Keeps}
use Rattle.elfshow.specs.Question.{question}
use Rattle.elfshow.specs.Stream.{IsLoaded}
use Rattle.elfshow.specs.Text.{text}
use Rattle.elfshow.proofs.StreamRuns.{HasUsed}
use Rattle.elfshow.proofs.runs.run_stream.Given as goal

-- the same file, nothing but their ranges was cached, the text of the calls so far was written, and their ranges are
-- cached
abbrev pub invariant-loop-done : goal.invariant-loop-done
invariant-loop-done g l = record {
  keeps : Keeps l.initial.stream l.stream;
  used : HasUsed g.E.EndianParse.little l.calls l.initial.stream l.stream;
  written : IfSome l.initial.stream.content (λ bytes.
      Appends (g.W.Write.contents l.initial.out) (g.W.Write.contents l.out) (text l.initial.stream.headers.ehdr (stream_file g.E.EndianParse.little l.initial.stream bytes) (map question (take l.done l.calls)))
      × (l.stream.failures ≡ l.initial.stream.failures));
  loaded : IfSome l.initial.stream.content (λ bytes. All (λ call. IsLoaded g.E.EndianParse.little l.stream bytes (question call)) (take l.done l.calls));
}
