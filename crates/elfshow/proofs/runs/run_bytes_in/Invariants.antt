use Rattle.std.proofs.Common.{◌≡◌, List, drop, map}
use Rattle.elf.specs.ObjectFile.{object_file}
use Rattle.elf.specs.ElfBytes.{view}
use Rattle.elfshow.specs.declared.calls.Call.{Call}
use Rattle.elfshow.specs.Question.{question}
use Rattle.elfshow.specs.Text.{text}
use Rattle.elfshow_lines.proofs.Writing.{Leaves}
use Rattle.elfshow.proofs.runs.run_bytes_in.Given as goal

-- the text so far, and then that of the calls that are left, is the text of all calls
abbrev pub invariant-loop-call : goal.invariant-loop-call
invariant-loop-call g l =
    let all = λ (calls : List Call). text l.file.ehdr (object_file g.E.EndianParse.little (view l.file)) (map question calls) in
    (l.done ≡ l.call-index) × Leaves (g.W.Write.contents l.initial.out) (g.W.Write.contents l.out) (all (drop l.call-index l.calls)) (all l.calls)
