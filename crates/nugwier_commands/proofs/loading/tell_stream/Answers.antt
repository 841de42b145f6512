use Rattle.std.proofs.Common.{◌≡◌, ℕ, List, Option, Some, None, IfSome, Bool, subst, sym}
use Rattle.elf.specs.ElfStream.{Keeps, StreamView}
use Rattle.elf.specs.Loaded.{streamed_file}
use Rattle.elf.specs.ObjectFile.{ObjectFile}
use Rattle.elf.specs.StreamFile.{listed_file, stream_file}
use Rattle.nugwier_commands.specs.Run.{IsFileSaid}
use Rattle.nugwier_commands.specs.inner.Loading.{IsSaidAfter}
use Rattle.nugwier_commands.proofs.Lifting.{as_told, one_of}
use Rattle.nugwier_report.specs.Labels.{Named}
use Rattle.nugwier_report.specs.Said.{Said}
use Rattle.nugwier_report.specs.Whole.{file_of, stream_range}
use Rattle.nugwier_commands.specs.Words.{Task, task_of}
use Rattle.nugwier_commands.proofs.loading.tell_stream.Goals as goal

-- what is said of the file of a stream is said of the file that its content holds
of_content : {E : Type 0} (little : E → Bool) (of_byte : ℕ → Option E) (task : Task) (path : List ℕ) (named : Named) (said : List Said) (whole : ObjectFile) (old now : StreamView E) → Keeps old now → (content : Option (List ℕ))
    → IfSome content (λ bytes. whole ≡ stream_file little now bytes) → IsFileSaid little of_byte task path now.headers.ehdr whole named said
    → IfSome content (λ bytes. IsFileSaid little of_byte task path old.headers.ehdr (stream_file little old bytes) named said)
of_content little of_byte task path named said whole old now keeps None same is = tt
of_content little of_byte task path named said whole old now keeps (Some bytes) same is =
    subst (λ h. IsFileSaid little of_byte task path h.ehdr (listed_file little h bytes) named said) keeps.headers
    (subst (λ (file : ObjectFile). IsFileSaid little of_byte task path now.headers.ehdr file named said) same is)

pub returns : goal.returns
returns g c =
    let little = g.E.EndianParse.little in
    let of_byte = g.E.EndianParse.of_byte in
    let old = c.args.stream.now in
    let now = c.load_missing.new.stream in
    let keeps = c.load_missing.ensures in
    let task = task_of c.args.target.job.now in
    let heading = c.args.target.heading in
    let path = c.args.target.path.now in
    let whole = file_of (streamed_file little now) (stream_range now) in
    let same = subst (λ (content : Option (List ℕ)). IfSome content (λ bytes. whole ≡ stream_file little now bytes)) keeps.content c.whole_is_content.ensures in
    as_told g.R.Run.one c.args.run.now c.tell_file.new.run _ _
    (one_of heading path (IsSaidAfter None (IsFileSaid little of_byte task path now.headers.ehdr whole)) (λ named said. IfSome old.content (λ bytes. IsFileSaid little of_byte task path old.headers.ehdr (stream_file little old bytes) named said))
    (λ named said h. of_content little of_byte task path named said whole old now keeps old.content same (subst (λ (s : List Said). IsFileSaid little of_byte task path now.headers.ehdr whole named s) (sym h.2) h.1))) c.in_ok-tell_file.ensures
