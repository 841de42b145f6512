-- The line of what a checker says of a hash section.
use Rattle.std.specs.Prelude.{ℕ, List, codes}
use Rattle.std.specs.Fmt.{decimal}
use Rattle.elfshow_lines.specs.Pieces.{◌⧺◌, newline}
use Rattle.elfshow.specs.declared.hashes.Verdict.{Verdict}
use Rattle.elfshow.specs.declared.hashes.Verdict.TheVariants.{Faulty, Sound}

abbrev pub verdict_line : Verdict → List ℕ
verdict_line Faulty = codes "faulty" ⧺ newline
verdict_line (Sound indexed) = codes "sound indexed=" ⧺ decimal indexed ⧺ newline
