-- Why words are no request, as standard error tells it.
use Rattle.std.specs.Prelude.{ℕ, List, Option, None, Some, codes}
use Rattle.std.specs.Fmt.{◌++?◌}
use Rattle.elf_records.specs.Texts.{words}
use Rattle.nugwier_report.specs.Problems.{quoted}
use Rattle.nugwier_commands.specs.Words.{word_of}
use Rattle.nugwier_commands.specs.declared.words.Command.{Command}
use Rattle.nugwier_commands.specs.declared.words.WordError.{WordError}
use Rattle.nugwier_commands.specs.declared.words.WordError.TheVariants as wrong

-- a command by its word
abbrev pub named : Command → Option (List ℕ)
named command = Some (word_of command)

abbrev pub word_text : WordError → Option (List ℕ)
word_text wrong.NoCommand = words (codes "nugwier: no command; see nugwier --help")
word_text (wrong.Command w None) =
    words (codes "nugwier: unknown command '") ++? quoted w.now ++? words (codes "'; see nugwier --help")
word_text (wrong.Command w (Some c)) =
    words (codes "nugwier: unknown command '") ++? quoted w.now ++? words (codes "', did you mean '") ++? named c
    ++? words (codes "'? see nugwier --help")
word_text (wrong.Option c w) =
    words (codes "nugwier ") ++? named c ++? words (codes ": unknown option '") ++? quoted w.now
    ++? words (codes "'; see nugwier ") ++? named c ++? words (codes " --help")
word_text (wrong.NoSection w) =
    words (codes "nugwier list: no section after '") ++? quoted w.now ++? words (codes "'; see nugwier list --help")
word_text (wrong.NoFolder c w) =
    words (codes "nugwier ") ++? named c ++? words (codes ": no folder after '") ++? quoted w.now
    ++? words (codes "'; see nugwier ") ++? named c ++? words (codes " --help")
word_text (wrong.NoFile c) =
    words (codes "nugwier ") ++? named c ++? words (codes ": no file; see nugwier ") ++? named c
    ++? words (codes " --help")
word_text (wrong.NoList c w) =
    words (codes "nugwier ") ++? named c ++? words (codes ": no list after '") ++? quoted w.now
    ++? words (codes "'; see nugwier ") ++? named c ++? words (codes " --help")
word_text (wrong.Requirement w) =
    words (codes "nugwier harden: no such requirement: '") ++? quoted w.now
    ++? words (codes "'; see nugwier harden --help")
word_text (wrong.NoFormat w) =
    words (codes "nugwier symbols: no format after '") ++? quoted w.now ++? words (codes "'; see nugwier symbols --help")
word_text (wrong.Format w) =
    words (codes "nugwier symbols: no such format: '") ++? quoted w.now ++? words (codes "'; see nugwier symbols --help")
word_text (wrong.Address w) =
    words (codes "nugwier address: '") ++? quoted w.now ++? words (codes "' is no address; see nugwier address --help")
word_text wrong.NoAddress = words (codes "nugwier address: no address; see nugwier address --help")
word_text wrong.Memory = words (codes "nugwier: out of memory")
