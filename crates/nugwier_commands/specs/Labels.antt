-- The names of sections with which problems are told.
use Rattle.std.specs.Prelude.{ℕ, ◌==◌, ◌||◌, not, Bool, true, false, if◌then◌else◌, List, length, Option, None}
use Rattle.elf.specs.ObjectFile.{ObjectFile}
use Rattle.nugwier_report.specs.Headings.{known_names}
use Rattle.nugwier_commands.specs.Words.{Task}
use Rattle.nugwier_commands.specs.declared.words.Command.{Command}
use Rattle.nugwier_commands.specs.declared.words.Command.TheVariants.{Bindings, BuildId, List as ListCommand, Plan, Starts}
use Rattle.nugwier_commands.specs.declared.words.Command.TheVariants.{Tree}
use Rattle.nugwier_commands.specs.declared.words.Parts.{Parts}

-- whether a part is asked for that is more than a header
abbrev pub has_sections : Parts → Bool
has_sections parts =
    parts.sections || parts.groups || parts.symbols || parts.dynamic_symbols || parts.dynamic || parts.relocations
    || parts.notes || parts.versions || parts.chains || parts.attributes || parts.debug_links

-- whether something of a section can be wrong, by the command
abbrev pub tells_sections : Command → Task → Bool
tells_sections Plan task = false
tells_sections BuildId task = false
tells_sections Tree task = false
tells_sections Bindings task = false
tells_sections Starts task = false
tells_sections ListCommand task = has_sections task.parts || not (length task.contents == 0)
tells_sections other task = true

-- those of a file, if they are needed and can be read
abbrev pub names_told : Task → ObjectFile → Option (List ℕ)
names_told task file = if tells_sections task.command task then known_names file else None
