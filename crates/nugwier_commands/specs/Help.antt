-- What `--help` prints, of the program and of each command.
use Rattle.std.specs.Prelude.{ℕ, List, Option, Some, None}
use Rattle.nugwier_commands.specs.declared.help.TheConstants.{ADDRESS, BINDINGS, BUILD_ID, CHECK, EXPORTS, HARDEN, LIST}
use Rattle.nugwier_commands.specs.declared.help.TheConstants.{NEEDED, PLAN, PROGRAM, STARTS, SYMBOLS, TREE}
use Rattle.nugwier_commands.specs.declared.words.Command.{Command}
use Rattle.nugwier_commands.specs.declared.words.Command.TheVariants.{Address, Bindings, BuildId, Check, Exports, Harden}
use Rattle.nugwier_commands.specs.declared.words.Command.TheVariants.{List as ListCommand, Needed, Plan, Starts, Symbols}
use Rattle.nugwier_commands.specs.declared.words.Command.TheVariants.{Tree}

abbrev pub help_of_command : Command → List ℕ
help_of_command ListCommand = LIST.now
help_of_command Symbols = SYMBOLS.now
help_of_command Needed = NEEDED.now
help_of_command Exports = EXPORTS.now
help_of_command BuildId = BUILD_ID.now
help_of_command Plan = PLAN.now
help_of_command Check = CHECK.now
help_of_command Harden = HARDEN.now
help_of_command Address = ADDRESS.now
help_of_command Tree = TREE.now
help_of_command Bindings = BINDINGS.now
help_of_command Starts = STARTS.now

abbrev pub help_of : Option Command → List ℕ
help_of None = PROGRAM.now
help_of (Some command) = help_of_command command
