-- How the version of a symbol is said: its name, and whether it is the default one.
use Rattle.std.specs.Prelude.{ℕ, Bool, List, Option, Some, None}
use Rattle.nugwier_layouts.specs.Members.{Content, flag, nothing}

-- the name of a version, and whether it is the default one of its symbol
abbrev pub Version : Type 0
Version = List ℕ × Bool

abbrev pub version_name : Option Version → Option (List ℕ)
version_name (Some version) = Some version.0
version_name None = None

-- whether it is the default one
abbrev pub version_default : Option Version → Content
version_default (Some version) = flag version.1
version_default None = nothing
