-- What is wrong with the objects of a program, and what is told of it.
use Rattle.std.specs.Prelude.{ℕ, List, [], ◌∷◌, Option, Some, None, codes}
use Rattle.std.specs.Fmt.{◌++?◌}
use Rattle.elf_linking.specs.Texts.{names_text, object_text, symbol_text as unknown_text, uses_text}
use Rattle.elf_records.specs.Texts.{number, words}
use Rattle.nugwier_programs.specs.declared.faults.Fault.{Fault}
use Rattle.nugwier_programs.specs.declared.faults.Fault.TheVariants as fault
use Rattle.nugwier_programs.specs.declared.faults.QuotedSymbol.{QuotedSymbol}
use Rattle.nugwier_report.specs.Problems.{quoted}
use Rattle.nugwier_report.specs.Said.{Said, warns, whole}
use Rattle.nugwier_report.specs.declared.problem.Part.TheVariants.{File}

abbrev pub symbol_parts : Option (List ℕ) → Option (List ℕ) → Option (List ℕ)
symbol_parts (Some name) (Some version) = quoted name ++? words (codes "@") ++? quoted version
symbol_parts (Some name) None = quoted name
symbol_parts None (Some version) = words (codes "<unreadable>@") ++? quoted version
symbol_parts None None = words (codes "<unreadable>")

-- its name, and the version that it requests
abbrev pub symbol_text : QuotedSymbol → Option (List ℕ)
symbol_text q = symbol_parts q.name q.version

abbrev pub fault_text : Fault → Option (List ℕ)
fault_text (fault.NotFound name path) =
    quoted name ++? words (codes ", which ") ++? quoted path ++? words (codes " needs, is not found")
fault_text (fault.Names path e) = words (codes "names of ") ++? quoted path ++? words (codes ": ") ++? names_text e
fault_text (fault.Object path f) = words (codes "symbols of ") ++? quoted path ++? words (codes ": ") ++? object_text f
fault_text (fault.Unread path) =
    words (codes "symbols of ") ++? quoted path ++? words (codes ": the file can no longer be read")
fault_text (fault.NoHash path) = words (codes "symbols of ") ++? quoted path ++? words (codes ": no hash section")
fault_text (fault.Relocations path e) =
    words (codes "relocations of ") ++? quoted path ++? words (codes ": ") ++? uses_text e
fault_text (fault.MissingSymbol path q) =
    words (codes "symbol ") ++? symbol_text q ++? words (codes " of ") ++? quoted path ++? words (codes ": missing")
fault_text (fault.UnknownSymbol path q f) =
    words (codes "symbol ") ++? symbol_text q ++? words (codes " of ") ++? quoted path ++? words (codes ": ")
    ++? unknown_text f
fault_text (fault.UnknownVersion path q other version) =
    words (codes "symbol ") ++? symbol_text q ++? words (codes " of ") ++? quoted path ++? words (codes ": ")
    ++? quoted other ++? words (codes ": version of symbol ") ++? number version ++? words (codes " cannot be read")

-- it is told of the file as a whole
abbrev pub warned : Fault → List Said
warned fault = warns (whole File) (fault_text fault) ∷ []
