use Rattle.std.proofs.Common.{◌≡◌, ℕ, Option, Result, Ok, ap, refl, sym, ◌∙◌}
use Rattle.elf_parts.specs.GnuFind.{GnuTable, gnu_find, gnu_section}
use Rattle.elf_records.specs.Number.{ok_map}
use Rattle.elf_records.specs.Record.{◌>>=◌}
use Rattle.elf_records.specs.declared.parse.ParseError.{ParseError}
use Rattle.elf_records.specs.declared.symbol.Symbol.{Symbol}
use Rattle.elf_c.specs.Find.{found_shown, gnu_found}
use Rattle.elf_c.specs.HashTables.{gnu_of_c}
use Rattle.elf_c.specs.Status.{status_of, written}
use Rattle.elf_c.specs.Tables.{class_in, table_of_c}
use Rattle.elf_c.specs.declared.hash_tables.NugwierGnu.{NugwierGnu}
use Rattle.elf_c.proofs.Least.{finds_least}
use Rattle.elf_c.proofs.find.nugwier_gnu_find.Goals as goal

pub returns-in-Ok-clause-least : goal.returns-in-Ok-clause-least
returns-in-Ok-clause-least c =
    let a = c.args in
    let table = table_of_c a.symbols.now in
    let section = gnu_section a.symbols.now.little (class_in a.symbols.now.is_64) a.section.now in
    let find : GnuTable → Result (Option (ℕ × Symbol)) ParseError = λ t. gnu_find t table a.strings.now a.name.now in
    let answer = gnu_found a.section.now a.symbols.now a.strings.now a.name.now in
    let opened : Ok (gnu_of_c c.in-Ok.gnu) ≡ section =
    ap (λ (r : Result NugwierGnu ParseError). ok_map gnu_of_c r) (sym c.in-Ok.is) ∙ c.gnu_opened.ensures in
    let same : find (gnu_of_c c.in-Ok.gnu) ≡ answer = ap (λ (r : Result GnuTable ParseError). r >>= find) opened in
    finds_least section table a.strings.now a.name.now answer a.found.now
    c.nugwier_gnu_look_up.new.found c.nugwier_gnu_look_up.result
    (λ s e sound. c.gnu_find_on_sound.ensures a.symbols.now.little (class_in a.symbols.now.is_64) s a.name.now e sound)
    refl (c.nugwier_gnu_look_up.ensures.status ∙ ap status_of same)
    (c.nugwier_gnu_look_up.ensures.found ∙ ap (λ (r : Result (Option (ℕ × Symbol)) ParseError). written found_shown a.found.now r) same)
