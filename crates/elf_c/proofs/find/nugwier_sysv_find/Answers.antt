use Rattle.std.proofs.Common.{◌≡◌, ℕ, Option, Result, Ok, ap, refl, sym, ◌∙◌}
use Rattle.elf_parts.specs.SysvFind.{SysvTable, sysv_find, sysv_section}
use Rattle.elf_records.specs.Number.{ok_map}
use Rattle.elf_records.specs.Record.{◌>>=◌}
use Rattle.elf_records.specs.declared.parse.ParseError.{ParseError}
use Rattle.elf_records.specs.declared.symbol.Symbol.{Symbol}
use Rattle.elf_c.specs.Find.{found_shown, sysv_found}
use Rattle.elf_c.specs.HashTables.{sysv_of_c}
use Rattle.elf_c.specs.Status.{status_of, written}
use Rattle.elf_c.specs.Tables.{class_in, table_of_c}
use Rattle.elf_c.specs.declared.hash_tables.NugwierSysv.{NugwierSysv}
use Rattle.elf_c.proofs.Least.{finds_first}
use Rattle.elf_c.proofs.find.nugwier_sysv_find.Goals as goal

pub returns-in-Ok-clause-first : goal.returns-in-Ok-clause-first
returns-in-Ok-clause-first c =
    let a = c.args in
    let table = table_of_c a.symbols.now in
    let section = sysv_section a.symbols.now.little (class_in a.symbols.now.is_64) a.section.now in
    let find : SysvTable → Result (Option (ℕ × Symbol)) ParseError = λ t. sysv_find t table a.strings.now a.name.now in
    let answer = sysv_found a.section.now a.symbols.now a.strings.now a.name.now in
    let opened : Ok (sysv_of_c c.in-Ok.sysv) ≡ section =
    ap (λ (r : Result NugwierSysv ParseError). ok_map sysv_of_c r) (sym c.in-Ok.is) ∙ c.sysv_opened.ensures in
    let same : find (sysv_of_c c.in-Ok.sysv) ≡ answer = ap (λ (r : Result SysvTable ParseError). r >>= find) opened in
    finds_first section table a.strings.now a.name.now answer a.found.now
    c.nugwier_sysv_look_up.new.found c.nugwier_sysv_look_up.result
    (λ s e sound. c.sysv_find_on_sound.ensures a.symbols.now.little (class_in a.symbols.now.is_64) s a.name.now e sound)
    refl (c.nugwier_sysv_look_up.ensures.status ∙ ap status_of same)
    (c.nugwier_sysv_look_up.ensures.found ∙ ap (λ (r : Result (Option (ℕ × Symbol)) ParseError). written found_shown a.found.now r) same)
