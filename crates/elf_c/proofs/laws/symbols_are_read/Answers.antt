use Rattle.std.proofs.Common.{◌≡◌, Ok, Some, None, ◌∙◌, ap, subst}
use Rattle.std.specs.Prelude.{IsOk}
use Rattle.elf_records.specs.Endian.{any_is_little}
use Rattle.elf.specs.Answers.{first_symbols, symbol_version_table}
use Rattle.elf.specs.ObjectFile.{ObjectFile, object_file}
use Rattle.elf_check.specs.Whole.{named_view, whole_symbols, whole_view}
use Rattle.elf_c.specs.File.{file_of_c}
use Rattle.elf_c.specs.Symbols.{symbols_type}
use Rattle.elf_c.proofs.Checked.{found, none_read, ok_if, some_read}
use Rattle.elf_c.proofs.laws.symbols_are_read.Goals as goal

pub returns-in-Some : goal.returns-in-Some
returns-in-Some c =
    let file = file_of_c c.args.file.now in
    let here : whole_view any_is_little c.in-Sound.whole ≡ file
    = c.in-Sound.ensures.1 ∙ ap (object_file any_is_little) c.file_in.ensures in
    let symbols = whole_symbols c.in-Some.symbols in
    let is : first_symbols (symbols_type c.args.dynamic) file ≡ Ok (Some symbols)
    = subst (λ (f : ObjectFile). first_symbols (symbols_type c.args.dynamic) f ≡ Ok (Some symbols)) here c.in-Some.ensures in
    λ sound. some_read file c.args.dynamic c.args.index (subst (λ (f : ObjectFile). IsOk (symbol_version_table f)) here (ok_if c.versions.ensures)) symbols is
    (λ less. found named_view c.get.result _ c.get.ensures.value c.get.ensures.below less)

pub returns-in_default-whole_symbols : goal.returns-in_default-whole_symbols
returns-in_default-whole_symbols c =
    let file = file_of_c c.args.file.now in
    let here : whole_view any_is_little c.in-Sound.whole ≡ file
    = c.in-Sound.ensures.1 ∙ ap (object_file any_is_little) c.file_in.ensures in
    let is : first_symbols (symbols_type c.args.dynamic) file ≡ Ok None
    = subst (λ (f : ObjectFile). first_symbols (symbols_type c.args.dynamic) f ≡ Ok None) here c.in_default-whole_symbols.ensures in
    λ sound. none_read file c.args.dynamic c.args.index (subst (λ (f : ObjectFile). IsOk (symbol_version_table f)) here (ok_if c.versions.ensures)) is
