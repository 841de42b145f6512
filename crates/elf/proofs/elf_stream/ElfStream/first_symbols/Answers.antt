use Rattle.std.proofs.lemmas.Result.{err_from_is_err_and}
use Rattle.std.proofs.Common.{refl}
use Rattle.std.specs.Option.{option_map}
use Rattle.elf.specs.Answers.{first_symbols, symbols_view}
use Rattle.elf.specs.Loaded.{loaded_ranges}
use Rattle.elf.specs.Ranges.{headers_alone, symbols_ranges}
use Rattle.elf.specs.StreamFile.{stream_file}
use Rattle.elf.proofs.Partly.{symbols_answered}
use Rattle.elf.proofs.stream.Lent.{leaves_read}
use Rattle.elf.proofs.stream.Needs.{symbols_needs}
use Rattle.elf.proofs.stream.Steps.{leaves_refused}
use Rattle.elf.proofs.elf_stream.ElfStream.first_symbols.Goals as goal

pub returns-in_err-load_symbols : goal.returns-in_err-load_symbols
returns-in_err-load_symbols g c =
    let p = err_from_is_err_and c.from_residual.result c.from_residual.ensures.1 in
    let file = stream_file g.E.EndianParse.little c.args.self.now in (
      (
        refl,
        (λ _. tt),
        leaves_refused c.args.self.now c.load_symbols.new.self (symbols_ranges c.args.sh_type (headers_alone g.E.EndianParse.little c.args.self.now)) (option_map symbols_view) (λ bytes. first_symbols c.args.sh_type (file bytes)) p.0 _ p.1 (λ bytes. symbols_needs (file bytes) c.args.sh_type) (rw p.2 c.in_err-load_symbols.ensures),
      ),
      record { leaves = tt },
    )

pub returns : goal.returns
returns g c =
    let little = g.E.EndianParse.little in
    let old = c.args.self.now in
    let new = c.load_symbols.new.self in
    let file = stream_file little old in
    let leaves = leaves_read little old new (symbols_ranges c.args.sh_type (headers_alone g.E.EndianParse.little c.args.self.now)) (option_map symbols_view) (first_symbols c.args.sh_type) (first_symbols c.args.sh_type) _ c.first_symbols.result c.given.result (λ bytes. symbols_answered (file bytes) (loaded_ranges new) c.args.sh_type) c.in_ok-load_symbols.ensures c.is_part_of_file.ensures c.first_symbols.ensures.value c.first_symbols.ensures.plain c.given.ensures in
    ((refl, (λ _. tt), leaves), record { leaves = tt })
