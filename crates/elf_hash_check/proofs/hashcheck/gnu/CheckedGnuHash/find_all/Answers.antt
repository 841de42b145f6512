use Rattle.std.proofs.Common.{ap, ◌∙◌, ℕ, List, subst, sym}
use Rattle.elf_records.specs.declared.symbol.Symbol.{Symbol}
use Rattle.elf_hash_check.specs.NamedSymbols.{AreAllNamed, symbols_with_name}
use Rattle.elf_hash_check.specs.Object.{ByGnu}
use Rattle.elf_hash_check.specs.WithSymbols.{gnu_with}
use Rattle.elf_hash_check.proofs.AllNamed.{gnu_all}
use Rattle.elf_hash_check.proofs.hashcheck.gnu.CheckedGnuHash.find_all.Goals as goal

pub returns : goal.returns
returns g c =
    let s = gnu_with c.args.self.now.table c.args.self.now.symtab c.args.self.now.strtab in
    let all = gnu_all s c.args.name.now c.args.self.now.sound c.args.self.now.readable c.find.result c.find.ensures in
    let same = c.new.ensures ∙ ap (symbols_with_name s.symbols s.strings c.args.name.now) c.run_from-walk.ensures in
    let P : List (ℕ × Symbol) → Type 0 = λ found. AreAllNamed (ByGnu s) c.args.name.now found in
    subst P (sym same) all
