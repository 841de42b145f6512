use Rattle.std.proofs.Common.{rules, ◌≡◌, ◌+◌, ◌<◌, Ok, length, sym, ap, ◌∙◌}
use Rattle.elf_records.specs.Number.{ok_map}
use Rattle.elf_records.specs.StringTable.{string_at, strings_view}
use Rattle.elf_records.specs.Symbol.{symbol_reads}
use Rattle.elf_records.specs.Table.{table_get, table_in}
use Rattle.elf_parts.specs.Hash.{named_symbol}
use Rattle.elf_c.specs.Named.{IsNamed}
use Rattle.elf_c.specs.declared.named.NugwierNamedSymbol.{NugwierNamedSymbol}
use Rattle.elf_c.specs.declared.records.NugwierSymbol.{NugwierSymbol}
use Rattle.elf_c.proofs.Filling.{one_read}
use Rattle.elf_c.proofs.NamedFilling.{name_read}
use Rattle.elf_c.proofs.OwnBytes.{more_left, more_room, own_record}
use Rattle.elf_c.proofs.named.fill_quickly.Goals as goal
use Rattle.std.proofs.Common.{refl}
use denote.Ref.{Bor}
use Rattle.std.proofs.Common.{List, ℕ}

pub loop-count-preserved : goal.loop-count-preserved
loop-count-preserved g c =
    let bytes = c.args.bytes.now in
    let strings = strings_view c.args.strings.now in
    let t = table_in (g.E.EndianParse.little c.args.endian) c.args.class bytes in
    let first = c.args.first in
    let size = c.size_for-size.result in
    let n = c.loop-count.count in
    let xs = c.loop-count.places in
    let left = c.loop-count.left.now in
    let own = c.in-Some-split_at_checked.own.now in
    let symbol = c.in-Ok.symbol in
    let name = c.in-Ok-get_raw.name in
    let kept = c.loop-count.invariant in
    let split = c.in-Some-split_at_checked.ensures.cases in
    let place : NugwierNamedSymbol = record { symbol = c.show.result; name = name } in
    let within : n < length xs = search rules in
    let read : table_get symbol_reads t (first + n) ≡ Ok symbol =
    own_record symbol_reads t (first + n) size left own symbol refl c.size_for-size.ensures c.bytes_from.ensures.short
    kept.within kept.left split.0 split.1 (sym c.parse_at.ensures.value ∙ c.in-Ok.is) in
    let text : Ok name.now ≡ string_at strings symbol.st_name =
    sym (ap (λ r. ok_map (λ (b : Bor (List ℕ)). b.now) r) c.in-Ok-get_raw.is) ∙ c.get_raw.ensures in
    let found = name_read t strings (first + n) symbol name.now read text in
    record {
      read = one_read IsNamed (named_symbol t strings) first n c.args.places.now xs (symbol, name.now) place within kept.read found
          (ap (λ (s : NugwierSymbol). (s, name.now)) c.show.ensures);
      within = more_room bytes left first n size kept.within kept.left split.0;
      left = more_left bytes left c.in-Some-split_at_checked.after.now first n size kept.left split.2;
    }
