use Rattle.std.proofs.Common.{ap, get_or, rules}
use Rattle.std.proofs.lemmas.List.{drop_all, drop_more}
use Rattle.std.specs.List.{flat_map}
use Rattle.nugwier_layouts.specs.Escape.{escaped_byte}
use Rattle.nugwier_layouts.proofs.Writing.{writes_all, writes_more, writes_none}
use Rattle.nugwier_layouts.proofs.escape.write_escapes.Goals as goal

pub loop-byte-init : goal.loop-byte-init
loop-byte-init g c = writes_none g.W.Write.write_str_gives c.args.f.now _

pub loop-byte-preserved : goal.loop-byte-preserved
loop-byte-preserved g c =
    let bytes = c.args.bytes.now in
    let i = c.loop-byte.byte-index in
    let more = ap (flat_map escaped_byte) (drop_more bytes i 0 c.loop-byte-test.true) in
    writes_more g.W.Write.write_str_gives c.args.f.now c.loop-byte.f c.write_escape.new.f _ (escaped_byte (get_or bytes i 0)) _ _ more c.loop-byte.invariant
    (λ plain. c.write_escape.ensures plain (search rules))

pub returns : goal.returns
returns g c plain ok =
    let none = ap (flat_map escaped_byte) (drop_all c.loop-byte.byte-index c.args.bytes.now c.loop-byte-test.false) in
    writes_all g.W.Write.write_str_gives c.args.f.now c.loop-byte.f _ _ none c.loop-byte.invariant plain
