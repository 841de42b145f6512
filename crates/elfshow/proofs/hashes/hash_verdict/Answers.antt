use Rattle.std.proofs.Common.{Ok, subst}
use Rattle.elf_records.specs.StringTable.{strings_view}
use Rattle.elf_records.specs.Table.{table_view}
use Rattle.elf_hash_check.specs.CheckedTable.{object_view}
use Rattle.elf_hash_check.specs.Object.{IsFirstOfObject, IsSound, object_in}
use Rattle.elf_hash_check.specs.Verdict.{GivesVerdict}
use Rattle.elfshow.proofs.Verdicts.{known_faulty}
use Rattle.elfshow.proofs.hashes.hash_verdict.Goals as goal

pub returns-in-Ok-Faulty : goal.returns-in-Ok-Faulty
returns-in-Ok-Faulty g c =
    let object = object_in c.args.kind (g.E.EndianParse.little c.args.endian) c.args.class c.args.bytes.now (table_view c.args.symbols) (strings_view c.args.strings) in
    known_faulty object_view object _ (subst (λ x. GivesVerdict object_view IsSound IsFirstOfObject object (Ok x)) c.in-Ok-Faulty.field-0-is (subst (λ r. GivesVerdict object_view IsSound IsFirstOfObject object r) c.in-Ok-Faulty.is c.check_any.ensures))
