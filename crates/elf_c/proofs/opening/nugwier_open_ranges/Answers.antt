use Rattle.std.proofs.Common.{arith, refl}
use Rattle.elf.specs.ElfBytes.{view}
use Rattle.elf_c.proofs.Opened.{opens, refuses}
use Rattle.elf_c.specs.declared.file.NugwierFile.{NugwierFile}
use Rattle.elf_c.proofs.opening.nugwier_open_ranges.Goals as goal

pub returns-in-Ok : goal.returns-in-Ok
returns-in-Ok c =
    let new : NugwierFile = record c.file_shown.result { size = c.args.size; ranges = c.args.ranges } in
    λ bytes whole sound. opens bytes c.args.size c.args.ranges.now whole (omega arith) sound c.args.file.now new (view c.in-Ok.found) c.in-Ok.ensures.value c.file_shown.ensures.view c.file_shown.ensures.missing refl refl c.done.result c.done.ensures

pub returns-in-Err : goal.returns-in-Err
returns-in-Err c = λ bytes whole sound. refuses bytes c.args.size c.args.ranges.now whole (omega arith) sound c.args.file.now c.in-Err.error c.in-Err.ensures.value c.unread.result c.unread.ensures
