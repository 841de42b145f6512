use Rattle.std.proofs.Common.{None, Ok, refl, rules}
use Rattle.elf_libraries.proofs.OpenedWhole.{found_by_names}
use Rattle.elf_libraries.proofs.tree.LoadedFile.of_stream.Goals as goal

pub returns : goal.returns
returns g c =
    found_by_names c.args.path.now c.args.stream.now _ c.in-Ok.names
    (record { path = c.in-Ok-from_slice.path; identity = None; bytes = c.new.result; kind = c.of-kind.result; names = Ok c.in-Ok.names })
    c.in-Ok.ensures.names c.in-Ok-from_slice.ensures.items refl c.new.ensures.items (search rules) refl
