use Rattle.std.proofs.Common.{IfSome}
use Rattle.elf_libraries.proofs.Configuring.{AreLater}
use Rattle.elf_libraries.specs.Configured.{lists_of, pending_in}
use Rattle.elf_libraries.proofs.configured.configured_folders.Given as goal

-- what is listed from here on is what is listed
abbrev pub invariant-steps : goal.invariant-steps
invariant-steps g l =
    IfSome (g.F.Files.known l.files) (λ files. AreLater files (pending_in l.listing) (lists_of l.listing))
