use Rattle.std.proofs.Common.{◌≡◌, ◌++◌, length, map}
use Rattle.std.specs.Vec.{vec_items}
use Rattle.elf_libraries.specs.Configured.{file, lists_of, pending_in}
use Rattle.elf_libraries.proofs.configured.Listing.enter_files.Given as goal

-- the files that are left come before what is pending
abbrev pub invariant-loop-path : goal.invariant-loop-path
invariant-loop-path l = record {
  pending : map file (map vec_items l.paths.items) ++ pending_in l.self
      ≡ map file (map vec_items l.initial.paths.items) ++ pending_in l.initial.self;
  lists : lists_of l.self ≡ lists_of l.initial.self;
}

abbrev pub decreases-loop-path : goal.decreases-loop-path
decreases-loop-path l = length l.paths.items
