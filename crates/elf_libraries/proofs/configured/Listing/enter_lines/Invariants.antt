use Rattle.std.proofs.Common.{◌≡◌, ◌++◌, length, map}
use Rattle.elf_libraries.specs.Conf.{line_view}
use Rattle.elf_libraries.specs.Configured.{lists_of, pending_in, pending_of}
use Rattle.elf_libraries.proofs.configured.Listing.enter_lines.Given as goal

-- what the lines that are left name comes before what is pending
abbrev pub invariant-loop-line : goal.invariant-loop-line
invariant-loop-line l = record {
  pending : map (pending_of l.path) (map line_view l.lines.items) ++ pending_in l.self
      ≡ map (pending_of l.path) (map line_view l.initial.lines.items) ++ pending_in l.initial.self;
  lists : lists_of l.self ≡ lists_of l.initial.self;
}

abbrev pub decreases-loop-line : goal.decreases-loop-line
decreases-loop-line l = length l.lines.items
