use Rattle.std.proofs.Common.{◌≡◌, drop}
use Rattle.std.specs.List.{last_or}
use Rattle.elf_dynamic.specs.dynamic_view.Entries.{value_of, values_of}
use Rattle.elf_dynamic.proofs.dynamic_view.entries.value_in.Given as goal

-- the last value is that of the entries that are left or, if none of these has the tag, the last so far
abbrev pub invariant-loop-entry : goal.invariant-loop-entry
invariant-loop-entry l = value_of l.tag l.entries ≡ last_or l.last (values_of l.tag (drop l.entry-index l.entries))
