use Rattle.std.proofs.Common.{◌≡◌}
use Rattle.elf_parts.specs.Note.{notes_left}
use Rattle.elf_check.specs.BuildId.{first_id}
use Rattle.elf_check.proofs.whole.build_id.first_id.Given as goal

-- none so far is a build id
abbrev pub invariant-loop-note : goal.invariant-loop-note
invariant-loop-note g l =
    (goal.iterator-loop-note g).can_next l.note-iterator × (goal.iterator-loop-note g).is_finite l.note-iterator ×
    (first_id (notes_left l.note-iterator) ≡ first_id (notes_left l.fn.notes))
