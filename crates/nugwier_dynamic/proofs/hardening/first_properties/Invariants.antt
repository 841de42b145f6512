use Rattle.std.proofs.Common.{◌≡◌}
use Rattle.elf_parts.specs.Note.{notes_left}
use Rattle.nugwier_dynamic.specs.Hardening.{first_properties}
use Rattle.nugwier_dynamic.proofs.hardening.first_properties.Given as goal

-- none so far has properties
abbrev pub invariant-loop-note : goal.invariant-loop-note
invariant-loop-note g l =
    (goal.iterator-loop-note g).can_next l.note-iterator × (goal.iterator-loop-note g).is_finite l.note-iterator ×
    (first_properties (notes_left l.note-iterator) ≡ first_properties (notes_left l.fn.notes))
