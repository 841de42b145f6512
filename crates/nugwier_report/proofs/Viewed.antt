-- What is found through the segments of the part of a file that is loaded, beside what is found of the whole file.
use Rattle.std.proofs.Common.{◌≡◌, inl, inr, ℕ, true, Some, None, Result, Ok, Err, refl, ap, ◌∙◌, sym}
use Rattle.std.specs.Prelude.{IfOk}
use Rattle.elf_dynamic.specs.declared.dynamic_view.error.DynamicError.{DynamicError}
use Rattle.elf_dynamic.specs.dynamic_view.Laws.{ViewFollows}
use Rattle.elf_records.specs.Number.{ok_map}
use Rattle.nugwier_report.specs.inner.Linked.{missing_of}

missing_shown : {A T : Type 0} (shown : T → A) (found : Result T DynamicError) → missing_of (ok_map shown found) ≡ missing_of found
missing_shown shown (Ok x) = refl
missing_shown shown (Err e) = refl

none_is_missing : (range : ℕ × ℕ) → Some range ≡ None → ⊥
none_is_missing range h = cc h

module _ {A T : Type 0} (shown : T → A) (whole part : Result A DynamicError) where
  viewed_follows : (found : Result T DynamicError) → ok_map shown found ≡ part → missing_of found ≡ None → ViewFollows (λ _. true) whole part → ok_map shown found ≡ whole
  viewed_follows found h none (inl k) = h ∙ k
  viewed_follows found h none (inr k) = absurd (none_is_missing k.0 (sym (ap missing_of (h ∙ k.2)) ∙ missing_shown shown found ∙ none))

  pub viewed_whole : {N : Type 0} (read : Result T DynamicError) (result : Result (Result T DynamicError) N) → ok_map shown read ≡ part → IfOk result (λ found. read ≡ found) → IfOk result (λ found. missing_of found ≡ None) → ViewFollows (λ _. true) whole part → IfOk result (λ found. ok_map shown found ≡ whole)
  viewed_whole read (Ok found) value taken none follows = viewed_follows found (ap (ok_map shown) (sym taken) ∙ value) none follows
  viewed_whole read (Err reason) value taken none follows = tt
