use Rattle.std.proofs.Common.{◌≡◌, ℕ, ◌+◌, Bool, List, ◌∷◌, ◌++◌, drop, Option, Some, ap, sym, ◌∙◌}
use Rattle.nugwier_report.proofs.Saying.{saying_both}
use Rattle.nugwier_report.specs.Said.{Said, saying}
use Rattle.nugwier_report.specs.declared.problem.Part.{Part}
use Rattle.nugwier_notes.specs.Properties.{padded, properties_said, property_at, property_number, property_said}
use Rattle.nugwier_notes.specs.declared.properties.NoteFile.{NoteFile}
use Rattle.nugwier_notes.proofs.properties.tell_properties.Goals as goal

-- what is said of the first property, and then of the others
first_said : (file : NoteFile) (part : Part) (note first : ℕ) (others left rest next : List ℕ) (p : ℕ × ℕ) (n : Option ℕ) → left ≡ first ∷ others
    → property_at file.is_little rest ≡ Some p → n ≡ property_number file.is_little p.1 rest → next ≡ drop (8 + padded file.class p.1) rest
    → properties_said file part note left rest ≡ property_said file part note p n ++ properties_said file part note others next
first_said file part note first others left rest next p n is found number after =
    rw is (rw (found, properties_said)
    (ap (λ (m : Option ℕ). property_said file part note p m ++ properties_said file part note others (drop (8 + padded file.class p.1) rest)) (sym number)
    ∙ ap (λ (l : List ℕ). property_said file part note p n ++ properties_said file part note others l) (sym after)))

pub loop-first-preserved : goal.loop-first-preserved
loop-first-preserved g c =
    let file = c.args.file in
    let rest = c.loop-first.rest.now in
    let property = c.in-Some-property_at.property in
    let number = c.property_number-number.result in
    let others = c.in-Some.others.now in
    let next = c.rest_of-rest.result.now in
    let said = property_said file c.args.part c.args.note property number in
    let left = properties_said file c.args.part c.args.note others next in
    let all = first_said file c.args.part c.args.note c.in-Some._first.now others c.loop-first.left.now rest next property number
    c.in-Some.ensures.cases.0
    (ap (λ (b : Bool). property_at b rest) (sym c.order.ensures) ∙ sym c.property_at.ensures ∙ c.in-Some-property_at.is)
    (c.property_number-number.ensures ∙ ap (λ (b : Bool). property_number b property.1 rest) c.order-in-Some.ensures)
    (c.rest_of-rest.ensures ∙ ap (λ (n : ℕ). drop (8 + n) rest) c.padded.ensures) in
    ap (λ t. saying g.T.Tell.one t left) c.in_ok-tell_property.ensures ∙ saying_both g.T.Tell.one c.loop-first.tell said left
    ∙ ap (λ (xs : List Said). saying g.T.Tell.one c.loop-first.tell xs) (sym all) ∙ c.loop-first.invariant
