use Rattle.std.proofs.Common.{◌∙◌, ℕ, List, subst, sym}
use Rattle.std.specs.Prelude.{IfSome}
use Rattle.elf_libraries.proofs.Configuring.{begun, ended, nothing_pending, stepped}
use Rattle.elf_libraries.specs.Configured.{AreConfigured, lists_of, pending_in}
use Rattle.elf_libraries.proofs.configured.configured_folders.Goals as goal

pub steps-init : goal.steps-init
steps-init g c =
    let listing = c.in_ok-listing.listing in
    begun (g.F.Files.known c.args.files.now) (pending_in listing) (lists_of listing) c.in_ok-listing.ensures.0 c.in_ok-listing.ensures.1

pub returns-in_default : goal.returns-in_default
returns-in_default g c =
    let known = g.F.Files.known c.args.files.now in
    let listing = c.steps.listing in
    let none = nothing_pending listing.pending.items (sym listing.pending.ok.0 ∙ c.in_default.ensures.cases.0) in
    subst (λ (folders : List (List ℕ)). IfSome known (λ files. AreConfigured files folders)) (sym c.into_list.ensures)
    (ended known (pending_in listing) (lists_of listing) none c.steps.invariant)

pub steps-preserved : goal.steps-preserved
steps-preserved g c =
    stepped (g.F.Files.known c.args.files.now) c.steps.listing.pending.items c.pop.new.self.items c.in-Some.next (lists_of c.steps.listing) c.in-Some.ensures.items
    (pending_in c.step.new.self) (lists_of c.step.new.self) c.in_ok-step.ensures c.steps.invariant
