-- What is said of a program is what is said of a file of its bytes.
use Rattle.std.proofs.Common.{◌≡◌, ℕ, List, sym, subst}
use Rattle.nugwier_commands.specs.Run.{IsContentSaid, IsProgramSaid, Known}
use Rattle.nugwier_report.specs.Labels.{Named}
use Rattle.nugwier_report.specs.Said.{Said}
use Rattle.nugwier_commands.specs.Words.{Task}
use Rattle.nugwier_commands.specs.declared.words.Command.{Command}
use Rattle.nugwier_commands.specs.declared.words.Command.TheVariants.{Bindings, Starts, Tree}

module _ (known : Known) (task : Task) (path bytes : List ℕ) (named : Named) (said : List Said) where
  pub tree_content : (command : Command) → command ≡ Tree → IsProgramSaid known command task path bytes named said → IsContentSaid known command task path bytes named said
  tree_content command is h =
      subst (λ (c : Command). IsContentSaid known c task path bytes named said) (sym is)
      (subst (λ (c : Command). IsProgramSaid known c task path bytes named said) is h)

  pub bindings_content : (command : Command) → command ≡ Bindings → IsProgramSaid known command task path bytes named said → IsContentSaid known command task path bytes named said
  bindings_content command is h =
      subst (λ (c : Command). IsContentSaid known c task path bytes named said) (sym is)
      (subst (λ (c : Command). IsProgramSaid known c task path bytes named said) is h)

  pub starts_content : (command : Command) → command ≡ Starts → IsProgramSaid known command task path bytes named said → IsContentSaid known command task path bytes named said
  starts_content command is h =
      subst (λ (c : Command). IsContentSaid known c task path bytes named said) (sym is)
      (subst (λ (c : Command). IsProgramSaid known c task path bytes named said) is h)
