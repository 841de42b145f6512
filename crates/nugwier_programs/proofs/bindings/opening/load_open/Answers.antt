use Rattle.elf_linking.proofs.Known.{when_known}
use Rattle.nugwier_programs.proofs.Linked.{linked}
use Rattle.nugwier_programs.proofs.bindings.opening.load_open.Goals as goal

pub returns : goal.returns
returns g c =
    when_known c.args.stream.content _ (λ bytes known. λ v whole opened.
    linked bytes v c.args.stream c.load_links.new.stream c.close.result known whole opened c.load_links.ensures.keeps c.in_ok-load_links.ensures.links c.close.ensures)
