use Rattle.std.proofs.Common.{◌≡◌, ◌∙◌, [], List, ap, map, refl, subst, sym}
use Rattle.elf.specs.LoadedRanges.{part_of}
use Rattle.elf.specs.declared.loaded_ranges.LoadedParts.{LoadedParts}
use Rattle.elf.specs.declared.loaded_ranges.LoadedRange.{LoadedRange}
use Rattle.elf_loader.specs.inner.GlibcReading.{IsAnswerOf, fetched_piece}
use Rattle.elf_loader.proofs.GlibcReading.{answered}
use Rattle.elf_loader.proofs.glibc.reading.answer.Goals as goal

pub returns : goal.returns
returns c = λ bytes same sound.
    let kind = c.args.wanted.now in
    let pieces = map fetched_piece c.args.fetched.now in
    let ranges : map part_of c.as_slice.result.now ≡ pieces = ap (λ (l : List LoadedRange). map part_of l) c.as_slice.ensures.value ∙ c.in_ok-ranges.ensures in
    let file : LoadedParts = record { size = c.args.size; front = record { ref_ptr = c.as_slice.result.ref_ptr; now = [] }; ranges = c.as_slice.result } in
    let law = c.part_is_answered_as_whole.ensures in
    subst (IsAnswerOf kind bytes) (sym c.verdict.ensures) (answered kind bytes file pieces same refl ranges sound (law.part kind bytes file) (law.whole kind bytes))
