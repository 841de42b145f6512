use Rattle.std.proofs.Common.{ℕ, Bool, List, Option, map, ap, sym, ◌≡◌, ◌∙◌, subst}
use Rattle.std.proofs.lemmas.Result.{IfOk-weaker}
use Rattle.std.specs.Prelude.{IfSome, is_some}
use Rattle.std.specs.Option.{option_map}
use Rattle.std.specs.Vec.{vec_items}
use Rattle.elf_libraries.specs.Cache.{cache_view}
use Rattle.elf_libraries.specs.Search.{Others, cached_by, folders_view}
use Rattle.elf_libraries.specs.Tree.{Found, IsLoadOrder, found_view}
use Rattle.elf_libraries.specs.Folder.{KnownFiles}
use Rattle.elf_libraries.specs.Configured.{AreListed}
use Rattle.nugwier_programs.specs.Tree.{AreObjects, AreObjectsIn, Order, cache_file, cache_for, cache_in, order_view, others_of, search_view}
use Rattle.elf_libraries.specs.Processor.{hwcaps_of, level_for}
use Rattle.nugwier_programs.proofs.Scopes.{borrowed}
use Rattle.nugwier_programs.proofs.Walk.{all_known, is_some_of, known_as, made_others, same_cached, same_others}
use Rattle.nugwier_programs.proofs.tree.objects_by.Goals as goal

pub returns : goal.returns
returns g c =
    let known = g.F.Files.known c.args.files.now in
    let kind = c.args.program.kind in
    let program = found_view c.args.program in
    let listed = folders_view c.as_slice-4.result.now in
    let all : List (List ℕ) = map vec_items c.in_ok-listed.listed.items in
    let usual = folders_view c.as_slice-5.result.now in
    let hwcaps = folders_view c.as_slice-3.result.now in
    let given =
    made_others c.as_slice-2.result.now c.lib_of.result.now c.platform_of.result.now hwcaps (cached_by c.as_ref.result c.of.result hwcaps) listed usual in
    let search = search_view c.args.search in
    let IsBy : Others → Order → (List ℕ → Option Found) → Type 0 = λ others order opened. IsLoadOrder opened others program order.0 order.1 in
    let IsRead : KnownFiles → Type 0 = λ files. cache_file search.has_cache files.contents ≡ option_map vec_items c.in_ok-file.file in
    let IsLevel : KnownFiles → Type 0 = λ files. level_for files.contents kind ≡ c.in_ok-level.level in
    let AreThese : KnownFiles → Type 0 = λ files. AreListed files c.is_some.result all in
    let read = borrowed cache_view _ _ c.as_ref.ensures.value ∙ c.cache_in-cache.ensures in
    let are_listed : listed ≡ all =
    ap folders_view c.as_slice-4.ensures.value ∙ c.in_ok-listed_folders.ensures ∙ ap (map vec_items) c.as_slice.ensures.value in
    let are_hwcaps : (files : KnownFiles) → IsLevel files → hwcaps ≡ hwcaps_of (level_for files.contents kind) = λ files is.
    ap folders_view c.as_slice-3.ensures.value ∙ c.in_ok-hwcaps.ensures ∙ ap hwcaps_of (sym is) in
    let same : (files : KnownFiles) → IsRead files → IsLevel files → given ≡ others_of files.contents all search kind = λ files is level.
    same_others _ _ _ _ _ _ _ _ _ _ listed all usual _ (c.as_slice-2.ensures.value ∙ c.in_ok-library_path.ensures) c.lib_of.ensures c.platform_of.ensures
    (are_hwcaps files level)
    (same_cached c.as_ref.result c.of.result kind _ _ _ c.of.ensures (are_hwcaps files level) (read ∙ ap (cache_in kind.order) (sym is)))
    are_listed (ap folders_view c.as_slice-5.ensures.value ∙ c.in_ok-usual_folders.ensures) in
    let has : (files : KnownFiles) → IsRead files → c.is_some.result ≡ is_some (cache_for files.contents search kind) = λ files is.
    c.is_some.ensures ∙ sym (is_some_of cache_view c.cache_in-cache.result) ∙ ap is_some (c.cache_in-cache.ensures ∙ ap (cache_in kind.order) (sym is)) in
    IfOk-weaker c.load_order.result
    (λ order. IfSome (g.O.Opener.opened c.args.opener.now) (IsBy given (order_view order)))
    (λ order. (opened : KnownFiles → List ℕ → Option Found) → g.O.Opener.opened c.args.opener.now ≡ option_map opened known → AreObjects opened known search program (order_view order))
    (λ order h opened is_opened. all_known (λ files. IsBy given (order_view order) (opened files)) IsRead IsLevel AreThese (λ files. AreObjectsIn opened files search program (order_view order)) known
    (known_as opened known (IsBy given (order_view order)) (subst (λ (o : Option (List ℕ → Option Found)). IfSome o (IsBy given (order_view order))) is_opened h))
    c.in_ok-file.ensures c.in_ok-level.ensures c.in_ok-listed.ensures
    (λ files by is level these. (
      all,
      subst (λ (b : Bool). AreListed files b all) (has files is) these,
      subst (λ (others : Others). IsBy others (order_view order) (opened files)) (same files is level) by,
    )))
    c.load_order.ensures
