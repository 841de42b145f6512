-- Files that are opened whole, or by their names alone.
use Rattle.std.proofs.Common.{◌≡◌, ℕ, Bool, List, [], Result, Ok, Option, None, IfSome, refl, sym, ap, ◌∙◌}
use Rattle.std.specs.Option.{option_map}
use Rattle.elf_records.specs.Endian.{any_is_little, any_of_byte}
use Rattle.elf_records.specs.Number.{ok_map}
use Rattle.elf_records.specs.declared.endian.AnyEndian.{AnyEndian}
use Rattle.elf_reading.specs.Opening.{FileView, StreamHeaders, headers_of, opened_file}
use Rattle.elf.specs.Data.{section_data}
use Rattle.elf.specs.ElfStream.{StreamView}
use Rattle.elf.specs.ObjectFile.{object_file}
use Rattle.elf.specs.StreamFile.{listed_file, stream_file}
use Rattle.elf.proofs.Same.{opened_is}
use Rattle.elf_linking.specs.Needed.{Named, names, names_kind, names_view}
use Rattle.elf_linking.specs.Readings.{IsReading, ReadsFile}
use Rattle.elf_libraries.specs.Tree.{Found, found_in, found_view, kind_of, without_bytes}
use Rattle.elf_linking.specs.declared.needed.Names.{Names}
use Rattle.elf_linking.specs.declared.needed.NamesError.{NamesError}
use Rattle.elf_libraries.specs.declared.tree.Identity.{Identity}
use Rattle.elf_libraries.specs.declared.tree.Kind.{Kind}
use Rattle.elf_libraries.specs.declared.tree.LoadedFile.{LoadedFile}
use Rattle.elf_linking.proofs.Known.{if_known, when_known}

-- ---- what is opened by its names

names_alike : (v : FileView AnyEndian) → names (object_file any_is_little v) ≡ names (listed_file any_is_little (headers_of v) v.bytes)
unfolding section_data
names_alike v = refl

names_given : {T Y : Type 0} (shown : T → Y) (answer : Result Y NamesError) (can_fail : Bool) (before now : ℕ) (x : T)
    → IsReading names_kind shown answer can_fail before now (Ok x) → answer ≡ Ok (shown x)
names_given shown answer can_fail before now x h = h.1

found_made : List ℕ → Option Identity → List ℕ → Kind → Result (Option Named) NamesError → Found
found_made path identity bytes kind named =
    record { path = path; identity = identity; bytes = bytes; kind = kind; names = named }

pub found_by_names : (path : List ℕ) (s new : StreamView AnyEndian) (n : Option Names) (file : LoadedFile)
    → ReadsFile names_kind (option_map names_view) (λ bytes. names (stream_file any_is_little s bytes)) s new (Ok n)
    → file.path.items ≡ path → file.identity ≡ None → file.bytes.items ≡ [] → file.kind ≡ kind_of s.headers.ehdr → file.names ≡ Ok n
    → IfSome s.content (λ bytes. (v : FileView AnyEndian) → opened_file any_is_little any_of_byte bytes ≡ Ok v → s.headers ≡ headers_of v
    → without_bytes (found_in path bytes v) ≡ found_view file)
unfolding found_made
found_by_names path s new n file gives same_path unknown empty kind_is names_are =
    when_known s.content _ (λ bytes is v opened same.
    let read = names_given (option_map names_view) (names (stream_file any_is_little s bytes)) s.can_fail s.failures new.failures n (if_known s.content bytes _ gives.answers is) in
    let whole : v.bytes ≡ bytes = (opened_is any_is_little any_of_byte bytes v opened).same in
    let named : names (object_file any_is_little v) ≡ ok_map (option_map names_view) file.names =
    names_alike v ∙ ap (λ b. names (listed_file any_is_little (headers_of v) b)) whole
    ∙ ap (λ h. names (listed_file any_is_little h bytes)) (sym same) ∙ read ∙ ap (ok_map (option_map names_view)) (sym names_are) in
    let kind : kind_of v.ehdr ≡ file.kind = ap (λ (h : StreamHeaders AnyEndian). kind_of h.ehdr) (sym same) ∙ sym kind_is in
    ap (found_made path None [] (kind_of v.ehdr)) named
    ∙ ap (λ k. found_made path None [] k (ok_map (option_map names_view) file.names)) kind
    ∙ ap (λ b. found_made path None b file.kind (ok_map (option_map names_view) file.names)) (sym empty)
    ∙ ap (λ i. found_made path i file.bytes.items file.kind (ok_map (option_map names_view) file.names)) (sym unknown)
    ∙ ap (λ p. found_made p file.identity file.bytes.items file.kind (ok_map (option_map names_view) file.names)) (sym same_path))
