use Rattle.std.proofs.Common.{◌≡◌, drop}
use Rattle.elf_libraries.specs.Cache.{cache_view, cached_path, flags_view}
use Rattle.elf_libraries.specs.Search.{folders_view}
use Rattle.elf_libraries.proofs.cache.LinkerCache.lookup.Given as goal

-- the path for the subfolders that are left is the one for all
abbrev pub invariant-loop-hwcap : goal.invariant-loop-hwcap
invariant-loop-hwcap l =
    cached_path (cache_view l.self) (flags_view l.flags) (folders_view (drop l.hwcap-index l.hwcaps)) l.name
    ≡ cached_path (cache_view l.self) (flags_view l.flags) (folders_view l.hwcaps) l.name
