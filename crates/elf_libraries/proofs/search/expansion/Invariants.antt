use Rattle.std.proofs.Common.{◌≡◌, ◌++◌, drop}
use Rattle.elf_libraries.specs.Search.{expansion, expansion_after, tokens_view}
use Rattle.elf_libraries.proofs.search.expansion.Given as goal

-- with what is left, the text so far is all
abbrev pub invariant-loop-place : goal.invariant-loop-place
invariant-loop-place l = expansion (tokens_view l.substitutions) l.bytes ≡ l.text.items ++ expansion_after (tokens_view l.substitutions) l.skip (drop l.place l.bytes)
