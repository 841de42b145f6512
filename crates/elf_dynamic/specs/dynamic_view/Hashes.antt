-- The hash sections, by their addresses (gABI, chapters "Dynamic Section" and "Hash Table"; GNU's hash section). Their
-- sizes follow from their headers, and that of a GNU hash section from its buckets and chain words too.
use Rattle.std.specs.Prelude.{ℕ, ◌+◌, ◌-◌, ◌*◌, ◌%◌, zero, suc, max, Bool, ◌||◌, ◌==◌, nat_lt, if◌then◌else◌}
use Rattle.std.specs.Prelude.{List, fold, take, Option, Some, None, Result, Ok, Err, ok_or}
use Rattle.elf_abi.specs.Values.{dt_gnu_hash, dt_hash}
use Rattle.elf_parts.specs.GnuFind.{GnuTable, gnu_of_parts, gnu_section}
use Rattle.elf_parts.specs.Hash.{sysv_header_layout, word_at, word_count}
use Rattle.elf_parts.specs.SysvFind.{SysvTable, sysv_section}
use Rattle.elf_parts.specs.declared.hash.sysv.SysVHashHeader.{SysVHashHeader}
use Rattle.elf_records.specs.Number.{ok_map}
use Rattle.elf_records.specs.Record.{◌>>=◌, record_by}
use Rattle.elf_records.specs.Table.{Table, table_items}
use Rattle.elf_records.specs.Word.{u32_reads}
use Rattle.elf_records.specs.declared.dynamic.Dyn.{Dyn}
use Rattle.elf_records.specs.declared.file.Class.{Class}
use Rattle.elf_records.specs.declared.parse.ParseError.{ParseError}
use Rattle.elf.specs.Headers.{if_found}
use Rattle.elf.specs.ObjectFile.{Extent, FileOf, err_map}
use Rattle.elf_dynamic.specs.declared.dynamic_view.error.DynamicError.{DynamicError}
use Rattle.elf_dynamic.specs.declared.dynamic_view.error.DynamicError.TheVariants.{Read, UnendedChain}
use Rattle.elf_dynamic.specs.dynamic_view.Entries.{value_of}
use Rattle.elf_dynamic.specs.dynamic_view.Segments.{bytes_from, bytes_of}

-- ---- SysV

-- the header at an address
abbrev pub sysv_header : {x : Extent} → FileOf x → ℕ → Result SysVHashHeader DynamicError
sysv_header file address =
    bytes_of file address 8 >>= λ front.
    err_map Read (record_by sysv_header_layout file.little file.class front 0)

-- the size of the section in bytes: the header, and its words of four bytes
abbrev pub sysv_size : SysVHashHeader → ℕ
sysv_size header = 8 + 4 * header.nbucket + 4 * header.nchain

-- the section at an address
abbrev pub sysv_at : {x : Extent} → FileOf x → ℕ → Result SysvTable DynamicError
sysv_at file address =
    sysv_header file address >>= λ header. bytes_of file address (sysv_size header) >>= λ bytes.
    err_map Read (sysv_section file.little file.class bytes)

abbrev pub sysv_hash : {x : Extent} → FileOf x → List Dyn → Result (Option SysvTable) DynamicError
sysv_hash file entries = if_found (sysv_at file) (value_of dt_hash entries)

-- ---- GNU

-- the section at an address, with all bytes up to the last one of its segment as chain words
abbrev pub gnu_from : {x : Extent} → FileOf x → ℕ → Result GnuTable DynamicError
gnu_from file address =
    bytes_from file address >>= λ bytes. err_map Read (gnu_section file.little file.class bytes)

-- the largest word of a table, or 0 if it has none
abbrev pub largest_word : Table → ℕ
largest_word words = fold max 0 (table_items u32_reads words)

-- one past a place, if its word ends a run, else one past the end of the rest of the run
abbrev pub end_or : ℕ → Result ℕ ParseError → Option ℕ → Option ℕ
end_or place (Ok word) rest = if word % 2 == 1 then Some (place + 1) else rest
end_or place (Err e) rest = None

-- one past the first of these places, at most `limit` of them, whose chain word has bit 0 set
abbrev pub run_end : Table → ℕ → ℕ → Option ℕ
run_end chains zero place = None
run_end chains (suc limit) place = end_or place (word_at chains place) (run_end chains limit (place + 1))

-- How many symbols there are, if `last` is the first index of the last run: one past the last symbol of this run. If no
-- run begins at a symbol that the section can find, these are the symbols before the first one that it could.
abbrev pub count_from : GnuTable → ℕ → Result ℕ DynamicError
count_from t last =
    if last == 0 || nat_lt last t.hdr.table_start_idx then Ok t.hdr.table_start_idx
    else ok_map (λ end. t.hdr.table_start_idx + end)
    (ok_or (run_end t.chains (word_count t.chains - (last - t.hdr.table_start_idx)) (last - t.hdr.table_start_idx))
    UnendedChain)

abbrev pub gnu_count : GnuTable → Result ℕ DynamicError
gnu_count t = count_from t (largest_word t.buckets)

-- the section whose chain words are those of its symbols, if there are `count` symbols in all
abbrev pub gnu_until : Bool → Class → GnuTable → ℕ → GnuTable
gnu_until little class t count =
    gnu_of_parts little class t.hdr t.bloom.bytes t.buckets.bytes
    (take (4 * (count - t.hdr.table_start_idx)) t.chains.bytes)

abbrev pub gnu_at : {x : Extent} → FileOf x → ℕ → Result GnuTable DynamicError
gnu_at file address =
    gnu_from file address >>= λ t. ok_map (gnu_until file.little file.class t) (gnu_count t)

abbrev pub gnu_hash : {x : Extent} → FileOf x → List Dyn → Result (Option GnuTable) DynamicError
gnu_hash file entries = if_found (gnu_at file) (value_of dt_gnu_hash entries)
