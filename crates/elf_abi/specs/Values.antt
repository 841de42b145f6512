-- Values that the standard writes down, by its own names. They are written apart from the constants of the code, which
-- are checked against them wherever a contract cites one.
use Rattle.std.specs.Prelude.{ℕ, ℤ, pos}

-- ---- the identification: gABI chapter 4, "ELF Identification"

-- the four magic bytes at its front
abbrev pub elfmag0 : ℕ
elfmag0 = 0x7f

abbrev pub elfmag1 : ℕ
elfmag1 = 0x45

abbrev pub elfmag2 : ℕ
elfmag2 = 0x4c

abbrev pub elfmag3 : ℕ
elfmag3 = 0x46

-- the places of the bytes after them
abbrev pub ei_class : ℕ
ei_class = 4

abbrev pub ei_data : ℕ
ei_data = 5

abbrev pub ei_version : ℕ
ei_version = 6

abbrev pub ei_osabi : ℕ
ei_osabi = 7

abbrev pub ei_abiversion : ℕ
ei_abiversion = 8

-- how many bytes it has
abbrev pub ei_nident : ℕ
ei_nident = 16

-- the two classes
abbrev pub elfclass32 : ℕ
elfclass32 = 1

abbrev pub elfclass64 : ℕ
elfclass64 = 2

-- the two orders: the lowest byte first, the highest byte first
abbrev pub elfdata2lsb : ℕ
elfdata2lsb = 1

abbrev pub elfdata2msb : ℕ
elfdata2msb = 2

-- the version
abbrev pub ev_current : ℕ
ev_current = 1

-- ---- the file header: gABI chapter 4, "ELF Header"

-- `e_phnum` if the first section header has the number of program headers
abbrev pub pn_xnum : ℕ
pn_xnum = 0xffff

-- `e_type`
abbrev pub et_rel : ℕ
et_rel = 1

abbrev pub et_exec : ℕ
et_exec = 2

abbrev pub et_dyn : ℕ
et_dyn = 3

abbrev pub et_core : ℕ
et_core = 4

-- `e_machine`
abbrev pub em_sparc : ℕ
em_sparc = 2

abbrev pub em_386 : ℕ
em_386 = 3

abbrev pub em_68k : ℕ
em_68k = 4

abbrev pub em_mips : ℕ
em_mips = 8

abbrev pub em_parisc : ℕ
em_parisc = 15

abbrev pub em_sparc32plus : ℕ
em_sparc32plus = 18

abbrev pub em_ppc : ℕ
em_ppc = 20

abbrev pub em_ppc64 : ℕ
em_ppc64 = 21

abbrev pub em_s390 : ℕ
em_s390 = 22

abbrev pub em_arm : ℕ
em_arm = 40

abbrev pub em_alpha : ℕ
em_alpha = 41

abbrev pub em_sh : ℕ
em_sh = 42

abbrev pub em_sparcv9 : ℕ
em_sparcv9 = 43

abbrev pub em_ia_64 : ℕ
em_ia_64 = 50

abbrev pub em_x86_64 : ℕ
em_x86_64 = 62

abbrev pub em_openrisc : ℕ
em_openrisc = 92

abbrev pub em_arc_compact : ℕ
em_arc_compact = 93

abbrev pub em_altera_nios2 : ℕ
em_altera_nios2 = 113

abbrev pub em_aarch64 : ℕ
em_aarch64 = 183

abbrev pub em_microblaze : ℕ
em_microblaze = 189

abbrev pub em_arc_compact2 : ℕ
em_arc_compact2 = 195

abbrev pub em_amdgpu : ℕ
em_amdgpu = 224

abbrev pub em_riscv : ℕ
em_riscv = 243

abbrev pub em_bpf : ℕ
em_bpf = 247

abbrev pub em_csky : ℕ
em_csky = 252

abbrev pub em_loongarch : ℕ
em_loongarch = 258

-- ---- sections: gABI chapter 4, "Sections"

-- `sh_type`
abbrev pub sht_symtab : ℕ
sht_symtab = 2

abbrev pub sht_strtab : ℕ
sht_strtab = 3

abbrev pub sht_rela : ℕ
sht_rela = 4

abbrev pub sht_hash : ℕ
sht_hash = 5

abbrev pub sht_dynamic : ℕ
sht_dynamic = 6

abbrev pub sht_note : ℕ
sht_note = 7

abbrev pub sht_nobits : ℕ
sht_nobits = 8

abbrev pub sht_rel : ℕ
sht_rel = 9

abbrev pub sht_dynsym : ℕ
sht_dynsym = 11

abbrev pub sht_group : ℕ
sht_group = 17

-- `sh_type`: GNU extensions
abbrev pub sht_gnu_attributes : ℕ
sht_gnu_attributes = 0x6ffffff5

abbrev pub sht_gnu_hash : ℕ
sht_gnu_hash = 0x6ffffff6

abbrev pub sht_gnu_verdef : ℕ
sht_gnu_verdef = 0x6ffffffd

abbrev pub sht_gnu_verneed : ℕ
sht_gnu_verneed = 0x6ffffffe

abbrev pub sht_gnu_versym : ℕ
sht_gnu_versym = 0x6fffffff

-- `sh_type` of ARM: the supplement of the processor
abbrev pub sht_arm_attributes : ℕ
sht_arm_attributes = 0x70000003

-- bits of `sh_flags`: the section can be written, it is loaded, it is code, it is of each thread,
-- its bytes are compressed
abbrev pub shf_write : ℕ
shf_write = 1

abbrev pub shf_alloc : ℕ
shf_alloc = 2

abbrev pub shf_execinstr : ℕ
shf_execinstr = 4

abbrev pub shf_tls : ℕ
shf_tls = 0x400

abbrev pub shf_compressed : ℕ
shf_compressed = 0x800

-- indexes of sections that have a meaning of their own: none, no section but an absolute value, a common symbol, which
-- has no place yet and an alignment as its value, and one that is stored elsewhere. All but the first are reserved, as
-- is each from `SHN_LORESERVE` on.
abbrev pub shn_undef : ℕ
shn_undef = 0

abbrev pub shn_abs : ℕ
shn_abs = 0xfff1

abbrev pub shn_loreserve : ℕ
shn_loreserve = 0xff00

abbrev pub shn_common : ℕ
shn_common = 0xfff2

abbrev pub shn_xindex : ℕ
shn_xindex = 0xffff

-- ---- segments: gABI chapter 5, "Program Header"

-- `p_type`
abbrev pub pt_null : ℕ
pt_null = 0

abbrev pub pt_load : ℕ
pt_load = 1

abbrev pub pt_dynamic : ℕ
pt_dynamic = 2

abbrev pub pt_interp : ℕ
pt_interp = 3

abbrev pub pt_note : ℕ
pt_note = 4

abbrev pub pt_phdr : ℕ
pt_phdr = 6

abbrev pub pt_tls : ℕ
pt_tls = 7

-- `p_type`: GNU extensions
abbrev pub pt_gnu_eh_frame : ℕ
pt_gnu_eh_frame = 0x6474e550

abbrev pub pt_gnu_stack : ℕ
pt_gnu_stack = 0x6474e551

abbrev pub pt_gnu_relro : ℕ
pt_gnu_relro = 0x6474e552

abbrev pub pt_gnu_property : ℕ
pt_gnu_property = 0x6474e553

-- bits of `p_flags`: the segment is code, it can be written
abbrev pub pf_x : ℕ
pf_x = 1

abbrev pub pf_w : ℕ
pf_w = 2

-- ---- dynamic entries: gABI chapter 5, "Dynamic Section". A tag is signed.

-- the entry that ends the table
abbrev pub dt_null : ℤ
dt_null = pos 0

-- entries that name a string by its offset in the string table: a library that is needed, the file's own name, and
-- where libraries are searched for
abbrev pub dt_needed : ℤ
dt_needed = pos 1

abbrev pub dt_soname : ℤ
dt_soname = pos 14

abbrev pub dt_rpath : ℤ
dt_rpath = pos 15

abbrev pub dt_runpath : ℤ
dt_runpath = pos 29

-- the address of the string table, and its size in bytes
abbrev pub dt_strtab : ℤ
dt_strtab = pos 5

abbrev pub dt_strsz : ℤ
dt_strsz = pos 10

-- what the dynamic linker is told: to bind all references when it loads the file, where a debugger finds its list of
-- objects, and flags
abbrev pub dt_bind_now : ℤ
dt_bind_now = pos 24

abbrev pub dt_debug : ℤ
dt_debug = pos 21

abbrev pub dt_flags : ℤ
dt_flags = pos 30

-- GNU and Solaris: more flags, and filtees, in which symbols are looked up before the file itself
abbrev pub dt_flags_1 : ℤ
dt_flags_1 = pos 0x6ffffffb

abbrev pub dt_auxiliary : ℤ
dt_auxiliary = pos 0x7ffffffd

abbrev pub dt_filter : ℤ
dt_filter = pos 0x7fffffff

-- a bit of DT_FLAGS, and one of DT_FLAGS_1: all references are bound when the file is loaded
abbrev pub df_bind_now : ℕ
df_bind_now = 8

abbrev pub df_1_now : ℕ
df_1_now = 1

-- a bit of DT_FLAGS_1: the libraries of the file are not searched for in the usual folders
abbrev pub df_1_nodeflib : ℕ
df_1_nodeflib = 0x800

-- the symbol table: its address, and the size of a symbol in bytes
abbrev pub dt_symtab : ℤ
dt_symtab = pos 6

abbrev pub dt_syment : ℤ
dt_syment = pos 11

-- the address of a SysV hash section, and that of a GNU hash section
abbrev pub dt_hash : ℤ
dt_hash = pos 4

abbrev pub dt_gnu_hash : ℤ
dt_gnu_hash = pos 0x6ffffef5

-- relocations without an addend: their address, their size in bytes, and that of one of them
abbrev pub dt_rel : ℤ
dt_rel = pos 17

abbrev pub dt_relsz : ℤ
dt_relsz = pos 18

abbrev pub dt_relent : ℤ
dt_relent = pos 19

-- relocations with an addend
abbrev pub dt_rela : ℤ
dt_rela = pos 7

abbrev pub dt_relasz : ℤ
dt_relasz = pos 8

abbrev pub dt_relaent : ℤ
dt_relaent = pos 9

-- relative relocations in packed words
abbrev pub dt_relr : ℤ
dt_relr = pos 36

abbrev pub dt_relrsz : ℤ
dt_relrsz = pos 35

abbrev pub dt_relrent : ℤ
dt_relrent = pos 37

-- the relocations of the procedure linkage table: their address, their size in bytes, and DT_REL or DT_RELA
abbrev pub dt_jmprel : ℤ
dt_jmprel = pos 23

abbrev pub dt_pltrelsz : ℤ
dt_pltrelsz = pos 2

abbrev pub dt_pltrel : ℤ
dt_pltrel = pos 20

-- the addresses of the version indexes, of the needs and of the definitions, and how many of these there are: GNU
-- symbol versioning
abbrev pub dt_versym : ℤ
dt_versym = pos 0x6ffffff0

abbrev pub dt_verneed : ℤ
dt_verneed = pos 0x6ffffffe

abbrev pub dt_verneednum : ℤ
dt_verneednum = pos 0x6fffffff

abbrev pub dt_verdef : ℤ
dt_verdef = pos 0x6ffffffc

abbrev pub dt_verdefnum : ℤ
dt_verdefnum = pos 0x6ffffffd

-- ---- symbols: gABI chapter 4, "Symbol Table"

-- the high half of `st_info`, and a GNU extension
abbrev pub stb_local : ℕ
stb_local = 0

abbrev pub stb_global : ℕ
stb_global = 1

abbrev pub stb_weak : ℕ
stb_weak = 2

abbrev pub stb_gnu_unique : ℕ
stb_gnu_unique = 10

-- the low half of `st_info`: types of symbols, and a GNU extension
abbrev pub stt_notype : ℕ
stt_notype = 0

abbrev pub stt_object : ℕ
stt_object = 1

abbrev pub stt_func : ℕ
stt_func = 2

abbrev pub stt_section : ℕ
stt_section = 3

abbrev pub stt_file : ℕ
stt_file = 4

abbrev pub stt_common : ℕ
stt_common = 5

abbrev pub stt_tls : ℕ
stt_tls = 6

abbrev pub stt_gnu_ifunc : ℕ
stt_gnu_ifunc = 10

-- the low two bits of `st_other`
abbrev pub stv_internal : ℕ
stv_internal = 1

abbrev pub stv_hidden : ℕ
stv_hidden = 2

-- ---- notes of the name GNU: GNU extensions

abbrev pub nt_gnu_abi_tag : ℕ
nt_gnu_abi_tag = 1

abbrev pub nt_gnu_build_id : ℕ
nt_gnu_build_id = 3

-- ---- versions of symbols: GNU extensions

-- `vn_version` and `vd_version`
abbrev pub ver_need_current : ℕ
ver_need_current = 1

abbrev pub ver_def_current : ℕ
ver_def_current = 1

-- a bit of `vd_flags`: the definition is that of the file itself
abbrev pub ver_flg_base : ℕ
ver_flg_base = 1

-- version indexes that mean no version
abbrev pub ver_ndx_local : ℕ
ver_ndx_local = 0

abbrev pub ver_ndx_global : ℕ
ver_ndx_global = 1

-- the bit of a version index that says that the version is hidden
abbrev pub ver_ndx_hidden : ℕ
ver_ndx_hidden = 0x8000
