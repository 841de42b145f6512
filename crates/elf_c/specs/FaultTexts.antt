-- The texts of faults.
use Rattle.std.specs.Prelude.{ℕ, List, [], ◌∷◌, codes}
use Rattle.elf_abi.specs.Names.{Row}
use Rattle.elf_c.specs.Texts.{text_in}
use Rattle.elf_c.specs.declared.faults.NugwierFault.{NugwierFault}

-- the text of each kind, with signs for its numbers
unfoldable pub fault_templates : List (Row ℕ)
fault_templates =
    (1, codes "no names of sections") ∷
    (2, codes "more than one section of type %") ∷
    (101, codes "section #: no name") ∷
    (102, codes "section #: no bytes at its range") ∷
    (103, codes "section #: compressed") ∷
    (104, codes "section #: the last string does not end") ∷
    (105, codes "section #: no note at %") ∷
    (201, codes "section #: no linked section, or not the entry size of symbols") ∷
    (202, codes "section #: linked to a section that holds no strings") ∷
    (203, codes "section #: not a whole number of symbols") ∷
    (204, codes "section #: no symbols, or no strings, at their ranges") ∷
    (205, codes "section #: symbol $: no name at ^") ∷
    (206, codes "section #: symbol $: no section &") ∷
    (301, codes "section #: not the entry size of relocations") ∷
    (302, codes "section #: linked to a section that holds no symbols") ∷
    (303, codes "section #: not a whole number of relocations") ∷
    (304, codes "section #: relocation $: no symbol &") ∷
    (401, codes "section #: linked to a section that holds no symbols") ∷
    (402, codes "section #: no hash table, or no symbols for it") ∷
    (403, codes "section #: the table is not sound: Endless { bucket: $ }") ∷
    (404, codes "section #: the table is not sound: PastChains { bucket: $, index: & }") ∷
    (405, codes "section #: the table is not sound: Unreadable { index: $ }") ∷
    (406, codes "section #: the table is not sound: WrongBucket { bucket: $, index: & }") ∷
    (407, codes "section #: the table is not sound: ShiftTooLarge") ∷
    (408, codes "section #: the table is not sound: WrongHash { index: $ }") ∷
    (409, codes "section #: the table is not sound: NoBloomBit { index: $ }") ∷
    (410, codes "section #: the table is not sound: NotInRun { index: $ }") ∷
    (501, codes "section #: not the entry size of dynamic entries") ∷
    (502, codes "section #: linked to a section that holds no strings") ∷
    (503, codes "section #: no strings at their range") ∷
    (504, codes "section #: not a whole number of dynamic entries") ∷
    (505, codes "section #: no entry DT_NULL") ∷
    (506, codes "section #: dynamic entry $: no string at its offset") ∷
    (601, codes "versions: no needs, or no strings for them") ∷
    (602, codes "versions: more versions of needs than the section has bytes for") ∷
    (603, codes "versions: needs: only $ of them") ∷
    (604, codes "versions: needs: more of them than declared") ∷
    (605, codes "versions: needs: number $: a name, or an auxiliary record, cannot be read") ∷
    (606, codes "versions: no definitions, or no strings for them") ∷
    (607, codes "versions: more names of definitions than the section has bytes for") ∷
    (608, codes "versions: definitions: only $ of them") ∷
    (609, codes "versions: definitions: more of them than declared") ∷
    (610, codes "versions: definitions: number $: a name, or an auxiliary record, cannot be read") ∷
    (611, codes "versions: not a whole number of version indexes") ∷
    (612, codes "versions: no version indexes") ∷
    (613, codes "versions: no symbols for dynamic linking") ∷
    (614, codes "versions: not as many version indexes as symbols") ∷
    (615, codes "versions: symbol $: no version with its index") ∷
    (616, codes "versions: symbol $: a definition and a need with its index") ∷
    (701, codes "segment # (PT_INTERP): segment $ has this type too") ∷
    (702, codes "segment # (PT_DYNAMIC): segment $ has this type too") ∷
    (703, codes "segment # (PT_PHDR): segment $ has this type too") ∷
    (704, codes "segment # (PT_TLS): segment $ has this type too") ∷
    (705, codes "segment # (PT_PHDR): comes after segment $ (PT_LOAD)") ∷
    (706, codes "segment # (PT_LOAD): begins before the end of segment $ (PT_LOAD)") ∷
    (801, codes "segment # (@): does not lie in the file") ∷
    (802, codes "segment # (@): has more bytes in the file than in memory") ∷
    (803, codes "segment # (@): ends past the last address") ∷
    (804, codes "segment # (@): does not end in a 0 byte") ∷
    (805, codes "segment # (@): has no note at offset ^") ∷
    (806, codes "segment # (@): is not a whole number of entries") ∷
    (807, codes "segment # (@): has no entry DT_NULL") ∷
    (808, codes "segment # (@): has other bytes than the section SHT_DYNAMIC") ∷
    []

-- the text of a fault
abbrev pub fault_text : NugwierFault → List ℕ
fault_text f = text_in fault_templates f.kind (record { index = f.index; first = f.first; second = f.second })
