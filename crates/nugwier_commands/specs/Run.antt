-- What a run says, and what it writes.
use Rattle.std.specs.Prelude.{◌≡◌, ℕ, ◌+◌, ◌==◌, nat_lt, Bool, true, false, if◌then◌else◌, List, [], ◌∷◌, ◌++◌, length, map}
use Rattle.std.specs.Prelude.{Option, Some, None, Result, Ok, Err, IfSome, codes, is_some}
use Rattle.std.specs.Borrow.{Bor}
use Rattle.std.specs.Io.KnownBytes.{Appends}
use Rattle.std.specs.Fmt.{◌++?◌, digits}
use Rattle.std.specs.List.{list_all}
use Rattle.std.specs.Path.{path_with_file_name}
use Rattle.std.specs.Str.{bytes_eq, is_utf8}
use Rattle.elf_archive.specs.Archive.{File_in, Item, error_text, members_in, thinness}
use Rattle.elf_archive.specs.declared.archive.ArchiveError.{ArchiveError}
use Rattle.elf_records.specs.Texts.{digits_of, error_text as read_text, words}
use Rattle.elf_records.specs.Endian.{any_is_little, any_of_byte}
use Rattle.elf_records.specs.declared.endian.AnyEndian.{AnyEndian}
use Rattle.elf_records.specs.declared.file.FileHeader.{FileHeader}
use Rattle.elf_records.specs.declared.parse.ParseError.{ParseError}
use Rattle.elf_records.specs.declared.parse.ParseError.TheVariants.{SliceReadError}
use Rattle.elf_reading.specs.Opening.{FileView, headers_of, opened_by_segments, opened_file}
use Rattle.elf.specs.StreamFile.{listed_file}
use Rattle.elf_libraries.specs.Tree.{file_of}
use Rattle.nugwier_commands.specs.Job.{IsSaidOf}
use Rattle.nugwier_programs.specs.Bindings.{IsBindingsSaid}
use Rattle.nugwier_programs.specs.Starts.{IsStartSaid}
use Rattle.elf_libraries.specs.Below.{known_below}
use Rattle.elf_libraries.specs.Folder.{KnownFiles, Place}
use Rattle.nugwier_programs.specs.Tree.{IsTreeSaid, Search}
use Rattle.elf.specs.ObjectFile.{ObjectFile}
use Rattle.nugwier_commands.specs.Labels.{names_told}
use Rattle.nugwier_commands.specs.Formats.{front, is_elf, not_elf, not_elf_text}
use Rattle.nugwier_report.specs.Labels.{Named, no_sections}
use Rattle.nugwier_layouts.specs.Members.{text}
use Rattle.nugwier_report.specs.Said.{Said, all_right, said_if, states, warns, whole}
use Rattle.nugwier_commands.specs.Walk.{AreFound, Found, file as file_at, named as place_named, unread}
use Rattle.nugwier_commands.specs.declared.run.Outcome.{Outcome}
use Rattle.nugwier_commands.specs.declared.run.Outcome.TheVariants.{Done, Stopped, Wrong}
use Rattle.nugwier_report.specs.Texts.{AreAppended, AreTexts, Written}
use Rattle.nugwier_report.specs.Told.{AreLines}
use Rattle.nugwier_report.specs.declared.problem.Part.TheVariants.{File, SectionHeaders}
use Rattle.nugwier_report.specs.declared.report.Format.{Format}
use Rattle.nugwier_report.specs.declared.report.Summary.{Summary}
use Rattle.nugwier_commands.specs.Help.{help_of}
use Rattle.nugwier_commands.specs.WordTexts.{word_text}
use Rattle.nugwier_commands.specs.Words.{Answer, Task, help, run, version}
use Rattle.nugwier_commands.specs.declared.help.TheConstants.{VERSION}
use Rattle.nugwier_commands.specs.declared.words.Command.{Command}
use Rattle.nugwier_commands.specs.declared.words.Command.TheVariants.{Bindings, Check, Harden, Starts, Tree}
use Rattle.nugwier_commands.specs.declared.words.WordError.{WordError}
use Rattle.nugwier_commands.specs.declared.target.Heading.{Heading}
use Rattle.nugwier_commands.specs.declared.target.Heading.TheVariants.{First, Next}
use Rattle.nugwier_layouts.specs.Layouts.{Layout, constant}
use Rattle.nugwier_layouts.specs.declared.layouts.TheConstants as layout

-- ---- one file

-- the path, after an empty line below another file
abbrev pub heading_layout : Heading → Layout
heading_layout First = constant layout.FILE_HEADING
heading_layout Next = constant layout.NEXT_FILE_HEADING

-- the path above what is said of a file, if there is a heading
abbrev pub heading_said : Option Heading → List ℕ → List Said
heading_said heading path =
    said_if (λ above. states (heading_layout above) ((codes "path", text (Some path)) ∷ []) ∷ []) heading

-- the sections with which problems of a file are told
abbrev pub named_of : Task → ObjectFile → Named
named_of task file = record { class = file.class; sections = file.sections; names = names_told task file }

-- that the file as a whole is wrong, with this text. That of an error of the system is not stated
abbrev pub IsProblemSaid : Option (List ℕ) → Named → List Said → Type 0
IsProblemSaid fault named said = (named ≡ no_sections) × (said ≡ warns (whole File) fault ∷ [])

-- of a file with this header, and the sections with which its problems are told
abbrev pub IsFileSaid : {E : Type 0} → (E → Bool) → (ℕ → Option E) → Task → List ℕ → FileHeader E → ObjectFile → Named →
    List Said → Type 0
IsFileSaid little of_byte task path header file named said =
    (named ≡ named_of task file) × IsSaidOf little of_byte task path header file said

-- by its headers, as they were opened
abbrev pub IsViewSaid : Task → List ℕ → List ℕ → FileView AnyEndian → Named → List Said → Type 0
IsViewSaid task path bytes v named said =
    IsFileSaid any_is_little any_of_byte task path v.ehdr (listed_file any_is_little (headers_of v) bytes) named said

-- why the section headers of a file with this number of bytes are not read
abbrev pub lost_text : ParseError → ℕ → Option (List ℕ)
lost_text (SliceReadError range) size =
    words (codes "not in the file: bytes 0x") ++? digits_of range.0 ++? words (codes " to 0x") ++? digits_of range.1
    ++? words (codes " of 0x") ++? digits_of size ++? words (codes "; it may be cut short")
lost_text error size = read_text error

-- Where opening it has this error: that its section headers cannot be read, and what is said of it through its segments;
-- or, if it does not open by them either, why it is no ELF file. A file that does not open is not sound, so a check says
-- the same of both.
abbrev pub IsUnopenedSaid : Command → Task → List ℕ → List ℕ → ParseError → Result (FileView AnyEndian) ParseError →
    Named → List Said → Type 0
IsUnopenedSaid Check task path bytes e by_segments named said = IsProblemSaid (read_text e) named said
IsUnopenedSaid other task path bytes e (Ok v) named said =
    (rest : List Said) × IsViewSaid task path bytes v named rest
    × (said ≡ warns (whole SectionHeaders) (lost_text e (length bytes)) ∷ rest)
IsUnopenedSaid other task path bytes e (Err _) named said = IsProblemSaid (read_text e) named said

abbrev pub IsOpenedSaid : Task → List ℕ → List ℕ → Result (FileView AnyEndian) ParseError → Named → List Said → Type 0
IsOpenedSaid task path bytes (Ok v) named said = IsViewSaid task path bytes v named said
IsOpenedSaid task path bytes (Err e) named said =
    IsUnopenedSaid task.command task path bytes e (opened_by_segments any_is_little any_of_byte bytes) named said

-- what is said of a file with this path and these bytes, and the sections with which its problems are told
abbrev pub IsBytesSaid : Task → List ℕ → List ℕ → Named → List Said → Type 0
IsBytesSaid task path bytes named said =
    IsOpenedSaid task path bytes (opened_file any_is_little any_of_byte bytes) named said

-- ---- the files of the words

-- of several files each has its path above it, except for `check`, `harden` and `starts`, whose lines name it
abbrev pub has_headings : Command → List (Bor (List ℕ)) → Bool
has_headings Check files = false
has_headings Harden files = false
has_headings Starts files = false
has_headings other files = nat_lt 1 (length files)

abbrev pub heading_at : Bool → ℕ → Option Heading
heading_at false i = None
heading_at true i = if i == 0 then Some First else Some Next

abbrev pub heading_of : Task → ℕ → Option Heading
heading_of task i = heading_at (has_headings task.command task.files) i

-- what is known of the files, if something is
abbrev pub Known : Type 0
Known = Option KnownFiles

-- where the libraries of a program are searched for
abbrev pub search_of : Task → Search
search_of task = record { folders = task.searches; has_cache = task.has_cache }

-- what is said of a program with this path and these bytes, and of its libraries
abbrev pub IsProgramSaid : Known → Command → Task → List ℕ → List ℕ → Named → List Said → Type 0
IsProgramSaid known Bindings task path bytes named said =
    (named ≡ no_sections) × IsBindingsSaid known (search_of task) (file_of path bytes) said
IsProgramSaid known Starts task path bytes named said =
    (named ≡ no_sections) × IsStartSaid known (search_of task) path (file_of path bytes) said
IsProgramSaid known other task path bytes named said =
    (named ≡ no_sections) × IsTreeSaid known (search_of task) (file_of path bytes) said

-- of one file, or of a program
abbrev pub IsContentSaid : Known → Command → Task → List ℕ → List ℕ → Named → List Said → Type 0
IsContentSaid known Tree task path bytes named said = IsProgramSaid known Tree task path bytes named said
IsContentSaid known Bindings task path bytes named said = IsProgramSaid known Bindings task path bytes named said
IsContentSaid known Starts task path bytes named said = IsProgramSaid known Starts task path bytes named said
IsContentSaid known other task path bytes named said = IsBytesSaid task path bytes named said

-- what is said of a file by its bytes
abbrev pub Saying : Type 1
Saying = List ℕ → Named → List Said → Type 0

-- of a file that begins as an ELF file does this is said; of any other one, that it is no ELF file
abbrev pub IsBegunSaid : Bool → Saying → List ℕ → Named → List Said → Type 0
IsBegunSaid true IsSaid bytes named said = IsSaid bytes named said
IsBegunSaid false IsSaid bytes named said = IsProblemSaid (not_elf (front bytes)) named said

abbrev pub IsElfSaid : Saying → List ℕ → Named → List Said → Type 0
IsElfSaid IsSaid bytes named said = IsBegunSaid (is_elf (front bytes)) IsSaid bytes named said

-- by the content of the file, if there is one; else the error of the system
abbrev pub IsFoundSaid : Saying → Option (List ℕ) → Named → List Said → Type 0
IsFoundSaid IsSaid (Some bytes) named said = IsSaid bytes named said
IsFoundSaid IsSaid None named said = IsProblemSaid None named said

abbrev pub IsSaidAt : Known → Saying → List ℕ → Named → List Said → Type 0
IsSaidAt known IsSaid path named said = IfSome known (λ files. IsFoundSaid IsSaid (files.contents path) named said)

-- ---- listings

-- what is said of a file or of a member of an archive: its path, the sections with which its problems are told, and what
-- is said, with the path above it
pub record Listing : Type 0 where
  pub path : List ℕ
  pub named : Named
  pub said : List Said

abbrev pub listing_of : Option Heading → List ℕ → Named → List Said → Listing
listing_of heading path named said = record { path = path; named = named; said = heading_said heading path ++ said }

-- the text of what is said, and that of what is wrong
abbrev pub AreListingTexts : Format → Listing → List ℕ → List ℕ → Type 0
AreListingTexts format listing out err = AreTexts (AreLines format listing.path listing.named) listing.said out err

-- all that is said was written
abbrev pub AreWritten : Format → Written → Written → Summary → List Listing → Type 0
AreWritten format before after summary all =
    AreAppended (AreListingTexts format) false summary.is_told before after all
    × (summary.is_right ≡ list_all (λ (listing : Listing). all_right listing.said) all)

-- ---- an archive: each member is told as a file

-- the path of a member, as ar and nm write it; a name that is not UTF-8 is told by the offset of its header
abbrev pub shown_name : File_in → List ℕ
shown_name member = if is_utf8 member.name then member.name else codes "member at 0x" ++ digits 16 false member.offset

abbrev pub member_path : List ℕ → File_in → List ℕ
member_path path member = path ++ (codes "(" ++ (shown_name member ++ codes ")"))

-- the file of a member of a thin archive: its name is a path, relative to the folder of the archive. The path - would
-- be standard input
abbrev pub file_name : List ℕ → List ℕ
file_name name = if bytes_eq name (codes "-") then codes "./-" else name

abbrev pub outside_path : List ℕ → List ℕ → List ℕ
outside_path path name = path_with_file_name path (file_name name)

-- that a name is not UTF-8, so no file of this name can be read
abbrev pub no_path : Option (List ℕ)
no_path = not_elf_text (Some (codes "a path that is not UTF-8"))

abbrev pub IsOutsideSaid : Known → Saying → List ℕ → List ℕ → Bool → Named → List Said → Type 0
IsOutsideSaid known IsSaid path name true named said = IsSaidAt known IsSaid (outside_path path name) named said
IsOutsideSaid known IsSaid path name false named said = IsProblemSaid no_path named said

abbrev pub IsHeldSaid : Known → Saying → List ℕ → File_in → Option (List ℕ) → Named → List Said → Type 0
IsHeldSaid known IsSaid path member (Some bytes) named said = IsSaid bytes named said
IsHeldSaid known IsSaid path member None named said =
    IsOutsideSaid known IsSaid path member.name (is_utf8 member.name) named said

-- what is said of a member: that of a file with its path and its bytes
abbrev pub IsMemberSaid : Known → Task → List ℕ → File_in → Named → List Said → Type 0
IsMemberSaid known task path member named said =
    IsHeldSaid known (IsElfSaid (IsBytesSaid task (member_path path member))) path member member.bytes named said

-- that an archive cannot be read on
abbrev pub broken : ArchiveError → Option (List ℕ)
broken e = not_elf_text (Some (codes "a broken ar archive: " ++ error_text e))

abbrev pub IsItemSaid : Known → Task → Option Heading → List ℕ → Item → Listing → Type 0
IsItemSaid known task heading path (Ok member) own =
    (named : Named) × (said : List Said) × IsMemberSaid known task path member named said
    × (own ≡ listing_of heading (member_path path member) named said)
IsItemSaid known task heading path (Err e) own =
    (named : Named) × (said : List Said) × IsProblemSaid (broken e) named said
    × (own ≡ listing_of heading path named said)

-- each member has its path above it, except for `check`, `harden` and `starts`
abbrev pub first_heading : Command → Option Heading → Option Heading
first_heading Check heading = None
first_heading Harden heading = None
first_heading Starts heading = None
first_heading other (Some above) = Some above
first_heading other None = Some First

abbrev pub next_heading : Option Heading → Option Heading
next_heading (Some above) = Some Next
next_heading None = None

-- the members in order, and then why they cannot be read on, if they cannot
abbrev pub AreItemsSaid : Known → Task → Option Heading → List ℕ → List Item → List Listing → Type 0
AreItemsSaid known task heading path [] all = all ≡ []
AreItemsSaid known task heading path (item ∷ items) all =
    (own : Listing) × (rest : List Listing) × IsItemSaid known task heading path item own
    × AreItemsSaid known task (next_heading heading) path items rest × (all ≡ own ∷ rest)

abbrev pub items_of : Result (List Item) ArchiveError → List Item
items_of (Ok items) = items
items_of (Err e) = Err e ∷ []

abbrev pub AreMembersSaid : Known → Task → Option Heading → List ℕ → List ℕ → List Listing → Type 0
AreMembersSaid known task heading path bytes all =
    AreItemsSaid known task (first_heading task.command heading) path (items_of (members_in bytes)) all

-- a program and its libraries are no archives: of one is said that it is no ELF file
abbrev pub is_archive : Command → List ℕ → Bool
is_archive Tree start = false
is_archive Bindings start = false
is_archive Starts start = false
is_archive other start = is_some (thinness start)

-- ---- a file of the words

-- one listing, with the path above it
abbrev pub IsOne : Option Heading → List ℕ → (Named → List Said → Type 0) → List Listing → Type 0
IsOne heading path Says all =
    (named : Named) × (said : List Said) × Says named said × (all ≡ listing_of heading path named said ∷ [])

abbrev pub AreKindSaid : Known → Task → Option Heading → List ℕ → List ℕ → Bool → List Listing → Type 0
AreKindSaid known task heading path bytes true all = AreMembersSaid known task heading path bytes all
AreKindSaid known task heading path bytes false all =
    IsOne heading path (IsElfSaid (IsContentSaid known task.command task path) bytes) all

-- what is said of a file with this path and these bytes
abbrev pub AreBytesSaid : Known → Task → Option Heading → List ℕ → List ℕ → List Listing → Type 0
AreBytesSaid known task heading path bytes all =
    AreKindSaid known task heading path bytes (is_archive task.command (front bytes)) all

abbrev pub AreFoundSaid : Known → Task → Option Heading → List ℕ → Option (List ℕ) → List Listing → Type 0
AreFoundSaid known task heading path (Some bytes) all = AreBytesSaid known task heading path bytes all
AreFoundSaid known task heading path None all =
    IsOne heading path (IsProblemSaid None) all

abbrev pub ArePathSaid : Known → Task → Option Heading → List ℕ → List Listing → Type 0
ArePathSaid known task heading path all =
    IfSome known (λ files. AreFoundSaid known task heading path (files.contents path) all)

-- file i and those after it
abbrev pub AreFilesSaid : Known → Task → ℕ → List (Bor (List ℕ)) → List Listing → Type 0
AreFilesSaid known task i [] all = all ≡ []
AreFilesSaid known task i (path ∷ paths) all =
    (own : List Listing) × (rest : List Listing) × ArePathSaid known task (heading_of task i) path.now own
    × AreFilesSaid known task (i + 1) paths rest × (all ≡ own ++ rest)

-- ---- files below folders, with -R

abbrev pub IsFoundTold : Known → Task → Option Heading → Found → List Listing → Type 0
IsFoundTold known task heading (file_at path) all = ArePathSaid known task heading path all
IsFoundTold known task heading (unread path) all = AreFoundSaid known task heading path None all

-- in order; each has its path above it, except for `check`, `harden` and `starts`
abbrev pub AreAllTold : Known → Task → Option Heading → List Found → List Listing → Type 0
AreAllTold known task heading [] all = all ≡ []
AreAllTold known task heading (found ∷ others) all =
    (own : List Listing) × (rest : List Listing) × IsFoundTold known task heading found own
    × AreAllTold known task (next_heading heading) others rest × (all ≡ own ++ rest)

-- what is said of all that is found from these places on
abbrev pub ArePlacesSaid : Known → Task → Option Heading → List Place → List Listing → Type 0
ArePlacesSaid known task heading places all = IfSome known (λ files.
    (found : List Found) × AreFound files places found × AreAllTold known task heading found all)

-- ---- a whole run

abbrev pub AreSaidBy : Bool → Known → Task → List Listing → Type 0
AreSaidBy false known task all = AreFilesSaid known task 0 task.files all
AreSaidBy true known task all =
    ArePlacesSaid known task (first_heading task.command None) (map place_named task.files) all

-- what is said of the files of a task was written
abbrev pub IsTaskAnswered : Known → Written → Written → Summary → Task → Type 0
IsTaskAnswered known before after summary task =
    (all : List Listing) × AreSaidBy task.is_recursive known task all
    × AreWritten task.format before after summary all

-- a text, and a newline, and nothing is wrong
abbrev pub IsPrinted : List ℕ → Written → Written → Summary → Type 0
IsPrinted message before after summary =
    Appends before.out after.out (message ++ codes "\n") × (after.err ≡ before.err)
    × (summary ≡ record { is_right = true; is_told = true })

-- what a run that was not stopped wrote: the help, or the text of what is said of the files, whose paths are taken below
-- the folder of an image, if one is named
abbrev pub IsAnswered : Known → Written → Written → Summary → Answer → Type 0
IsAnswered known before after summary (help command) = IsPrinted (help_of command) before after summary
IsAnswered known before after summary version = IsPrinted VERSION.now before after summary
IsAnswered known before after summary (run task) =
    IsTaskAnswered (known_below task.root known) before after summary task

-- the text of the reason was written, and a newline
abbrev pub IsReasonTold : WordError → Option (List ℕ) → Option (List ℕ) → Type 0
IsReasonTold error before after = IfSome (word_text error) (λ reason. Appends before after (reason ++ codes "\n"))

-- nothing is listed, and unless the write of the reason failed, it was told
abbrev pub IsWrong : WordError → Written → Written → Bool → Type 0
IsWrong error before after is_told =
    (after.out ≡ before.out) × (is_told ≡ true → IsReasonTold error before.err after.err)

-- by what the words ask for: an answer, or that the command line is wrong, and nothing is listed. A failed write or a failed
-- allocation stops a run at any time
abbrev pub IsRun : Known → Written → Written → Result Answer WordError → Outcome → Type 0
IsRun known before after (Ok answer) (Done summary) = IsAnswered known before after summary answer
IsRun known before after (Ok answer) (Wrong is_told) = ⊥
IsRun known before after (Err error) (Done summary) = ⊥
IsRun known before after (Err error) (Wrong is_told) = IsWrong error before after is_told
IsRun known before after answer (Stopped stop) = Unit {0}

abbrev pub status_of : Outcome → ℕ
status_of (Done summary) = if summary.is_right then 0 else 1
status_of (Stopped stop) = 1
status_of (Wrong is_told) = 2
