-- What the words of a command line ask for: `parsed`, at the end, beside what `nugwier --help` says.
use Rattle.std.specs.Prelude.{◌≡◌, ◌⊎◌, ◌^◌, ◌==◌, ◌||◌, ◌&&◌, not, Bool, true, false, if◌then◌else◌, nat_lt, ℕ}
use Rattle.std.specs.Prelude.{List, [], ◌∷◌, ◌++◌, codes, drop, length, map, slice_index, Option, Some, None}
use Rattle.std.specs.Prelude.{option_map}
use Rattle.std.specs.Prelude.{Result, Ok, Err}
use Rattle.std.specs.Char.{is_digit}
use Rattle.std.specs.List.{after_first, before_first, find, slice_split, starts_with}
use Rattle.std.specs.Str.{bytes_eq}
use Rattle.std.specs.Str.Parse.{digits_value}
use Rattle.nugwier_dynamic.specs.HardeningRows.{requirement_word}
use Rattle.nugwier_symbols.specs.SymbolOptions.{no_options}
use Rattle.nugwier_dynamic.specs.declared.hardening_rows.Requirement.{Requirement}
use Rattle.nugwier_dynamic.specs.declared.hardening_rows.Requirement.TheVariants as need
use Rattle.nugwier_report.specs.declared.report.Format.{Format}
use Rattle.nugwier_report.specs.declared.report.Format.TheVariants.{Json as JsonFormat, Text}
use Rattle.nugwier_symbols.specs.declared.symbol_options.Extent.TheVariants.{Defined, Undefined}
use Rattle.nugwier_symbols.specs.declared.symbol_options.SymbolOptions.{SymbolOptions}
use Rattle.nugwier_symbols.specs.declared.symbol_options.SymbolOrder.TheVariants as order
use Rattle.nugwier_commands.specs.declared.asked.Asked.{Asked}
use Rattle.nugwier_commands.specs.declared.asked.Awaited.{Awaited}
use Rattle.nugwier_commands.specs.declared.asked.Awaited.TheVariants.{Folder, Format as AwaitedFormat, Nothing}
use Rattle.nugwier_commands.specs.declared.asked.Awaited.TheVariants.{Requirements, Root}
use Rattle.nugwier_commands.specs.declared.asked.Awaited.TheVariants.{Section}
use Rattle.nugwier_commands.specs.declared.asked.General.{General}
use Rattle.nugwier_commands.specs.declared.asked.General.TheVariants.{Colored, Json, Plain, Recursive}
use Rattle.nugwier_commands.specs.declared.asked.Word.{Word}
use Rattle.nugwier_commands.specs.declared.asked.Word.TheVariants.{End, File, General as GeneralWord, Help, Options}
use Rattle.nugwier_commands.specs.declared.letters.Letters.{Letters}
use Rattle.nugwier_symbols.specs.Addresses.{Sought, sought, text_of}
use Rattle.nugwier_symbols.specs.declared.addresses.AskedAddress.{AskedAddress}
use Rattle.nugwier_commands.specs.declared.words.Command.{Command}
use Rattle.nugwier_commands.specs.declared.words.Command.TheVariants.{Address, Bindings, BuildId, Check, Exports, Harden}
use Rattle.nugwier_commands.specs.declared.words.Command.TheVariants.{List as ListCommand, Needed, Plan, Starts, Symbols}
use Rattle.nugwier_commands.specs.declared.words.Command.TheVariants.{Tree}
use Rattle.nugwier_sections.specs.Contents.{wanted_view}
use Rattle.nugwier_sections.specs.declared.contents.Form.{Form}
use Rattle.nugwier_sections.specs.declared.contents.Form.TheVariants.{Bytes, Strings}
use Rattle.nugwier_commands.specs.declared.words.Job.{Job}
use Rattle.nugwier_commands.specs.declared.words.Parts.{Parts}
use Rattle.nugwier_commands.specs.declared.words.Request.{Request}
use Rattle.nugwier_commands.specs.declared.words.Request.TheVariants.{Help as HelpRequest, Run, Version}
use Rattle.nugwier_commands.specs.declared.words.WordError.{WordError}
use Rattle.nugwier_commands.specs.declared.words.WordError.TheVariants.{Address as NotAddress, Command as NotCommand}
use Rattle.nugwier_commands.specs.declared.words.WordError.TheVariants.{Memory, NoAddress, NoCommand, NoFile, NoFolder}
use Rattle.nugwier_commands.specs.declared.words.WordError.TheVariants.{Format as NotFormat, NoFormat, NoList}
use Rattle.nugwier_commands.specs.declared.words.WordError.TheVariants.{NoSection, Option as NotOption}
use Rattle.nugwier_commands.specs.declared.words.WordError.TheVariants.{Requirement as NotRequirement}
use Rattle.std.specs.Global.{Vec}
use Prim.Native.String.{String}
use denote.Ref.{Bor}

-- ---- what is asked for

-- a command with its options, the files, and the addresses: the lists of a `Job`
pub record Task : Type 0 where
  pub command : Command
  pub parts : Parts
  pub contents : List (Form × List ℕ)
  pub files : List (Bor (List ℕ))
  pub addresses : List Sought
  pub symbols : SymbolOptions
  pub requirements : List Requirement
  pub format : Format
  pub is_recursive : Bool
  pub searches : List (List ℕ)
  pub has_cache : Bool
  pub root : Option (List ℕ)

pub data Answer : Type 0 where
  help : Option Command → Answer
  version : Answer
  run : Task → Answer

abbrev pub texts_of : List (Bor (List ℕ)) → List (List ℕ)
texts_of words = map (λ (word : Bor (List ℕ)). word.now) words

abbrev pub task_of : Job → Task
task_of job = record {
  command = job.command;
  parts = job.parts;
  contents = map wanted_view job.contents.items;
  files = job.files.items;
  addresses = map sought job.addresses.items;
  symbols = job.symbols;
  requirements = job.requirements.items;
  format = job.format;
  is_recursive = job.is_recursive;
  searches = texts_of job.searches.items;
  has_cache = job.has_cache;
  root = text_of job.root;
}

abbrev pub answer_of : Request → Answer
answer_of (HelpRequest command) = help command
answer_of Version = version
answer_of (Run job) = run (task_of job)

-- exactly this answer, or an allocation failed
abbrev pub IsParsed : Result Answer WordError → Result Request WordError → Type 0
IsParsed answer (Ok request) = answer ≡ Ok (answer_of request)
IsParsed answer (Err error) = (error ≡ Memory) ⊎ (answer ≡ Err error)

-- ---- commands

abbrev pub word_of : Command → List ℕ
word_of ListCommand = codes "list"
word_of Symbols = codes "symbols"
word_of Needed = codes "needed"
word_of Exports = codes "exports"
word_of BuildId = codes "build-id"
word_of Plan = codes "plan"
word_of Check = codes "check"
word_of Harden = codes "harden"
word_of Address = codes "address"
word_of Tree = codes "tree"
word_of Bindings = codes "bindings"
word_of Starts = codes "starts"

abbrev pub commands : List Command
commands =
    ListCommand ∷ Symbols ∷ Needed ∷ Exports ∷ BuildId ∷ Plan ∷ Check ∷ Harden ∷ Address ∷ Tree ∷ Bindings ∷ Starts
    ∷ []

unfoldable pub command_of : List ℕ → Option Command
command_of word = find (λ command. bytes_eq (word_of command) word) commands

-- the first two letters are the other way round, and all else is the same
abbrev pub is_swapped : List ℕ → List ℕ → Bool
is_swapped (a ∷ b ∷ rest) (c ∷ d ∷ others) = (a == d) && ((b == c) && bytes_eq rest others)
is_swapped _ _ = false

-- one letter at the most is left out, added or changed, or two that stand together are the other way round
abbrev pub is_near : List ℕ → List ℕ → Bool
is_near [] other = nat_lt (length other) 2
is_near (c ∷ cs) [] = length cs == 0
is_near (c ∷ cs) (d ∷ ds) =
    if c == d then is_near cs ds
    else (bytes_eq cs ds || bytes_eq cs (d ∷ ds) || bytes_eq (c ∷ cs) ds || is_swapped (c ∷ cs) (d ∷ ds))

-- or a word begins another one
abbrev pub is_like : List ℕ → List ℕ → Bool
is_like word other = is_near word other || (not (length word == 0) && starts_with ◌==◌ other word)

-- the first command that a word which is none may mean
unfoldable pub nearest : List ℕ → Option Command
nearest word = find (λ command. is_like word (word_of command)) commands

-- ---- the options of `list`, a letter each, and of `symbols` and `exports`

-- no part, or all
abbrev pub parts_all : Bool → Parts
parts_all is_listed = record {
  header = is_listed;
  sections = is_listed;
  groups = is_listed;
  segments = is_listed;
  symbols = is_listed;
  dynamic_symbols = is_listed;
  dynamic = is_listed;
  relocations = is_listed;
  notes = is_listed;
  versions = is_listed;
  chains = is_listed;
  attributes = is_listed;
  debug_links = is_listed;
}

-- of one character
abbrev pub code : String → ℕ
code letter = slice_index (codes letter) 0

abbrev pub with_part : Parts → ℕ → Option Parts
with_part parts letter =
    if letter == code "h" then Some (record parts { header = true })
    else if letter == code "S" then Some (record parts { sections = true })
    else if letter == code "g" then Some (record parts { groups = true })
    else if letter == code "l" then Some (record parts { segments = true })
    else if letter == code "s" then Some (record parts { symbols = true })
    else if letter == code "D" then Some (record parts { dynamic_symbols = true })
    else if letter == code "d" then Some (record parts { dynamic = true })
    else if letter == code "r" then Some (record parts { relocations = true })
    else if letter == code "n" then Some (record parts { notes = true })
    else if letter == code "V" then Some (record parts { versions = true })
    else if letter == code "I" then Some (record parts { chains = true })
    else if letter == code "A" then Some (record parts { attributes = true })
    else if letter == code "k" then Some (record parts { debug_links = true })
    else if letter == code "a" then Some (parts_all true)
    else None

abbrev pub with_list_letter : Letters → ℕ → Option Letters
with_list_letter letters letter =
    if letter == code "W" then Some (record letters { is_wide = true })
    else option_map (λ parts. record letters { parts = parts }) (with_part letters.parts letter)

-- the long word of `list`
abbrev pub with_wide : Letters → List ℕ → Option Letters
with_wide letters word = if bytes_eq word (codes "wide") then Some (record letters { is_wide = true }) else None

-- the words of `symbols` after two hyphens, as of GNU nm; of those that exclude each other the last one counts
unfoldable pub with_symbol_word : SymbolOptions → List ℕ → Option SymbolOptions
with_symbol_word symbols word =
    if bytes_eq word (codes "dynamic") then Some (record symbols { is_dynamic = true })
    else if bytes_eq word (codes "extern-only") then Some (record symbols { is_external = true })
    else if bytes_eq word (codes "undefined-only") then Some (record symbols { extent = Undefined })
    else if bytes_eq word (codes "defined-only") then Some (record symbols { extent = Defined })
    else if bytes_eq word (codes "no-sort") then Some (record symbols { order = order.Table })
    else if bytes_eq word (codes "numeric-sort") then Some (record symbols { order = order.Value })
    else if bytes_eq word (codes "size-sort") then Some (record symbols { order = order.Size })
    else if bytes_eq word (codes "print-size") then Some (record symbols { has_sizes = true })
    else if bytes_eq word (codes "format=posix") then Some (record symbols { is_portable = true })
    else if bytes_eq word (codes "format=bsd") then Some (record symbols { is_portable = false })
    else None

-- the word of `exports`
abbrev pub with_export_word : SymbolOptions → List ℕ → Option SymbolOptions
with_export_word symbols word =
    if bytes_eq word (codes "functions") then Some (record symbols { functions_only = true }) else None

abbrev pub with_symbols : Letters → Option SymbolOptions → Option Letters
with_symbols letters found = option_map (λ symbols. record letters { symbols = symbols }) found

abbrev pub with_long_word : Command → Letters → List ℕ → Option Letters
with_long_word Symbols letters word = with_symbols letters (with_symbol_word letters.symbols word)
with_long_word Exports letters word = with_symbols letters (with_export_word letters.symbols word)
with_long_word ListCommand letters word = with_wide letters word
with_long_word other letters word = None

-- the long word that a letter of `symbols` stands for
unfoldable pub long_word : ℕ → List ℕ
long_word letter =
    if letter == code "D" then codes "dynamic"
    else if letter == code "g" then codes "extern-only"
    else if letter == code "n" then codes "numeric-sort"
    else if letter == code "p" then codes "no-sort"
    else if letter == code "P" then codes "format=posix"
    else if letter == code "S" then codes "print-size"
    else if letter == code "u" then codes "undefined-only"
    else []

abbrev pub with_letter : Command → Letters → ℕ → Option Letters
with_letter ListCommand letters letter = with_list_letter letters letter
with_letter other letters letter = with_long_word other letters (long_word letter)

abbrev pub with_letters : Command → Letters → List ℕ → Option Letters
with_letters command letters [] = Some letters
with_letters command letters (c ∷ cs) =
    elim (with_letter command letters c) [ Some more ↦ with_letters command more cs | None ↦ None ]

-- a long word, or the letters after a hyphen
abbrev pub with_word_of : Command → Letters → List ℕ → Option Letters
with_word_of command letters word =
    if starts_with ◌==◌ word (codes "--") then with_long_word command letters (drop 2 word)
    else with_letters command letters (drop 1 word)

-- ---- the words after the command, from left to right

-- what the words so far ask for, what the next word is for, and whether `--` was there: the lists of an `Asked`
pub record SoFar : Type 0 where
  pub parts : Parts
  pub symbols : SymbolOptions
  pub contents : List (Form × List ℕ)
  pub files : List (Bor (List ℕ))
  pub requirements : List Requirement
  pub is_json : Bool
  pub is_wide : Bool
  pub is_colored : Bool
  pub is_recursive : Bool
  pub searches : List (List ℕ)
  pub has_cache : Bool
  pub root : Option (List ℕ)
  pub awaited : Awaited
  pub has_ended : Bool

abbrev pub so_far : Asked → SoFar
so_far asked = record {
  parts = asked.parts;
  symbols = asked.symbols;
  contents = map wanted_view asked.contents.items;
  files = asked.files.items;
  requirements = asked.requirements.items;
  is_json = asked.is_json;
  is_wide = asked.is_wide;
  is_colored = asked.is_colored;
  is_recursive = asked.is_recursive;
  searches = texts_of asked.searches.items;
  has_cache = asked.has_cache;
  root = text_of asked.root;
  awaited = asked.awaited;
  has_ended = asked.has_ended;
}

-- before the first word; headings are bold or not
abbrev pub nothing : Bool → SoFar
nothing is_colored = record {
  parts = parts_all false;
  symbols = no_options;
  contents = [];
  files = [];
  requirements = [];
  is_json = false;
  is_wide = false;
  is_colored = is_colored;
  is_recursive = false;
  searches = [];
  has_cache = true;
  root = None;
  awaited = Nothing;
  has_ended = false;
}

-- a word that does not begin with `-`, or `-` itself; after the word `--` each
abbrev pub is_file : List ℕ → Bool → Bool
is_file word has_ended = has_ended || bytes_eq word (codes "-") || not (starts_with ◌==◌ word (codes "-"))

-- an option of every command
abbrev pub general_of : List ℕ → Option General
general_of word =
    if bytes_eq word (codes "--json") then Some Json
    else if bytes_eq word (codes "-R") || bytes_eq word (codes "--recursive") then Some Recursive
    else if bytes_eq word (codes "--color=always") then Some Colored
    else if bytes_eq word (codes "--color=never") then Some Plain
    else None

-- of `list`, -h is the file header
abbrev pub has_help_letter : Command → Bool
has_help_letter ListCommand = false
has_help_letter other = true

abbrev pub is_help : Command → List ℕ → Bool
is_help command word = bytes_eq word (codes "--help") || (bytes_eq word (codes "-h") && has_help_letter command)

abbrev pub kind_if : Option General → Word
kind_if (Some option) = GeneralWord option
kind_if None = Options

abbrev pub kind_of : Command → List ℕ → Bool → Word
kind_of command word has_ended =
    if is_file word has_ended then File
    else if is_help command word then Help
    else if bytes_eq word (codes "--") then End
    else kind_if (general_of word)

-- what a word does: the words after it are read too, or the help of the command is asked for, or it is wrong
pub data Step : Type 0 where
  next : SoFar → Step
  helps : Step
  wrong : WordError → Step

-- what the options so far ask for
abbrev pub letters_of : SoFar → Letters
letters_of asked = record { parts = asked.parts; symbols = asked.symbols; is_wide = asked.is_wide }

abbrev pub with_found : Command → SoFar → Bor (List ℕ) → Option Letters → Step
with_found command asked word None = wrong (NotOption command word)
with_found command asked word (Some letters) =
    next (record asked { parts = letters.parts; symbols = letters.symbols; is_wide = letters.is_wide })

-- a word of `symbols` and `exports`
abbrev pub with_listed : Command → SoFar → Bor (List ℕ) → Step
with_listed command asked word = with_found command asked word (with_word_of command (letters_of asked) word.now)

-- a word of `symbols`; after `--format` and `-f` the next word is a format
abbrev pub with_symbols_word : SoFar → Bor (List ℕ) → Step
with_symbols_word asked word =
    if bytes_eq word.now (codes "--format") || bytes_eq word.now (codes "-f")
    then next (record asked { awaited = AwaitedFormat word })
    else with_listed Symbols asked word

abbrev pub is_portable : SoFar → Bool → Step
is_portable asked is =
    next (record asked { symbols = record asked.symbols { is_portable = is }; awaited = Nothing })

-- of POSIX, or of BSD, which is the usual one
abbrev pub with_format : SoFar → Bor (List ℕ) → Step
with_format asked word =
    if bytes_eq word.now (codes "posix") then is_portable asked true
    else if bytes_eq word.now (codes "bsd") then is_portable asked false
    else wrong (NotFormat word)

-- A word of `list` is cut at its first x or p, the last letter of the word, which needs a section: what follows it in the
-- word, or if nothing does the next word.
abbrev pub is_x : ℕ → Bool
is_x c = c == code "x"

abbrev pub is_p : ℕ → Bool
is_p c = c == code "p"

-- how many letters stand before the first x, and before the first p; all if there is none
abbrev pub before_x : List ℕ → ℕ
before_x word = length (before_first is_x word)

abbrev pub before_p : List ℕ → ℕ
before_p word = length (before_first is_p word)

abbrev pub cut_form : List ℕ → Option Form
cut_form word =
    if nat_lt (before_x word) (before_p word) then Some Bytes
    else if nat_lt (before_p word) (before_x word) then Some Strings
    else None

abbrev pub cut_letters : List ℕ → List ℕ
cut_letters word = if nat_lt (before_x word) (before_p word) then before_first is_x word else before_first is_p word

abbrev pub cut_section : List ℕ → List ℕ
cut_section word = if nat_lt (before_x word) (before_p word) then after_first is_x word else after_first is_p word

abbrev pub with_form : SoFar → Bor (List ℕ) → Option Form → List ℕ → SoFar
with_form asked word None section = asked
with_form asked word (Some form) section =
    if length section == 0 then record asked { awaited = Section form word }
    else record asked { contents = asked.contents ++ (form, section) ∷ [] }

abbrev pub with_list_letters : SoFar → Bor (List ℕ) → Option Letters → Step
with_list_letters asked word None = wrong (NotOption ListCommand word)
with_list_letters asked word (Some letters) =
    let listed = record asked { parts = letters.parts; symbols = letters.symbols; is_wide = letters.is_wide } in
    next (with_form listed word (cut_form word.now) (cut_section word.now))

abbrev pub with_list_word : SoFar → Bor (List ℕ) → Step
with_list_word asked word =
    with_list_letters asked word (with_word_of ListCommand (letters_of asked) (cut_letters word.now))

-- a folder to search
abbrev pub with_folder : SoFar → List ℕ → Step
with_folder asked folder = next (record asked { searches = asked.searches ++ folder ∷ []; awaited = Nothing })

-- the folder of the files; the last one counts
abbrev pub with_root : SoFar → List ℕ → Step
with_root asked folder = next (record asked { root = Some folder; awaited = Nothing })

-- an option with its folder in one word
abbrev pub with_given : Command → SoFar → Bor (List ℕ) → Step
with_given command asked word =
    if starts_with ◌==◌ word.now (codes "--search=") then with_folder asked (drop 9 word.now)
    else if starts_with ◌==◌ word.now (codes "--root=") then with_root asked (drop 7 word.now)
    else wrong (NotOption command word)

-- the options of `tree` and `bindings`: a folder is the next word, or stands in the same one after `=`
abbrev pub with_search : Command → SoFar → Bor (List ℕ) → Step
with_search command asked word =
    if bytes_eq word.now (codes "--search") then next (record asked { awaited = Folder word })
    else if bytes_eq word.now (codes "--root") then next (record asked { awaited = Root word })
    else if bytes_eq word.now (codes "--no-cache") then next (record asked { has_cache = false })
    else with_given command asked word

unfoldable pub requirement_of : List ℕ → Option Requirement
requirement_of word =
    find (λ r. bytes_eq (requirement_word r) word) (need.Pie ∷ need.Relro ∷ need.BindNow ∷ need.Nx
    ∷ need.Wx ∷ need.Canary ∷ need.Fortify ∷ need.Runpath ∷ need.Ibt ∷ need.Shstk ∷ need.Bti
    ∷ need.Pac ∷ need.Stripped ∷ [])

-- those of words after these, if each word is one
abbrev pub requirements_after : List Requirement → List (List ℕ) → Option (List Requirement)
requirements_after before [] = Some before
requirements_after before (word ∷ words) = elim (requirement_of word) [
  | Some requirement ↦ requirements_after (before ++ requirement ∷ []) words
  | None ↦ None
]

-- the words of a list have commas (44) between them
abbrev pub words_in : List ℕ → List (List ℕ)
words_in list = slice_split (λ b. b == 44) list

abbrev pub requirements_in : List ℕ → List Requirement → Option (List Requirement)
requirements_in list before = requirements_after before (words_in list)

-- whether each word is one, and then these are all
abbrev pub AreAdded : Option (List Requirement) → List Requirement → Bool → Type 0
AreAdded answer new true = answer ≡ Some new
AreAdded answer new false = answer ≡ None

abbrev pub required : SoFar → Bor (List ℕ) → Option (List Requirement) → Step
required asked word (Some all) = next (record asked { requirements = all; awaited = Nothing })
required asked word None = wrong (NotRequirement word)

-- those of a list, which is this word or stands in it
abbrev pub with_requirements : SoFar → Bor (List ℕ) → List ℕ → Step
with_requirements asked word list = required asked word (requirements_in list asked.requirements)

-- the option of `harden`: the list of what is required is the next word, or stands in the same one after `=`
abbrev pub with_require : SoFar → Bor (List ℕ) → Step
with_require asked word =
    if bytes_eq word.now (codes "--require") then next (record asked { awaited = Requirements word })
    else if starts_with ◌==◌ word.now (codes "--require=") then with_requirements asked word (drop 10 word.now)
    else wrong (NotOption Harden word)

-- any other command has no options but --json, --recursive and --help
abbrev pub with_options : Command → SoFar → Bor (List ℕ) → Step
with_options ListCommand asked word = with_list_word asked word
with_options Symbols asked word = with_symbols_word asked word
with_options Exports asked word = with_listed Exports asked word
with_options Tree asked word = with_search Tree asked word
with_options Bindings asked word = with_search Bindings asked word
with_options Starts asked word = with_search Starts asked word
with_options Harden asked word = with_require asked word
with_options other asked word = wrong (NotOption other word)

abbrev pub with_general : General → SoFar → SoFar
with_general Json asked = record asked { is_json = true }
with_general Recursive asked = record asked { is_recursive = true }
with_general Colored asked = record asked { is_colored = true }
with_general Plain asked = record asked { is_colored = false }

abbrev pub with_word : Word → Command → SoFar → Bor (List ℕ) → Step
with_word File command asked word = next (record asked { files = asked.files ++ word ∷ [] })
with_word Help command asked word = helps
with_word (GeneralWord option) command asked word = next (with_general option asked)
with_word End command asked word = next (record asked { has_ended = true })
with_word Options command asked word = with_options command asked word

abbrev pub with_section : Form → SoFar → Bor (List ℕ) → Step
with_section form asked word =
    next (record asked { contents = asked.contents ++ (form, word.now) ∷ []; awaited = Nothing })

-- an option takes the next word, whatever it is
abbrev pub step_for : Awaited → Command → SoFar → Bor (List ℕ) → Step
step_for Nothing command asked word = with_word (kind_of command word.now asked.has_ended) command asked word
step_for (Section form option) command asked word = with_section form asked word
step_for (Folder option) command asked word = with_folder asked word.now
step_for (Root option) command asked word = with_root asked word.now
step_for (Requirements option) command asked word = with_requirements asked word word.now
step_for (AwaitedFormat option) command asked word = with_format asked word

abbrev pub step : Command → SoFar → Bor (List ℕ) → Step
step command asked word = step_for asked.awaited command asked word

-- whether the help is asked for, or the error; or an allocation failed
abbrev pub IsStep : Step → SoFar → Result Bool WordError → Type 0
IsStep step new (Ok true) = step ≡ helps
IsStep step new (Ok false) = step ≡ next new
IsStep step new (Err error) = (error ≡ Memory) ⊎ (step ≡ wrong error)

-- ---- addresses

-- `0x` may be left out
abbrev pub without_0x : List ℕ → List ℕ
without_0x word = if starts_with ◌==◌ word (codes "0x") then drop 2 word else word

abbrev pub are_digits : List ℕ → Bool
are_digits [] = true
are_digits (c ∷ cs) = is_digit c 16 && are_digits cs

abbrev pub is_number : List ℕ → Bool
is_number [] = false
is_number (c ∷ cs) = are_digits (c ∷ cs)

-- one digit or more in hexadecimal, below 2^64
abbrev pub number_of : List ℕ → Option ℕ
number_of digits =
    if is_number digits && nat_lt (digits_value 16 digits) (2 ^ 64) then Some (digits_value 16 digits) else None

-- one character more before a section, if there is one, and an address
abbrev pub divided_from : ℕ → Option (List ℕ) → List ℕ → Option (List ℕ) × List ℕ
divided_from c (Some section) address = (Some (c ∷ section), address)
divided_from c None address = if c == code ":" then (Some [], address) else (None, c ∷ address)

-- a section before the last colon, if there is a colon, and an address
abbrev pub divided : List ℕ → Option (List ℕ) × List ℕ
divided [] = (None, [])
divided (c ∷ cs) = let rest = divided cs in divided_from c rest.0 rest.1

abbrev pub sought_at : Option (List ℕ) → Option ℕ → Option Sought
sought_at section address = option_map (λ n. record { section = section; address = n }) address

abbrev pub address_of : List ℕ → Option Sought
address_of word = let parts = divided word in sought_at parts.0 (number_of (without_0x parts.1))

-- those of words after these, or the first word that is none
abbrev pub addresses_after : List Sought → List (Bor (List ℕ)) → Result (List Sought) WordError
addresses_after addresses [] = Ok addresses
addresses_after addresses (word ∷ words) =
    elim (address_of word.now) [ Some n ↦ addresses_after (addresses ++ n ∷ []) words | None ↦ Err (NotAddress word) ]

abbrev pub AreAddresses : Result (List Sought) WordError → Result (Vec AskedAddress) WordError → Type 0
AreAddresses answer (Ok addresses) = answer ≡ Ok (map sought addresses.items)
AreAddresses answer (Err error) = (error ≡ Memory) ⊎ (answer ≡ Err error)

-- ---- after the last word

-- without options, `list` lists all parts
abbrev pub has_part : Parts → Bool
has_part parts =
    parts.header || parts.sections || parts.groups || parts.segments || parts.symbols || parts.dynamic_symbols
    || parts.dynamic || parts.relocations || parts.notes || parts.versions || parts.chains || parts.attributes
    || parts.debug_links

abbrev pub listed_parts : Parts → List (Form × List ℕ) → Parts
listed_parts parts contents = if length contents == 0 && not (has_part parts) then parts_all true else parts

abbrev pub format_of : SoFar → Format
format_of asked =
    if asked.is_json then JsonFormat else Text (record { is_wide = asked.is_wide; is_colored = asked.is_colored })

abbrev pub run_on : Command → SoFar → List (Bor (List ℕ)) → List Sought → Result Answer WordError
run_on command asked files addresses = Ok (run (record {
  command = command;
  parts = listed_parts asked.parts asked.contents;
  contents = asked.contents;
  files = files;
  addresses = addresses;
  symbols = asked.symbols;
  requirements = asked.requirements;
  format = format_of asked;
  is_recursive = asked.is_recursive;
  searches = asked.searches;
  has_cache = asked.has_cache;
  root = asked.root;
}))

-- `address` takes one file, and the others are addresses, one or more
abbrev pub with_addresses : SoFar → List (Bor (List ℕ)) → List Sought → Result Answer WordError
with_addresses asked files [] = Err NoAddress
with_addresses asked files (address ∷ addresses) = run_on Address asked files (address ∷ addresses)

abbrev pub at_addresses : SoFar → List (Bor (List ℕ)) → Result (List Sought) WordError → Result Answer WordError
at_addresses asked files (Ok addresses) = with_addresses asked files addresses
at_addresses asked files (Err error) = Err error

abbrev pub with_file : Command → SoFar → Bor (List ℕ) → List (Bor (List ℕ)) → Result Answer WordError
with_file Address asked file others = at_addresses asked (file ∷ []) (addresses_after [] others)
with_file command asked file others = run_on command asked (file ∷ others) []

abbrev pub with_files : Command → SoFar → List (Bor (List ℕ)) → Result Answer WordError
with_files command asked [] = Err (NoFile command)
with_files command asked (file ∷ others) = with_file command asked file others

-- an option whose word is missing, or the files
abbrev pub finished_for : Awaited → Command → SoFar → Result Answer WordError
finished_for Nothing command asked = with_files command asked asked.files
finished_for (Section form option) command asked = Err (NoSection option)
finished_for (Folder option) command asked = Err (NoFolder command option)
finished_for (Root option) command asked = Err (NoFolder command option)
finished_for (Requirements option) command asked = Err (NoList command option)
finished_for (AwaitedFormat option) command asked = Err (NoFormat option)

abbrev pub finished : Command → SoFar → Result Answer WordError
finished command asked = finished_for asked.awaited command asked

-- ---- all words

-- those after a command, if what was before them asks for this
abbrev pub after : Command → SoFar → List (Bor (List ℕ)) → Result Answer WordError
after command asked [] = finished command asked
after command asked (word ∷ words) = elim (step command asked word) [
  | next more ↦ after command more words
  | helps ↦ Ok (help (Some command))
  | wrong error ↦ Err error
]

abbrev pub unknown : Bor (List ℕ) → WordError
unknown word = NotCommand word (nearest word.now)

abbrev pub helped_for : Bor (List ℕ) → Option Command → Result Answer WordError
helped_for word None = Err (unknown word)
helped_for word (Some command) = Ok (help (Some command))

-- of a command, if there is a word
abbrev pub helped : List (Bor (List ℕ)) → Result Answer WordError
helped [] = Ok (help None)
helped (word ∷ words) = helped_for word (command_of word.now)

abbrev pub parsed_for : SoFar → Bor (List ℕ) → Option Command → List (Bor (List ℕ)) → Result Answer WordError
parsed_for asked first None words = Err (unknown first)
parsed_for asked first (Some command) words = after command asked words

-- by the first word that is no option of every command
abbrev pub parsed_from : SoFar → Bor (List ℕ) → List (Bor (List ℕ)) → Result Answer WordError
parsed_from asked first words =
    if bytes_eq first.now (codes "--help") || bytes_eq first.now (codes "-h") then Ok (help None)
    else if bytes_eq first.now (codes "--version") || bytes_eq first.now (codes "-V") then Ok version
    else if bytes_eq first.now (codes "help") then helped words
    else parsed_for asked first (command_of first.now) words

-- what the words ask for, if what was before them asks for this
abbrev pub parsed_with : SoFar → List (Bor (List ℕ)) → Result Answer WordError
parsed_with asked [] = Err NoCommand
parsed_with asked (first ∷ words) = elim (general_of first.now) [
  | Some option ↦ parsed_with (with_general option asked) words
  | None ↦ parsed_from asked first words
]

-- headings are bold or not, unless the words say something else
abbrev pub parsed : Bool → List (Bor (List ℕ)) → Result Answer WordError
parsed is_colored words = parsed_with (nothing is_colored) words
