-- What a line says.
use Rattle.std.specs.Prelude.{ℕ, ◌==◌, ◌||◌, Bool, false, nat_eq, nat_lt, List, [], ◌∷◌, drop, length, codes, find, Option}
use Rattle.std.specs.Prelude.{None, Some, Result, Ok, Err, if◌then◌else◌}
use Rattle.std.specs.List.{starts_with}
use Rattle.std.specs.Str.{bytes_eq}
use Rattle.lfs_script.specs.Places.{place_text}
use Rattle.lfs_script.specs.Plans.{line_said}
use Rattle.lfs_script.specs.Requests.{lone_path}
use Rattle.lfs_script.specs.declared.plan.Line.{Line as Said}
use Rattle.lfs_script.specs.declared.plan.Line.TheVariants.{Nothing, Session, Caller, Act}
use Rattle.lfs_script.specs.declared.plan.Act.{Act as Asked}
use Rattle.lfs_script.specs.declared.plan.Act.TheVariants.{User, Cleaner, Pass}
use Rattle.lfs_words.specs.Faults.{◌>>=◌}
use Rattle.lfs_words.specs.Lines.{is_printable}
use Rattle.lfs_words.specs.Numbers.{long_of}
use Rattle.lfs_words.specs.Wording.{words_of}
use Rattle.lfs_words.specs.declared.fault.FaultKind.{FaultKind}
use Rattle.lfs_words.specs.declared.fault.FaultKind.TheVariants.{Bytes, Words}
use Rattle.lfs_hearing.specs.declared.look.Look.{Look}
use Rattle.lfs_hearing.specs.declared.look.Look.TheVariants.{Listing, Content, Tree}
use Rattle.lfs_hearing.specs.declared.fault.LineFault.TheVariants.{TooLong, Kind}
use Rattle.lfs_hearing.specs.declared.hearing.Dot.{Dot as Word}
use Rattle.lfs_hearing.specs.declared.hearing.Dot.TheVariants.{Journal, Map, Segment, Space, Report, Help, Quit}
use Rattle.lfs_hearing.specs.declared.hearing.Heard.{Heard}
use Rattle.lfs_hearing.specs.declared.hearing.Heard.TheVariants.{Line, Asks, Looks, Dot, Check, Save, Fault}
use Rattle.lfs_hearing.specs.declared.hearing.Inquiry.{Inquiry}
use Rattle.lfs_hearing.specs.declared.hearing.Inquiry.TheVariants.{Why, Who}

-- a word of the server's own
abbrev pub dot_word : Word → List ℕ
dot_word (Journal count) = codes ".journal"
dot_word Map = codes ".map"
dot_word (Segment number) = codes ".segment"
dot_word Space = codes ".space"
dot_word Report = codes ".report"
dot_word Help = codes ".help"
dot_word Quit = codes ".quit"

-- every word of the server's own that may stand alone
abbrev pub dots : List Word
dots = Journal None ∷ Map ∷ Space ∷ Report ∷ Help ∷ Quit ∷ []

abbrev pub or_words : Option Word → Result Word FaultKind
or_words None = Err Words
or_words (Some dot) = Ok dot

-- the word of the server's own that a lone word is
abbrev pub dot_alone : List ℕ → Option Word
dot_alone word = find (λ dot. bytes_eq (dot_word dot) word) dots

-- the same, or its fault
abbrev pub lone_dot : List ℕ → Result Word FaultKind
lone_dot word = or_words (dot_alone word)

-- the same of a word and what it is given: how many entries, or which segment
abbrev pub dot_with : List ℕ → List ℕ → Result Word FaultKind
dot_with word operand =
    if bytes_eq word (codes ".journal") then long_of operand >>= (λ count. Ok (Journal (Some count))) else
    if bytes_eq word (codes ".segment") then long_of operand >>= (λ number. Ok (Segment number)) else Err Words

-- the word of the server's own that words are, or their first fault
abbrev pub dot_of : List (List ℕ) → Result Word FaultKind
dot_of [] = Err Words
dot_of (word ∷ []) = lone_dot word
dot_of (word ∷ operand ∷ []) = dot_with word operand
dot_of (word ∷ operand ∷ third ∷ more) = Err Words

-- the same of a line
abbrev pub dot_said : List ℕ → Result Word FaultKind
dot_said line = if is_printable line then dot_of (words_of line) else Err Bytes

-- whether a line begins with a dot
abbrev pub is_dotted : List ℕ → Bool
is_dotted [] = false
is_dotted (c ∷ cs) = c == 46

-- whether a line has more than 65,536 bytes
abbrev pub is_long : List ℕ → Bool
is_long line = nat_lt 65536 (length line)

-- whether a line asks for help, though no line of a script says so
abbrev pub asks_help : List ℕ → Bool
asks_help line = bytes_eq line (codes "help") || bytes_eq line (codes "?")

-- a line that is none of a script asks for help, or has a fault, which stands there
abbrev pub other_heard : List ℕ → FaultKind → Heard
other_heard line kind = if asks_help line then Dot Help else Fault (Kind kind) (place_text 0 line)

-- what a line of a script says, or what another does
abbrev pub call_heard : List ℕ → Result Said FaultKind → Heard
call_heard line (Ok said) = Line said
call_heard line (Err kind) = other_heard line kind

abbrev pub dot_heard : Result Word FaultKind → Heard
dot_heard (Ok dot) = Dot dot
dot_heard (Err kind) = Fault (Kind kind) (codes " at 1: .help tells these words")

-- no call that is asked about
abbrev pub no_call : Heard
no_call = Fault (Kind Words) (codes " at 6: a user's call stands here")

-- a user's call that is asked about
abbrev pub asked_act : Inquiry → Asked → Heard
asked_act inquiry (User request) = Asks inquiry request
asked_act inquiry (Cleaner call) = no_call
asked_act inquiry Pass = no_call

-- what a line of a script says that is asked about: a user's call, and nothing else
abbrev pub asked_line : Inquiry → Said → Heard
asked_line inquiry Nothing = no_call
asked_line inquiry (Session session) = no_call
asked_line inquiry (Caller cred) = no_call
asked_line inquiry (Act act) = asked_act inquiry act

-- the same of a line that stands behind `.why ` or `.who `
abbrev pub asked_heard : Inquiry → List ℕ → Result Said FaultKind → Heard
asked_heard inquiry line (Ok said) = asked_line inquiry said
asked_heard inquiry line (Err kind) = Fault (Kind kind) (place_text 5 line)

-- the path that a lone word of a line spells
abbrev pub path_said : List ℕ → Result (List (List ℕ)) FaultKind
path_said line = if is_printable line then lone_path (words_of line) else Err Bytes

-- where the path of a look stands
abbrev pub look_place : Look → List ℕ
look_place Listing = codes " at 5: a path stands here"
look_place Content = codes " at 6: a path stands here"
look_place Tree = codes " at 7: a path stands here"

-- a look at a path
abbrev pub look_heard : Look → Result (List (List ℕ)) FaultKind → Heard
look_heard look (Ok path) = Looks look path
look_heard look (Err kind) = Fault (Kind kind) (look_place look)

-- whether a line asks for the tree below the root
abbrev pub asks_tree : List ℕ → Bool
asks_tree line = bytes_eq line (codes ".tree")

-- whether a line asks whether the volume is well
abbrev pub asks_check : List ℕ → Bool
asks_check line = bytes_eq line (codes ".check")

-- whether a line asks that the volume be saved
abbrev pub asks_save : List ℕ → Bool
asks_save line = bytes_eq line (codes ".save")

-- a check of the volume, that it be saved, or a word of the server's own
abbrev pub upkeep_heard : List ℕ → Heard
upkeep_heard line = if asks_check line then Check else if asks_save line then Save else dot_heard (dot_said line)

-- a look at the tree below the path behind `.tree `, or below the root, as `.tree /`, or one of these
abbrev pub tree_heard : List ℕ → Heard
tree_heard line =
    if starts_with nat_eq line (codes ".tree ") then look_heard Tree (path_said (drop 6 line)) else
    if asks_tree line then look_heard Tree (path_said (codes "/")) else upkeep_heard line

-- what a line says that begins with a dot and asks nothing about a call: a look at the path behind `.ls ` or `.cat `, or
-- one of these
abbrev pub word_heard : List ℕ → Heard
word_heard line =
    if starts_with nat_eq line (codes ".ls ") then look_heard Listing (path_said (drop 4 line)) else
    if starts_with nat_eq line (codes ".cat ") then look_heard Content (path_said (drop 5 line)) else
    tree_heard line

-- what a line says that begins with a dot: what is asked about the call behind `.why ` or `.who `, or one of these
abbrev pub dotted_heard : List ℕ → Heard
dotted_heard line =
    if starts_with nat_eq line (codes ".why ") then asked_heard Why (drop 5 line) (line_said (drop 5 line)) else
    if starts_with nat_eq line (codes ".who ") then asked_heard Who (drop 5 line) (line_said (drop 5 line)) else
    word_heard line

-- what a line says, which is given without its line feed: one that is too long says nothing, one that begins with a dot
-- a word with a dot, each other what a line of a script says
unfoldable pub heard_of : List ℕ → Heard
heard_of line =
    if is_long line then Fault TooLong [] else
    if is_dotted line then dotted_heard line else call_heard line (line_said line)
