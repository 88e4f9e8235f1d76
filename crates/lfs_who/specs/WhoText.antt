-- Who could act, as lines of text.
use Rattle.std.specs.Prelude.{◌≡◌, ℕ, List, [], ◌∷◌, ◌++◌, Option, None, Some, codes, decimal}
use Rattle.std.specs.List.{flat_map}
use Rattle.lfs_types.specs.Tree.{World}
use Rattle.lfs_types.specs.declared.answer.Answer.{Answer}
use Rattle.lfs_types.specs.declared.answer.Answer.TheVariants.{Served, Denied}
use Rattle.lfs_types.specs.declared.answer.Served.TheVariants.{Done}
use Rattle.lfs_types.specs.declared.request.Request.{Request}
use Rattle.lfs_types.specs.declared.rule.Denial.{Denial}
use Rattle.lfs_words.specs.Wording.{spaced}
use Rattle.lfs_print.specs.AnswerText.{answer_words}
use Rattle.lfs_who.specs.Lines.{Told}
use Rattle.lfs_who.specs.Who.{IsWhoCalls}
use Rattle.lfs_who.specs.declared.act.Act.{Act}
use Rattle.lfs_who.specs.declared.act.Act.TheVariants.{Stat, Search, Read, Write, Append, List as Names, Create, Unlink}
use Rattle.lfs_who.specs.declared.act.Act.TheVariants.{Rmdir, Move, Chmod, Chown, Chflags}
use Rattle.lfs_who.specs.declared.who.Named.{Named}
use Rattle.lfs_who.specs.declared.who.Who.{Who}

-- the word of an act; of one whose call has numbers, with the numbers
abbrev pub act_word : Act → List ℕ
act_word Stat = codes "stat"
act_word Search = codes "search"
act_word Read = codes "read"
act_word Write = codes "write"
act_word Append = codes "append"
act_word Names = codes "list"
act_word Create = codes "create"
act_word Unlink = codes "unlink"
act_word Rmdir = codes "rmdir"
act_word Move = codes "move"
act_word Chmod = codes "chmod"
act_word Chown = codes "chown 0 0"
act_word Chflags = codes "chflags 0"

-- groups, each behind a word
abbrev pub groups_text : List ℕ → List ℕ → List ℕ
groups_text word groups = flat_map (λ group. (32 ∷ word) ++ 32 ∷ decimal group) groups

-- the answer by a decision
abbrev pub decision : Option Denial → Answer
decision None = Served Done
decision (Some denial) = Denied denial

-- the groups of a line, and its decision
abbrev pub told_text : Told → List ℕ
told_text line =
    groups_text (codes "in") line.inside ++ (groups_text (codes "not in") line.outside
    ++ 58 ∷ (spaced (answer_words (decision line.denial)) ++ 10 ∷ []))

-- lines, each behind the same words
abbrev pub lines_text : List ℕ → List Told → List ℕ
lines_text words lines = flat_map (λ line. words ++ told_text line) lines

-- the word of what is done, with a space, where there is one
abbrev pub act_text : List ℕ → List ℕ
act_text [] = []
act_text (b ∷ bs) = b ∷ bs ++ 32 ∷ []

-- the lines of a user who is told by name
abbrev pub named_text : List ℕ → Named → List ℕ
named_text word named = lines_text (act_text word ++ (codes "user" ++ 32 ∷ decimal named.uid))
    named.lines.items

-- the lines of each of these, and of everybody else
abbrev pub who_text : List ℕ → Who → List ℕ
who_text word who = flat_map (named_text word) who.named.items
    ++ lines_text (act_text word ++ codes "others") who.others.items

-- a text has the lines of who could make a call
pub record IsWhoTold (w : World) (request : Request) (text : List ℕ) : Type 0 where
  pub who : Who
  pub is : IsWhoCalls w request who
  pub told : text ≡ who_text [] who
