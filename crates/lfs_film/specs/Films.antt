-- What a film keeps of a talk, and its page.
use Rattle.std.specs.Prelude.{ℕ, ◌+◌, ◌||◌, nat_lt, Bool, false, List, [], ◌∷◌, ◌++◌, length, if◌then◌else◌}
use Rattle.lfs_film.specs.Quoting.{shortened}
use Rattle.lfs_film.specs.Frames.{changed_owners, changed_rows, frame_text}
use Rattle.lfs_film.specs.declared.blocks.TheConstants.{BLOCKS}
use Rattle.lfs_film.specs.declared.checks.TheConstants.{CHECKS}
use Rattle.lfs_film.specs.declared.film.TheConstants.{FRAMES_MAX}
use Rattle.lfs_film.specs.declared.page.TheConstants.{BODY, CODE, FRAMES, FULL, HEAD, TAIL}
use Rattle.lfs_film.specs.declared.script.TheConstants.{SCRIPT}
use Rattle.lfs_film.specs.declared.states.TheConstants.{STATES}
use Rattle.lfs_film.specs.declared.style.TheConstants.{STYLE}
use Rattle.lfs_film.specs.declared.tree.TheConstants.{TREE}
use Rattle.lfs_film.specs.declared.words.TheConstants.{WORDS}

-- What a film keeps: the rows, whose the blocks are and what waits as the last line left them, how many lines it was
-- shown, the text of its frames, and whether a frame found no room.
pub record Reel : Type 0 where
  pub rows : List (List ℕ)
  pub owners : List (List ℕ)
  pub waiting : List ℕ
  pub lines : ℕ
  pub frames : List ℕ
  pub is_full : Bool

-- a film that was shown nothing
abbrev pub empty_reel : Reel
empty_reel =
    record { rows = []; owners = []; waiting = []; lines = 0; frames = []; is_full = false }

-- the frame of a line of this number: the line, what was told of it, what waits, the rows that it changed, and whose
-- the blocks are that it wrote
abbrev pub frame_of : ℕ → List ℕ → List ℕ → List ℕ → List (List ℕ) → List (List ℕ) → List ℕ
frame_of number line told waiting rows owners =
    frame_text number (shortened 160 line ∷ shortened 1000 told ∷ waiting ∷ rows ++ owners)

-- whether a frame finds no room behind the others, or an earlier one found none
abbrev pub has_no_room : Reel → List ℕ → Bool
has_no_room reel frame = reel.is_full || nat_lt FRAMES_MAX (length reel.frames + length frame)

-- one more frame, where it finds room
abbrev pub with_frame_text : Reel → List ℕ → Reel
with_frame_text reel frame =
    record reel {
      frames = if has_no_room reel frame then reel.frames
          else reel.frames ++ frame;
      is_full = has_no_room reel frame;
    }

-- the frame of one more line, with what it changed
abbrev pub next_frame : Reel → List ℕ → List ℕ → List (List ℕ) → List (List ℕ) → List ℕ → List ℕ
next_frame reel line told rows owners waiting =
    frame_of reel.lines line told waiting (changed_rows reel.rows rows)
    (changed_owners reel.owners owners)

-- one more line: what was told of it, and the rows, whose the blocks are and what waits as it left them
abbrev pub with_line : Reel → List ℕ → List ℕ → List (List ℕ) → List (List ℕ) → List ℕ → Reel
with_line reel line told rows owners waiting =
    record (with_frame_text reel (next_frame reel line told rows owners waiting)) {
      rows = rows;
      owners = owners;
      waiting = waiting;
      lines = reel.lines + 1;
    }

-- what is told where a frame found no room
abbrev pub told_of : Bool → List ℕ
told_of is_full = if is_full then FULL.now else []

-- the style and what is seen
abbrev pub seen_text : List ℕ
seen_text = HEAD.now ++ STYLE.now ++ BODY.now

-- what stands before the frames
abbrev pub head_text : Bool → List ℕ
head_text is_full = seen_text ++ told_of is_full ++ FRAMES.now

-- what the script knows: words, states and the tree
abbrev pub story_text : List ℕ
story_text = WORDS.now ++ STATES.now ++ TREE.now

-- what the script shows: blocks, checks and the rest
abbrev pub shown_text : List ℕ
shown_text = BLOCKS.now ++ CHECKS.now ++ SCRIPT.now

-- the script: what it knows, and what it shows
abbrev pub code_text : List ℕ
code_text = story_text ++ shown_text

-- what stands behind the frames
abbrev pub tail_text : List ℕ
tail_text = CODE.now ++ code_text ++ TAIL.now

-- the page of frames
abbrev pub page_of : List ℕ → Bool → List ℕ
page_of frames is_full = head_text is_full ++ frames ++ tail_text

-- the page of a film
abbrev pub page_text : Reel → List ℕ
page_text reel = page_of reel.frames reel.is_full
