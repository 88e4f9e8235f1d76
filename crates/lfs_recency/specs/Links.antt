-- The frames as they are linked: the frames proper and then a head for each queue, each link a pointer.
use Rattle.std.specs.Prelude.{◌≡◌, ◌≢◌, ℕ, zero, suc, ◌+◌, ◌<◌, ◌≤◌, cond, nat_lt, min, List, [], ◌∷◌, map, take}
use Rattle.std.specs.Prelude.{length, slice_index_or, slice_set}
use Rattle.std.specs.Mem.{type_size}
use denote.RawPtr.{Ptr, null_ptr, InBlock}
use Rattle.lfs_recency.specs.declared.queue.Queue.{Queue}
use Rattle.lfs_recency.specs.declared.queue.Queue.TheVariants.{Locked, Lru, Age, Empty}
use Rattle.lfs_recency.specs.declared.frame.Frame.{Frame}
use Rattle.lfs_recency.specs.contracts.frame.Frame.{the_row as frame_row}
use Rattle.lfs_recency.specs.FrameLists.{FrameLists, listed, descending, IsWhole}
use Rattle.lfs_recency.specs.Places.{item_place, item_number, IsItemPlace}

abbrev pub frame_size : ℕ
frame_size = type_size frame_row

-- what is read past the end
abbrev pub no_frame : Frame
no_frame = record { bytes = []; prev = null_ptr; next = null_ptr; number = 0; queue = Empty }

abbrev pub frame_at : List Frame → ℕ → Frame
frame_at fs i = slice_index_or fs i no_frame

-- the links, the number and the queue of each frame
abbrev pub next_at : List Frame → ℕ → Ptr
next_at fs i = (frame_at fs i).next

abbrev pub prev_at : List Frame → ℕ → Ptr
prev_at fs i = (frame_at fs i).prev

abbrev pub number_at : List Frame → ℕ → ℕ
number_at fs i = (frame_at fs i).number

abbrev pub queue_at : List Frame → ℕ → Queue
queue_at fs i = (frame_at fs i).queue

-- one field of frame i replaced
abbrev pub with_next : List Frame → ℕ → Ptr → List Frame
with_next fs i p = slice_set fs i (record (frame_at fs i) { next = p })

abbrev pub with_prev : List Frame → ℕ → Ptr → List Frame
with_prev fs i p = slice_set fs i (record (frame_at fs i) { prev = p })

-- where the head of a queue stands, after n frames
abbrev pub head_of : ℕ → Queue → ℕ
head_of n Locked = n
head_of n Lru = n + 1
head_of n Age = n + 2
head_of n Empty = n + 3

-- the numbers from i on, along the steps, up to the first that is n or more, but at most k of them
abbrev pub chain : (ℕ → ℕ) → ℕ → ℕ → ℕ → List ℕ
chain step n zero i = []
chain step n (suc k) i = cond (nat_lt i n) (i ∷ chain step n k (step i)) []

-- each step leads to the next of a, the numbers of the list, and z
abbrev pub IsPath : (ℕ → ℕ) → ℕ → List ℕ → ℕ → Type 0
IsPath step a [] z = step a ≡ z
IsPath step a (b ∷ bs) z = (step a ≡ b) × IsPath step b bs z

-- P holds of each number of a list
abbrev pub Every : (ℕ → Type 0) → List ℕ → Type 0
Every P [] = Unit {0}
Every P (x ∷ xs) = P x × Every P xs

module _ (size : ℕ) (base : Ptr) where
  -- a link as the number of the frame that it leads to
  abbrev pub step_by : (ℕ → Ptr) → ℕ → ℕ
  step_by link i = item_number size base (link i)

  -- the links after frame f has left its ring: its neighbours lead to one another
  abbrev pub unlinked : ℕ → List Frame → List Frame
  unlinked f fs = with_prev (with_next fs (step_by (prev_at fs) f) (next_at fs f)) (step_by (next_at fs) f)
      (prev_at fs f)

  -- frame f between the head of a queue and what follows that
  abbrev pub placed_after : ℕ → ℕ → Queue → List Frame → List Frame
  placed_after head f q fs = slice_set fs f
      (record (frame_at fs f) { prev = item_place size base head; next = next_at fs head; queue = q })

  -- the links after frame f has come right after the head of a queue
  abbrev pub linked_after : ℕ → ℕ → Queue → List Frame → List Frame
  linked_after head f q fs = with_next (with_prev (placed_after head f q fs) (step_by (next_at fs) head)
      (item_place size base f)) head (item_place size base f)

  -- the numbers in the ring of a queue, of n frames
  abbrev pub ring : ℕ → List Frame → Queue → List ℕ
  ring n fs q = chain (step_by (next_at fs)) n n (step_by (next_at fs) (head_of n q))

  -- the lists that the links show
  abbrev pub shown : ℕ → List Frame → FrameLists
  shown n fs = record {
    locked = ring n fs Locked;
    lru = ring n fs Lru;
    age = ring n fs Age;
    empty = ring n fs Empty;
    blocks = take n (map (λ f. f.bytes) fs);
  }

-- n frames and then their heads, which lie from base on, are linked as the lists say, all but the one of the number
-- `but`
pub record IsLinked (size : ℕ) (base : Ptr) (n : ℕ) (next prev : ℕ → Ptr) (number : ℕ → ℕ) (queue : ℕ → Queue) (but : ℕ)
    (s : FrameLists) : Type 0 where
  pub places : (i : ℕ) → i < n + 4 → IsItemPlace size base (n + 4) (next i) × IsItemPlace size base (n + 4) (prev i)
  pub forth : (i : ℕ) → i < n + 4 → i ≢ but → (step_by size base prev (step_by size base next i) ≡ i)
      × (step_by size base next i ≢ but)
  pub back : (i : ℕ) → i < n + 4 → i ≢ but → (step_by size base next (step_by size base prev i) ≡ i)
      × (step_by size base prev i ≢ but)
  pub numbers : (i : ℕ) → i < n + 4 → number i ≡ min i n
  pub rings : (q : Queue) → IsPath (step_by size base next) (head_of n q) (listed q s) (head_of n q)
  pub members : (q : Queue) → Every (λ i. (i < n) × (queue i ≡ q)) (listed q s)

-- the same of a list of frames
abbrev pub AreLinked : ℕ → Ptr → ℕ → ℕ → FrameLists → List Frame → Type 0
AreLinked size base n but s fs = IsLinked size base n (next_at fs) (prev_at fs) (number_at fs) (queue_at fs) but s

-- how many numbers stand in the four lists
abbrev pub count_all : FrameLists → ℕ
count_all s = length s.locked + length s.lru + length s.age + length s.empty

-- n frames and their heads are linked as the lists say that the links show, and these hold each number once
pub record AreKept (size : ℕ) (base : Ptr) (n : ℕ) (fs : List Frame) : Type 0 where
  pub long : length fs ≡ n + 4
  pub inside : InBlock base
  pub linked : AreLinked size base n (n + 4) (shown size base n fs) fs
  pub whole : IsWhole (shown size base n fs)
  pub counted : count_all (shown size base n fs) ≡ n

-- n frames and their heads, each in a ring of its own
pub record AreAlone (size : ℕ) (base : Ptr) (n : ℕ) (fs : List Frame) : Type 0 where
  pub long : length fs ≡ n + 4
  pub inside : InBlock base
  pub numbers : (i : ℕ) → i < n + 4 → number_at fs i ≡ min i n
  pub next : (i : ℕ) → i < n + 4 → next_at fs i ≡ item_place size base i
  pub prev : (i : ℕ) → i < n + 4 → prev_at fs i ≡ item_place size base i

-- the lists when the first i of n frames are in EMPTY, and the others in no queue yet
abbrev pub first_lists : ℕ → ℕ → List Frame → FrameLists
first_lists n i fs = record {
  locked = [];
  lru = [];
  age = [];
  empty = descending i;
  blocks = take n (map (λ f. f.bytes) fs);
}

-- the first i of n frames are in EMPTY, and each other one is in a ring of its own
pub record AreFilled (size : ℕ) (base : Ptr) (n i : ℕ) (fs : List Frame) : Type 0 where
  pub long : length fs ≡ n + 4
  pub inside : InBlock base
  pub linked : AreLinked size base n (n + 4) (first_lists n i fs) fs
  pub next : (k : ℕ) → i ≤ k → k < n → next_at fs k ≡ item_place size base k
  pub prev : (k : ℕ) → i ≤ k → k < n → prev_at fs k ≡ item_place size base k
