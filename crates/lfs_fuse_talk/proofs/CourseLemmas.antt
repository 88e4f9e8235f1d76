-- A talk whose entries go to a file: message by message (`answered_of` for `ServedAnswerer::answer`, `rested_on` for
-- `rest`), and as a whole (`served_all` and `shut_asked` for `serve`). What a message does is said for whatever entries
-- were handed out before it (`Advances`); `course_all` goes along the messages and carries them on, with the fact that
-- the file has the lines of all entries and gets the next number next (`Stands`). So it begins with no entry and a file
-- that has none (`begun_file`), and each message either leaves its entries in the journal, or hands them out. The hard
-- part is a file that takes no more: the reply then tells of it (`entered_lost`), and from there on nothing is said of
-- its lines.
use Rattle.std.proofs.Common.{◌≡◌, ℕ, ◌+◌, ◌⊎◌, inl, inr, Bool, true, false, List, [], ◌∷◌, ◌++◌, length, Option, None, Some}
use Rattle.std.proofs.Common.{Result, Ok, Err, IfOk, IfSome, IsSome, refl, sym, ap, subst, ◌∙◌, arith, append-nil, length-append, is_some}
use Rattle.std.specs.Io.KnownBytes.{Appends}
use Rattle.std.proofs.KnownBytes.{Appends-nil, Appends-trans}
use Rattle.lfs_model.specs.declared.journal.Entry.{Entry}
use Rattle.lfs_volume.specs.Seen.{Seen}
use Rattle.lfs_sinks.specs.Numbered.{numbered_text}
use Rattle.lfs_sinks.specs.declared.sink.LineSink.{LineSink}
use Rattle.lfs_sinks.proofs.NumberedLemmas.{numbered-joined}
use Rattle.lfs_fuse_wire.specs.declared.framing.Frame.{Frame}
use Rattle.lfs_fuse_wire.specs.declared.header.Header.{Header}
use Rattle.lfs_types.specs.StoreStates.{StoreState}
use Rattle.lfs_mount.specs.Runs.{GoesOn}
use Rattle.lfs_fuse_talk.specs.Filing.{HasFile, HasLines, IsCurrent, IsFirst, IsHandedOut, IsLetGo, IsShut, MovesOn, Stays}
use Rattle.lfs_fuse_talk.specs.Filing.{Takes, is_open, lost_reply}
use Rattle.lfs_fuse_talk.specs.Images.{IsKept}
use Rattle.lfs_fuse_talk.specs.Serving.{Advances, BeginsServing, HasRested, HasServed, IsEntered, IsServed}
use Rattle.lfs_fuse_talk.specs.Serving.{IsServedOf}
use Rattle.lfs_fuse_talk.specs.Serving.{IsServedTo, Kind, Server, course_of, held, held_over, serving}
use Rattle.lfs_fuse_talk.specs.Talking.{AreAnswered, Answering, HasTalked, answering_of}
use Rattle.lfs_fuse_talk.specs.declared.filing.Keeping.{Keeping}
use Rattle.lfs_fuse_talk.specs.declared.filing.Keeping.TheVariants.{Nowhere, File, Closed}
use Rattle.lfs_fuse_talk.specs.declared.options.Options.{Options}
use Rattle.lfs_fuse_talk.specs.declared.served.Served.{Served}
use Rattle.lfs_fuse_talk.proofs.LedLemmas.{led_all, led_first, led_to}

-- ---- a file and its entries

-- a file that has the lines of what was handed out has those of all, where no entry is kept
lines_with : {W : Type 0} (contents : W → Option (List ℕ)) (first : Option (List ℕ)) (is_filed : Bool)
    (keeping : Keeping W) (handed journal : List Entry)
    → ((sink : LineSink W) → keeping ≡ File sink → journal ≡ []) → IsCurrent contents first is_filed keeping handed
    → HasLines contents first keeping (handed ++ journal)
lines_with contents first is_filed Nowhere handed journal none current = tt
lines_with contents first is_filed Closed handed journal none current = tt
lines_with contents first true (File sink) handed journal none current =
    subst (λ (l : List Entry). Appends first (contents sink.writer) (numbered_text 1 l))
    (sym (ap (λ (j : List Entry). handed ++ j) (none sink refl) ∙ append-nil handed)) current.0
lines_with contents first false (File sink) handed journal none current = absurd current

-- a file that took more
current_more : {W : Type 0} (contents : W → Option (List ℕ)) (first : Option (List ℕ)) (is_filed : Bool)
    (old new : LineSink W) (handed entries : List Entry) → IsCurrent contents first is_filed (File old) handed
    → Takes contents old new entries → IsCurrent contents first is_filed (File new) (handed ++ entries)
current_more contents first true old new handed entries current taken = (
  subst (λ (l : List ℕ). Appends first (contents new.writer) l) (sym (numbered-joined 1 handed entries))
      (Appends-trans first (contents old.writer) (contents new.writer) (numbered_text 1 handed)
      (numbered_text (1 + length handed) entries) current.0
      (subst (λ (n : ℕ). Appends (contents old.writer) (contents new.writer) (numbered_text n entries)) current.1
      taken.lines)),
  omega (arith, current.1, taken.numbered, length-append handed entries),
)
current_more contents first false old new handed entries current taken = absurd current

-- where a file stands once the journal went on
pub record HasMoved {F W : Type 0} (contents : W → Option (List ℕ)) (first : Option (List ℕ)) (is_filed : Bool)
    (old new : Keeping W) (handed : List Entry) (before after : Seen F) (then : List Entry) : Type 0 where
  pub opened : is_open new ≡ is_open old
  pub moves : MovesOn handed before then after
  pub lines : HasLines contents first new (then ++ after.journal)
  pub current : IsCurrent contents first is_filed new then

pub moved_stays : {F W : Type 0} (contents : W → Option (List ℕ)) (first : Option (List ℕ)) (is_filed : Bool)
    (old new : Keeping W) (before after : Seen F) (handed : List Entry) → IsCurrent contents first is_filed old handed
    → Stays old new before after → HasMoved contents first is_filed old new handed before after handed
moved_stays contents first is_filed old new before after handed current stays = record {
  opened = ap is_open stays.same;
  moves = inl (refl, stays.volume);
  lines = rw (stays.same, stays.volume)
      (lines_with contents first is_filed old handed before.journal stays.none current);
  current = rw stays.same current;
}

pub moved_out : {F W : Type 0} (contents : W → Option (List ℕ)) (first : Option (List ℕ)) (is_filed : Bool)
    (old new : Keeping W) (before after : Seen F) (handed : List Entry) → IsCurrent contents first is_filed old handed
    → IsHandedOut contents old new before after
    → HasMoved contents first is_filed old new handed before after (handed ++ before.journal)
moved_out contents first is_filed old new before after handed current out =
    let now = subst (λ (k : Keeping _). IsCurrent contents first is_filed k handed) out.was current in
    let then = current_more contents first is_filed out.first out.then handed before.journal now out.taken in
    record {
      opened = ap is_open out.is ∙ sym (ap is_open out.was);
      moves = inr (refl, out.volume);
      lines = rw (out.is, out.volume)
          (lines_with contents first is_filed (File out.then) (handed ++ before.journal) [] (λ _ _. refl) then);
      current = rw out.is then;
    }

pub moved_away : {F W : Type 0} (contents : W → Option (List ℕ)) (first : Option (List ℕ)) (is_filed : Bool)
    (old new : Keeping W) (before after : Seen F) (handed : List Entry) → IsCurrent contents first is_filed old handed
    → IsLetGo old new before after
    → HasMoved contents first is_filed old new handed before after (handed ++ before.journal)
moved_away contents first true old new before after handed current gone =
    absurd (subst (λ (k : Keeping _). IsCurrent contents first true k handed) gone.was current)
moved_away contents first false old new before after handed current gone = record {
  opened = ap is_open gone.is ∙ sym (ap is_open gone.was);
  moves = inr (refl, gone.volume);
  lines = rw gone.is tt;
  current = rw gone.is tt;
}

pub shut_current : {F W : Type 0} (contents : W → Option (List ℕ)) (first : Option (List ℕ)) (is_filed : Bool)
    (old new : Keeping W) (before after : Seen F) (handed : List Entry) → IsCurrent contents first is_filed old handed
    → IsShut old new before after → IsCurrent contents first is_filed new handed
shut_current contents first true old new before after handed current shut = rw shut.is tt
shut_current contents first false old new before after handed current shut =
    absurd (subst (λ (k : Keeping _). IsCurrent contents first false k handed) shut.was current)

-- calls go on, or a file that is there takes no more
abbrev pub GoesOrShuts : {F W : Type 0} → (W → Option (List ℕ)) → Keeping W → Keeping W → Seen F → Seen F → Type 0
GoesOrShuts contents old new before after =
    (Stays old new before after ⊎ IsHandedOut contents old new before after)
    ⊎ (IsLetGo old new before after ⊎ IsShut old new before after)

moved_either : {F W : Type 0} (contents : W → Option (List ℕ)) (first : Option (List ℕ)) (is_filed : Bool)
    (old new : Keeping W) (before after : Seen F) (handed : List Entry) → IsCurrent contents first is_filed old handed
    → Stays old new before after ⊎ IsHandedOut contents old new before after
    → (then : List Entry) × HasMoved contents first is_filed old new handed before after then
moved_either contents first is_filed old new before after handed current (inl stays) =
    (handed, moved_stays contents first is_filed old new before after handed current stays)
moved_either contents first is_filed old new before after handed current (inr out) =
    (handed ++ before.journal, moved_out contents first is_filed old new before after handed current out)

-- ---- one message

pub same_held : {F P W : Type 0} (passing : Seen F) (one other : Served F P W)
    → other.mount.tree.nodes ≡ one.mount.tree.nodes → other.mount.beside ≡ one.mount.beside
    → other.mount.sizes ≡ one.mount.sizes → other.outside ≡ one.outside
    → held_over passing other ≡ held_over passing one
same_held passing one other nodes beside sizes outside = rw (nodes, beside, sizes, outside) refl

-- a message was served, and its entries are kept
pub entered_kept : {F P W : Type 0} (contents : W → Option (List ℕ)) (r : Server F P) (header : Header)
    (old mid new : Served F P W) (message made reply : List ℕ)
    → IsServedTo r header (held old) message made (held mid) → GoesOn r.state old.mount.tree.volume mid.mount.tree.volume
    → mid.ledger ≡ old.ledger
    → held_over mid.mount.tree.volume new ≡ held mid
    → Stays mid.ledger.keeping new.ledger.keeping mid.mount.tree.volume new.mount.tree.volume
    ⊎ IsHandedOut contents mid.ledger.keeping new.ledger.keeping mid.mount.tree.volume new.mount.tree.volume
    → reply ≡ made
    → Advances contents (λ first from to. IsEntered contents first r header from message reply to) old new
entered_kept contents r header old mid new message made reply served goes ledger same kept told first is_filed handed current
    =
    let here = subst (λ l. IsCurrent contents first is_filed l.keeping handed) (sym ledger) current in
    let moved = moved_either contents first is_filed mid.ledger.keeping new.ledger.keeping mid.mount.tree.volume
    new.mount.tree.volume handed here kept in (
      moved.0,
      record {
        passing = mid.mount.tree.volume;
        made = made;
        served = subst (λ h. IsServedTo r header (held old) message made h) (sym same) served;
        goes_on = goes;
        kept = inl (record {
          opened = moved.1.opened ∙ ap (λ l. is_open l.keeping) ledger;
          moves = moved.1.moves;
          same = told;
        });
        lines = moved.1.lines;
      },
      moved.1.current,
    )

-- the same, and the file does not take them
pub entered_lost : {F P W : Type 0} (contents : W → Option (List ℕ)) (r : Server F P) (header : Header)
    (old mid new : Served F P W) (message made reply : List ℕ)
    → IsServedTo r header (held old) message made (held mid) → GoesOn r.state old.mount.tree.volume mid.mount.tree.volume
    → mid.ledger ≡ old.ledger
    → held_over mid.mount.tree.volume new ≡ held mid
    → IsShut mid.ledger.keeping new.ledger.keeping mid.mount.tree.volume new.mount.tree.volume
    → reply ≡ lost_reply header.unique made
    → Advances contents (λ first from to. IsEntered contents first r header from message reply to) old new
entered_lost contents r header old mid new message made reply served goes ledger same shut told first is_filed handed current
    =
    let here = subst (λ l. IsCurrent contents first is_filed l.keeping handed) (sym ledger) current in (
      handed,
      record {
        passing = mid.mount.tree.volume;
        made = made;
        served = subst (λ h. IsServedTo r header (held old) message made h) (sym same) served;
        goes_on = goes;
        kept = inr (record {
          opened = sym (ap (λ l. is_open l.keeping) ledger) ∙ ap is_open shut.was;
          shut = ap is_open shut.is;
          handed = refl;
          volume = shut.volume;
          told = told;
        });
        lines = subst (λ k. HasLines contents first k (handed ++ new.mount.tree.volume.journal)) (sym shut.is) tt;
      },
      shut_current contents first is_filed mid.ledger.keeping new.ledger.keeping mid.mount.tree.volume
          new.mount.tree.volume handed here shut,
    )

-- a message of this header was served, by whether its entries are kept
pub answered_of : {F P W V E : Type 0} (contents : W → Option (List ℕ)) (r : Server F P) (header : Header)
    (found : Option Header) (old mid new : Served F P W) (message made : List ℕ) (items : V → List ℕ)
    (result : Result V E) (is_kept : Bool) → found ≡ Some header
    → IsServedTo r header (held old) message made (held mid) → GoesOn r.state old.mount.tree.volume mid.mount.tree.volume
    → mid.ledger ≡ old.ledger
    → held_over mid.mount.tree.volume new ≡ held mid
    → (is_kept ≡ true
    → Stays mid.ledger.keeping new.ledger.keeping mid.mount.tree.volume new.mount.tree.volume
    ⊎ IsHandedOut contents mid.ledger.keeping new.ledger.keeping mid.mount.tree.volume new.mount.tree.volume)
    → (is_kept ≡ false → IsShut mid.ledger.keeping new.ledger.keeping mid.mount.tree.volume new.mount.tree.volume)
    → (is_kept ≡ true → IfOk result (λ told. items told ≡ made))
    → (is_kept ≡ false → IfOk result (λ told. items told ≡ lost_reply header.unique made))
    → IfOk result (λ told. Advances contents
    (λ first from to. IsServedOf contents first r found from message (items told) to) old new)
answered_of contents r header found old mid new message made items (Ok told) true is served goes ledger same kept shut said lost
    =
    subst (λ (h : Option Header). Advances contents
    (λ first from to. IsServedOf contents first r h from message (items told) to) old new) (sym is)
    (entered_kept contents r header old mid new message made (items told) served goes ledger same (kept refl) (said refl))
answered_of contents r header found old mid new message made items (Ok told) false is served goes ledger same kept shut said
    lost =
    subst (λ (h : Option Header). Advances contents
    (λ first from to. IsServedOf contents first r h from message (items told) to) old new) (sym is)
    (entered_lost contents r header old mid new message made (items told) served goes ledger same (shut refl) (lost refl))
answered_of contents r header found old mid new message made items (Err fault) is_kept is served goes ledger same kept shut
    said lost = tt

-- what is done behind a message
pub rested_on : {F P W : Type 0} (contents : W → Option (List ℕ)) (state : F → StoreState)
    (old new : Served F P W) (passed : Seen F)
    → (state passed.store).content ≡ (state old.mount.tree.volume.store).content
    → passed.level ≡ old.mount.tree.volume.level → GoesOn state old.mount.tree.volume passed
    → held_over passed new ≡ held_over passed old
    → GoesOrShuts contents old.ledger.keeping new.ledger.keeping passed new.mount.tree.volume
    → Advances contents (λ first from to. HasRested contents first state from to) old new
rested_on contents state old new passed content level goes_on beside (inl kept) first is_filed handed current =
    let moved = moved_either contents first is_filed old.ledger.keeping new.ledger.keeping passed
    new.mount.tree.volume handed current kept in (
      moved.0,
      record {
        passed = passed;
        content = content;
        level = level;
        goes_on = goes_on;
        moves = inl moved.1.moves;
        beside = beside;
        lines = moved.1.lines;
      },
      moved.1.current,
    )
rested_on contents state old new passed content level goes_on beside (inr (inl gone)) first is_filed handed current =
    let moved = moved_away contents first is_filed old.ledger.keeping new.ledger.keeping passed
    new.mount.tree.volume handed current gone in (
      handed ++ passed.journal,
      record {
        passed = passed;
        content = content;
        level = level;
        goes_on = goes_on;
        moves = inl moved.moves;
        beside = beside;
        lines = moved.lines;
      },
      moved.current,
    )
rested_on contents state old new passed content level goes_on beside (inr (inr shut)) first is_filed handed current = (
  handed,
  record {
    passed = passed;
    content = content;
    level = level;
    goes_on = goes_on;
    moves = inr (refl, shut.volume);
    beside = beside;
    lines = subst (λ k. HasLines contents first k (handed ++ new.mount.tree.volume.journal)) (sym shut.is) tt;
  },
  shut_current contents first is_filed old.ledger.keeping new.ledger.keeping passed new.mount.tree.volume
      handed current shut,
)

-- ---- a talk

-- one who is described by what is done wherever the journal stands
abbrev pub advancing : {F P W : Type 0} → (W → Option (List ℕ)) → Server F P → Answering (Served F P W)
advancing contents r =
    answering_of (λ old message reply new. Advances contents
    (λ first from to. IsServed contents first r from message reply to) old new)
    (λ old new. Advances contents (λ first from to. HasRested contents first r.state from to) old new)

-- a file has the lines of all entries, and is current
pub record Stands {F P W : Type 0} (contents : W → Option (List ℕ)) (first : Option (List ℕ)) (is_filed : Bool)
    (served : Served F P W) (handed : List Entry) : Type 0 where
  pub lines : HasLines contents first served.ledger.keeping (handed ++ served.mount.tree.volume.journal)
  pub current : IsCurrent contents first is_filed served.ledger.keeping handed

-- messages were answered, from where the journal stands
course_all : {F P W : Type 0} (contents : W → Option (List ℕ)) (r : Server F P) (first : Option (List ℕ))
    (is_filed : Bool) (old new : Served F P W) (handed : List Entry) (messages replies : List (List ℕ))
    → AreAnswered (advancing contents r) old messages replies new → Stands contents first is_filed old handed
    → (after : List Entry)
    × AreAnswered (serving contents first r) (course_of old handed) messages replies (course_of new after)
    × Stands contents first is_filed new after
course_all contents r first is_filed old new handed [] [] same stands = (
  handed,
  ap (λ s. course_of s handed) same,
  subst (λ s. Stands contents first is_filed s handed) (sym same) stands,
)
course_all contents r first is_filed old new handed [] (reply ∷ replies) none stands = absurd none
course_all contents r first is_filed old new handed (message ∷ messages) [] none stands = absurd none
course_all contents r first is_filed old new handed (message ∷ messages) (reply ∷ replies) answered stands =
    let middle = answered.0 in
    let after = answered.1 in
    let given = answered.3 first is_filed handed stands.current in
    let rested = answered.4 first is_filed given.0 given.2 in
    let rest = course_all contents r first is_filed after new rested.0 messages replies answered.5
    (record { lines = rested.1.lines; current = rested.2 }) in
    (rest.0, (course_of middle given.0, course_of after rested.0, answered.2, given.1, rested.1, rest.1), rest.2)

-- a whole talk
pub course_talk : {F P W : Type 0} (contents : W → Option (List ℕ)) (r : Server F P) (first : Option (List ℕ))
    (is_filed : Bool) (left_over : Frame) (old new : Served F P W) (handed : List Entry) (is_whole : Bool)
    (known left start out : Option (List ℕ))
    → HasTalked (advancing contents r) left_over old new is_whole known left start out
    → Stands contents first is_filed old handed
    → (after : List Entry)
    × HasTalked (serving contents first r) left_over (course_of old handed) (course_of new after) is_whole
    known left start out
    × Stands contents first is_filed new after
course_talk contents r first is_filed left_over old new handed is_whole known left start out talked stands =
    let all = talked.answered in
    let course = course_all contents r first is_filed old new handed all.messages all.replies all.answered stands in (
      course.0,
      record {
        bytes = talked.bytes;
        behind = talked.behind;
        taken = talked.taken;
        answered = record {
          messages = all.messages;
          replies = all.replies;
          cut = all.cut;
          answered = course.1;
          sent = all.sent;
          over = all.over;
        };
      },
      course.2,
    )

-- ---- a mount that was asked for

-- a file that gets the first line next has those of no entry
first_current : {W : Type 0} (contents : W → Option (List ℕ)) (first : Option (List ℕ)) (is_filed : Bool)
    (keeping : Keeping W) → IsFirst contents first is_filed keeping → IsCurrent contents first is_filed keeping []
first_current contents first true (File sink) begun =
    (subst (λ (k : Option (List ℕ)). Appends first k []) (sym begun.0) (Appends-nil first), omega (arith, begun.1))
first_current contents first true Nowhere begun = absurd begun
first_current contents first true Closed begun = absurd begun
first_current contents first false Nowhere begun = tt
first_current contents first false (File sink) begun = absurd begun
first_current contents first false Closed begun = absurd begun

current_lines : {W : Type 0} (contents : W → Option (List ℕ)) (first : Option (List ℕ)) (is_filed : Bool)
    (keeping : Keeping W) (handed journal : List Entry) → journal ≡ []
    → IsCurrent contents first is_filed keeping handed → HasLines contents first keeping (handed ++ journal)
current_lines contents first is_filed keeping handed journal none current =
    lines_with contents first is_filed keeping handed journal (λ _ _. none) current

begun_stands : {F P W : Type 0} (contents : W → Option (List ℕ)) (kind : Kind F P) (options : Options)
    (first : Option (List ℕ)) (old : Served F P W) → BeginsServing contents kind options first old
    → Stands contents first (is_some options.journal_out) old []
begun_stands contents kind options first old begun =
    let current = first_current contents first (is_some options.journal_out) old.ledger.keeping begun.file in
    record {
      lines = current_lines contents first (is_some options.journal_out) old.ledger.keeping []
          old.mount.tree.volume.journal begun.volume.empty current;
      current = current;
    }

-- a file that takes more at the end has all lines, where one is asked for
file_of : {A W : Type 0} (contents : W → Option (List ℕ)) (asked : Option A) (first : Option (List ℕ))
    (old new : Keeping W) (handed entries : List Entry) → IsFirst contents first (is_some asked) old
    → IsCurrent contents first (is_some asked) new handed → HasLines contents first new entries
    → is_open new ≡ true → IfSome asked (λ _. HasFile contents entries)
file_of contents None first old new handed entries begun current lines opened = tt
file_of contents (Some path) first (File sink) (File then) handed entries begun current lines opened = record {
  before = sink.writer;
  after = then.writer;
  lines = subst (λ (k : Option (List ℕ)). Appends k (contents then.writer) (numbered_text 1 entries)) (sym begun.0)
      lines;
}
file_of contents (Some path) first (File sink) Nowhere handed entries begun current lines opened = absurd current
file_of contents (Some path) first (File sink) Closed handed entries begun current lines opened = absurd (cc)
file_of contents (Some path) first Nowhere new handed entries begun current lines opened = absurd begun
file_of contents (Some path) first Closed new handed entries begun current lines opened = absurd begun

-- a file that takes no more was asked for
asked_for : {A W : Type 0} (contents : W → Option (List ℕ)) (asked : Option A) (first : Option (List ℕ))
    (keeping : Keeping W) (handed : List Entry) → IsCurrent contents first (is_some asked) keeping handed
    → is_open keeping ≡ false → IsSome asked
asked_for contents (Some path) first keeping handed current shut = refl
asked_for contents None first Nowhere handed current shut = absurd (cc)
asked_for contents None first (File sink) handed current shut = absurd current
asked_for contents None first Closed handed current shut = absurd current

-- what a mount served, by what it answered
pub served_all : {F P W : Type 0} (contents : W → Option (List ℕ)) (kind : Kind F P) (options : Options)
    (first : Option (List ℕ)) (old new : Served F P W) (known left start out : Option (List ℕ)) (left_over : Frame)
    (is_whole is_kept is_saved : Bool) → BeginsServing contents kind options first old
    → HasTalked (advancing contents kind.server) left_over old new is_whole known left start out
    → is_open new.ledger.keeping ≡ is_kept
    → (is_saved ≡ true → IfSome options.image (λ _. IsKept contents kind.server.state new.mount.tree.volume))
    → HasServed contents kind options known left start out left_over is_whole is_kept is_saved
served_all contents kind options first old new known left start out left_over is_whole is_kept is_saved begun talked
    opened saved =
    let r = kind.server in
    let course = course_talk contents r first (is_some options.journal_out) left_over old new [] is_whole known left
    start out talked (begun_stands contents kind options first old begun) in
    record {
      first = first;
      old = old;
      new = course_of new course.0;
      begun = begun;
      talked = course.1;
      legal = led_to r.state old.mount.tree.volume new.mount.tree.volume course.0
          (led_all contents first r old.mount.tree.volume (course_of old []) (course_of new course.0)
          course.1.answered.messages course.1.answered.replies course.1.answered.answered
          (led_first r.state old.mount.tree.volume begun.volume.empty begun.volume.since begun.volume.since_level));
      kept = opened;
      filed = λ kept. file_of contents options.journal_out first old.ledger.keeping new.ledger.keeping course.0
          (course.0 ++ new.mount.tree.volume.journal) begun.file course.2.current course.2.lines (opened ∙ kept);
      saved = saved;
    }

-- its file was asked for, where that took no more
pub shut_asked : {F P W : Type 0} (contents : W → Option (List ℕ)) (kind : Kind F P) (options : Options)
    (first : Option (List ℕ)) (old new : Served F P W) (known left start out : Option (List ℕ)) (left_over : Frame)
    (is_whole : Bool) → BeginsServing contents kind options first old
    → HasTalked (advancing contents kind.server) left_over old new is_whole known left start out
    → is_open new.ledger.keeping ≡ false → IsSome options.journal_out
shut_asked contents kind options first old new known left start out left_over is_whole begun talked shut =
    let course = course_talk contents kind.server first (is_some options.journal_out) left_over old new [] is_whole
    known left start out talked (begun_stands contents kind options first old begun) in
    asked_for contents options.journal_out first new.ledger.keeping course.0 course.2.current shut

-- what a file holds that was just made, where there is one
pub first_of : {W : Type 0} → (W → Option (List ℕ)) → Option W → Option (List ℕ)
first_of contents None = None
first_of contents (Some file) = contents file

pub begun_file : {A W : Type 0} (contents : W → Option (List ℕ)) (asked : Option A) (file : Option W)
    (keeping : Keeping W) → is_some file ≡ is_some asked → (is_some file ≡ false → IsFirst contents None false keeping)
    → IfSome file (λ file. IsFirst contents (contents file) true keeping)
    → IsFirst contents (first_of contents file) (is_some asked) keeping
unfolding first_of
begun_file contents None None keeping same none some = none refl
begun_file contents (Some path) (Some file) keeping same none some = some
begun_file contents None (Some file) keeping same none some = absurd (cc)
begun_file contents (Some path) None keeping same none some = absurd (cc)
