-- Messages are answered one after another: `left_less` for `write`, `so_far_next` for `answer_all`, `talked_next` and
-- `talked_bad` for `talk`. The messages that were answered are cut from the front of the bytes that were read, and what
-- is left is behind them (`SoFar`); a read puts bytes behind what is left, so the messages are the same however reads
-- cut the bytes (`talked_far`). Of each reply a front was written, and the whole of it where `is_whole` says so: this
-- is the conjunction over all replies (`AreSent-append`), so that one cut reply makes it false for the talk.
use Rattle.std.proofs.Common.{◌≡◌, ℕ, Bool, true, false, ◌&&◌, List, [], ◌∷◌, ◌++◌, take, drop, Option}
use Rattle.std.proofs.Common.{refl, sym, ap, subst, ◌∙◌, append_assoc, append-nil}
use Rattle.std.specs.List.{concat}
use Rattle.std.specs.Io.KnownBytes.{Appends, Consumes}
use Rattle.std.proofs.KnownBytes.{Appends-nil, Appends-trans, Consumes-nil, Consumes-trans}
use Rattle.std.proofs.lemmas.List.{take-append-drop}
use Rattle.std.proofs.lemmas.List.Folds.{concat-append}
use Rattle.lfs_fuse_wire.specs.declared.framing.Frame.{Frame}
use Rattle.lfs_fuse_wire.specs.declared.framing.Frame.TheVariants.{Partial}
use Rattle.lfs_fuse_talk.specs.Fronts.{IsFirstOf, frame_of}
use Rattle.lfs_fuse_talk.specs.Steps.{IsAnswered, IsSent}
use Rattle.lfs_fuse_talk.specs.Talking.{Answering, AreAnswered, AreFronts, AreSent, HasAnswered, HasTalked}

-- ---- one reply

-- of a reply this is left to be written
pub record IsLeft (reply rest : List ℕ) (start out : Option (List ℕ)) : Type 0 where
  pub gone : List ℕ
  pub front : gone ++ rest ≡ reply
  pub written : Appends start out gone

-- so many bytes were written
pub left_less : (reply rest : List ℕ) (start out more : Option (List ℕ)) (count : ℕ) (behind : List ℕ)
    → IsLeft reply rest start out → Appends out more (take count rest) → behind ≡ drop count rest
    → IsLeft reply behind start more
left_less reply rest start out more count behind left written same = record {
  gone = left.gone ++ take count rest;
  front = append_assoc left.gone (take count rest) behind
      ∙ ap (λ l. left.gone ++ l) (ap (λ l. take count rest ++ l) same ∙ take-append-drop count rest) ∙ left.front;
  written = Appends-trans start out more left.gone (take count rest) left.written written;
}

and_first : (a b : Bool) → (a && b) ≡ true → a ≡ true
and_first true b is = refl
and_first false b is = is

and_second : (a b : Bool) → (a && b) ≡ true → b ≡ true
and_second true b is = is
and_second false b is = absurd (cc)

-- ---- replies

AreFronts-append : (parts replies more next : List (List ℕ)) → AreFronts parts replies → AreFronts more next
    → AreFronts (parts ++ more) (replies ++ next)
AreFronts-append [] [] more next first then = then
AreFronts-append [] (reply ∷ replies) more next first then = absurd first
AreFronts-append (part ∷ parts) [] more next first then = absurd first
AreFronts-append (part ∷ parts) (reply ∷ replies) more next first then =
    (first.0, AreFronts-append parts replies more next first.1 then)

sent_none : (is_whole : Bool) (start : Option (List ℕ)) → AreSent [] is_whole start start
sent_none is_whole start = record { parts = []; fronts = tt; whole = λ _. refl; written = Appends-nil start }

sent_one : (reply : List ℕ) (is_whole : Bool) (start out : Option (List ℕ)) → IsSent reply is_whole start out
    → AreSent (reply ∷ []) is_whole start out
sent_one reply is_whole start out sent = record {
  parts = sent.part ∷ [];
  fronts = ((sent.rest, sent.front), tt);
  whole = λ is. ap (λ l. l ∷ []) (sent.whole is);
  written = subst (λ l. Appends start out l) (sym (append-nil sent.part)) sent.written;
}

AreSent-append : (replies more : List (List ℕ)) (is_whole are : Bool) (start out then : Option (List ℕ))
    → AreSent replies is_whole start out → AreSent more are out then
    → AreSent (replies ++ more) (is_whole && are) start then
AreSent-append replies more is_whole are start out then first next = record {
  parts = first.parts ++ next.parts;
  fronts = AreFronts-append first.parts replies next.parts more first.fronts next.fronts;
  whole = λ is. ap (λ l. l ++ next.parts) (first.whole (and_first is_whole are is))
      ∙ ap (λ l. replies ++ l) (next.whole (and_second is_whole are is));
  written = subst (λ l. Appends start then l) (sym (concat-append first.parts next.parts))
      (Appends-trans start out then (concat first.parts) (concat next.parts) first.written next.written);
}

sent_false : (replies : List (List ℕ)) (is_whole : Bool) (start out : Option (List ℕ))
    → AreSent replies is_whole start out → AreSent replies false start out
sent_false replies is_whole start out sent = record {
  parts = sent.parts;
  fronts = sent.fronts;
  whole = λ is. absurd (cc);
  written = sent.written;
}

-- ---- messages

AreAnswered-append : {M : Type 0} (r : Answering M) (old middle new : M) (messages replies more next : List (List ℕ))
    → AreAnswered r old messages replies middle → AreAnswered r middle more next new
    → AreAnswered r old (messages ++ more) (replies ++ next) new
AreAnswered-append {M} r old middle new [] [] more next first then =
    subst (λ (m : M). AreAnswered r m more next new) first then
AreAnswered-append r old middle new [] (reply ∷ replies) more next first then = absurd first
AreAnswered-append r old middle new (message ∷ messages) [] more next first then = absurd first
AreAnswered-append r old middle new (message ∷ messages) (reply ∷ replies) more next first then = (
  first.0,
  first.1,
  first.2,
  first.3,
  first.4,
  AreAnswered-append r first.1 middle new messages replies more next first.5 then,
)

-- the messages at the front of bytes were answered, and these are behind them
pub record SoFar {M : Type 0} (r : Answering M) (old new : M) (bytes behind : List ℕ) (is_whole : Bool)
    (start out : Option (List ℕ)) : Type 0 where
  pub messages : List (List ℕ)
  pub replies : List (List ℕ)
  pub cut : concat messages ++ behind ≡ bytes
  pub answered : AreAnswered r old messages replies new
  pub sent : AreSent replies is_whole start out

pub so_far_none : {M : Type 0} (r : Answering M) (old : M) (bytes : List ℕ) (start : Option (List ℕ))
    → SoFar r old old bytes bytes true start start
so_far_none r old bytes start = record {
  messages = [];
  replies = [];
  cut = refl;
  answered = refl;
  sent = sent_none true start;
}

pub so_far_append : {M : Type 0} (r : Answering M) (old middle new : M) (bytes rest behind : List ℕ)
    (is_whole are : Bool) (start out then : Option (List ℕ))
    → SoFar r old middle bytes rest is_whole start out → SoFar r middle new rest behind are out then
    → SoFar r old new bytes behind (is_whole && are) start then
so_far_append r old middle new bytes rest behind is_whole are start out then first next = record {
  messages = first.messages ++ next.messages;
  replies = first.replies ++ next.replies;
  cut = ap (λ l. l ++ behind) (concat-append first.messages next.messages)
      ∙ append_assoc (concat first.messages) (concat next.messages) behind
      ∙ ap (λ l. concat first.messages ++ l) next.cut ∙ first.cut;
  answered = AreAnswered-append r old middle new first.messages first.replies next.messages next.replies
      first.answered next.answered;
  sent = AreSent-append first.replies next.replies is_whole are start out then first.sent next.sent;
}

so_far_one : {M : Type 0} (r : Answering M) (old new : M) (rest message behind : List ℕ) (is_whole : Bool)
    (start out : Option (List ℕ))
    → IsFirstOf rest message behind → IsAnswered r old new message is_whole start out
    → SoFar r old new rest behind is_whole start out
so_far_one r old new rest message behind is_whole start out first step = record {
  messages = message ∷ [];
  replies = step.reply ∷ [];
  cut = ap (λ l. l ++ behind) (append-nil message) ∙ first.cut;
  answered = (step.middle, new, first.whole, step.answered, step.rested, refl);
  sent = sent_one step.reply is_whole start out step.sent;
}

-- one message more
pub so_far_next : {M : Type 0} (r : Answering M) (old middle new : M) (bytes rest message behind : List ℕ)
    (is_whole is_sent : Bool) (start out then : Option (List ℕ))
    → SoFar r old middle bytes rest is_whole start out → IsFirstOf rest message behind
    → IsAnswered r middle new message is_sent out then
    → SoFar r old new bytes behind (is_whole && is_sent) start then
so_far_next r old middle new bytes rest message behind is_whole is_sent start out then so_far first step =
    so_far_append r old middle new bytes rest behind is_whole is_sent start out then so_far
    (so_far_one r middle new rest message behind is_sent out then first step)

-- the same, whether or not each reply was written whole
pub so_far_bad : {M : Type 0} (r : Answering M) (left_over : Frame) (old new : M) (bytes behind : List ℕ)
    (is_whole : Bool) (start out : Option (List ℕ))
    → SoFar r old new bytes behind is_whole start out → frame_of behind ≡ left_over
    → HasAnswered r left_over old new bytes behind false start out
so_far_bad r left_over old new bytes behind is_whole start out so_far over = record {
  messages = so_far.messages;
  replies = so_far.replies;
  cut = so_far.cut;
  answered = so_far.answered;
  sent = sent_false so_far.replies is_whole start out so_far.sent;
  over = over;
}

-- ---- reads

-- what was read was answered, up to these bytes, at whose front no whole message stands
pub record TalkedSoFar {M : Type 0} (r : Answering M) (old new : M) (behind : List ℕ) (is_whole : Bool)
    (known left start out : Option (List ℕ)) : Type 0 where
  pub bytes : List ℕ
  pub taken : Consumes known left bytes
  pub so_far : SoFar r old new bytes behind is_whole start out
  pub over : frame_of behind ≡ Partial

pub talked_none : {M : Type 0} (r : Answering M) (old : M) (pending : List ℕ) (known start : Option (List ℕ)) → pending
    ≡ []
    → TalkedSoFar r old old pending true known known start start
talked_none {M} r old pending known start none = rw none (record {
  bytes = [];
  taken = Consumes-nil known;
  so_far = so_far_none r old [] start;
  over = refl;
})

-- bytes were read, and messages of them answered
talked_far : {M : Type 0} (r : Answering M) (left_over : Frame) (old middle new : M)
    (bytes behind pending chunk rest : List ℕ) (is_whole are : Bool) (start out then : Option (List ℕ))
    → SoFar r old middle bytes behind is_whole start out → pending ≡ behind ++ chunk
    → HasAnswered r left_over middle new pending rest are out then
    → SoFar r old new (bytes ++ chunk) rest (is_whole && are) start then
talked_far {M} r left_over old middle new bytes behind pending chunk rest is_whole are start out then so_far same
    answered =
    let first : SoFar r old middle (bytes ++ chunk) pending is_whole start out = record {
      messages = so_far.messages;
      replies = so_far.replies;
      cut = ap (λ l. concat so_far.messages ++ l) same
          ∙ sym (append_assoc (concat so_far.messages) behind chunk)
          ∙ ap (λ l. l ++ chunk) so_far.cut;
      answered = so_far.answered;
      sent = so_far.sent;
    } in
    let next : SoFar r middle new pending rest are out then = record {
      messages = answered.messages;
      replies = answered.replies;
      cut = answered.cut;
      answered = answered.answered;
      sent = answered.sent;
    } in
    so_far_append r old middle new (bytes ++ chunk) pending rest is_whole are start out then first next

pub talked_next : {M : Type 0} (r : Answering M) (old middle new : M)
    (behind pending chunk rest : List ℕ) (is_whole are : Bool) (known left after start out then : Option (List ℕ))
    → TalkedSoFar r old middle behind is_whole known left start out
    → pending ≡ behind ++ chunk → Consumes left after chunk
    → HasAnswered r Partial middle new pending rest are out then
    → TalkedSoFar r old new rest (is_whole && are) known after start then
talked_next r old middle new behind pending chunk rest is_whole are known left after start out then
    talked same taken answered = record {
      bytes = talked.bytes ++ chunk;
      taken = Consumes-trans known left after talked.bytes chunk talked.taken taken;
      so_far = talked_far r Partial old middle new talked.bytes behind pending chunk rest is_whole are start out then
          talked.so_far same answered;
      over = answered.over;
    }

-- the same, and then no message
pub talked_bad : {M : Type 0} (r : Answering M) (left_over : Frame) (old middle new : M)
    (behind pending chunk rest : List ℕ) (is_whole : Bool) (known left after start out then : Option (List ℕ))
    → TalkedSoFar r old middle behind is_whole known left start out
    → pending ≡ behind ++ chunk → Consumes left after chunk
    → HasAnswered r left_over middle new pending rest false out then
    → HasTalked r left_over old new false known after start then
talked_bad r left_over old middle new behind pending chunk rest is_whole known left after start out then
    talked same taken answered = record {
      bytes = talked.bytes ++ chunk;
      behind = rest;
      taken = Consumes-trans known left after talked.bytes chunk talked.taken taken;
      answered = so_far_bad r left_over old new (talked.bytes ++ chunk) rest (is_whole && false) start then
          (talked_far r left_over old middle new talked.bytes behind pending chunk rest is_whole false start out then
          talked.so_far same answered) answered.over;
    }
