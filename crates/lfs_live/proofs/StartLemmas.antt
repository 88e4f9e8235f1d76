-- Talks over fresh volumes: `fresh_log`, `log_fault`, `begun_talk`, `begun_heard` and `kept_as` for `run_kept`;
-- lfs_programs takes `begun`. A volume that was just laid out has no entries, and nothing was counted of it, so it is
-- one with which a talk begins, and what is promised of a talk holds of it; its journal began at the opening tree. No
-- fault of a talk is one of the format, so it is one of those over a fresh volume (`log_fault`).
use Rattle.std.proofs.Common.{◌≡◌, ℕ, Bool, List, [], refl, subst, sym, Option, Result, Ok, Err, IfErr}
use Rattle.lfs_parts.specs.declared.parts.Parts.{Parts}
use Rattle.lfs_types.specs.Tree.{opening_world}
use Rattle.lfs_types.specs.declared.level.Level.{Level}
use Rattle.lfs_logstore.specs.States.{state_of}
use Rattle.lfs_sinks.specs.Refusals.{tally_of}
use Rattle.lfs_volume.specs.Journals.{Begins}
use Rattle.lfs_volume.specs.Seen.{Seen}
use Rattle.lfs_audit.specs.declared.fault.RunFault.{RunFault}
use Rattle.lfs_audit.specs.declared.fault.RunFault.TheVariants.{Read, TooLong, Script, Format, Memory, Write}
use Rattle.lfs_live.specs.Faults.{IsTalkFault}
use Rattle.lfs_live.specs.Held.{HasBegun, Held, Sink, course_of}
use Rattle.lfs_live.specs.Scripts.{HasHeardOver, IsFresh, IsKeptTalkOver, IsLogFault, Manner, log_talker}
use Rattle.lfs_live.specs.Talking.{HasKeptSoFar, IsKeptTalk}
use Rattle.lfs_server.specs.Fresh.{IsFreshLog}

-- a fresh volume
pub fresh_log : (segments inodes frames limit : ℕ) (v : Seen Parts) → v.journal ≡ [] → v.limit ≡ limit
    → IsFreshLog segments inodes frames v.store
    → Begins (state_of v.since) v.since_level opening_world → IsFresh segments inodes frames limit v
fresh_log segments inodes frames limit v empty room log begins =
    record { log = log; empty = empty; begins = begins; room = room }

-- the fault of a talk is one over a fresh volume
pub log_fault : {A : Type 0} (segments inodes frames : ℕ) (outcome : Result A RunFault) → IfErr outcome IsTalkFault
    → IfErr outcome (IsLogFault segments inodes frames)
log_fault segments inodes frames (Ok x) cause = tt
log_fault segments inodes frames (Err Read) cause = cause
log_fault segments inodes frames (Err TooLong) cause = cause
log_fault segments inodes frames (Err (Script fault)) cause = cause
log_fault segments inodes frames (Err (Format fault)) cause = absurd cause
log_fault segments inodes frames (Err Memory) cause = cause
log_fault segments inodes frames (Err Write) cause = cause

-- a volume that is talked to from now on
abbrev pub begun : {F J : Type 0} → Seen F → J → Manner → Held F J
begun volume sink manner = record {
  volume = volume;
  sink = sink;
  tally = tally_of [] [];
  is_open = manner.is_open;
  cleans = manner.cleans;
}

-- a talk over a volume that begins so, with its end
abbrev pub begun_talk : {J : Type 0} (are : Parts → Level → Type 0) (sink : Sink J) (begins : Seen Parts → Type 0) (volume : Seen Parts) (j : J)
    (manner : Manner) (old new : Held Parts J) (has_fault : Bool) (known left start out : Option (List ℕ))
    → old ≡ begun volume j manner → begins volume → volume.journal ≡ []
    → (HasBegun old → IsKeptTalk (log_talker are) manner.framing sink old new has_fault known left start out)
    → IsKeptTalkOver are begins manner new.is_open (sink.next j) (sink.contents j) (sink.contents new.sink) known left start
    out
begun_talk {J} are sink begins volume j manner old new has_fault known left start out is begin empty talk =
    let ended = subst (λ (h : Held Parts J). HasBegun h
    → IsKeptTalk (log_talker are) manner.framing sink h new has_fault known left start out) is talk (refl, empty) in
    record {
      talk = record { old = volume; new = course_of new ended.handed ended.answers; begun = begin; talk = ended.talk };
      kept = λ taking. (ended.kept taking).lines;
    }

-- up to a read that failed
pub begun_heard : {J : Type 0} (are : Parts → Level → Type 0) (sink : Sink J) (begins : Seen Parts → Type 0) (volume : Seen Parts) (j : J)
    (manner : Manner) (old new : Held Parts J) (known left start out : Option (List ℕ))
    → old ≡ begun volume j manner → begins volume → volume.journal ≡ []
    → (HasBegun old → HasKeptSoFar (log_talker are) manner.framing sink old new known left start out)
    → HasHeardOver are begins manner known left start out
begun_heard {J} are sink begins volume j manner old new known left start out is begin empty heard =
    let so_far = subst (λ (h : Held Parts J). HasBegun h
    → HasKeptSoFar (log_talker are) manner.framing sink h new known left start out) is heard (refl, empty) in
    record {
      old = volume;
      new = course_of new so_far.handed so_far.answers;
      begun = begin;
      so_far = so_far.so_far;
    }

-- the sink and whether it takes more, as they are handed back
pub kept_as : {J : Type 0} (are : Parts → Level → Type 0) (sink : Sink J) (begins : Seen Parts → Type 0) (manner : Manner) (new : Held Parts J)
    (last : J) (is_open : Bool) (number : ℕ) (first known left start out : Option (List ℕ))
    → last ≡ new.sink → is_open ≡ new.is_open
    → IsKeptTalkOver are begins manner new.is_open number first (sink.contents new.sink) known left start out
    → IsKeptTalkOver are begins manner is_open number first (sink.contents last) known left start out
kept_as {J} are sink begins manner new last is_open number first known left start out same still talk =
    subst (λ (b : Bool). IsKeptTalkOver are begins manner b number first (sink.contents last) known left start out)
    (sym still)
    (subst (λ (j : J). IsKeptTalkOver are begins manner new.is_open number first (sink.contents j) known left start out)
    (sym same) talk)
