-- One message answered.
use Rattle.std.specs.Prelude.{◌≡◌, ◌⊎◌, ℕ, Bool, true, List, ◌++◌, Option}
use Rattle.std.specs.Io.KnownBytes.{Appends}
use Rattle.lfs_fuse_talk.specs.Talking.{Answering}
use Rattle.lfs_fuse_talk.specs.declared.fault.TalkFault.{TalkFault}
use Rattle.lfs_fuse_talk.specs.declared.fault.TalkFault.TheVariants.{Memory, Message}

-- a reply was written: whole, or a part of it from its front
pub record IsSent (reply : List ℕ) (is_whole : Bool) (start out : Option (List ℕ)) : Type 0 where
  pub part : List ℕ
  pub rest : List ℕ
  pub front : part ++ rest ≡ reply
  pub whole : is_whole ≡ true → part ≡ reply
  pub written : Appends start out part

-- a message was answered, and its reply written
pub record IsAnswered {M : Type 0} (r : Answering M) (old new : M) (message : List ℕ)
    (is_whole : Bool)
    (start out : Option (List ℕ)) : Type 0 where
  pub reply : List ℕ
  pub middle : M
  pub answered : r.answers old message reply middle
  pub rested : r.rests middle new
  pub sent : IsSent reply is_whole start out

-- a talk itself may end in this fault
abbrev pub IsTalkFault : TalkFault → Type 0
IsTalkFault fault = (fault ≡ Message) ⊎ (fault ≡ Memory)
