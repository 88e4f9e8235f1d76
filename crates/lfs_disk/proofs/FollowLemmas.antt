-- A memory to which blocks are appended follows on (`appended_follows`), also where a segment is opened before
-- (`opened_follows`), and zeros stand behind its end still (`appended_blank`, `opened_blank`).
use Rattle.std.proofs.Common.{◌≡◌, ◌≢◌, ℕ, ◌+◌, ◌*◌, ◌<◌, ◌≤◌, inl, inr, List, length, refl, sym, ap, subst, ◌∙◌}
use Rattle.std.proofs.Common.{⊎_elim, arith}
use Rattle.lfs_segments.specs.Log.{first_of}
use Rattle.lfs_segments.specs.Memory.{IsLaidOut, SegmentMemory, appended, next_address, opened}
use Rattle.lfs_segments.specs.Memory.{room_of}
use Rattle.lfs_segments.proofs.MemoryLemmas.{log_start-le}
use Rattle.lfs_segments.proofs.WritingLemmas.{block_at-appended_behind, block_at-appended_older, block_at-opened}
use Rattle.lfs_segments.proofs.WritingLemmas.{block_at-opened_other}
use Rattle.lfs_disk.specs.Mirroring.{FollowsOn, IsBlankBehind}

pub appended_blank : (m : SegmentMemory) (others : List (List ℕ)) → IsLaidOut m → length others ≤ room_of m
    → IsBlankBehind m → IsBlankBehind (appended m others)
appended_blank m others laid fits blank a from below =
    block_at-appended_behind m others laid fits a (omega arith) ∙ blank a (omega arith) below

pub appended_follows : (m : SegmentMemory) (others : List (List ℕ)) → IsLaidOut m → IsLaidOut (appended m others)
    → length others ≤ room_of m → FollowsOn m (appended m others)
appended_follows m others laid then fits =
    let was = laid.whole in
    let is = then.whole in
    record {
      segments = refl;
      either = inl (record {
        active = refl;
        ordered = omega arith;
        blocks = record {
          long = omega arith;
          outside = λ a out. ⊎_elim
              (λ (before : a < next_address m). block_at-appended_older m others laid fits a (inl before))
              (λ (past : next_address (appended m others) ≤ a).
              block_at-appended_behind m others laid fits a (omega arith))
              out;
        };
      });
    }

pub opened_blank : (m : SegmentMemory) (segment : ℕ) → IsLaidOut m → segment < m.segments
    → IsBlankBehind (opened m segment)
opened_blank m segment laid inside a from below = block_at-opened m segment laid inside a from below

pub opened_follows : (m : SegmentMemory) (segment : ℕ) (others : List (List ℕ)) → IsLaidOut m → segment < m.segments
    → segment ≢ m.active → IsLaidOut (opened m segment) → IsLaidOut (appended (opened m segment) others)
    → length others ≤ room_of (opened m segment) → FollowsOn m (appended (opened m segment) others)
opened_follows m segment others laid inside other mid then fits =
    let was = laid.whole in
    let is = then.whole in
    let start = log_start-le segment in
    record {
      segments = refl;
      either = inr (record {
        active = other;
        blocks = record {
          long = omega arith;
          outside = λ a out. ⊎_elim
              (λ (before : a < first_of segment).
              block_at-appended_older (opened m segment) others mid fits a (inl before)
              ∙ block_at-opened_other m segment laid inside a (inl before))
              (λ (past : segment * 64 + 64 ≤ a).
              block_at-appended_older (opened m segment) others mid fits a (inr past)
              ∙ block_at-opened_other m segment laid inside a (inr past))
              out;
        };
      });
    }

-- the same of the memories that calls leave
pub append_follows : (m then : SegmentMemory) (others : List (List ℕ)) → then ≡ appended m others → IsLaidOut m
    → IsLaidOut then → length others ≤ room_of m → FollowsOn m then
append_follows m then others is laid behind fits =
    subst (FollowsOn m) (sym is) (appended_follows m others laid (subst IsLaidOut is behind) fits)

pub open_follows : (m mid then : SegmentMemory) (segment : ℕ) (others : List (List ℕ)) → mid ≡ opened m segment
    → then ≡ appended mid others → IsLaidOut m → IsLaidOut mid → IsLaidOut then → segment < m.segments
    → segment ≢ m.active → length others ≤ room_of mid → FollowsOn m then
open_follows m mid then segment others is more laid between behind inside other fits =
    let all : then ≡ appended (opened m segment) others = more ∙ ap (λ (x : SegmentMemory). appended x others) is in
    subst (FollowsOn m) (sym all)
    (opened_follows m segment others laid inside other (subst IsLaidOut is between) (subst IsLaidOut all behind)
    (subst (λ (x : SegmentMemory). length others ≤ room_of x) is fits))
