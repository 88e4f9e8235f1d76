-- What is kept of files, or why nothing is, slot by slot: `looked_for_next` for a slot more and `looked_for_each` for all,
-- `prepared_before` where the volume was looked at meanwhile, and `last_prepared` for `Mount::prepare`. `piece_lacks` says
-- why a look shows no bytes.
use Rattle.std.proofs.Common.{◌≡◌, ◌≢◌, ℕ, ◌-◌, ◌<◌, ◌≤◌, List, Option, None, Some, Result, Ok, Err, refl, sym, subst, length}
use Rattle.std.proofs.Common.{◌∙◌, ◌+◌, ◌⊎◌, inl, inr, arith}
use Rattle.std.proofs.lemmas.Bool.{cases_order}
use Rattle.std.proofs.lemmas.List.{get_or_past}
use Rattle.std.specs.Prelude.{IfErr, IfOk, slice_index_or}
use Rattle.lfs_types.specs.Caller.{Caller}
use Rattle.lfs_types.specs.StoreStates.{StoreState}
use Rattle.lfs_types.specs.declared.answer.Answer.{Answer}
use Rattle.lfs_types.specs.declared.answer.Answer.TheVariants.{Served, Denied, Refused}
use Rattle.lfs_types.specs.declared.request.Request.TheVariants.{Read}
use Rattle.lfs_model.specs.Rules.{decide}
use Rattle.lfs_model.specs.Steps.{world_after}
use Rattle.lfs_calls.specs.Outcomes.{IsOutcome}
use Rattle.lfs_volume.specs.Journals.{AtPresent}
use Rattle.lfs_volume.specs.Seen.{Seen}
use Rattle.lfs_nodes.specs.declared.parts.Parts.{Parts}
use Rattle.lfs_stamps.specs.declared.stamps.Stamps.{Stamps}
use Rattle.lfs_opens.specs.Opens.{opener_of}
use Rattle.lfs_opens.specs.Rewritten.{bytes_kept}
use Rattle.lfs_opens.specs.declared.kept.Kept.{Kept}
use Rattle.lfs_opens.specs.declared.kept.OpenFile.{OpenFile}
use Rattle.lfs_opens.specs.declared.kept.KeepingFault.{KeepingFault}
use Rattle.lfs_opens.specs.declared.kept.KeepingFault.TheVariants as lack
use Rattle.lfs_mount.specs.Leaving.{ArePrepared, IsAnswerOf, IsKept, IsLastLook, IsLastMiss, IsLooked, IsLookedFor, bytes_at}
use Rattle.lfs_mount.specs.Leaving.{IsPrepared, IsReadBy, IsSeenIn, IsSight, IsSightOr, IsUnseen, IsUnseenIn, OnOpener}
use Rattle.lfs_mount.specs.declared.sight.Sight.{Sight}
use Rattle.lfs_mount.proofs.LookedLemmas.{before_look}

-- ---- a look that shows no bytes

module _ {F : Type 0} (state : F → StoreState) (old : Seen F) (caller : Caller) (path : List (List ℕ))
    (off len : ℕ) where
  why_lacks : (why : KeepingFault) (answer : Answer) → IsAnswerOf why answer
      → AtPresent state old (λ w. IsOutcome (state old.store) w caller (Read path off len) answer)
      → (room : ℕ) → IsUnseen state old path room caller why
  why_lacks lack.Denied (Denied denial) is outcome room = λ from begins none.
      let denied : decide (world_after (state old.store).shape.numbers old.journal from) caller (Read path 0 0)
      ≡ Some denial = outcome from begins in
      absurd (cc)
  why_lacks lack.Denied (Served shown) is outcome room = absurd is
  why_lacks lack.Denied (Refused resource) is outcome room = absurd is
  why_lacks lack.Room answer is outcome room = absurd is
  why_lacks lack.Absent answer is outcome room = absurd is
  why_lacks lack.Memory answer is outcome room = tt

  pub piece_lacks : {A : Type 0} (answer : Answer) (result : Result A KeepingFault)
      → IfErr result (λ why. IsAnswerOf why answer)
      → AtPresent state old (λ w. IsOutcome (state old.store) w caller (Read path off len) answer)
      → IfErr result (λ why. (room : ℕ) → IsUnseen state old path room caller why)
  piece_lacks answer (Ok bytes) is outcome = tt
  piece_lacks answer (Err why) is outcome = why_lacks why answer is outcome

-- the volume was looked at meanwhile
pub unseen_before : {F : Type 0} (state : F → StoreState) (old now : Seen F) (path : List (List ℕ)) (room : ℕ)
    (caller : Caller) (why : KeepingFault) → IsLooked state old now → IsUnseen state now path room caller why
    → IsUnseen state old path room caller why
unseen_before state old now path room caller lack.Denied looked u =
    before_look state (λ w. decide w caller (Read path 0 0) ≢ None) old now looked u
unseen_before state old now path room caller lack.Room looked u =
    before_look state (λ w. room < length (bytes_at w path)) old now looked u
unseen_before state old now path room caller lack.Absent looked u = u
unseen_before state old now path room caller lack.Memory looked u = tt

-- ---- what is kept for a slot, or why nothing is

ok_map : {A E : Type 0} (r : Result A E) (P Q : A → Type 0) → ((a : A) → P a → Q a) → IfOk r P → IfOk r Q
ok_map (Ok a) P Q f h = f a h
ok_map (Err e) P Q f h = tt

err_map : {A E : Type 0} (r : Result A E) (P Q : E → Type 0) → ((e : E) → P e → Q e) → IfErr r P → IfErr r Q
err_map (Ok a) P Q f h = tt
err_map (Err e) P Q f h = f e h

module _ (Looks Looks2 : ℕ → Caller → Kept → Type 0) (Lacks Lacks2 : ℕ → Caller → KeepingFault → Type 0) (room : ℕ)
    (seen : (c : Caller) (k : Kept) → Looks room c k → Looks2 room c k)
    (unseen : (c : Caller) (why : KeepingFault) → Lacks room c why → Lacks2 room c why) where
  opener_map : (o : Option Caller) (before after : Option OpenFile)
      → OnOpener o (λ c. IsKept (Looks room c) (Lacks room c) before after) (after ≡ before)
      → OnOpener o (λ c. IsKept (Looks2 room c) (Lacks2 room c) before after) (after ≡ before)
  opener_map None before after h = h
  opener_map (Some c) before after h = record {
    seen = h.seen;
    is = h.is;
    looks = ok_map h.seen (Looks room c) (Looks2 room c) (seen c) h.looks;
    lacks = err_map h.seen (Lacks room c) (Lacks2 room c) (unseen c) h.lacks;
  }

  pub prepared_map : (node : ℕ) (before after : Option OpenFile) → IsPrepared Looks Lacks node room before after
      → IsPrepared Looks2 Lacks2 node room before after
  prepared_map node before after h = opener_map (opener_of before node) before after h

-- the volume was looked at meanwhile
seen_in_before : {F : Type 0} (state : F → StoreState) (old now : Seen F) (sight : Result Sight KeepingFault) (room : ℕ)
    (caller : Caller) (kept : Kept) → IsLooked state old now → IsSeenIn state now sight room caller kept
    → IsSeenIn state old sight room caller kept
seen_in_before state old now (Ok sight) room caller kept looked s = record {
  bytes = before_look state (λ w. IsReadBy w caller sight.path kept.bytes.items) old now looked s.bytes;
  fits = s.fits;
  attr = s.attr;
}
seen_in_before state old now (Err lacking) room caller kept looked s = s

unseen_in_before : {F : Type 0} (state : F → StoreState) (old now : Seen F) (sight : Result Sight KeepingFault) (room : ℕ)
    (caller : Caller) (why : KeepingFault) → IsLooked state old now → IsUnseenIn state now sight room caller why
    → IsUnseenIn state old sight room caller why
unseen_in_before state old now (Ok sight) room caller why looked u =
    unseen_before state old now sight.path room caller why looked u
unseen_in_before state old now (Err lacking) room caller why looked u = u

pub prepared_before : {F : Type 0} (state : F → StoreState) (old now : Seen F) (sight : Result Sight KeepingFault)
    (room node : ℕ) (before after : Option OpenFile) → IsLooked state old now
    → IsPrepared (IsSeenIn state now sight) (IsUnseenIn state now sight) node room before after
    → IsPrepared (IsSeenIn state old sight) (IsUnseenIn state old sight) node room before after
prepared_before state old now sight room node before after looked h =
    prepared_map (IsSeenIn state now sight) (IsSeenIn state old sight)
    (IsUnseenIn state now sight) (IsUnseenIn state old sight) room
    (λ c k s. seen_in_before state old now sight room c k looked s)
    (λ c why u. unseen_in_before state old now sight room c why looked u)
    node before after h

module _ (Looks : ℕ → Caller → Kept → Type 0) (Lacks : ℕ → Caller → KeepingFault → Type 0) (node : ℕ)
    (before : List (Option OpenFile)) where
  looked_for_on : (slot s : ℕ) (mid after : List (Option OpenFile)) → s < slot
      → IsLookedFor Looks Lacks node s before mid
      → ((t : ℕ) → t ≢ slot → slice_index_or after t None ≡ slice_index_or mid t None)
      → IsLookedFor Looks Lacks node s before after
  looked_for_on slot s mid after low h others = record {
    between = h.between;
    at = record {
      done = λ t less. h.at.done t less ∙ sym (others t (λ e. omega (arith, low, less, e)));
      rest = h.at.rest;
    };
    prepared = subst (λ o. IsPrepared Looks Lacks node (33554432 - bytes_kept h.between)
        (slice_index_or before s None) o) (sym (others s (λ e. omega (arith, low, e)))) h.prepared;
  }

  looked_for_now : (slot : ℕ) (mid after : List (Option OpenFile))
      → ((t : ℕ) → slot ≤ t → slice_index_or mid t None ≡ slice_index_or before t None)
      → IsPrepared Looks Lacks node (33554432 - bytes_kept mid) (slice_index_or mid slot None)
      (slice_index_or after slot None)
      → ((t : ℕ) → t ≢ slot → slice_index_or after t None ≡ slice_index_or mid t None)
      → IsLookedFor Looks Lacks node slot before after
  looked_for_now slot mid after rest prepared others = record {
    between = mid;
    at = record {
      done = λ t less. sym (others t (λ e. omega (arith, less, e)));
      rest = rest;
    };
    prepared = subst (λ o. IsPrepared Looks Lacks node (33554432 - bytes_kept mid) o
        (slice_index_or after slot None)) (rest slot (omega arith)) prepared;
  }

  looked_for_past : (slot : ℕ) (after : List (Option OpenFile)) → slice_index_or before slot None ≡ None
      → ((t : ℕ) → slot ≤ t → slice_index_or after t None ≡ slice_index_or before t None)
      → IsLookedFor Looks Lacks node slot before after
  looked_for_past slot after none rest = record {
    between = after;
    at = record { done = λ t less. refl; rest = rest };
    prepared = subst (λ o. IsPrepared Looks Lacks node (33554432 - bytes_kept after) o
        (slice_index_or after slot None)) (sym none) (rest slot (omega arith) ∙ none);
  }

  each_next : (slot s : ℕ) (mid after : List (Option OpenFile)) → (s ≡ slot) ⊎ ((s < slot) ⊎ (slot < s)) → s < slot + 1
      → IsLookedFor Looks Lacks node slot before after
      → (s < slot → IsLookedFor Looks Lacks node s before mid)
      → ((t : ℕ) → t ≢ slot → slice_index_or after t None ≡ slice_index_or mid t None)
      → IsLookedFor Looks Lacks node s before after
  each_next slot s mid after (inl e) less here done others =
      subst (λ k. IsLookedFor Looks Lacks node k before after) (sym e) here
  each_next slot s mid after (inr (inl low)) less here done others =
      looked_for_on slot s mid after low (done low) others
  each_next slot s mid after (inr (inr high)) less here done others = absurd (omega (arith, less, high))

  -- one slot more is looked for
  pub looked_for_next : (slot : ℕ) (mid after : List (Option OpenFile))
      → ((s : ℕ) → s < slot → IsLookedFor Looks Lacks node s before mid)
      → ((t : ℕ) → slot ≤ t → slice_index_or mid t None ≡ slice_index_or before t None)
      → IsPrepared Looks Lacks node (33554432 - bytes_kept mid) (slice_index_or mid slot None)
      (slice_index_or after slot None)
      → ((t : ℕ) → t ≢ slot → slice_index_or after t None ≡ slice_index_or mid t None)
      → (s : ℕ) → s < slot + 1 → IsLookedFor Looks Lacks node s before after
  looked_for_next slot mid after done rest prepared others s less =
      each_next slot s mid after (cases_order s slot) less (looked_for_now slot mid after rest prepared others)
      (done s) others

  each_of : (end s : ℕ) (after : List (Option OpenFile)) → (s ≡ end) ⊎ ((s < end) ⊎ (end < s)) → length before ≤ end
      → (s < end → IsLookedFor Looks Lacks node s before after)
      → ((t : ℕ) → end ≤ t → slice_index_or after t None ≡ slice_index_or before t None)
      → IsLookedFor Looks Lacks node s before after
  each_of end s after (inr (inl low)) all done rest = done low
  each_of end s after (inl e) all done rest =
      looked_for_past s after (get_or_past before s None (omega (arith, all, e)))
      (λ t past. rest t (omega (arith, past, e)))
  each_of end s after (inr (inr high)) all done rest =
      looked_for_past s after (get_or_past before s None (omega (arith, all, high)))
      (λ t past. rest t (omega (arith, past, high)))

  -- each slot was looked for
  pub looked_for_each : (end : ℕ) (after : List (Option OpenFile)) → length before ≤ end
      → ((s : ℕ) → s < end → IsLookedFor Looks Lacks node s before after)
      → ((t : ℕ) → end ≤ t → slice_index_or after t None ≡ slice_index_or before t None)
      → ArePrepared Looks Lacks node before after
  looked_for_each end after all done rest s = each_of end s after (cases_order s end) all (done s) rest

-- ---- what is seen of a node's file, by a path that leads to it

module _ {F : Type 0} (state : F → StoreState) (times : List Stamps) (nodes : Parts) (old : Seen F) (node : ℕ) where
  last_seen : (sight : Result Sight KeepingFault) (room : ℕ) (caller : Caller) (kept : Kept)
      → IsSightOr state times nodes old node sight → IsSeenIn state old sight room caller kept
      → IsLastLook state times nodes old node room caller kept
  last_seen (Ok sight) room caller kept is s = record { sight = sight; is = is; looks = s }
  last_seen (Err lacking) room caller kept is s = absurd s

  missed_by : (sight : Sight) (room : ℕ) (caller : Caller) (why : KeepingFault)
      → IsSight state times nodes old node sight → IsUnseen state old sight.path room caller why
      → IsLastMiss state nodes old node room caller why
  missed_by sight room caller lack.Denied is u = record { path = sight.path; leads = is.leads; lacks = u }
  missed_by sight room caller lack.Room is u = record { path = sight.path; leads = is.leads; lacks = u }
  missed_by sight room caller lack.Absent is u = absurd u
  missed_by sight room caller lack.Memory is u = tt

  missed_for : (room : ℕ) (caller : Caller) (why : KeepingFault) → IsSightOr state times nodes old node (Err why)
      → IsLastMiss state nodes old node room caller why
  missed_for room caller lack.Denied is = absurd is
  missed_for room caller lack.Room is = absurd is
  missed_for room caller lack.Absent is = is
  missed_for room caller lack.Memory is = tt

  last_missed : (sight : Result Sight KeepingFault) (room : ℕ) (caller : Caller) (why : KeepingFault)
      → IsSightOr state times nodes old node sight → IsUnseenIn state old sight room caller why
      → IsLastMiss state nodes old node room caller why
  last_missed (Ok sight) room caller why is u = missed_by sight room caller why is u
  last_missed (Err lacking) room caller why is u =
      missed_for room caller why (subst (λ l. IsSightOr state times nodes old node (Err l)) (sym u) is)

  pub last_prepared : (sight : Result Sight KeepingFault) (before after : List (Option OpenFile))
      → IsSightOr state times nodes old node sight
      → ArePrepared (IsSeenIn state old sight) (IsUnseenIn state old sight) node before after
      → ArePrepared (IsLastLook state times nodes old node) (IsLastMiss state nodes old node) node before after
  last_prepared sight before after is h slot =
      let at = h slot in
      let room = 33554432 - bytes_kept at.between in
      record {
        between = at.between;
        at = at.at;
        prepared = prepared_map (IsSeenIn state old sight) (IsLastLook state times nodes old node)
            (IsUnseenIn state old sight) (IsLastMiss state nodes old node) room
            (λ c k s. last_seen sight room c k is s) (λ c why u. last_missed sight room c why is u)
            node (slice_index_or before slot None) (slice_index_or after slot None) at.prepared;
      }
