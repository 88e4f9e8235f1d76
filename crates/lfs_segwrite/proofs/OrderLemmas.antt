-- The order of writing has each key that waits, once (`in_order-locked`, for `collecting::to_land`), and behind a key
-- none of a lower rank (`in_order-after`, for FlushLemmas). The turns filter one list by rank: keys of two turns
-- differ (`lacks_turn`), each key comes in the turn of its rank (`turns_have`), and no key is twice in what isn't
-- twice in the list. `in_order-after` is why an indirect block is written with all its addresses; a fourth rank would
-- need a fourth turn.
use Rattle.std.proofs.Common.{◌<◌, ◌≤◌, refl, ◌-◌, length-append, get_or, sym, ◌≡◌, ◌≢◌, ℕ, zero, suc, List, [], ◌∷◌}
use Rattle.std.proofs.Common.{◌++◌, All, map, replicate, Bool, true, false, cond, length, Some, IsSome, ap, ◌∙◌, subst}
use Rattle.std.proofs.Common.{inl, inr, arith}
use Rattle.std.specs.List.{Contains, filter}
use Rattle.std.proofs.lemmas.Bool.{cases_Bool, cases_eq, cases_lt, eq-eqb, eqb-true, false≢true, ne_eqb}
use Rattle.std.proofs.lemmas.List.{get_or-append_right, get_or-map, get_or_append_left, length-map}
use Rattle.std.proofs.lemmas.List.Elements.{All-append, Contains-append_left, Contains-append_right}
use Rattle.lfs_cache.specs.declared.key.Key.{Key}
use Rattle.lfs_cache.specs.Contents.{AreApart, Contents, IsLocked, Lacks, block_in, keys_of}
use Rattle.lfs_cache.specs.Keys.{same_key}
use Rattle.lfs_cache.proofs.Entries.{same_cases, same_is, same_self}
use Rattle.lfs_cache.proofs.CallerLemmas.{listed_has_block}
use Rattle.lfs_inodes.specs.declared.inode.Inode.{Inode}
use Rattle.lfs_bmap.specs.Tables.{rank_of}
use Rattle.lfs_bmap.proofs.TableLemmas.{rank_of-few}
use Rattle.lfs_parts.specs.declared.parts.Parts.{Parts}
use Rattle.lfs_segwrite.specs.Collecting.{AreLocked, entries_of, entry_of, in_order, in_turns, inode_blocks, is_of}
use Rattle.lfs_parts.specs.Opening.{inodes_entry}
use Rattle.lfs_segwrite.proofs.CollectingLemmas.{filter_no, filter_yes, in_order-length}
use Rattle.lfs_segwrite.proofs.CollectingLemmas.{in_turns-each, in_turns-more, in_turns-none}
use Rattle.lfs_segments.specs.declared.entry.SummaryEntry.{SummaryEntry}

-- a key that a list lacks is lacked by a part of it, and by it and another one that lacks it
lacks_filter : (p : Key → Bool) (k : Key) (ns : List Key) → Lacks k ns → Lacks k (filter p ns)
lacks_filter p k [] h = tt
lacks_filter p k (n ∷ ns) h = elim (cases_Bool (p n)) [
  | inl holds ↦ subst (Lacks k) (sym (filter_yes p n ns holds)) (h.0, lacks_filter p k ns h.1)
  | inr fails ↦ subst (Lacks k) (sym (filter_no p n ns fails)) (lacks_filter p k ns h.1)
]

lacks_append : (k : Key) (xs ys : List Key) → Lacks k xs → Lacks k ys → Lacks k (xs ++ ys)
lacks_append k [] ys h g = g
lacks_append k (x ∷ xs) ys h g = (h.0, lacks_append k xs ys h.1 g)

apart_filter : (p : Key → Bool) (ns : List Key) → AreApart ns → AreApart (filter p ns)
apart_filter p [] h = tt
apart_filter p (n ∷ ns) h = elim (cases_Bool (p n)) [
  | inl holds ↦ subst AreApart (sym (filter_yes p n ns holds)) (lacks_filter p n ns h.0, apart_filter p ns h.1)
  | inr fails ↦ subst AreApart (sym (filter_no p n ns fails)) (apart_filter p ns h.1)
]

-- each key of a filtered list turns
first_turns : (p : Key → Bool) (n : Key) (l : List Key) (d : Key) → p n ≡ true
    → ((k : ℕ) → k < length l → p (get_or l k d) ≡ true)
    → (k : ℕ) → k < length (n ∷ l) → p (get_or (n ∷ l) k d) ≡ true
first_turns p n l d holds rest zero low = holds
first_turns p n l d holds rest (suc k) low = rest k (omega arith)

each_turns : (p : Key → Bool) (ns : List Key) (d : Key) (k : ℕ) → k < length (filter p ns)
    → p (get_or (filter p ns) k d) ≡ true
each_turns p [] d = λ k low. absurd (omega arith)
each_turns p (n ∷ ns) d = elim (cases_Bool (p n)) [
  | inl holds ↦
      subst (λ (l : List Key). (k : ℕ) → k < length l → p (get_or l k d) ≡ true) (sym (filter_yes p n ns holds))
      (first_turns p n (filter p ns) d holds (each_turns p ns d))
  | inr fails ↦ subst (λ (l : List Key). (k : ℕ) → k < length l → p (get_or l k d) ≡ true)
      (sym (filter_no p n ns fails)) (each_turns p ns d)
]

-- two lists whose keys are apart from one another
lists_apart : (xs ys : List Key) → AreApart xs → AreApart ys → All (λ (x : Key). Lacks x ys) xs → AreApart (xs ++ ys)
lists_apart [] ys h g each = g
lists_apart (x ∷ xs) ys h g each = (
  lacks_append x xs ys h.0 (each 0 x (omega arith)),
  lists_apart xs ys h.1 g (λ k d low. each (suc k) d (omega arith)),
)

-- a key of another turn
lacks_turn : (n : ℕ) (k : Key) (ns : List Key) → rank_of k.lbn.0 ≢ n → Lacks k (filter (is_of n) ns)
lacks_turn n k [] other = tt
lacks_turn n k (m ∷ ns) other = elim (cases_eq (rank_of m.lbn.0) n) [
  | inl is ↦
      let apart : same_key m k ≡ false = elim (same_cases m k) [
        | inl same ↦ absurd (other (ap (λ (x : Key). rank_of x.lbn.0) (sym (same_is m k same)) ∙ is))
        | inr fails ↦ fails
      ] in
      subst (Lacks k) (sym (filter_yes (is_of n) m ns (eq-eqb (rank_of m.lbn.0) n is))) (apart, lacks_turn n k ns other)
  | inr ne ↦ subst (Lacks k) (sym (filter_no (is_of n) m ns (ne_eqb (rank_of m.lbn.0) n ne))) (lacks_turn n k ns other)
]

turn_is : (n : ℕ) (ks : List Key) (k : ℕ) (d : Key) → k < length (filter (is_of n) ks)
    → rank_of (get_or (filter (is_of n) ks) k d).lbn.0 ≡ n
turn_is n ks k d low = eqb-true (rank_of (get_or (filter (is_of n) ks) k d).lbn.0) n (each_turns (is_of n) ks d k low)

-- in the turns below one there are keys of those alone
pub turns_below : (n : ℕ) (keys : List Key) → All (λ (k : Key). rank_of k.lbn.0 < n) (in_turns n keys)
turns_below zero keys = subst (All (λ (k : Key). rank_of k.lbn.0 < 0)) (sym (in_turns-none keys))
    (λ k d low. absurd (omega arith))
turns_below (suc n) keys =
    subst (All (λ (k : Key). rank_of k.lbn.0 < suc n)) (sym (in_turns-more n keys))
    (All-append (λ (k : Key). rank_of k.lbn.0 < suc n) (in_turns n keys) (filter (is_of n) keys)
    (λ k d low. let less = turns_below n keys k d low in omega arith)
    (λ k d low. let is = turn_is n keys k d low in omega arith))

-- in order, no key comes twice
turns_apart : (n : ℕ) (keys : List Key) → AreApart keys → AreApart (in_turns n keys)
turns_apart zero keys h = subst AreApart (sym (in_turns-none keys)) tt
turns_apart (suc n) keys h =
    subst AreApart (sym (in_turns-more n keys))
    (lists_apart (in_turns n keys) (filter (is_of n) keys) (turns_apart n keys h) (apart_filter (is_of n) keys h)
    (λ k d low. lacks_turn n (get_or (in_turns n keys) k d) keys
    (λ e. let less = turns_below n keys k d low in omega arith)))

pub in_order-apart : (keys : List Key) → AreApart keys → AreApart (in_order keys)
in_order-apart keys h = turns_apart 3 keys h

-- and each comes
filter_has : (n : ℕ) (key : Key) (ks : List Key) → rank_of key.lbn.0 ≡ n → Contains ks key
    → Contains (filter (is_of n) ks) key
filter_has n key [] is has = let low = has.1 in absurd (omega arith)
filter_has n key (k ∷ ks) is (zero, low, e) =
    let here : is_of n k ≡ true = eq-eqb (rank_of k.lbn.0) n (ap (λ (x : Key). rank_of x.lbn.0) e ∙ is) in
    subst (λ xs. Contains xs key) (sym (filter_yes (is_of n) k ks here)) (0, omega arith, e)
filter_has n key (k ∷ ks) is (suc i, low, e) =
    let rest = filter_has n key ks is (i, omega arith, e) in
    elim (cases_Bool (is_of n k)) [
      | inl holds ↦ subst (λ xs. Contains xs key) (sym (filter_yes (is_of n) k ks holds)) (
        suc rest.0,
        let few = rest.1 in omega arith,
        rest.2,
      )
      | inr fails ↦ subst (λ xs. Contains xs key) (sym (filter_no (is_of n) k ks fails)) rest
    ]

turns_have : (n : ℕ) (keys : List Key) (key : Key) → rank_of key.lbn.0 < n → Contains keys key
    → Contains (in_turns n keys) key
turns_have zero keys key low has = absurd (omega arith)
turns_have (suc n) keys key low has =
    subst (λ xs. Contains xs key) (sym (in_turns-more n keys)) (elim (cases_eq (rank_of key.lbn.0) n) [
      | inl is ↦ Contains-append_right (in_turns n keys) (filter (is_of n) keys) key (filter_has n key keys is has)
      | inr other ↦ Contains-append_left (in_turns n keys) (filter (is_of n) keys) key
          (turns_have n keys key (omega arith) has)
    ])

-- what waits is listed
waits_listed : (es : List (Key × List ℕ)) (key : Key) → IsSome (block_in key es) → Contains (keys_of es) key
waits_listed [] key h = absurd (false≢true h)
waits_listed (e ∷ es) key h =
    elim (same_cases e.0 key) [
      | inl same ↦ (zero, omega arith, same_is e.0 key same)
      | inr other ↦
          let there = waits_listed es key (subst IsSome (ap (λ b. cond b (Some e.1) (block_in key es)) other) h) in
          (suc there.0, let low = there.1 in omega arith, there.2)
    ]

pub listed_waits : (c : Contents) → All (λ (key : Key). IsLocked key c) (keys_of c.locked)
listed_waits c = λ k d low. listed_has_block (get_or (keys_of c.locked) k d) c.locked k d low
    (same_self (get_or (keys_of c.locked) k d))

-- so the keys in order are those that wait, each once
pub in_order-locked : (c : Contents) → AreApart (keys_of c.locked) → AreLocked (in_order (keys_of c.locked)) c
in_order-locked c apart =
    let keys = keys_of c.locked in
    record {
      each = λ key waits. turns_have 3 keys key (rank_of-few key.lbn.0) (waits_listed c.locked key waits);
      only = in_turns-each (λ (key : Key). IsLocked key c) 3 keys (listed_waits c);
      once = in_order-apart keys apart;
    }

-- where the same waits, the entries are the same
pub entries_of-same : (old new : Parts) → new.cache ≡ old.cache → new.waiting ≡ old.waiting → entries_of new
    ≡ entries_of old
unfolding entries_of
entries_of-same old new cache waiting =
    ap (λ (c : Contents). map entry_of (in_order (keys_of c.locked))
    ++ replicate (inode_blocks (length new.waiting)) inodes_entry) cache
    ∙ ap (λ (vs : List Inode). map entry_of (in_order (keys_of old.cache.locked))
    ++ replicate (inode_blocks (length vs)) inodes_entry) waiting

-- ---- places in the order
-- behind a block of a turn there is none of one before: when an indirect block is written, the blocks are whose
-- addresses it holds
turns_after : (n : ℕ) (keys : List Key) (j i : ℕ) (d : Key) → j ≤ i → i < length (in_turns n keys)
    → rank_of (get_or (in_turns n keys) j d).lbn.0 ≤ rank_of (get_or (in_turns n keys) i d).lbn.0
turns_after zero keys j i d before low = let none = ap (λ (ks : List Key). length ks) (in_turns-none keys) in
    absurd (omega arith)
turns_after (suc n) keys j i d before low =
    let xs = in_turns n keys in
    let ys = filter (is_of n) keys in
    let long = length-append xs ys in
    let split = ap (λ (ks : List Key). length ks) (in_turns-more n keys) in
    subst (λ ks. rank_of (get_or ks j d).lbn.0 ≤ rank_of (get_or ks i d).lbn.0) (sym (in_turns-more n keys))
    (elim (cases_lt i (length xs)) [
      | inl first ↦
          let at_i = ap (λ (k : Key). rank_of k.lbn.0) (get_or_append_left xs ys d i first) in
          let at_j = ap (λ (k : Key). rank_of k.lbn.0) (get_or_append_left xs ys d j (omega arith)) in
          let less = turns_after n keys j i d before first in
          omega arith
      | inr last ↦
          let there = turns_below (suc n) keys j d (omega arith) in
          let same = ap (λ ks. rank_of (get_or ks j d).lbn.0) (in_turns-more n keys) in
          let at_i = ap (λ (k : Key). rank_of k.lbn.0) (get_or-append_right xs ys (length xs) i d refl last) in
          let own = turn_is n keys (i - length xs) d (omega arith) in
          omega arith
    ])

pub in_order-after : (keys : List Key) (j i : ℕ) (d : Key) → j ≤ i → i < length (in_order keys)
    → rank_of (get_or (in_order keys) j d).lbn.0 ≤ rank_of (get_or (in_order keys) i d).lbn.0
in_order-after keys j i d before low = turns_after 3 keys j i d before low

-- the entries by place: those of the keys in order, and behind them those of inode blocks
pub entries_of-block : (p : Parts) (k : ℕ) (d : Key) (e : SummaryEntry) → k < length p.cache.locked
    → get_or (entries_of p) k e ≡ entry_of (get_or (in_order (keys_of p.cache.locked)) k d)
unfolding entries_of
entries_of-block p k d e low =
    let keys = in_order (keys_of p.cache.locked) in
    let blocks = inode_blocks (length p.waiting) in
    let ordered = in_order-length (keys_of p.cache.locked) in
    let locked = length-map p.cache.locked (λ e. e.0) in
    let mapped = length-map keys entry_of in
    get_or_append_left (map entry_of keys) (replicate blocks inodes_entry) e k (omega arith)
    ∙ get_or-map entry_of keys k d e (omega arith)
