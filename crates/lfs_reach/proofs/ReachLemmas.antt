-- What a directory names, block by block (`named_first`, `named_more`, `named_all`); and that a walk whose every number
-- was read has just the numbers that names lead to (`reach_all`).
use Rattle.std.proofs.Common.{◌≡◌, ℕ, ◌+◌, ◌<◌, ◌≤◌, true, List, [], Option, Some, None}
use Rattle.std.proofs.Common.{length, get_or, refl, sym, ap, subst, ◌∙◌, ◌⊎◌, inl, inr, ⊎_elim, arith}
use Rattle.std.specs.List.{Contains}
use Rattle.std.proofs.lemmas.Bool.{cases_lt}
use Rattle.std.proofs.lemmas.List.{get_or_append_left, get_or_default, length-append}
use Rattle.std.proofs.lemmas.List.Elements.{Contains-append_cases}
use Rattle.std.proofs.lemmas.Option.{same_Some}
use Rattle.lfs_types.specs.declared.attrs.Kind.{Kind}
use Rattle.lfs_types.specs.declared.attrs.Kind.TheVariants.{File, Directory}
use Rattle.lfs_types.specs.Kinds.{is_directory_kind}
use Rattle.lfs_inodes.specs.Facts.{block_count}
use Rattle.lfs_inodes.specs.Reading.{Fields}
use Rattle.lfs_segments.specs.Memory.{SegmentMemory}
use Rattle.lfs_dirs.specs.Reading.{entries_of}
use Rattle.lfs_recovery.specs.declared.places.RecordPlace.{RecordPlace}
use Rattle.lfs_reach.specs.Reach.{IsListed, IsNamedBy, Reaches, begins, bytes_at, file_address, goes, record_of}
use Rattle.lfs_reach.specs.Walks.{Adds}
use Rattle.lfs_reach.proofs.WalkLemmas.{adds_as, adds_kept, adds_none, adds_then}

-- one of the first blocks of a directory lists a number
pub record IsNamedBelow (m : SegmentMemory) (f : Fields) (blocks number : ℕ) : Type 0 where
  pub index : ℕ
  pub within : index < blocks
  pub listed : IsListed (entries_of (bytes_at m (file_address m f index))) number

pub named_first : (m : SegmentMemory) (f : Fields) (order : List ℕ) → Adds (IsNamedBelow m f 0) order order
named_first m f order =
    adds_none (IsNamedBelow m f 0) order (λ n named. let below = named.within in absurd (omega arith))

pub named_more : (m : SegmentMemory) (f : Fields) (blocks : ℕ) (bytes : List ℕ) (a b c : List ℕ)
    → bytes ≡ bytes_at m (file_address m f blocks)
    → Adds (IsNamedBelow m f blocks) a b → Adds (IsListed (entries_of bytes)) b c → Adds (IsNamedBelow m f (blocks + 1)) a c
named_more m f blocks bytes a b c at before here =
    let listed : (n : ℕ) → Type 0 = IsListed (entries_of bytes) in
    adds_as (λ n. IsNamedBelow m f blocks n ⊎ listed n) (IsNamedBelow m f (blocks + 1)) a c
    (λ n either. ⊎_elim
    (λ (p : IsNamedBelow m f blocks n). let within = p.within in
    record { index = p.index; within = omega arith; listed = p.listed })
    (λ (q : listed n). record {
      index = blocks;
      within = omega arith;
      listed = subst (λ (xs : List ℕ). IsListed (entries_of xs) n) at q;
    })
    either)
    (λ n named. ⊎_elim
    (λ (lt : named.index < blocks). inl (record { index = named.index; within = lt; listed = named.listed }))
    (λ (ge : blocks ≤ named.index). let within = named.within in let same : named.index ≡ blocks = omega arith in
    inr (subst (λ (xs : List ℕ). IsListed (entries_of xs) n)
    (ap (λ (k : ℕ). bytes_at m (file_address m f k)) same ∙ sym at) named.listed))
    (cases_lt named.index blocks))
    (adds_then (IsNamedBelow m f blocks) listed a b c before here)

pub named_all : (m : SegmentMemory) (place : Option RecordPlace) (f : Fields) (blocks : ℕ) (a b : List ℕ)
    → record_of m place ≡ Some f → f.attributes.kind ≡ Directory → blocks ≡ block_count f.attributes.size
    → Adds (IsNamedBelow m f blocks) a b → Adds (IsNamedBy m place) a b
named_all m place f blocks a b read kind counted added =
    adds_as (IsNamedBelow m f blocks) (IsNamedBy m place) a b
    (λ n named. record {
      fields = f;
      read = read;
      directory = kind;
      index = named.index;
      within = let within = named.within in omega arith;
      listed = named.listed;
    })
    (λ n named.
    let same : named.fields ≡ f = same_Some named.fields f (sym named.read ∙ read) in
    record {
      index = named.index;
      within = let within = named.within in let size = ap (λ (g : Fields). block_count g.attributes.size) same in omega arith;
      listed = subst (λ (g : Fields). IsListed (entries_of (bytes_at m (file_address m g named.index))) n) same named.listed;
    })
    added

-- ---- the walk

-- numbers that were reached, of which the first ones were read
pub record IsReaching (m : SegmentMemory) (places : List (Option RecordPlace)) (order : List ℕ) (done : ℕ) : Type 0 where
  pub root : Contains order 2
  pub from : (n : ℕ) → Contains order n → Reaches m places n
  pub few : done ≤ length order
  pub read : (k : ℕ) → k < done → (n : ℕ) → IsNamedBy m (get_or places (get_or order k 0) None) n → Contains order n

pub reaching_first : (m : SegmentMemory) (places : List (Option RecordPlace)) (order : List ℕ)
    → Adds (λ n. n ≡ 2) [] order → IsReaching m places order 0
reaching_first m places order a = record {
  root = a.all 2 refl;
  from = λ n there. let is = a.only n (subst (λ (xs : List ℕ). Contains xs n) a.is there) in
      subst (Reaches m places) (sym is) begins;
  few = omega arith;
  read = λ k below. absurd (omega arith);
}

-- the next number was read
pub reaching_more : (m : SegmentMemory) (places : List (Option RecordPlace)) (order new : List ℕ) (done number : ℕ)
    → done < length order → get_or order done 0 ≡ number
    → IsReaching m places order done → Adds (IsNamedBy m (get_or places number None)) order new
    → IsReaching m places new (done + 1)
reaching_more m places order new done number below at r a =
    let long : length new ≡ length order + length a.more = ap length a.is ∙ length-append order a.more in
    let kept : (k : ℕ) → k < length order → get_or new k 0 ≡ get_or order k 0 = λ k inside.
    ap (λ (xs : List ℕ). get_or xs k 0) a.is ∙ get_or_append_left order a.more 0 k inside in
    let there : Contains order number = (done, below, get_or_default order done number 0 below ∙ at) in
    record {
      root = adds_kept (IsNamedBy m (get_or places number None)) order new 2 a r.root;
      from = λ n there_n. ⊎_elim
          (λ (before : Contains order n). r.from n before)
          (λ (more : Contains a.more n). goes number n (r.from number there) (a.only n more))
          (Contains-append_cases order a.more n (subst (λ (xs : List ℕ). Contains xs n) a.is there_n));
      few = omega arith;
      read = λ k low n named. ⊎_elim
          (λ (lt : k < done).
          adds_kept (IsNamedBy m (get_or places number None)) order new n a
          (r.read k lt n (subst (λ (j : ℕ). IsNamedBy m (get_or places j None) n) (kept k (omega arith)) named)))
          (λ (ge : done ≤ k). let same : k ≡ done = omega arith in
          a.all n (subst (λ (j : ℕ). IsNamedBy m (get_or places j None) n)
          (kept k (omega arith) ∙ ap (λ (i : ℕ). get_or order i 0) same ∙ at) named))
          (cases_lt k done);
    }

-- once all were read, the walk has each number that names lead to
pub reach_all : (m : SegmentMemory) (places : List (Option RecordPlace)) (order : List ℕ) (done : ℕ)
    → length order ≤ done → IsReaching m places order done → (n : ℕ) → Reaches m places n → Contains order n
reach_all m places order done all r n begins = r.root
reach_all m places order done all r n (goes directory number reached named) =
    let there = reach_all m places order done all r directory reached in
    let below = there.1 in
    let at : get_or order there.0 0 ≡ directory = get_or_default order there.0 0 directory there.1 ∙ there.2 in
    r.read there.0 (omega arith) number
    (subst (λ (j : ℕ). IsNamedBy m (get_or places j None) number) (sym at) named)

pub directory_is : (kind : Kind) → true ≡ is_directory_kind kind → kind ≡ Directory
directory_is File e = absurd (cc)
directory_is Directory e = refl
