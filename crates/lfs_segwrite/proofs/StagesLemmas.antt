-- The blocks of several infos are staged again one after another: `stages_none` and `stages_more`, for `stage_named`.
-- Behind each info all that waits is on the way to the block of one of them (StagesNamed), and staging one more with
-- what it has changes no address, so a later info names still what it named (`stages_named`). An info takes three
-- frames and one record at most (`stages_frames`, `stages_records`), so frames for all are known to be there; a deeper
-- tree of addresses would take more.
use Rattle.std.proofs.Common.{◌≡◌, ℕ, zero, suc, ◌+◌, ◌*◌, ◌<◌, ◌≤◌, List, [], ◌∷◌, ◌++◌, All, get_or, length, map}
use Rattle.std.proofs.Common.{take, IsSome, is_some, sym, ap, ◌∙◌, subst, inl, inr, arith}
use Rattle.std.specs.Prelude.{◌==◌}
use Rattle.std.specs.List.{Contains, flat_map}
use Rattle.std.proofs.lemmas.Bool.{false≢true}
use Rattle.std.proofs.lemmas.List.{length-map, length-take-le}
use Rattle.std.proofs.lemmas.List.Elements.{All-more, Contains-append_left, Contains-append_right, Contains-push}
use Rattle.std.proofs.lemmas.Map.Made.{distinct_count-le}
use Rattle.lfs_types.specs.declared.cleaner.BlockInfo.{BlockInfo}
use Rattle.lfs_inodes.specs.declared.inode.Inode.{Inode}
use Rattle.lfs_cache.specs.declared.key.Key.{Key}
use Rattle.lfs_cache.specs.Contents.{IsLocked, block_in}
use Rattle.lfs_cache.specs.Keys.{same_key}
use Rattle.lfs_parts.specs.declared.parts.Parts.{Parts}
use Rattle.lfs_segwrite.specs.Flushing.{Waits}
use Rattle.lfs_parts.specs.Keys.{log_state}
use Rattle.lfs_segwrite.specs.Marking.{IsNamed, StagesAgain, StagesNamed, code_named, codes_to_mark, keys_to_mark}
use Rattle.lfs_segwrite.specs.Marking.{number_named}
use Rattle.lfs_staging.specs.Staging.{IsStaged}
use Rattle.lfs_parts.specs.Store.{IsFlushed}
use Rattle.lfs_parts.specs.View.{key_of, version_of, waiting_in}
use Rattle.lfs_segwrite.proofs.AgainLemmas.{SameShown-refl, SameShown-trans}
use Rattle.lfs_segwrite.proofs.CountingLemmas.{frames_counted, keys_few, keys_more, mapped, numbers_more}
use Rattle.lfs_segwrite.proofs.CountingLemmas.{records_counted}
use Rattle.lfs_parts.proofs.SameLogLemmas.{keys_kept}
use Rattle.lfs_segwrite.proofs.NamedLemmas.{named_kept, named_there}
use Rattle.lfs_parts.proofs.SameLogLemmas.{version-same}

-- what waited waits still
still_waits : (old new : Parts) (number code n c : ℕ) → StagesAgain number code old new → Waits old n c → Waits new n c
still_waits old new number code n zero h waits = h.records_still n waits
still_waits old new number code n (suc c) h waits =
    subst (λ version. IsLocked (key_of n version (suc c)) new.cache) (sym (version-same old new n h.same.log))
    (h.frames_still _ waits)

-- nothing waits where nothing is there
none_locked : (es : List (Key × List ℕ)) (key : Key) → es ≡ [] → IsSome (block_in key es) → ⊥
none_locked es key none some = false≢true (sym (ap (λ xs. is_some (block_in key xs)) none) ∙ some)

none_waits : (vs : List Inode) (n : ℕ) → vs ≡ [] → IsSome (waiting_in vs n) → ⊥
none_waits vs n none some = false≢true (sym (ap (λ xs. is_some (waiting_in xs n)) none) ∙ some)

pub stages_none : (p : Parts) → IsStaged p 0 → IsFlushed p → StagesNamed [] p p
stages_none p staged flushed =
    let free : length p.cache.locked ≡ 0 = ap length flushed.no_frame in
    let none : length p.waiting ≡ 0 = ap (λ (vs : List Inode). length vs) flushed.no_record in
    record {
      same = SameShown-refl p;
      staged = staged;
      waits = λ k d low. absurd (omega arith);
      only_frames = λ key locked. absurd (none_locked p.cache.locked key flushed.no_frame locked);
      only_records = λ n waits. absurd (none_waits p.waiting n flushed.no_record waits);
      frames = omega arith;
      records = omega arith;
    }

module _ (p q : Parts) (named : List BlockInfo) (i : ℕ) (low : i < length named)
    (h : StagesNamed (take i named) p q) where
  -- an info names still what it named
  pub stages_named : (d : BlockInfo) → All (IsNamed (log_state p)) named → IsNamed (log_state q) (get_or named i d)
  stages_named d are = named_kept (log_state p) (log_state q) (get_or named i d)
      (keys_kept p q h.same.log h.same.addresses) (are i d low)

  pub stages_frames : length q.cache.locked ≤ 3 * i
  stages_frames =
      let most = distinct_count-le same_key (flat_map keys_to_mark (take i named)) in
      let few = keys_few (take i named) in
      let some = length-take-le i named (omega arith) in
      let frames = h.frames in
      omega arith

  pub stages_records : length q.waiting ≤ i
  stages_records =
      let most = distinct_count-le ◌==◌ (map number_named (take i named)) in
      let long : length (map number_named (take i named))
      ≡ length (take i named) = length-map (take i named) number_named in
      let some = length-take-le i named (omega arith) in
      let records = h.records in
      omega arith

  module _ (r : Parts) (d : BlockInfo) (are : All (IsNamed (log_state p)) named) (staged : IsStaged r 0)
      (again : StagesAgain (get_or named i d).ino (code_named (get_or named i d).lbn) q r) where
    abbrev info : BlockInfo
    info = get_or named i d

    -- each key that waits more is on the way to the block of this info, at its version
    only_frames : (key : Key) → IsLocked key r.cache → Contains (flat_map keys_to_mark (take (i + 1) named)) key
    only_frames key locked = subst (λ keys. Contains keys key) (sym (keys_more named i d low))
        (elim (again.frames key locked) [
          | inl one ↦
              let version : version_of q info.ino ≡ info.version =
              (named_there (log_state q) info (stages_named d are)).1 in
              Contains-append_right (flat_map keys_to_mark (take i named)) (keys_to_mark info) key
              (subst (Contains (keys_to_mark info)) (sym (one.2 ∙ ap (λ v. key_of info.ino v one.0) version))
              (mapped (key_of info.ino info.version) (codes_to_mark (code_named info.lbn)) one.0 one.1))
          | inr was ↦ Contains-append_left (flat_map keys_to_mark (take i named)) (keys_to_mark info) key
              (h.only_frames key was)
        ])

    only_records : (n : ℕ) → IsSome (waiting_in r.waiting n) → Contains (map number_named (take (i + 1) named)) n
    only_records n waits = subst (λ numbers. Contains numbers n) (sym (numbers_more named i d low))
        (elim (again.records n waits) [
          | inl is ↦ subst (Contains (map number_named (take i named) ++ info.ino ∷ [])) (sym is)
              (Contains-push (map number_named (take i named)) info.ino)
          | inr was ↦ Contains-append_left (map number_named (take i named)) (info.ino ∷ []) n (h.only_records n was)
        ])

    pub stages_more : StagesNamed (take (i + 1) named) p r
    stages_more = record {
      same = SameShown-trans p q r h.same again.same;
      staged = staged;
      waits = All-more (λ (x : BlockInfo). Waits r x.ino (code_named x.lbn)) named i d low
          (λ k e inside. still_waits q r info.ino (code_named info.lbn) _ _ again (h.waits k e inside)) again.waits;
      only_frames = only_frames;
      only_records = only_records;
      frames = frames_counted r.cache (flat_map keys_to_mark (take (i + 1) named)) staged.whole.cache only_frames;
      records = records_counted r.waiting (map number_named (take (i + 1) named)) staged.once only_records;
    }
