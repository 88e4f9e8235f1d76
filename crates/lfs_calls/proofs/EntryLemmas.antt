-- How calls leave the bytes of directories: `attrs_keep` for `chmod`, `chown` and `chflags`, `bytes_keep` for `write`
-- and `set_length`, `closes_up` for `remove`. Each call changes one file of the store, or a directory's and the removed
-- file, and leaves all others, so only these numbers are in question. Setting attributes leaves the bytes; a file whose
-- bytes were changed has not the kind of a directory, so it is none; a file that was removed is not there any more; and
-- the directory in which it stood got one block, that without its entry.
use Rattle.std.proofs.Common.{◌≡◌, ℕ, List, false, Ok, sym, ap, subst, ◌∙◌, ⊎_elim}
use Rattle.std.proofs.lemmas.Bool.{cases_eq}
use Rattle.std.specs.Prelude.{IsSomeAnd}
use Rattle.std.specs.FinMap as map
use Rattle.lfs_types.specs.Caller.{Caller}
use Rattle.lfs_types.specs.Kinds.{is_directory_kind}
use Rattle.lfs_types.specs.Splicing.{splice}
use Rattle.lfs_types.specs.StoreStates.{StoreState}
use Rattle.lfs_types.specs.Stored.{bytes_of, bytes_of_file}
use Rattle.lfs_types.specs.Tree.{File, Content}
use Rattle.lfs_types.specs.declared.attrs.Attrs.{Attrs}
use Rattle.lfs_types.specs.declared.attrs.Kind.TheVariants.{Directory}
use Rattle.lfs_model.specs.Rules.{last}
use Rattle.lfs_calls.specs.declared.removing.Removal.{Removal}
use Rattle.lfs_calls.specs.declared.walking.Reached.{Reached}
use Rattle.lfs_calls.specs.Attributes.{SetsAttrs}
use Rattle.lfs_calls.specs.Content.{KeepsDirectories, KeepsOthers}
use Rattle.lfs_calls.specs.Reaches.{Reaches}
use Rattle.lfs_calls.specs.Removes.{ClosesUp, IsRemovable, ListsNoMore, TakesRow}
use Rattle.lfs_calls.specs.Volumes.{InWorld}
use Rattle.lfs_calls.specs.Writes.{ChangesBytes}
use Rattle.lfs_calls.proofs.StateLemmas.{same_content}
use Rattle.lfs_calls.proofs.StepLemmas.{shown_file, stored_regular}

module _ {s mid : StoreState} (caller : Caller) (path : List (List ℕ)) (same : mid ≡ s) (file : Reached)
    (leads : InWorld s (λ w. Reaches s.content w.rows caller 0 path (Ok file))) (new : StoreState) where
  -- where attributes were set, all bytes stay
  pub attrs_keep : (attrs : Attrs) → SetsAttrs mid.content new.content file.number attrs
      → InWorld s (λ w. KeepsDirectories s.content new.content)
  attrs_keep attrs changes w v n dir =
      let sets = subst (λ (c : Content). SetsAttrs c new.content file.number attrs) (same_content same) changes in
      let f = shown_file s.content file.number file.attrs (leads w v).1 in
      ⊎_elim
      (λ at. ap (λ m. bytes_of new.content m) at ∙ ap bytes_of_file (sets.set f.file f.stored)
      ∙ ap bytes_of_file (sym f.stored) ∙ ap (λ m. bytes_of s.content m) (sym at))
      (λ other. ap bytes_of_file (sets.others n other))
      (cases_eq n file.number)

  -- where a file's bytes were changed, those of directories stay
  pub bytes_keep : is_directory_kind file.attrs.kind ≡ false → (by : List ℕ → List ℕ)
      → ChangesBytes mid.content new.content file.number caller by
      → InWorld s (λ w. KeepsDirectories s.content new.content)
  bytes_keep regular by changed w v n dir =
      let changes = subst (λ (c : Content). ChangesBytes c new.content file.number caller by)
      (same_content same) changed in
      let shown = (leads w v).1 in
      let f = shown_file s.content file.number file.attrs shown in
      let kind = stored_regular s.content file.number file.attrs shown regular in
      ⊎_elim
      (λ at. let there = subst (λ o. IsSomeAnd o (λ (x : File). x.kind ≡ Directory)) (ap (map.get new.content) at
      ∙ changes.changed f.file f.stored) dir in absurd (cc))
      (λ other. ap bytes_of_file (changes.others n other))
      (cases_eq n file.number)

-- where a row was taken away, its directory's block closes up, and all other directories keep their bytes
pub closes_up : {s mid : StoreState} (new : StoreState) (names : List (List ℕ)) (removal : Removal) → mid ≡ s
    → InWorld s (λ w. IsRemovable s.content w.rows names removal)
    → TakesRow mid.content new.content removal (last names)
    → InWorld s (λ w. ClosesUp s.content new.content w.rows names)
closes_up {s = s} new names removal same is took w v =
    let here = subst (λ (c : Content). TakesRow c new.content removal (last names)) (same_content same) took in
    let room = here.0 in
    let takes = here.2.1 in
    let dir = removal.dir.number in
    let r = (is w v).is in
    let f = shown_file s.content dir removal.dir.attrs r.shown_dir in
    let bytes : bytes_of new.content dir ≡ splice (bytes_of s.content dir) room.off room.block =
    ap bytes_of_file (takes.listed f.file f.stored)
    ∙ ap (λ o. splice (bytes_of_file o) room.off room.block) (sym f.stored) in
    subst (λ m. ListsNoMore (bytes_of s.content m) (bytes_of new.content m) (last names)
    × KeepsOthers m s.content new.content) (sym r.object) (
      (room, here.1, (here.2.0, bytes)),
      (λ n apart dir. ⊎_elim
          (λ at. let none = subst (λ o. IsSomeAnd o (λ (x : File). x.kind ≡ Directory)) (ap (map.get new.content) at
          ∙ takes.gone) dir in absurd none)
          (λ other. ap bytes_of_file (takes.others n other apart))
          (cases_eq n removal.file.number)),
    )
