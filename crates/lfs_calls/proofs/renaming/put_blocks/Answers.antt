use Rattle.std.proofs.Common.{◌≡◌, ℕ, Option, None, Some, refl, sym, ap, subst, ◌∙◌}
use Rattle.std.proofs.lemmas.Result.{IfOk-weaker}
use Rattle.std.specs.Prelude.{IfSome, IsSome}
use Rattle.std.specs.FinMap as map
use Rattle.lfs_calls.specs.Renames.{block_put, WritesBlocks, without_file}
use Rattle.lfs_calls.proofs.MovedBlocks.{writes_one, can_put_blocks, can_put_one, can_swap_blocks}
use Rattle.lfs_types.specs.Tree.{Content}
use Rattle.lfs_calls.specs.declared.directory.DirBlock.{DirBlock}
use Rattle.lfs_calls.proofs.AskedLemmas.{asks_list}
use Rattle.lfs_calls.proofs.renaming.put_blocks.Goals as goal
use Rattle.lfs_calls.proofs.renaming.put_blocks.Goals.{Then-taken-room}

-- where the blocks stand at one place, the second alone is written
one_written : (g : _) (c : Then-taken-room g) (which : Option ℕ) → c.args.places.now.gone ≡ which → (after : Content)
    → after ≡ without_file which
    (block_put c.args.moving.now.new_dir c.args.places.now.room (g.F.FileStore.state c.args.store.now).content)
    → WritesBlocks (g.F.FileStore.state c.args.store.now).content after c.args.moving.now.old_dir
    c.args.places.now.taken c.args.moving.now.new_dir c.args.places.now.room c.args.places.now.gone
one_written g c which same_gone after is =
    let before = (g.F.FileStore.state c.args.store.now).content in
    let m = c.args.moving.now in
    let places = c.args.places.now in
    let same = c.if-old_dir-dir.true in
    subst (λ o. WritesBlocks before after m.old_dir places.taken m.new_dir places.room o) (sym same_gone)
    (subst (λ d. WritesBlocks before after m.old_dir places.taken d places.room which) same
    (writes_one before m.old_dir places.taken c.requires.old places.room c.if-taken-room.true c.requires.new.size
    which after (is ∙ ap (λ d. without_file which (block_put d places.room before)) (sym same))))

-- where they don't, both, one after the other
two_written : (c after : Content) (p : ℕ) (taken : DirBlock) (q : ℕ) (room : DirBlock) (o which : Option ℕ) → o ≡ which
    → after ≡ without_file which (block_put q room (block_put p taken c)) → WritesBlocks c after p taken q room o
two_written c after p taken q room o which same_gone is =
    subst (λ x. WritesBlocks c after p taken q room x) (sym same_gone) (λ n. ap (λ x. map.get x n) is)

pub apply_moving-requires-clause-moves : goal.apply_moving-requires-clause-moves
apply_moving-requires-clause-moves g c =
    let k = (goal.at.apply_moving-requires-clause-moves g c).Then-taken-room in
    c.requires.moves _ (one_written g k None c.in-None.is _ refl)

pub apply_moving-requires-in-Some-clause-can : goal.apply_moving-requires-in-Some-clause-can
apply_moving-requires-in-Some-clause-can g c =
    can_put_one (g.F.FileStore.state c.args.store.now).content c.args.moving.now.new_dir c.args.places.now.room
    c.requires.new (g.F.FileStore.state c.args.store.now).shape.numbers _ refl c.in-Some.ino
    (subst (λ o. IfSome o (λ m. IsSome (map.get (g.F.FileStore.state c.args.store.now).content m))) c.in-Some.is
    c.requires.used)

pub apply_moving-requires-in-Some-clause-moves : goal.apply_moving-requires-in-Some-clause-moves
apply_moving-requires-in-Some-clause-moves g c =
    let k = (goal.at.apply_moving-requires-in-Some-clause-moves g c).Then-taken-room in
    c.requires.moves _ (one_written g k (Some c.in-Some.ino) c.in-Some.is _ refl)

pub returns-in-None-clause-changes : goal.returns-in-None-clause-changes
returns-in-None-clause-changes g c =
    let k = (goal.at.returns-in-None-clause-changes g c).Then-taken-room in
    record {
      ok = IfOk-weaker c.apply_moving.result _ _
          (λ _ h. one_written g k None c.in-None.is (g.F.FileStore.state c.apply_moving.new.self).content h)
          c.apply_moving.ensures.applies.ok;
      err = c.apply_moving.ensures.applies.err;
      refused = c.apply_moving.ensures.applies.refused;
      follows = c.apply_moving.ensures.applies.follows;
    }

pub returns-in-None-clause-asked : goal.returns-in-None-clause-asked
returns-in-None-clause-asked g c =
    let k = (goal.at.returns-in-None-clause-asked g c).Then-taken-room in
    asks_list g.F.FileStore.state g.F.FileStore.made refl refl c.apply_moving.ensures.made
    c.apply_moving.ensures.applies.base
    (one_written g k None c.in-None.is _ refl)

pub returns-in-Some-clause-changes : goal.returns-in-Some-clause-changes
returns-in-Some-clause-changes g c =
    let k = (goal.at.returns-in-Some-clause-changes g c).Then-taken-room in
    record {
      ok = IfOk-weaker c.apply_moving-in-Some.result _ _
          (λ _ h. one_written g k (Some c.in-Some.ino) c.in-Some.is
          (g.F.FileStore.state c.apply_moving-in-Some.new.self).content h)
          c.apply_moving-in-Some.ensures.applies.ok;
      err = c.apply_moving-in-Some.ensures.applies.err;
      refused = c.apply_moving-in-Some.ensures.applies.refused;
      follows = c.apply_moving-in-Some.ensures.applies.follows;
    }

pub returns-in-Some-clause-asked : goal.returns-in-Some-clause-asked
returns-in-Some-clause-asked g c =
    let k = (goal.at.returns-in-Some-clause-asked g c).Then-taken-room in
    asks_list g.F.FileStore.state g.F.FileStore.made refl refl c.apply_moving-in-Some.ensures.made
    c.apply_moving-in-Some.ensures.applies.base
    (one_written g k (Some c.in-Some.ino) c.in-Some.is _ refl)

pub apply_moving-requires-in-None-gone-clause-can : goal.apply_moving-requires-in-None-gone-clause-can
apply_moving-requires-in-None-gone-clause-can g c =
    can_put_blocks (g.F.FileStore.state c.args.store.now).content c.args.moving.now.old_dir c.args.places.now.taken
    c.requires.old c.requires.old_within c.args.moving.now.new_dir c.args.places.now.room c.requires.new
    (g.F.FileStore.state c.args.store.now).shape.numbers _ _ refl refl

pub apply_moving-requires-in-None-gone-clause-moves : goal.apply_moving-requires-in-None-gone-clause-moves
apply_moving-requires-in-None-gone-clause-moves g c =
    c.requires.moves _ (two_written _ _ _ _ _ _ _ None c.in-None-gone.is refl)

pub apply_moving-requires-in-Some-gone-clause-can : goal.apply_moving-requires-in-Some-gone-clause-can
apply_moving-requires-in-Some-gone-clause-can g c =
    can_swap_blocks (g.F.FileStore.state c.args.store.now).content c.args.moving.now.old_dir c.args.places.now.taken
    c.requires.old c.requires.old_within c.args.moving.now.new_dir c.args.places.now.room c.requires.new
    (g.F.FileStore.state c.args.store.now).shape.numbers _ _ refl refl c.in-Some-gone.ino
    (subst (λ o. IfSome o (λ m. IsSome (map.get (g.F.FileStore.state c.args.store.now).content m))) c.in-Some-gone.is
    c.requires.used)

pub apply_moving-requires-in-Some-gone-clause-moves : goal.apply_moving-requires-in-Some-gone-clause-moves
apply_moving-requires-in-Some-gone-clause-moves g c =
    c.requires.moves _ (two_written _ _ _ _ _ _ _ (Some c.in-Some-gone.ino) c.in-Some-gone.is refl)

pub returns-in-None-gone-clause-asked : goal.returns-in-None-gone-clause-asked
returns-in-None-gone-clause-asked g c =
    asks_list g.F.FileStore.state g.F.FileStore.made refl refl c.apply_moving-in-None-gone.ensures.made
    c.apply_moving-in-None-gone.ensures.applies.base
    (two_written _ _ _ _ _ _ _ None c.in-None-gone.is refl)

pub returns-in-Some-gone-clause-asked : goal.returns-in-Some-gone-clause-asked
returns-in-Some-gone-clause-asked g c =
    asks_list g.F.FileStore.state g.F.FileStore.made refl refl c.apply_moving-in-Some-gone.ensures.made
    c.apply_moving-in-Some-gone.ensures.applies.base
    (two_written _ _ _ _ _ _ _ (Some c.in-Some-gone.ino) c.in-Some-gone.is refl)
