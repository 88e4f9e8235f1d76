use Rattle.std.proofs.Common.{◌≡◌, refl, sym, subst}
use Rattle.lfs_calls.proofs.StateLemmas.{follows_same, same_content}
use Rattle.lfs_types.specs.StoreStates.{StoreState, MayRefuse}
use Rattle.std.specs.Prelude.{IfErr, OnErr}
use Rattle.std.proofs.lemmas.Result.{IfOk-weaker}
use Rattle.lfs_types.specs.Stored.{bytes_of}
use Rattle.lfs_types.specs.Tree.{Content, World}
use Rattle.lfs_calls.specs.Removes.{HangsAs, IsTaking, TakesFile}
use Rattle.lfs_calls.proofs.Directories.{lists_name}
use Rattle.lfs_calls.specs.Volumes.{IsVolume}
use Rattle.lfs_calls.proofs.AskedLemmas.{asks_list}
use Rattle.lfs_calls.proofs.CallLemmas.{still}
use Rattle.lfs_calls.proofs.TakeLemmas.{taking_listed, can_take, loses_name, takes_file}
use Rattle.lfs_calls.proofs.removing.take_row.Goals as goal
use Rattle.lfs_calls.proofs.removing.take_row.Goals.{After-apply_naming, After-take_name}

-- the row, as the store shows it after its directory was read
at_take : (g : _) (c : After-take_name g) → (w : World)
    × (IsVolume (g.F.FileStore.state c.take_name.new.store) w
    × HangsAs (g.F.FileStore.state c.take_name.new.store).content w.rows c.args.removal.now c.args.name.now)
at_take g c =
    let t = c.requires.world in (
      t.0,
      (
        still c.take_name.ensures.state t.1.0,
        subst (λ x. HangsAs x t.0.rows c.args.removal.now c.args.name.now)
            (sym (same_content c.take_name.ensures.state)) t.1.1,
      ),
    )

-- the block without the name
taken : (g : _) (c : After-take_name g)
    → IsTaking (bytes_of (g.F.FileStore.state c.take_name.new.store).content c.args.removal.now.dir.number)
    c.args.name.now c.take_name.new.room c.take_name.ensures.room.0
taken g c = subst (λ x. IsTaking (bytes_of x c.args.removal.now.dir.number) c.args.name.now c.take_name.new.room
    c.take_name.ensures.room.0) (sym (same_content c.take_name.ensures.state)) c.take_name.ensures.room.1

pub take_name-requires : goal.take_name-requires
take_name-requires g c =
    let t = c.requires.world in
    lists_name t.1.0.shows c.args.removal.now.dir.number c.args.removal.now.dir.attrs t.1.1.shown_dir t.1.1.directory
    c.args.name.now
    (taking_listed (g.F.FileStore.state c.args.store.now).content t.0 t.1.0.shows t.1.0.tree c.args.removal.now
    c.args.name.now t.1.1)

pub apply_naming-requires-clause-can : goal.apply_naming-requires-clause-can
apply_naming-requires-clause-can g c =
    let k = (goal.at.apply_naming-requires-clause-can g c).After-take_name in
    let t = at_take g k in
    can_take (g.F.FileStore.state c.take_name.new.store).content t.0 t.1.0.shows t.1.0.tree c.args.removal.now
    c.args.name.now t.1.1 c.take_name.new.room c.take_name.ensures.room.0 (taken g k) _ _ refl

pub apply_naming-requires-clause-finds : goal.apply_naming-requires-clause-finds
unfolding at_take
apply_naming-requires-clause-finds g c =
    let k = (goal.at.apply_naming-requires-clause-finds g c).After-take_name in
    let t = at_take g k in
    let before = (g.F.FileStore.state c.take_name.new.store).content in
    let room = c.take_name.new.room in
    let block = c.take_name.ensures.room.0 in
    loses_name before t.0 t.1.0.shows t.1.0.tree c.args.removal.now c.args.name.now t.1.1 room block
    (taken g k) c.requires.world.1.2 _
    (takes_file before t.0 t.1.0.shows t.1.0.tree c.args.removal.now c.args.name.now t.1.1 room block
    (taken g k) _ refl)

-- where the store refused, nothing changed
onerr : (g : _) (c : After-apply_naming g)
    → OnErr c.apply_naming.result ((g.F.FileStore.state c.apply_naming.new.self).content
    ≡ (g.F.FileStore.state c.args.store.now).content)
onerr g c = subst (λ (x : Content). OnErr c.apply_naming.result ((g.F.FileStore.state c.apply_naming.new.self).content
    ≡ x)) (same_content c.take_name.ensures.state) c.apply_naming.ensures.applies.err

pub returns-clause-changes : goal.returns-clause-changes
returns-clause-changes g c =
    let k = (goal.at.returns-clause-changes g c).After-take_name in
    let t = at_take g k in
    let same = c.take_name.ensures.state in
    record {
      ok = IfOk-weaker c.apply_naming.result _ _ (λ _ h. (
        c.take_name.new.room,
        c.take_name.ensures.room.0,
        (
          c.take_name.ensures.room.1,
          subst (λ x. TakesFile x (g.F.FileStore.state c.apply_naming.new.self).content c.args.removal.now.file.number
              c.args.removal.now.dir.number c.take_name.new.room.off c.take_name.new.room.block)
              (same_content same)
              (takes_file (g.F.FileStore.state c.take_name.new.store).content t.0 t.1.0.shows t.1.0.tree
              c.args.removal.now c.args.name.now t.1.1 c.take_name.new.room c.take_name.ensures.room.0
              (taken g k) (g.F.FileStore.state c.apply_naming.new.self).content h),
        ),
      ))
          c.apply_naming.ensures.applies.ok;
      err = onerr g c;
      refused = subst (λ (s : StoreState). IfErr c.apply_naming.result (MayRefuse s)) same
          c.apply_naming.ensures.applies.refused;
      follows = follows_same same c.apply_naming.ensures.applies.follows;
    }

pub returns-clause-asked : goal.returns-clause-asked
returns-clause-asked g c =
    let t = c.requires.world in
    let same = c.take_name.ensures.state in
    asks_list g.F.FileStore.state g.F.FileStore.made refl same c.apply_naming.ensures.made
    c.apply_naming.ensures.applies.base (
      c.take_name.new.room,
      c.take_name.ensures.room.0,
      (
        c.take_name.ensures.room.1,
        takes_file (g.F.FileStore.state c.args.store.now).content t.0 t.1.0.shows t.1.0.tree c.args.removal.now
            c.args.name.now t.1.1 c.take_name.new.room c.take_name.ensures.room.0
            c.take_name.ensures.room.1 _ refl,
      ),
    )
