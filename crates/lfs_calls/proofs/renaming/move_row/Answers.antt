use Rattle.std.proofs.Common.{◌≡◌, ◌/◌, ℕ, List, Err, Ok, Option, None, Some, sym, ap, subst, ◌∙◌}
use Rattle.std.proofs.lemmas.Result.{err_from_is_err_and}
use Rattle.std.specs.Prelude.{IfSome, IsSome, not}
use Rattle.std.specs.FinMap.{get}
use Rattle.lfs_types.specs.StoreStates.{StoreState, MayRefuse}
use Rattle.lfs_types.specs.Stored.{bytes_of}
use Rattle.lfs_types.specs.Tree.{Content, World}
use Rattle.lfs_calls.specs.Asked.{Asks}
use Rattle.lfs_calls.specs.Content.{Shows}
use Rattle.lfs_calls.specs.Makes.{IsBlockOf}
use Rattle.lfs_calls.specs.Names.{MovesName}
use Rattle.lfs_calls.specs.Renames.{GoesTo, HasNoRoom, IsNewPlace, MovesTo, PutsRow, WritesBlocks, block_put}
use Rattle.lfs_calls.specs.declared.directory.DirBlock.{DirBlock}
use Rattle.lfs_calls.specs.declared.renaming.Move.{Move}
use Rattle.lfs_calls.proofs.AskedLemmas.{asks_from, on_refusal}
use Rattle.lfs_calls.proofs.HintLemmas.{full_written}
use Rattle.lfs_calls.proofs.MovedNames.{moves_row}
use Rattle.lfs_calls.proofs.PlacedBlocks.{new_block, old_block}
use Rattle.lfs_calls.proofs.MovedPlaces.{has_room}
use Rattle.lfs_calls.proofs.RenameOutcomes.{not_roomless, refused_for}
use Rattle.lfs_calls.proofs.StateLemmas.{follows_same, same_content}
use Rattle.lfs_calls.proofs.StepLemmas.{child-stored}
use Rattle.lfs_types.proofs.Somewhere.{not_some}
use Rattle.lfs_calls.proofs.renaming.move_row.Goals as goal

-- what was written is told of the content before, and of the row that gives way
written : {s t : Content} → s ≡ t → {a b : Option ℕ} → a ≡ b → (after : Content) (p : ℕ) (taken : DirBlock) (q : ℕ)
    (room : DirBlock) → WritesBlocks s after p taken q room a → WritesBlocks t after p taken q room b
written {s} {t} same {a} {b} which after p taken q room writes =
    subst (λ x. WritesBlocks x after p taken q room b) same
    (subst (λ o. WritesBlocks s after p taken q room o) which writes)

-- the row that gives way is stored
stored : (c : Content) (w : World) (shows : Shows c w) (move : Move) (old new : List ℕ) (gone : Option ℕ)
    → GoesTo c w.rows move old new gone → IfSome gone (λ m. IsSome (get c m))
stored c w shows move old new None goes = tt
stored c w shows move old new (Some m) goes = child-stored c w shows move.dir.number new m goes.there

pub put_blocks-requires-clause-old : goal.put_blocks-requires-clause-old
put_blocks-requires-clause-old g c =
    let t = c.requires.goes in
    let found = c.find_places.ensures.places c.if-not-find_places.false in
    subst (λ x. IsBlockOf x c.args.planned.now.removal.dir.number c.find_places.new.places.taken)
    (sym (same_content c.find_places.ensures.state))
    (old_block t.1.0.shows t.1.0.tree t.1.1.leaves found.taking.1)

pub put_blocks-requires-clause-new : goal.put_blocks-requires-clause-new
put_blocks-requires-clause-new g c =
    let t = c.requires.goes in
    let found = c.find_places.ensures.places c.if-not-find_places.false in
    subst (λ x. IsBlockOf x c.args.planned.now.dir.number c.find_places.new.places.room)
    (sym (same_content c.find_places.ensures.state))
    (new_block t.1.0.shows t.1.0.tree t.1.1.leaves found.taking.1 c.args.gone c.args.names.new.now
    c.find_places.new.places.room found.room.0 found.room.1)

pub put_blocks-requires-clause-used : goal.put_blocks-requires-clause-used
put_blocks-requires-clause-used g c =
    let t = c.requires.goes in
    let found = c.find_places.ensures.places c.if-not-find_places.false in
    subst (λ x. IfSome c.find_places.new.places.gone (λ m. IsSome (get x m)))
    (sym (same_content c.find_places.ensures.state))
    (subst (λ o. IfSome o (λ m. IsSome (get (g.F.FileStore.state c.args.store.now).content m)))
    (sym found.gives_way)
    (stored (g.F.FileStore.state c.args.store.now).content t.0 t.1.0.shows c.args.planned.now c.args.names.old.now
    c.args.names.new.now c.args.gone t.1.1))

pub put_blocks-requires-clause-moves : goal.put_blocks-requires-clause-moves
put_blocks-requires-clause-moves g c after writes =
    let t = c.requires.goes in
    let m = c.args.planned.now in
    let same = same_content c.find_places.ensures.state in
    let places = c.find_places.new.places in
    let found = c.find_places.ensures.places c.if-not-find_places.false in
    subst (λ x. MovesName x after m.removal.dir.number c.args.names.old.now m.dir.number c.args.names.new.now
    m.removal.file.number (places.room.off / 512)) (sym same)
    (moves_row t.1.0.shows t.1.0.tree c.args.gone t.1.1 found after
    (written same found.gives_way after m.removal.dir.number places.taken m.dir.number places.room writes))

pub returns-in_err-put_blocks-clause-puts : goal.returns-in_err-put_blocks-clause-puts
returns-in_err-put_blocks-clause-puts g c =
    let t = c.requires.goes in
    let p = err_from_is_err_and c.from_residual.result c.from_residual.ensures.1 in
    let s = g.F.FileStore.state c.args.store.now in
    let found = c.find_places.ensures.places c.if-not-find_places.false in
    subst (λ r. PutsRow s c.args.planned.now c.args.names.old.now c.args.names.new.now c.args.gone r
    (g.F.FileStore.state c.put_blocks.new.store)) (sym (p.1 ∙ ap Err p.2))
    (record {
      ok = tt;
      err = c.in_err-put_blocks.ensures.changes.err ∙ same_content c.find_places.ensures.state;
      refused = refused_for s
          (HasNoRoom s.content c.args.planned.now c.args.names.old.now c.args.names.new.now c.args.gone)
          c.in_err-put_blocks.field-0.0
          (subst (λ (x : StoreState). MayRefuse x c.in_err-put_blocks.field-0.0)
          c.find_places.ensures.state c.in_err-put_blocks.ensures.changes.refused)
          (has_room t.1.0.shows t.1.0.tree t.1.1.leaves found.taking.1 c.args.gone c.args.names.new.now
          c.find_places.new.places.room found.room.0 found.room.1);
      roomless = λ h. not_roomless c.in_err-put_blocks.field-0.0 h;
      follows = follows_same c.find_places.ensures.state c.in_err-put_blocks.ensures.changes.follows;
    })

pub returns-in_err-put_blocks-clause-asked : goal.returns-in_err-put_blocks-clause-asked
returns-in_err-put_blocks-clause-asked g c =
    let p = err_from_is_err_and c.from_residual.result c.from_residual.ensures.1 in
    let m = c.args.planned.now in
    let places = c.find_places.new.places in
    let found = c.find_places.ensures.places c.if-not-find_places.false in
    rw (p.1, p.2) (on_refusal _ c.in_err-put_blocks.field-0.0
    (asks_from g.F.FileStore.state g.F.FileStore.made c.find_places.ensures.state (λ after writes. (
      places,
      (
        found,
        written (same_content c.find_places.ensures.state) found.gives_way after m.removal.dir.number places.taken
            m.dir.number places.room writes,
      ),
    ))
    c.in_err-put_blocks.ensures.asked))

-- the hint is kept where the name was free
pub keep_room-requires : goal.keep_room-requires
keep_room-requires g c =
    let m = c.args.planned.now in
    let places = c.find_places.new.places in
    let found = c.find_places.ensures.places c.if-not-find_places.false in
    let before = (g.F.FileStore.state c.args.store.now).content in
    let after = (g.F.FileStore.state c.put_blocks.new.store).content in
    let free = not_some c.args.gone (c.is_none.ensures ∙ ap not c.if-is_none.true) in
    full_written before after m.removal.dir.number places.taken m.dir.number places.room m.removal.file.number
    c.args.names.new.now _
    (subst (λ o. IsNewPlace (bytes_of (block_put m.removal.dir.number places.taken before) m.dir.number)
    m.removal.file.number c.args.names.new.now o places.room found.room.0) free found.room.1)
    (written (same_content c.find_places.ensures.state) (found.gives_way ∙ free) after m.removal.dir.number places.taken
    m.dir.number places.room c.in_ok-put_blocks.ensures.changes.ok)

pub returns-then-is_none-clause-asked : goal.returns-then-is_none-clause-asked
returns-then-is_none-clause-asked g c =
    let m = c.args.planned.now in
    let places = c.find_places.new.places in
    let found = c.find_places.ensures.places c.if-not-find_places.false in
    subst (λ store. Asks g.F.FileStore.state g.F.FileStore.made c.args.store.now c.args.by
    (λ after. MovesTo (g.F.FileStore.state c.args.store.now).content after m c.args.names.old.now c.args.names.new.now
    c.args.gone) (Ok tt) store) (sym c.keep_room.ensures)
    (asks_from g.F.FileStore.state g.F.FileStore.made c.find_places.ensures.state (λ after writes. (
      places,
      (
        found,
        written (same_content c.find_places.ensures.state) found.gives_way after m.removal.dir.number places.taken
            m.dir.number places.room writes,
      ),
    ))
    c.in_ok-put_blocks.ensures.asked)

pub returns-else-is_none-clause-asked : goal.returns-else-is_none-clause-asked
returns-else-is_none-clause-asked g c =
    let m = c.args.planned.now in
    let places = c.find_places.new.places in
    let found = c.find_places.ensures.places c.if-not-find_places.false in
    asks_from g.F.FileStore.state g.F.FileStore.made c.find_places.ensures.state (λ after writes. (
      places,
      (
        found,
        written (same_content c.find_places.ensures.state) found.gives_way after m.removal.dir.number places.taken
            m.dir.number places.room writes,
      ),
    ))
    c.in_ok-put_blocks.ensures.asked
