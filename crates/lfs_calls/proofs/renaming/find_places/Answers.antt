use Rattle.std.proofs.Common.{◌≢◌, None, refl, sym, ap, subst, ◌∙◌, rules}
use Rattle.std.specs.Prelude.{IfSome}
use Rattle.lfs_types.specs.Stored.{bytes_of}
use Rattle.lfs_dirs.specs.Directory.{number_in}
use Rattle.lfs_calls.specs.Content.{AreBlocks, FitsNowhere, HasBlocks, all_entries}
use Rattle.lfs_calls.specs.Makes.{IsRoom}
use Rattle.lfs_calls.specs.Removes.{IsChildless}
use Rattle.lfs_calls.specs.Renames.{HasNoRoom, IsNewPlace, IsSwap, block_put}
use Rattle.lfs_calls.proofs.Directories.{lists_name, dir_stored, size_bounded}
use Rattle.lfs_types.proofs.Somewhere.{present}
use Rattle.lfs_calls.proofs.MovedPlaces.{above, nowhere, old_is_listed, seen_free, seen_listing, seen_there}
use Rattle.lfs_calls.proofs.MovedPlaces.{seen_through}
use Rattle.lfs_calls.proofs.StateLemmas.{same_content}
use Rattle.lfs_calls.proofs.renaming.find_places.Goals as goal

pub take_name-requires : goal.take_name-requires
take_name-requires g c =
    let t = c.requires.goes in
    let m = c.args.planned.now.removal in
    lists_name t.1.0.shows m.dir.number m.dir.attrs t.1.1.leaves.hangs.shown_dir t.1.1.leaves.hangs.directory
    c.args.names.old.now (present (old_is_listed t.1.0.shows t.1.0.tree t.1.1.leaves))

-- ---- a name that is free

pub find_room-requires : goal.find_room-requires
find_room-requires g c =
    let t = c.requires.goes in
    let m = c.args.planned.now in
    let taking = c.take_name.ensures.room.1 in
    let same = same_content c.take_name.ensures.state in
    let seen = seen_through t.1.0.shows t.1.0.tree t.1.1.leaves taking _ same c.then_some-seen.result _ refl
    c.then_some-seen.ensures in
    record {
      stored = subst (λ x. HasBlocks x m.dir.number m.dir.attrs.size) (sym same)
          (dir_stored t.1.0.shows m.dir.number m.dir.attrs t.1.1.leaves.shown t.1.1.leaves.directory);
      bounded = size_bounded t.1.0.shows m.dir.number m.dir.attrs t.1.1.leaves.shown t.1.1.leaves.directory;
      stands = search rules;
      blocks = subst AreBlocks (sym seen) (seen_listing t.1.0.shows t.1.0.tree t.1.1.leaves taking).blocks;
      above = above t.1.0.shows t.1.0.tree t.1.1.leaves;
      free = ap (λ bs. number_in c.args.names.new.now (all_entries bs)) seen
          ∙ seen_free t.1.0.shows t.1.0.tree t.1.1.leaves taking c.args.names.new.now (t.1.1.there ∙ c.in-None.is);
    }

pub returns-in-None-clause-full : goal.returns-in-None-clause-full
returns-in-None-clause-full g c = λ none.
    let t = c.requires.goes in
    let m = c.args.planned.now in
    let before = (g.F.FileStore.state c.args.store.now).content in
    let taking = c.take_name.ensures.room.1 in
    let full = nowhere t.1.0.shows t.1.0.tree t.1.1.leaves taking
    (subst (λ bs. FitsNowhere bs None c.args.names.new.now)
    (seen_through t.1.0.shows t.1.0.tree t.1.1.leaves taking _
    (same_content c.take_name.ensures.state) c.then_some-seen.result _ refl c.then_some-seen.ensures)
    (c.find_room.ensures.full none)) in
    subst (λ o. HasNoRoom before m c.args.names.old.now c.args.names.new.now o) (sym c.in-None.is) full

pub returns-in-None-clause-places : goal.returns-in-None-clause-places
returns-in-None-clause-places g c = λ fits.
    let t = c.requires.goes in
    let m = c.args.planned.now in
    let taking = c.take_name.ensures.room in
    let found = c.find_room.ensures.room fits in
    let room = c.find_room.new.room in
    record {
      taking = taking;
      room = (
        found.0,
        subst (λ o. IsNewPlace (bytes_of (block_put m.removal.dir.number c.take_name.new.room
            (g.F.FileStore.state c.args.store.now).content) m.dir.number) m.removal.file.number c.args.names.new.now o
            room found.0) (sym c.in-None.is)
            (subst (λ bs. IsRoom bs m.removal.file.number c.args.names.new.now room found.0)
            (seen_through t.1.0.shows t.1.0.tree t.1.1.leaves taking.1 _
            (same_content c.take_name.ensures.state) c.then_some-seen.result _ refl c.then_some-seen.ensures)
            found.1),
      );
      gives_way = refl;
    }

-- ---- a name that another row has

pub swap_number-requires : goal.swap_number-requires
swap_number-requires g c =
    let t = c.requires.goes in
    let m = c.args.planned.now in
    let taking = c.take_name.ensures.room.1 in
    let same = same_content c.take_name.ensures.state in
    let seen = seen_through t.1.0.shows t.1.0.tree t.1.1.leaves taking _ same c.then_some-seen.result _ refl
    c.then_some-seen.ensures in
    let other = subst (λ o. IfSome o (λ n. (n ≢ m.removal.file.number) × IsChildless t.0.rows n)) c.in-Some.is
    t.1.1.gives_way in
    record {
      stored = subst (λ x. HasBlocks x m.dir.number m.dir.attrs.size) (sym same)
          (dir_stored t.1.0.shows m.dir.number m.dir.attrs t.1.1.leaves.shown t.1.1.leaves.directory);
      bounded = size_bounded t.1.0.shows m.dir.number m.dir.attrs t.1.1.leaves.shown t.1.1.leaves.directory;
      stands = search rules;
      blocks = subst AreBlocks (sym seen) (seen_listing t.1.0.shows t.1.0.tree t.1.1.leaves taking).blocks;
      above = above t.1.0.shows t.1.0.tree t.1.1.leaves;
      listed = present (ap (λ bs. number_in c.args.names.new.now (all_entries bs)) seen
          ∙ seen_there t.1.0.shows t.1.0.tree t.1.1.leaves taking c.args.names.new.now c.in-Some.field-0
          (t.1.1.there ∙ c.in-Some.is) other.0);
    }

pub returns-in-Some-clause-places : goal.returns-in-Some-clause-places
returns-in-Some-clause-places g c = λ fits.
    let t = c.requires.goes in
    let m = c.args.planned.now in
    let taking = c.take_name.ensures.room in
    let found = c.swap_number.ensures.room in
    let room = c.swap_number.new.room in
    record {
      taking = taking;
      room = (
        found.0,
        subst (λ o. IsNewPlace (bytes_of (block_put m.removal.dir.number c.take_name.new.room
            (g.F.FileStore.state c.args.store.now).content) m.dir.number) m.removal.file.number c.args.names.new.now o
            room found.0) (sym c.in-Some.is)
            (subst (λ bs. IsSwap bs c.args.names.new.now m.removal.file.number room found.0)
            (seen_through t.1.0.shows t.1.0.tree t.1.1.leaves taking.1 _
            (same_content c.take_name.ensures.state) c.then_some-seen.result _ refl c.then_some-seen.ensures)
            found.1),
      );
      gives_way = refl;
    }
