use Rattle.std.proofs.Common.{◌≡◌, ◌≤◌, ◌/◌, ℕ, List, [], length, None, Some, Ok, refl, sym, ap, subst, ◌∙◌, arith}
use Rattle.lfs_calls.specs.Volumes.{IsVolume}
use Rattle.lfs_calls.proofs.StateLemmas.{same_content, same_numbers}
use Rattle.lfs_types.specs.StoreStates.{StoreState, MayRefuse}
use Rattle.lfs_types.specs.Stored.{bytes_of, IsUsedBelow, IsLeastFree}
use Rattle.lfs_types.specs.declared.answer.Resource.TheVariants.{NoInodes, DirectoryFull}
use Rattle.std.proofs.lemmas.Result.{err_from_is_err_and}
use Rattle.lfs_calls.proofs.AskedLemmas.{asked_refused, asked_served, on_change}
use Rattle.lfs_calls.proofs.CallLemmas.{denied, lacking, refused_so, done_so}
use Rattle.lfs_types.specs.Tree.{World, Content}
use Rattle.lfs_model.specs.World.{IsTree}
use Rattle.lfs_model.specs.Rules.{Judges, first_failing, last, making}
use Rattle.lfs_calls.specs.Content.{Shows, FitsNowhere}
use Rattle.lfs_calls.specs.declared.directory.DirBlock.{DirBlock}
use Rattle.lfs_calls.specs.Makes.{CanEnter, CanMake, IsParent, IsRoom, request_for}
use Rattle.lfs_calls.specs.Names.{FindsNew}
use Rattle.lfs_model.specs.Steps.{AllUsed}
use Rattle.lfs_calls.proofs.CreateLemmas.{can_enter, gives_name, enters_first, room_ready, crowded_in, not_all_used}
use Rattle.lfs_calls.proofs.CreateLemmas.{roomy, shows_after, tree_after}
use Rattle.lfs_calls.proofs.MakeLemmas.{all_used}
use Rattle.lfs_calls.proofs.MakeOutcomes.{make_changing, make_entries, make_looks, make_denial, make_after}
use Rattle.lfs_calls.proofs.MakeOutcomes.{make_no_inodes, make_full, make_done, make_refused}
use Rattle.lfs_calls.proofs.making.make.Goals as goal
use Rattle.lfs_calls.proofs.making.make.Goals.{In-Some}

-- the content before, as the store has it at the call
abbrev before : (g : _) (c : In-Some g) → Content
before g c = (g.F.FileStore.state c.args.store.now).content

-- the judge found the call allowed, and the directory in which the name is put
judged_so : (g : _) (c : In-Some g) (w : World) → IsVolume (g.F.FileStore.state c.args.store.now) w
    → (first_failing (making w.rows c.args.cred.now c.args.path.now) ≡ None)
    × IsParent (before g c) w.rows c.args.path.now c.in_ok-dir.dir
judged_so g c w v = subst (λ names. Judges (making w.rows c.args.cred.now names) (IsParent (before g c) w.rows names)
    (Ok c.in_ok-dir.dir)) c.names-names.ensures.value (c.in_ok-dir.ensures.judge w v)

parent : (g : _) (c : In-Some g) (w : World) → IsVolume (g.F.FileStore.state c.args.store.now) w
    → IsParent (before g c) w.rows c.args.path.now c.in_ok-dir.dir
parent g c w v = (judged_so g c w v).1

pub last_name-name-requires : goal.last_name-name-requires
last_name-name-requires g c = let t = c.requires in (c.in_ok-dir.ensures.judge t.0 t.1).1.some

name_is : (g : _) (c : In-Some g) → c.last_name-name.result.now ≡ last c.args.path.now
name_is g c = c.last_name-name.ensures.name ∙ ap last c.names-names.ensures.value

least : (g : _) (c : In-Some g) → IsLeastFree (g.F.FileStore.state c.args.store.now).shape.numbers (before g c)
    (Some c.in-Some.number)
least g c = subst (λ x. IsLeastFree (g.F.FileStore.state c.args.store.now).shape.numbers x (Some c.in-Some.number))
    (same_content c.judge_make.ensures.state)
    (subst (λ n. IsLeastFree n (g.F.FileStore.state c.judge_make.new.store).content (Some c.in-Some.number))
    (same_numbers c.judge_make.ensures.state) c.in-Some.ensures)

pub find_room-requires : goal.find_room-requires
find_room-requires g c =
    let k = (goal.at.find_room-requires g c).In-Some in
    let t = c.requires in
    let l = least g k in
    subst (λ x. CanEnter x c.in_ok-dir.dir.number c.in_ok-dir.dir.attrs.size None c.last_name-name.result.now
    c.in-Some.number) (sym (same_content c.judge_make.ensures.state))
    (can_enter t.1.shows (parent g k t.0 t.1) c.in-Some.number (omega (arith, l.0)) c.last_name-name.result.now
    (name_is g k))

short : (g : _) (c : In-Some g) → length (last c.args.path.now) ≤ 255
short g c = subst (λ (n : List ℕ). length n ≤ 255) (name_is g c) c.as_bytes.ensures.bounded

-- the store has a number, and so the tree has one
numbered : (g : _) (c : In-Some g) (w : World) → IsVolume (g.F.FileStore.state c.args.store.now) w
    → AllUsed (g.F.FileStore.state c.args.store.now).shape.numbers w.rows → ⊥
numbered g c w v = not_all_used v.shows (parent g c w v)
    (g.F.FileStore.state c.args.store.now).shape.numbers c.in-Some.number (least g c)

-- the room that was found, in the content before
room_is : (g : _) (c : In-Some g) (room : DirBlock) (n : ℕ)
    → IsRoom (bytes_of (g.F.FileStore.state c.judge_make.new.store).content c.in_ok-dir.dir.number) c.in-Some.number
    c.last_name-name.result.now room n
    → IsRoom (bytes_of (before g c) c.in_ok-dir.dir.number) c.in-Some.number (last c.args.path.now) room n
room_is g c room n h =
    subst (λ x. IsRoom (bytes_of x c.in_ok-dir.dir.number) c.in-Some.number (last c.args.path.now) room n)
    (same_content c.judge_make.ensures.state)
    (subst (λ name. IsRoom (bytes_of (g.F.FileStore.state c.judge_make.new.store).content c.in_ok-dir.dir.number)
    c.in-Some.number name room n) (name_is g c) h)

pub put_new-requires-clause-finds : goal.put_new-requires-clause-finds
put_new-requires-clause-finds g c after makes =
    let k = (goal.at.put_new-requires-clause-finds g c).In-Some in
    let t = c.requires in
    let found = c.find_room.ensures.room c.if-not-find_room.false in
    let room = c.find_room.new.room in
    let same = same_content c.find_room.ensures.state ∙ same_content c.judge_make.ensures.state in
    subst (λ x. FindsNew x after c.in_ok-dir.dir.number c.last_name-name.result.now (Some c.in-Some.number)
    (room.off / 512)) (sym same)
    (subst (λ name. FindsNew (before g k) after c.in_ok-dir.dir.number name (Some c.in-Some.number) (room.off / 512))
    (sym (name_is g k))
    (gives_name t.1.shows (parent g k t.0 t.1) c.args.cred.now t.1.tree
    (g.F.FileStore.state c.args.store.now).shape.numbers c.in-Some.number (least g k) c.args.kind c.args.mode
    (room_is g k room found.0 found.1) (g.F.FileStore.state c.find_room.new.store).content after same _
    (ap (λ n. record {
      kind = c.args.kind;
      uid = c.uid.result;
      gid = c.in_ok-dir.dir.attrs.gid;
      mode = c.args.mode;
      flags = n;
      bytes = [];
    }) c.none.ensures
    ∙ ap (λ n. record {
      kind = c.args.kind;
      uid = n;
      gid = c.in_ok-dir.dir.attrs.gid;
      mode = c.args.mode;
      flags = 0;
      bytes = [];
    }) c.uid.ensures) makes))

pub put_new-requires-clause-can : goal.put_new-requires-clause-can
put_new-requires-clause-can g c =
    let k = (goal.at.put_new-requires-clause-can g c).In-Some in
    let t = c.requires in
    let l = least g k in
    let found = c.find_room.ensures.room c.if-not-find_room.false in
    subst (λ (s : StoreState). CanMake s c.in-Some.number c.in_ok-dir.dir.number c.find_room.new.room)
    (sym (c.find_room.ensures.state ∙ c.judge_make.ensures.state))
    (record {
      above = l.0;
      within = l.1;
      unused = l.2;
      block = room_ready t.1.shows (parent g k t.0 t.1) (room_is g k c.find_room.new.room found.0 found.1);
    })

pub returns-in_err-dir-clause-call : goal.returns-in_err-dir-clause-call
returns-in_err-dir-clause-call g c level =
    let p = err_from_is_err_and c.from_residual.result c.from_residual.ensures.1 in
    rw (p.1, p.2) (denied level c.judge_make.ensures.state c.in_err-dir.field-0.0 (λ w v at_level.
    make_denial (g.F.FileStore.state c.args.store.now) w c.args.cred.now c.args.path.now c.args.mode c.args.kind
    c.in_err-dir.field-0.0
    (subst (λ names. first_failing (making w.rows c.args.cred.now names)
    ≡ Some c.in_err-dir.field-0.0) c.names-names.ensures.value (c.in_err-dir.ensures.judge w v))))

pub returns-in_default-clause-call : goal.returns-in_default-clause-call
returns-in_default-clause-call g c level = lacking level c.judge_make.ensures.state NoInodes (λ w v at_level.
    let before = (g.F.FileStore.state c.args.store.now).content in
    let numbers = (g.F.FileStore.state c.args.store.now).shape.numbers in
    let allowed = (subst (λ names. Judges (making w.rows c.args.cred.now names) (IsParent before w.rows names)
    (Ok c.in_ok-dir.dir)) c.names-names.ensures.value (c.in_ok-dir.ensures.judge w v)).0 in
    let used = subst (λ x. IsUsedBelow x numbers) (same_content c.judge_make.ensures.state)
    (subst (λ n. IsUsedBelow (g.F.FileStore.state c.judge_make.new.store).content n)
    (same_numbers c.judge_make.ensures.state) c.in_default.ensures) in
    make_no_inodes (g.F.FileStore.state c.args.store.now) w c.args.cred.now c.args.path.now c.args.mode allowed
    c.args.kind (all_used before w v.shows numbers used))

pub returns-then-not-find_room-clause-call : goal.returns-then-not-find_room-clause-call
returns-then-not-find_room-clause-call g c level =
    lacking level (c.find_room.ensures.state ∙ c.judge_make.ensures.state) DirectoryFull (λ w v at_level.
    let k = (goal.at.returns-then-not-find_room-clause-call g c).In-Some in
    let is = parent g k w v in
    let full = subst (λ x. FitsNowhere (bytes_of x c.in_ok-dir.dir.number) None (last c.args.path.now))
    (same_content c.judge_make.ensures.state)
    (subst (λ name. FitsNowhere (bytes_of (g.F.FileStore.state c.judge_make.new.store).content c.in_ok-dir.dir.number)
    None name) (name_is g k) (c.find_room.ensures.full c.if-not-find_room.true)) in
    make_full (g.F.FileStore.state c.args.store.now) w c.args.cred.now c.args.path.now c.args.mode (judged_so g k w v).0
    (numbered g k w v) c.args.kind
    (crowded_in v.shows is full (short g k))
    (subst (λ p. FitsNowhere (bytes_of (before g k) p) None (last c.args.path.now)) (sym is.object) full))

pub returns-in_err-put_new-clause-call : goal.returns-in_err-put_new-clause-call
returns-in_err-put_new-clause-call g c level =
    let p = err_from_is_err_and c.from_residual-in_err-put_new.result c.from_residual-in_err-put_new.ensures.1 in
    rw (p.1, p.2) (refused_so level (c.find_room.ensures.state ∙ c.judge_make.ensures.state) c.in_err-put_new.field-0.0
    (make_changing c.args.path.now c.args.mode c.args.kind) (λ w v at_level.
    let k = (goal.at.returns-in_err-put_new-clause-call g c).In-Some in
    let is = parent g k w v in
    let found = c.find_room.ensures.room c.if-not-find_room.false in
    make_refused (g.F.FileStore.state c.args.store.now) w c.args.cred.now c.args.path.now c.args.mode
    (judged_so g k w v).0 (numbered g k w v)
    (roomy v.shows is (room_is g k c.find_room.new.room found.0 found.1)) c.args.kind c.in_err-put_new.field-0.0
    (subst (λ s. MayRefuse s c.in_err-put_new.field-0.0) (c.find_room.ensures.state
    ∙ c.judge_make.ensures.state) c.in_err-put_new.ensures.changes.refused)) c.in_err-put_new.ensures.changes)

pub returns-clause-call : goal.returns-clause-call
returns-clause-call g c level = done_so level (c.find_room.ensures.state ∙ c.judge_make.ensures.state)
    (make_looks _ _ c.args.path.now c.args.mode c.args.kind)
    (λ w v at_level.
    let k = (goal.at.returns-clause-call g c).In-Some in
    let is = parent g k w v in
    let found = c.find_room.ensures.room c.if-not-find_room.false in
    make_done (g.F.FileStore.state c.args.store.now) w c.args.cred.now c.args.path.now c.args.mode (judged_so g k w v).0
    (numbered g k w v)
    (roomy v.shows is (room_is g k c.find_room.new.room found.0 found.1)) c.args.kind)
    (λ w v. record {
      shows =
          let k = (goal.at.returns-clause-call g c).In-Some in
          let is = parent g k w v in
          let found = c.find_room.ensures.room c.if-not-find_room.false in
          let numbers = (g.F.FileStore.state c.args.store.now).shape.numbers in
          subst (Shows (g.F.FileStore.state c.put_new.new.store).content)
          (sym (make_after (g.F.FileStore.state c.args.store.now) w c.args.cred.now c.args.path.now c.args.mode
          c.args.kind))
          (shows_after v.shows is c.args.cred.now v.tree numbers c.in-Some.number (least g k) c.args.kind c.args.mode
          (room_is g k c.find_room.new.room found.0 found.1)
          (g.F.FileStore.state c.find_room.new.store).content (g.F.FileStore.state c.put_new.new.store).content
          ((same_content c.find_room.ensures.state) ∙ (same_content c.judge_make.ensures.state))
          _ (ap (λ n. record {
            kind = c.args.kind;
            uid = c.uid.result;
            gid = c.in_ok-dir.dir.attrs.gid;
            mode = c.args.mode;
            flags = n;
            bytes = [];
          }) c.none.ensures
          ∙ ap (λ n. record {
            kind = c.args.kind;
            uid = n;
            gid = c.in_ok-dir.dir.attrs.gid;
            mode = c.args.mode;
            flags = 0;
            bytes = [];
          }) c.uid.ensures)
          c.in_ok-put_new.ensures.changes.ok);
      tree =
          let k = (goal.at.returns-clause-call g c).In-Some in
          let numbers = (g.F.FileStore.state c.args.store.now).shape.numbers in
          subst (λ (x : World). IsTree x.rows) (sym
          (make_after (g.F.FileStore.state c.args.store.now) w c.args.cred.now c.args.path.now c.args.mode
          c.args.kind))
          (tree_after v.shows (parent g k w v) c.args.cred.now v.tree numbers c.in-Some.number
          (least g k) c.args.kind c.args.mode);
    })
    (λ w v.
    let k = (goal.at.returns-clause-call g c).In-Some in
    let is = parent g k w v in
    let found = c.find_room.ensures.room c.if-not-find_room.false in
    let room = c.find_room.new.room in
    make_entries _ _ w.rows c.args.path.now c.args.mode c.args.kind
    (enters_first v.shows is (room_is g k room found.0 found.1) (g.F.FileStore.state c.find_room.new.store).content
    (g.F.FileStore.state c.put_new.new.store).content
    ((same_content c.find_room.ensures.state) ∙ (same_content c.judge_make.ensures.state))
    (least g k).2 _ refl c.in_ok-put_new.ensures.changes.ok))
    c.in_ok-put_new.ensures.changes.follows

pub returns-in_err-dir-clause-asked : goal.returns-in_err-dir-clause-asked
returns-in_err-dir-clause-asked g c =
    let p = err_from_is_err_and c.from_residual.result c.from_residual.ensures.1 in
    rw (p.1, p.2) (on_change (request_for c.args.kind c.args.path.now c.args.mode) tt)

pub returns-in_default-clause-asked : goal.returns-in_default-clause-asked
returns-in_default-clause-asked g c = on_change (request_for c.args.kind c.args.path.now c.args.mode) tt

pub returns-then-not-find_room-clause-asked : goal.returns-then-not-find_room-clause-asked
returns-then-not-find_room-clause-asked g c = on_change (request_for c.args.kind c.args.path.now c.args.mode) tt

pub returns-in_err-put_new-clause-asked : goal.returns-in_err-put_new-clause-asked
returns-in_err-put_new-clause-asked g c =
    let p = err_from_is_err_and c.from_residual-in_err-put_new.result c.from_residual-in_err-put_new.ensures.1 in
    rw (p.1, p.2) (asked_refused g.F.FileStore.state g.F.FileStore.made
    (request_for c.args.kind c.args.path.now c.args.mode) c.args.cred.now
    (c.find_room.ensures.state ∙ c.judge_make.ensures.state) c.of-by.ensures (λ s made w v.
    let k = (goal.at.returns-in_err-put_new-clause-asked g c).In-Some in
    let is = parent g k w v in
    let found = c.find_room.ensures.room c.if-not-find_room.false in
    let numbers = (g.F.FileStore.state c.args.store.now).shape.numbers in
    record {
      shows = subst (Shows s.content) (sym (make_after
          (g.F.FileStore.state c.args.store.now) w c.args.cred.now c.args.path.now c.args.mode c.args.kind))
          (shows_after v.shows is c.args.cred.now v.tree numbers c.in-Some.number (least g k) c.args.kind c.args.mode
          (room_is g k c.find_room.new.room found.0 found.1)
          (g.F.FileStore.state c.find_room.new.store).content s.content (same_content c.find_room.ensures.state
          ∙ same_content c.judge_make.ensures.state)
          _ (ap (λ n. record {
            kind = c.args.kind;
            uid = c.uid.result;
            gid = c.in_ok-dir.dir.attrs.gid;
            mode = c.args.mode;
            flags = n;
            bytes = [];
          }) c.none.ensures
          ∙ ap (λ n. record {
            kind = c.args.kind;
            uid = n;
            gid = c.in_ok-dir.dir.attrs.gid;
            mode = c.args.mode;
            flags = 0;
            bytes = [];
          }) c.uid.ensures)
          made);
      tree = subst (λ (x : World). IsTree x.rows)
          (sym (make_after (g.F.FileStore.state c.args.store.now) w c.args.cred.now c.args.path.now c.args.mode
          c.args.kind))
          (tree_after v.shows is c.args.cred.now v.tree numbers c.in-Some.number (least g k) c.args.kind c.args.mode);
    }) c.in_err-put_new.field-0.0 c.in_err-put_new.ensures.asked)

pub returns-clause-asked : goal.returns-clause-asked
returns-clause-asked g c =
    asked_served g.F.FileStore.state g.F.FileStore.made
    (request_for c.args.kind c.args.path.now c.args.mode) c.args.cred.now
    (c.find_room.ensures.state ∙ c.judge_make.ensures.state) c.of-by.ensures (λ s made w v.
    let k = (goal.at.returns-clause-asked g c).In-Some in
    let is = parent g k w v in
    let found = c.find_room.ensures.room c.if-not-find_room.false in
    let numbers = (g.F.FileStore.state c.args.store.now).shape.numbers in
    record {
      shows = subst (Shows s.content) (sym (make_after
          (g.F.FileStore.state c.args.store.now) w c.args.cred.now c.args.path.now c.args.mode c.args.kind))
          (shows_after v.shows is c.args.cred.now v.tree numbers c.in-Some.number (least g k) c.args.kind c.args.mode
          (room_is g k c.find_room.new.room found.0 found.1)
          (g.F.FileStore.state c.find_room.new.store).content s.content (same_content c.find_room.ensures.state
          ∙ same_content c.judge_make.ensures.state)
          _ (ap (λ n. record {
            kind = c.args.kind;
            uid = c.uid.result;
            gid = c.in_ok-dir.dir.attrs.gid;
            mode = c.args.mode;
            flags = n;
            bytes = [];
          }) c.none.ensures
          ∙ ap (λ n. record {
            kind = c.args.kind;
            uid = n;
            gid = c.in_ok-dir.dir.attrs.gid;
            mode = c.args.mode;
            flags = 0;
            bytes = [];
          }) c.uid.ensures)
          made);
      tree = subst (λ (x : World). IsTree x.rows)
          (sym (make_after (g.F.FileStore.state c.args.store.now) w c.args.cred.now c.args.path.now c.args.mode
          c.args.kind))
          (tree_after v.shows is c.args.cred.now v.tree numbers c.in-Some.number (least g k) c.args.kind c.args.mode);
    }) c.in_ok-put_new.ensures.asked
