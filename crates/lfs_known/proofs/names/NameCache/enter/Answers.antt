use Rattle.std.proofs.Common.{◌≡◌, ◌<◌, List, ℕ, length, Some, ap, sym, subst, ◌∙◌, arith}
use Rattle.std.specs.Prelude.{slice_set}
use Rattle.lfs_known.specs.Places.{place_of}
use Rattle.lfs_known.specs.NamesSaid.{says}
use Rattle.lfs_known.specs.NameSlots.{kept_of, said}
use Rattle.lfs_known.proofs.SlotLemmas.{its_own, kept_long, put_apart, put_here, put_no_more}
use Rattle.lfs_known.proofs.names.NameCache.enter.Goals as goal
use Rattle.lfs_known.proofs.names.NameCache.enter.Goals.{After-self-then-name-le-KEPT_BYTES-1}

-- the pair is put where its name has its slot
abbrev at_name : (c : After-self-then-name-le-KEPT_BYTES-1) → List ℕ
at_name c = c.as_bytes-name.result.now

within : (c : After-self-then-name-le-KEPT_BYTES-1)
    → place_of c.args.dir (at_name c) < length c.args.self.now.slots.items
within c =
    let slots = c.args.self.now.slots in
    let sized = c.args.self.now.sized in
    let same = c.place_of.ensures.value in
    let low = c.place_of.ensures.within in
    let n = slots.ok.0 in
    omega arith

pub returns-then-name-le-KEPT_BYTES-clause-entered : goal.returns-then-name-le-KEPT_BYTES-clause-entered
unfolding says
returns-then-name-le-KEPT_BYTES-clause-entered c =
    let slots = c.args.self.now.slots.items in
    let same = c.place_of.ensures.value in
    let put = λ (p : ℕ). slice_set slots p (Some c.new.result) in
    let own = its_own c.new.result c.args.dir (at_name c) c.new.ensures.dir c.new.ensures.name
    ∙ ap Some c.new.ensures.found in
    subst (λ name. said (put c.place_of.result) c.args.dir name
    ≡ kept_of name (Some c.args.found)) c.as_bytes-name.ensures.value
    (ap (λ p. said (put p) c.args.dir (at_name c)) same
    ∙ put_here slots c.args.dir (at_name c) (Some c.new.result) (within c) ∙ ap (kept_of (at_name c)) own)

pub returns-then-name-le-KEPT_BYTES-clause-others : goal.returns-then-name-le-KEPT_BYTES-clause-others
unfolding says
returns-then-name-le-KEPT_BYTES-clause-others c d n m apart h =
    let slots = c.args.self.now.slots.items in
    put_no_more slots c.args.dir (at_name c) (Some c.new.result) (within c) d n m
    (put_apart c.new.result c.args.dir (at_name c) d n c.new.ensures.dir c.new.ensures.name
    (λ e f. apart e (f ∙ c.as_bytes-name.ensures.value)))
    (subst (λ p. said (slice_set slots p (Some c.new.result)) d n ≡ Some m) c.place_of.ensures.value h)

pub returns-else-name-le-KEPT_BYTES-clause-entered : goal.returns-else-name-le-KEPT_BYTES-clause-entered
unfolding says
returns-else-name-le-KEPT_BYTES-clause-entered c =
    let name = c.as_bytes-name.result.now in
    let long = c.if-name-le-KEPT_BYTES.false in
    subst (λ name. said c.args.self.now.slots.items c.args.dir name
    ≡ kept_of name (Some c.args.found)) c.as_bytes-name.ensures.value
    (kept_long name _ long ∙ sym (kept_long name _ long))
