-- The maps of nodes agree after each change of them: `whole_hung`, `whole_unhung`, `whole_grown`, `whole_dropped`,
-- `whole_alone`, for `Parts::hang`, `unhang`, `add`, `drop_unheld` and `Nodes::new`. A change touches one id, its place
-- and its directory's count, so each clause of `AreWhole` splits by whether it speaks of that id; the id next in turn
-- is of no node yet. The hard clause is `counted`: the count of a directory is a sum over all ids, from which one place
-- goes or to which one comes; a node dropped while others hang beneath it breaks `parents`.
use Rattle.std.proofs.Common.{◌≡◌, ◌≢◌, ℕ, zero, suc, ◌+◌, ◌-◌, ◌<◌, ◌≤◌, Option, None, Some, true, false, refl, sym}
use Rattle.std.proofs.Common.{ap, subst, ◌∙◌, ⊎_elim, add-one, arith}
use Rattle.std.specs.Prelude.{◌==◌, IsSome, min}
use Rattle.std.specs.Option.{option_map}
use Rattle.std.proofs.lemmas.Bool.{cases_eq}
use Rattle.lfs_types.specs.Tree.{root as root_row}
use Rattle.lfs_types.proofs.Somewhere.{There, there_of, present}
use Rattle.lfs_nodes.specs.declared.place.Place.{Place}
use Rattle.lfs_nodes.specs.declared.place.TheConstants.{ROOT_ID}
use Rattle.lfs_nodes.specs.declared.node.Hang.{Hang}
use Rattle.lfs_nodes.specs.declared.node.Hang.TheVariants.{Root, At, Gone}
use Rattle.lfs_nodes.specs.Places.{place_of}
use Rattle.lfs_nodes.specs.Whole.{AreWhole, beneath, kids}
use Rattle.lfs_nodes.proofs.KidsLemmas.{beneath_here, beneath_elsewhere, kids_same, kids_moved, kids_few, kids_none}
use Rattle.lfs_nodes.proofs.KidsLemmas.{kids_some}
use Rattle.lfs_nodes.proofs.PlaceLemmas.{cases_place}

-- what hangs somewhere is there
pub hang_there : (o : Option Hang) (place : Place) → place_of o ≡ Some place → IsSome o
hang_there None place e = absurd (cc)
hang_there (Some h) place e = refl

not_root : (o : Option Hang) (place : Place) → place_of o ≡ Some place → o ≡ Some Root → ⊥
not_root o place e r = let none : place_of o ≡ None = ap place_of r in absurd (cc)

module _ (H : ℕ → Option Hang) (W C : ℕ → Option ℕ) (I : Place → Option ℕ) (next : ℕ)
    (whole : AreWhole H W C I next) where
  -- an id that hangs somewhere is below the next
  hung_below : (q : ℕ) (place : Place) → place_of (H q) ≡ Some place → q < next
  hung_below q place e = let t = there_of (H q) (hang_there (H q) place e) in whole.below q t.value t.is

  -- ---- a node that is taken from its place

  module _ (place : Place) (id : ℕ) (is : I place ≡ Some id) (G : ℕ → Option Hang) (V D : ℕ → Option ℕ) (J : Place
      → Option ℕ)
      (gone : G id ≡ Some Gone) (stay : (q : ℕ) → q ≢ id → G q ≡ H q) (rows : (q : ℕ) → V q ≡ W q)
      (fewer : D place.parent ≡ option_map (λ c. c - 1) (C place.parent)) (as_many : (q : ℕ) → q ≢ place.parent → D q
      ≡ C q)
      (taken : J place ≡ None) (others : (p : Place) → p ≢ place → J p ≡ I p) where
    was_here : place_of (H id) ≡ Some place
    was_here = whole.named place id is

    nowhere : place_of (G id) ≡ None
    nowhere = ap place_of gone

    hangs_else : (q : ℕ) (p : Place) → place_of (G q) ≡ Some p → q ≢ id
    hangs_else q p e same = let none : place_of (G q) ≡ None = ap (λ x. place_of (G x)) same ∙ nowhere in absurd (cc)

    hung_before : (q : ℕ) (p : Place) → place_of (G q) ≡ Some p → place_of (H q) ≡ Some p
    hung_before q p e = sym (ap place_of (stay q (hangs_else q p e))) ∙ e

    there_still : (q : ℕ) → IsSome (H q) → IsSome (G q)
    there_still q h = ⊎_elim
        (λ e. present {o = G q} (ap G e ∙ gone))
        (λ ne. subst IsSome (sym (stay q ne)) h)
        (cases_eq q id)

    one_left : (q : ℕ) → kids (λ x. place_of (G x)) q next + beneath q (Some place) ≡ kids (λ x. place_of (H x)) q next
    one_left q =
        let moved = kids_moved (λ x. place_of (H x)) (λ x. place_of (G x)) q id next (hung_below id place was_here)
        (λ x ne. ap place_of (stay x ne)) in
        let old = ap (beneath q) was_here in
        let new = ap (beneath q) nowhere in
        omega (arith, moved, old, new)

    counts : (q count : ℕ) → D q ≡ Some count → count ≡ kids (λ x. place_of (G x)) q next
    counts q count e = ⊎_elim
        (λ (here : q ≡ place.parent).
        let at : option_map (λ c. c - 1) (C place.parent) ≡ Some count = sym fewer ∙ sym (ap D here) ∙ e in
        fewer_one (C place.parent) at (λ c known.
        let before = whole.counted place.parent c known in
        let left = one_left place.parent in
        let one = beneath_here place.parent place refl in
        let at_q = ap (λ x. kids (λ y. place_of (G y)) x next) here in
        omega (arith, before, left, one, at_q)))
        (λ (ne : q ≡ place.parent → ⊥).
        let before = whole.counted q count (sym (as_many q ne) ∙ e) in
        let left = one_left q in
        let none = beneath_elsewhere q place (λ f. ne (sym f)) in
        omega (arith, before, left, none))
        (cases_eq q place.parent)
      where
        fewer_one : (o : Option ℕ) → option_map (λ c. c - 1) o ≡ Some count
            → ((c : ℕ) → o ≡ Some c → c - 1 ≡ kids (λ x. place_of (G x)) q next) → count
            ≡ kids (λ x. place_of (G x)) q next
        fewer_one None e f = absurd (cc)
        fewer_one (Some c) e f = let same : count ≡ c - 1 = cc in same ∙ f c refl

    pub whole_unhung : AreWhole G V D J next
    whole_unhung = record {
      root = stay ROOT_ID (λ e. not_root (H id) place was_here (ap H (sym e) ∙ whole.root)) ∙ whole.root;
      row = rows ROOT_ID ∙ whole.row;
      rooted = λ q e. whole.rooted q (sym (stay q (λ same. let wrong : Some Gone ≡ Some Root = sym gone
          ∙ ap G (sym same) ∙ e in absurd (cc))) ∙ e);
      indexed = λ q p e.
          let before = whole.indexed q p (hung_before q p e) in
          others p (λ same. let wrong : Some id ≡ Some q = sym is ∙ ap I (sym same)
          ∙ before in hangs_else q p e (let f : id ≡ q = cc in sym f)) ∙ before;
      named = λ p q e.
          let apart : p ≢ place = λ same. let wrong : None ≡ Some q = sym taken ∙ ap J (sym same) ∙ e in absurd (cc) in
          let before = whole.named p q (sym (others p apart) ∙ e) in
          ap place_of (stay q (λ same. apart (let f : Some p ≡ Some place = sym before ∙ ap (λ x. place_of (H x)) same
          ∙ was_here in (cc)))) ∙ before;
      below = λ q h e. ⊎_elim
          (λ same. subst (λ x. x < next) (sym same) (hung_below id place was_here))
          (λ ne. whole.below q h (sym (stay q ne) ∙ e))
          (cases_eq q id);
      fits = whole.fits;
      parents = λ q p e. there_still p.parent (whole.parents q p (hung_before q p e));
      counted = counts;
    }

  -- ---- a node that gets a place

  module _ (place : Place) (id : ℕ) (was : H id ≡ Some Gone) (free : I place ≡ None) (parent : IsSome (H place.parent))
      (G : ℕ → Option Hang) (V D : ℕ → Option ℕ) (J : Place → Option ℕ)
      (hangs : G id ≡ Some (At place)) (stay : (q : ℕ) → q ≢ id → G q ≡ H q) (rows : (q : ℕ) → V q ≡ W q)
      (more : D place.parent ≡ option_map (λ c. min (c + 1) 0xFFFF_FFFF_FFFF_FFFF) (C place.parent)) (as_many : (q : ℕ)
      → q ≢ place.parent → D q ≡ C q)
      (put : J place ≡ Some id) (others : (p : Place) → p ≢ place → J p ≡ I p) where
    below_next : id < next
    below_next = whole.below id Gone was

    not_before : place_of (H id) ≡ None
    not_before = ap place_of was

    here_now : place_of (G id) ≡ Some place
    here_now = ap place_of hangs

    there_too : (q : ℕ) → IsSome (H q) → IsSome (G q)
    there_too q h = ⊎_elim
        (λ e. present {o = G q} (ap G e ∙ hangs))
        (λ ne. subst IsSome (sym (stay q ne)) h)
        (cases_eq q id)

    one_more : (q : ℕ) → kids (λ x. place_of (G x)) q next ≡ kids (λ x. place_of (H x)) q next + beneath q (Some place)
    one_more q =
        let moved = kids_moved (λ x. place_of (H x)) (λ x. place_of (G x)) q id next below_next
        (λ x ne. ap place_of (stay x ne)) in
        let old = ap (beneath q) not_before in
        let new = ap (beneath q) here_now in
        omega (arith, moved, old, new)

    counts_more : (q count : ℕ) → D q ≡ Some count → count ≡ kids (λ x. place_of (G x)) q next
    counts_more q count e = ⊎_elim
        (λ (here : q ≡ place.parent).
        let at : option_map (λ c. min (c + 1) 0xFFFF_FFFF_FFFF_FFFF) (C place.parent) ≡ Some count = sym more
        ∙ sym (ap D here) ∙ e in
        more_one (C place.parent) at (λ c known.
        let before = whole.counted place.parent c known in
        let now = one_more place.parent in
        let one = beneath_here place.parent place refl in
        let few = kids_few (λ x. place_of (G x)) place.parent next in
        let at_q = ap (λ x. kids (λ y. place_of (G y)) x next) here in
        let fits = whole.fits in
        omega (arith, before, now, one, few, at_q, fits)))
        (λ (ne : q ≡ place.parent → ⊥).
        let before = whole.counted q count (sym (as_many q ne) ∙ e) in
        let now = one_more q in
        let none = beneath_elsewhere q place (λ f. ne (sym f)) in
        omega (arith, before, now, none))
        (cases_eq q place.parent)
      where
        more_one : (o : Option ℕ) → option_map (λ c. min (c + 1) 0xFFFF_FFFF_FFFF_FFFF) o ≡ Some count
            → ((c : ℕ) → o ≡ Some c → min (c + 1) 0xFFFF_FFFF_FFFF_FFFF ≡ kids (λ x. place_of (G x)) q next) → count
            ≡ kids (λ x. place_of (G x)) q next
        more_one None e f = absurd (cc)
        more_one (Some c) e f = let same : count ≡ min (c + 1) 0xFFFF_FFFF_FFFF_FFFF = cc in same ∙ f c refl

    pub whole_hung : AreWhole G V D J next
    whole_hung = record {
      root = stay ROOT_ID (λ e. let wrong : Some Gone ≡ Some Root = sym was ∙ ap H (sym e) ∙ whole.root in absurd (cc))
          ∙ whole.root;
      row = rows ROOT_ID ∙ whole.row;
      rooted = λ q e. whole.rooted q (sym (stay q (λ same. let wrong : Some (At place) ≡ Some Root = sym hangs
          ∙ ap G (sym same) ∙ e in absurd (cc))) ∙ e);
      indexed = λ q p e. ⊎_elim
          (λ same. let one : Some p ≡ Some place = sym e ∙ ap (λ x. place_of (G x)) same ∙ here_now in let f : p
          ≡ place = cc in ap J f ∙ put ∙ ap Some (sym same))
          (λ ne.
          let before = whole.indexed q p (sym (ap place_of (stay q ne)) ∙ e) in
          others p (λ same. let wrong : None ≡ Some q = sym free ∙ ap I (sym same) ∙ before in absurd (cc)) ∙ before)
          (cases_eq q id);
      named = λ p q e. ⊎_elim
          (λ same. let one : Some q ≡ Some id = sym e ∙ ap J same ∙ put in let f : q
          ≡ id = cc in ap (λ x. place_of (G x)) f ∙ here_now ∙ ap Some (sym same))
          (λ ne.
          let before = whole.named p q (sym (others p ne) ∙ e) in
          ap place_of (stay q (λ same. let wrong : None ≡ Some p = sym not_before ∙ ap (λ x. place_of (H x)) (sym same)
          ∙ before in absurd (cc))) ∙ before)
          (cases_place p place);
      below = λ q h e. ⊎_elim
          (λ same. subst (λ x. x < next) (sym same) below_next)
          (λ ne. whole.below q h (sym (stay q ne) ∙ e))
          (cases_eq q id);
      fits = whole.fits;
      parents = λ q p e. ⊎_elim
          (λ same. let one : Some p ≡ Some place = sym e ∙ ap (λ x. place_of (G x)) same ∙ here_now in let f : p
          ≡ place = cc in there_too p.parent (subst (λ (x : Place). IsSome (H x.parent)) (sym f) parent))
          (λ ne. there_too p.parent (whole.parents q p (sym (ap place_of (stay q ne)) ∙ e)))
          (cases_eq q id);
      counted = counts_more;
    }

  -- ---- a new node, which hangs nowhere yet

  module _ (G : ℕ → Option Hang) (V D : ℕ → Option ℕ) (J : Place → Option ℕ)
      (new : G next ≡ Some Gone) (stay : (q : ℕ) → q ≢ next → G q ≡ H q) (rows : (q : ℕ) → q ≢ next → V q ≡ W q)
      (none : D next ≡ Some 0) (fits : next + 1 ≤ 0xFFFF_FFFF_FFFF_FFFF) (as_many : (q : ℕ) → q ≢ next → D q ≡ C q)
      (others : (p : Place) → J p ≡ I p) where
    old_id : (q : ℕ) (h : Hang) → H q ≡ Some h → q ≢ next
    old_id q h e same = let low = whole.below q h e in absurd (omega arith)

    old_place : (q : ℕ) (p : Place) → place_of (H q) ≡ Some p → q ≢ next
    old_place q p e same = let low = hung_below q p e in absurd (omega arith)

    new_place : (q : ℕ) (p : Place) → place_of (G q) ≡ Some p → q ≢ next
    new_place q p e same = let wrong : None ≡ Some p = sym (ap place_of new) ∙ ap (λ x. place_of (G x)) (sym same)
        ∙ e in absurd (cc)

    there_new : (q : ℕ) → IsSome (H q) → IsSome (G q)
    there_new q h = let t = there_of (H q) h in subst IsSome (sym (stay q (old_id q t.value t.is))) h

    all_kids : (q : ℕ) → kids (λ x. place_of (G x)) q (next + 1) ≡ kids (λ x. place_of (G x)) q next
        + beneath q (place_of (G next))
    unfolding kids
    all_kids q = rw add-one refl

    pub whole_grown : AreWhole G V D J (next + 1)
    whole_grown = record {
      root = stay ROOT_ID (old_id ROOT_ID Root whole.root) ∙ whole.root;
      row = rows ROOT_ID (old_id ROOT_ID Root whole.root) ∙ whole.row;
      rooted = λ q e. whole.rooted q (sym (stay q (λ same. let wrong : Some Gone ≡ Some Root = sym new ∙ ap G (sym same)
          ∙ e in absurd (cc))) ∙ e);
      indexed = λ q p e. others p ∙ whole.indexed q p (sym (ap place_of (stay q (new_place q p e))) ∙ e);
      named = λ p q e. let before = whole.named p q (sym (others p) ∙ e) in ap place_of (stay q (old_place q p before))
          ∙ before;
      below = λ q h e. ⊎_elim
          (λ same. omega arith)
          (λ ne. let low = whole.below q h (sym (stay q ne) ∙ e) in omega arith)
          (cases_eq q next);
      fits = fits;
      parents = λ q p e. there_new p.parent (whole.parents q p (sym (ap place_of (stay q (new_place q p e))) ∙ e));
      counted = λ q count e.
          let same = kids_same (λ x. place_of (H x)) (λ x. place_of (G x)) q next
          (λ x low. ap place_of (stay x (λ f. absurd (omega arith)))) in
          let last : beneath q (place_of (G next)) ≡ 0 = ap (λ o. beneath q (place_of o)) new in
          let all = all_kids q in
          ⊎_elim
          (λ (here : q ≡ next).
          let zero_count : Some 0 ≡ Some count = sym none ∙ ap D (sym here) ∙ e in
          let is : 0 ≡ count = cc in
          let no = kids_none (λ x. place_of (H x)) q next
          (λ x p f g. let t = there_of (H p.parent) (whole.parents x p f) in let low =
          whole.below p.parent t.value t.is in absurd (omega arith)) in
          omega (arith, same, last, all, no, is))
          (λ (ne : q ≡ next → ⊥). let before = whole.counted q count (sym (as_many q ne) ∙ e) in
          omega (arith, same, last, all, before))
          (cases_eq q next);
    }

  -- ---- a node that hangs nowhere and has nothing beneath it is dropped

  module _ (id : ℕ) (was : H id ≡ Some Gone) (childless : C id ≡ Some 0) (G : ℕ → Option Hang) (V D : ℕ → Option ℕ)
      (J : Place → Option ℕ)
      (gone : G id ≡ None) (stay : (q : ℕ) → q ≢ id → G q ≡ H q) (rows : (q : ℕ) → q ≢ id → V q ≡ W q)
      (none : D id ≡ None) (as_many : (q : ℕ) → q ≢ id → D q ≡ C q) (others : (p : Place) → J p ≡ I p) where
    left : (q : ℕ) (h : Hang) → G q ≡ Some h → q ≢ id
    left q h e same = let wrong : None ≡ Some h = sym gone ∙ ap G (sym same) ∙ e in absurd (cc)

    left_place : (q : ℕ) (p : Place) → place_of (G q) ≡ Some p → q ≢ id
    left_place q p e same = let wrong : None ≡ Some p = sym (ap place_of gone) ∙ ap (λ x. place_of (G x)) (sym same)
        ∙ e in absurd (cc)

    hung_place : (q : ℕ) (p : Place) → place_of (H q) ≡ Some p → q ≢ id
    hung_place q p e same = let wrong : None ≡ Some p = sym (ap place_of was) ∙ ap (λ x. place_of (H x)) (sym same)
        ∙ e in absurd (cc)

    same_places : (q : ℕ) → place_of (G q) ≡ place_of (H q)
    same_places q = ⊎_elim
        (λ e. ap (λ x. place_of (G x)) e ∙ ap place_of gone ∙ sym (ap (λ x. place_of (H x)) e ∙ ap place_of was))
        (λ ne. ap place_of (stay q ne))
        (cases_eq q id)

    not_it : ROOT_ID ≢ id
    not_it e = let wrong : Some Root ≡ Some Gone = sym whole.root ∙ ap H e ∙ was in absurd (cc)

    pub whole_dropped : AreWhole G V D J next
    whole_dropped = record {
      root = stay ROOT_ID not_it ∙ whole.root;
      row = rows ROOT_ID not_it ∙ whole.row;
      rooted = λ q e. whole.rooted q (sym (stay q (left q Root e)) ∙ e);
      indexed = λ q p e. others p ∙ whole.indexed q p (sym (same_places q) ∙ e);
      named = λ p q e. same_places q ∙ whole.named p q (sym (others p) ∙ e);
      below = λ q h e. whole.below q h (sym (stay q (left q h e)) ∙ e);
      fits = whole.fits;
      parents = λ q p e.
          let before : place_of (H q) ≡ Some p = sym (same_places q) ∙ e in
          subst IsSome (sym (stay p.parent (λ same.
          let some = kids_some (λ x. place_of (H x)) id next q p (hung_below q p before) before same in
          let no = whole.counted id 0 childless in
          omega arith))) (whole.parents q p before);
      counted = λ q count e.
          let apart : q ≢ id = λ same. let wrong : None ≡ Some count = sym none ∙ ap D (sym same) ∙ e in absurd (cc) in
          whole.counted q count (sym (as_many q apart) ∙ e)
          ∙ sym (kids_same (λ x. place_of (H x)) (λ x. place_of (G x)) q next (λ x low. same_places x));
    }

  -- ---- nothing of this changed

  module _ (G : ℕ → Option Hang) (V D : ℕ → Option ℕ) (J : Place → Option ℕ)
      (hangs : (q : ℕ) → G q ≡ H q) (rows : (q : ℕ) → V q ≡ W q) (as_many : (q : ℕ) → D q ≡ C q) (others : (p : Place)
      → J p ≡ I p) where
    pub whole_same : AreWhole G V D J next
    whole_same = record {
      root = hangs ROOT_ID ∙ whole.root;
      row = rows ROOT_ID ∙ whole.row;
      rooted = λ q e. whole.rooted q (sym (hangs q) ∙ e);
      indexed = λ q p e. others p ∙ whole.indexed q p (sym (ap place_of (hangs q)) ∙ e);
      named = λ p q e. ap place_of (hangs q) ∙ whole.named p q (sym (others p) ∙ e);
      below = λ q h e. whole.below q h (sym (hangs q) ∙ e);
      fits = whole.fits;
      parents = λ q p e. subst IsSome (sym (hangs p.parent)) (whole.parents q p (sym (ap place_of (hangs q)) ∙ e));
      counted = λ q count e. whole.counted q count (sym (as_many q) ∙ e)
          ∙ sym (kids_same (λ x. place_of (H x)) (λ x. place_of (G x)) q next (λ x low. ap place_of (hangs x)));
    }

-- the root alone
pub whole_alone : (H : ℕ → Option Hang) (W C : ℕ → Option ℕ) (I : Place → Option ℕ) → H ROOT_ID ≡ Some Root → W ROOT_ID
    ≡ Some root_row → C ROOT_ID ≡ Some 0
    → ((q : ℕ) → q ≢ ROOT_ID → H q ≡ None) → ((q : ℕ) → q ≢ ROOT_ID → C q ≡ None) → ((p : Place) → I p ≡ None)
    → AreWhole H W C I 2
whole_alone H W C I root row count no_hang no_count no_place = record {
  root = root;
  row = row;
  rooted = λ q e. is_root q Root e;
  indexed = λ q p e. absurd (nowhere q p e);
  named = λ p q e. let wrong : None ≡ Some q = sym (no_place p) ∙ e in absurd (cc);
  below = λ q h e. let one = is_root q h e in omega arith;
  fits = omega arith;
  parents = λ q p e. absurd (nowhere q p e);
  counted = λ q n e. ⊎_elim
      (λ one. let two : Some 0 ≡ Some n = sym count ∙ ap C (sym one) ∙ e in let is : 0 ≡ n = cc in sym is
      ∙ sym (kids_none (λ x. place_of (H x)) q 2 (λ x p f g. nowhere x p f)))
      (λ ne. let wrong : None ≡ Some n = sym (no_count q ne) ∙ e in absurd (cc))
      (cases_eq q ROOT_ID);
}
  where
    is_root : (q : ℕ) (h : Hang) → H q ≡ Some h → q ≡ ROOT_ID
    is_root q h e = ⊎_elim (λ one. one) (λ ne. let wrong : None ≡ Some h = sym (no_hang q ne) ∙ e in absurd (cc))
        (cases_eq q ROOT_ID)

    nowhere : (q : ℕ) (p : Place) → place_of (H q) ≡ Some p → ⊥
    nowhere q p e = let t = there_of (H q) (hang_there (H q) p e) in let one = is_root q t.value t.is in
        let wrong : None ≡ Some p = sym (ap place_of root) ∙ ap (λ x. place_of (H x)) (sym one) ∙ e in absurd (cc)
