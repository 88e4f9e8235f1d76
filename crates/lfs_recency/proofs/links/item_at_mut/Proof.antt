-- The contract of `item_at_mut`, a raw pointer turned into a `&mut`, for `links::unlink`, `link_front` and `new`: what
-- is written through it goes into the vector, as its item number `item_number`. By hand, since `unsafe { &mut *place }`
-- has no clause that a search could use: the vector is opened to the cells of its block, `IsItemPlace` says that the
-- pointer leads to the start of one of its items, and this one is lent. `vec_opens` asks for a capacity that isn't 0,
-- which the item itself gives.
use Rattle.std.proofs.Common.{◌≡◌, ℕ, ◌+◌, ◌*◌, ◌≤◌, ◌<◌, [], ◌∷◌, length, get_or, refl, sym, ap, subst, ◌∙◌, add_comm}
use Rattle.std.proofs.Common.{arith}
use seplogic.Ra.Ura.{Ura}
use mir.Syntax.{Fn, named, ty_ptr}
use mir.MapTy.{inst_fn}
use mir.Val.{Val, vptr}
use base.Fraction.{full_share}
use base.Logic.{SProp, ent, sep}
use base.Fml.{Lft, GName, Share, ftrue, fat, flft}
use prog.Wp.{Env, Calls, Loops, WpFn, Tables}
use types.Logic.{Logic, sem}
use contract.Monad.{fact}
use contract.Running.{tables, tables_of}
use sound.WpLaws.{WpFn-mono}
use types.Kit.{‵, ◌⊛◌, raw, some, later, await, group, at_ret, ◌$◌, ◌∵◌, !, qed, by, move, keep, use1, drop, split}
use types.Kit.{join, pick, fsplit, fsplit3, fjoin, rewrite, suffices, frame, done}
use types.Run.{stop, addr, of_opd, first, blocks, exec, returns, enter}
use types.ByLocal.{alloc_all, pass_all, free_all, look_at, get, through, sets, sets_last, take_at, give_at, env}
use denote.Exit.{yes, no}
use denote.RattleType.{owns}
use denote.RawPtr.{Ptr, InBlock, block_ptr, ptr_val, ◌+ₚ◌, rawptr_vals, rawptr_Tells, rawptr_Lawful}
use denote.Ref.{MutBor, MutRef, mut_vals, mut_Tells}
use denote.Builtin.{RefMutOf, RawPtr}
use denote.Follow.{follows}
use denote.Signature.{plain, mut_ref_to}
use denote.Steps.{nothing}
use denote.Triple.Carry.{spared}
use denote.Triple.Clauses.{Clauses, Ended, closing}
use denote.Triple.Entry.{on_entry}
use denote.Triple.Spec.{Meets, triple_of}
use denote.Triple.Table.{entered, run_framed}
use denote.Triple.Walked.{needs, Stays, stay_dropped, walk_of, ends_at, walked, Goes-dropped, Goes-spent_ref}
use denote.Triple.Walked.{walk_Meets}
use Rattle.std.proofs.mem.Facts.{says_two}
use Rattle.std.proofs.ptr.Rows.{hd}
use Rattle.std.proofs.slice.Lists.{any-default}
use Rattle.std.specs.Vec.{with_item}
use Rattle.std.proofs.VecSteps.El.{El, args, el_x, el_d, el_len, el_cap, el_items, el_ok, R, Vr, sz}
use Rattle.std.proofs.VecSteps.Opens.{vec_opens}
use Rattle.std.proofs.VecSteps.Element.{Got, lends}
use Rattle.std.proofs.VecSteps.Shapes.{after}
use Rattle.lfs_recency.specs.Places.{item_number, IsItemPlace}
use Rattle.lfs_recency.specs.contracts.links.item_at_mut.Key.{name as #self}
use Rattle.lfs_recency.proofs.links.item_at_mut.Statement as stated
use Rattle.lfs_recency.proofs.links.item_at_mut.Code as code

module _ (E : El) where
  abbrev function : Fn
  function = inst_fn (args E) code.function

  abbrev ended : Ended
  ended = record {
    signature = record {
      lifetimes = 1;
      outlives = [];
      params = RefMutOf (0 ∷ []) tt (plain (λ _. Vr E)) (λ _. tt) ∷ plain (λ _. RawPtr) ∷ [];
      result = RefMutOf (0 ∷ []) tt (plain (λ _. R E)) (λ _. tt);
    };
    kept = (no, (yes, tt));
  }

  abbrev stayed : Stays ended.signature.params ended.kept
  stayed = (stay_dropped (mut_ref_to (0 ∷ []) tt (plain (λ _. Vr E))) no, (stay_dropped (plain (λ _. RawPtr)) yes, tt))

  -- the number of the item at p
  abbrev number : el_d E → Ptr → ℕ
  number h p = item_number (sz E) h.ptr p

  abbrev clauses : {M : Type 1} {𝓤 : Ura M} (𝓛 : Logic 𝓤) → Clauses 𝓤 ended
  clauses {𝓤 = 𝓤} 𝓛 κs a = record {
    ghost = Unit {0};
    requires = λ _. fact 𝓤 (IsItemPlace (sz E) a.0.now.ptr a.0.now.len a.1.0);
    ensures = λ _ r _. sep 𝓤 (sem 𝓛 (follows (Vr E) (R E) a.0.ghost_name r.ghost_name
        (with_item a.0.now (number a.0.now a.1.0))))
        (sep 𝓤 (fact 𝓤 (r.now ≡ get_or a.0.now.items (number a.0.now a.1.0) r.now)) (fact 𝓤 (InBlock a.0.now.ptr)));
  }

module _ (E : El) {M : Type 1} {𝓤 : Ura M} (𝓛 : Logic 𝓤) (κ : Lft) (q : Share) (rb ro : ℕ) (γ : GName) (h : el_d E)
    (p : Ptr) where
  open 𝓛 use {H, A}

  abbrev lender : MutBor (el_d E)
  lender = record { ref_ptr = (rb, ro); ghost_name = γ; now = h }

  abbrev bound : (walk_of 𝓛 (ended E) (stayed E) (clauses E 𝓛)).Ghost
  bound = (((κ, tt), (q, tt), tt, (lender, (p, tt)), (vptr rb ro ∷ [], (ptr_val p ∷ [], tt))), tt)

  abbrev Post : Val → SProp 𝓤
  Post = (walk_of 𝓛 (ended E) (stayed E) (clauses E 𝓛)).post bound

  abbrev i : ℕ
  i = number E h p

  exits : (b o : ℕ) (x : el_x E) → x ≡ get_or (el_items E h) i x → InBlock h.ptr → (γ' : GName)
      → ent 𝓤 (Got E 𝓛 κ q rb ro γ h i b o x γ') (Post (vptr b (i * sz E + o)))
  exits b o x e inside γ' =
      let lent : MutBor (el_x E) = record { ref_ptr = (b, i * sz E + o); ghost_name = γ'; now = x } in
      qed 𝓛 (‵ ((MutRef (named 0) κ (R E)).own_val lent (vptr b (i * sz E + o) ∷ [])) ∷ ‵ (flft κ q)
      ∷ ‵ (follows (Vr E) (R E) γ γ' (with_item h i)) ∷ []) ∵
      suffices ! _ (ends_at 𝓛 (ended E) (stayed E) (clauses E 𝓛) bound (vptr b (i * sz E + o)) lent (tt, (tt, tt)) (
        tt,
        (tt, tt),
      )) $
      nothing ! $ nothing ! $ fjoin ! $ nothing ! $ fjoin ! $ join ! $ nothing ! $ move ! (2 ∷ 0 ∷ []) $ join ! $ join !
      $ frame ! $ says_two ! (e, inside) $ done !

  module _ (C : Calls 𝓤 H) (Λ : Loops 𝓤 H) where
    walk : IsItemPlace (sz E) h.ptr (el_len E h) p
        → ent 𝓤 (on_entry 𝓛 (ended E).signature (κ, tt) (q, tt) (lender, (p, tt)) (
          vptr rb ro ∷ [],
          (ptr_val p ∷ [], tt),
        )) (WpFn 𝓤 H C Λ (function E) (vptr rb ro ∷ ptr_val p ∷ []) Post)
    walk asked =
        let below : i < el_len E h = asked.1 in
        let same : el_len E h ≡ length (el_items E h) = (el_ok E h).0 in
        let room : el_len E h ≤ el_cap E h = (el_ok E h).1 in
        let some_room : 0 < el_cap E h = omega arith in
        let listed : i < length (el_items E h) = omega arith in
        let d : el_x E = hd (el_items E h) (omega arith) in
        let x : el_x E = get_or (el_items E h) i d in
        qed 𝓛 ((‵ (flft κ q) ⊛ ‵ ftrue) ∷ ‵ (owns (MutRef (named 0) κ (Vr E) ∷ RawPtr ∷ []) (lender, (p, tt))
        (vptr rb ro ∷ [], (ptr_val p ∷ [], tt))) ∷ []) ∵
        enter ! C Λ (function E) (vptr rb ro ∷ ptr_val p ∷ []) _ $
        alloc_all ! (λ l. pass_all ! refl ((tt, tt), (((rawptr_Lawful 𝓛).typed p (ptr_val p ∷ []) refl).0, tt)) $
        let En : Env 𝓤 H = env (function E).locals l in
        move ! (1 ∷ []) $ fsplit ! $ fsplit3 ! $ drop ! $ move ! (3 ∷ []) $ split ! $ move ! (2 ∷ 3 ∷ 0 ∷ []) $
        vec_opens E ! tt h rb ro some_room (λ b o hv at_b fl fc fit.
        let here : p ≡ block_ptr b (i * sz E + o) = asked.0
        ∙ (ap (λ (z : Ptr). z +ₚ i * sz E) at_b ∙ ap (block_ptr b) (add_comm o (i * sz E))) in
        take_at ! 2 $ rewrite ! 0 (λ (z : Ptr). ‵ (fat full_share ty_ptr (l 2) 0 (ptr_val z))) here refl $ give_at ! 2 $
        first ! $ blocks ! $
        sets_last ! (addr ! (through ! refl (stop !))) refl (tt, tt) $
        exec ! C Λ En (after 1 (function E).body) (at_ret En Post) $
        sets ! (of_opd ! (get ! refl)) refl (tt, tt) $
        group ! 7 $ use1 𝓛 (later (some (λ (γ' : GName). raw (Got E 𝓛 κ q rb ro γ h i b o x γ'))))
        (lends E 𝓛 κ q rb ro γ h i b o at_b below fl fc fit some_room d) $ await ! tt $ pick ! (λ γ'.
        returns ! (look_at ! 0 refl) $ free_all ! refl $
        keep ! (0 ∷ []) $ by ! (exits b o x (any-default (el_items E h) i d x listed)
        (subst InBlock (sym at_b) tt) γ'))))

meets : (E : El) {M : Type 1} {𝓤 : Ura M} (𝓛 : Logic 𝓤) (𝓣 : Tables 𝓤 𝓛.H)
    → Meets 𝓛 (ended E).signature (WpFn 𝓤 𝓛.H 𝓣.C 𝓣.Λ (function E)) (closing 𝓛 (ended E) (clauses E 𝓛))
meets E {𝓤 = 𝓤} 𝓛 𝓣 =
    walk_Meets 𝓛 (ended E) (stayed E) (
      Goes-spent_ref 𝓛 1 (0 ∷ []) tt (plain (λ _. Vr E)),
      (Goes-dropped 𝓛 1 (plain (λ _. RawPtr)) yes (λ κs x f. refl), tt),
    ) (clauses E 𝓛)
    (WpFn 𝓤 𝓛.H 𝓣.C 𝓣.Λ (function E)) (WpFn-mono 𝓤 𝓛.H 𝓛.laws 𝓣 (function E))
    (walked 𝓛 (ended E) (stayed E) (clauses E 𝓛) (WpFn 𝓤 𝓛.H 𝓣.C 𝓣.Λ (function E)) (λ κs. (mut_vals, (rawptr_vals, tt)))
    (λ κs. (mut_Tells (named 0) κs.0 (Vr E), (rawptr_Tells, tt)))
    (λ κs qs bounds a g are. needs 𝓤 (IsItemPlace (sz E) a.0.now.ptr (el_len E a.0.now) a.1.0) _
    (walk E 𝓛 κs.0 qs.0 a.0.ref_ptr.0 a.0.ref_ptr.1 a.0.ghost_name a.0.now a.1.0 𝓣.C 𝓣.Λ)))

pub item_at_mut_spec : {M : Type 1} → stated.statement M
unfolding tables_of
item_at_mut_spec 𝓤 𝓛 𝓜 𝓡 wired T A LT LA g dict drops met glue y =
    let E : El = record { row = T; laws = LT; al = record { row = A; laws = LA; g = g; d = dict; drops = drops } } in
    let 𝓣 : Tables 𝓤 𝓛.H = tables_of 𝓤 𝓛.H 𝓜 (tables 𝓤 𝓛.H 𝓜 𝓡 𝓡.env) in
    spared 𝓛 (ended E).signature (𝓡.run (𝓡.env (#self (args E)))) (run_framed 𝓤 𝓛.H 𝓜 𝓡 (𝓡.env (#self (args E)))) 2
    (T.lives, (A.lives, tt)) (closing 𝓛 (ended E) (clauses E 𝓛))
    (entered 𝓤 𝓛.H (triple_of 𝓛 (ended E).signature (closing 𝓛 (ended E) (clauses E 𝓛))) 𝓣.C 𝓣.Λ (#self (args E))
    (function E) (code.unfolded 𝓤 𝓛.H 𝓜 𝓡 wired (T, (A, tt)) dict drops) (meets E 𝓛 𝓣))
    ((y.0.0, y.0.1, tt, y.0.3, y.0.4), y.1)
