-- `frame_before` shows the frame that a frame's `prev` leads to (`frame_before_spec`), though it reads through a raw
-- pointer. Its precondition says that the pointer is the place of an item, and of what a `&` to a vector shares of each
-- item, that of one item can be taken (`one_of`, by induction on its index); a `&` to the pointer can be had twice
-- (`twice`), so reading it costs nothing. Another layout of Frame or another way to share a vector's items changes this
-- proof, not the contract.
use Rattle.std.proofs.Common.{◌≡◌, ℕ, zero, suc, ◌+◌, ◌*◌, ◌<◌, List, [], ◌∷◌, length, get_or, refl, sym, ap, subst}
use Rattle.std.proofs.Common.{◌∙◌, add_comm, arith}
use Rattle.std.proofs.Math.Nat.{not-suc-le-zero, le_of_suc-le-suc}
use Rattle.std.specs.Prelude.{vec_len}
use Rattle.std.specs.Vec.{vec_ptr}
use seplogic.Ra.Ura.{Ura}
use mir.Syntax.{named, ty_ptr}
use mir.Val.{Val, vptr}
use base.Logic.{ent, sep, via, fst∗, snd∗}
use base.Fml.{Lft, Share, ftrue, fat, fhide, flft}
use types.Logic.{Logic, sem}
use contract.Monad.{fact}
use contract.Running.{tables}
use types.Kit.{‵, ◌⊛◌, raw, at_ret, ◌$◌, ◌∵◌, !, qed, move, keep, use1, drop, split, join, fsplit, fjoin, feq_i}
use types.Kit.{rewrite, suffices, frame, done}
use types.Run.{look, stop, fld, hop, addr, of_opd, first, blocks, exec, returns, enter}
use types.ByLocal.{alloc_all, pass_all, free_all, look_at, get, through, sets, sets_last, env}
use denote.Exit.{yes}
use denote.Index.{place, place_is}
use denote.Memory.{each_shared, shared_of, hidden_shr}
use denote.Opens.{shr_dup, hide, unhide}
use denote.RattleType.{RattleType, owns}
use denote.RawPtr.{Ptr, InBlock, RawPtr, ptr_row_laws, at_block, block_of, count_of, block_ptr, ◌+ₚ◌}
use denote.Ref.{ShrRef, shr_vals, shr_Tells}
use denote.Builtin.{RefOf}
use denote.Signature.{plain}
use denote.Steps.{heard, nothing}
use denote.Struct.Lending.{in_block_says, lent_out}
use denote.Struct.Owning.{shape}
use denote.Struct.Struct.{Struct}
use denote.Triple.Walked.{says, Stays, stay_dropped, walk_of, ends_at, Goes-dropped}
use Rattle.std.proofs.Words.{pointer_in, pointer_out}
use Rattle.std.proofs.raw_atomic.Walks.{proved}
use Rattle.std.proofs.VecSteps.Shapes.{after}
use Rattle.std.specs.contracts.vec.Vec as vec-type
use Rattle.std.specs.declared.alloc.Allocator.{Ghosts}
use Rattle.std.specs.contracts.alloc.Global as global-type
use Rattle.std.specs.contracts.impls.GlobalAllocator.TheImpl as global-impl
use Rattle.lfs_recency.specs.declared.frame.Frame.{Frame}
use Rattle.lfs_recency.specs.contracts.frame.Frame as frame-type
use Rattle.lfs_recency.specs.Places.{item_number, IsItemPlace}
use Rattle.lfs_recency.specs.Links.{frame_size, frame_at, no_frame}
use Rattle.lfs_recency.specs.contracts.links.frame_before as f
use Rattle.lfs_recency.proofs.links.frame_before.Statement.{statement}
use Rattle.lfs_recency.proofs.links.frame_before.Code as code

abbrev R : RattleType
R = frame-type.the_row

abbrev P : RattleType
P = global-type.the_row

abbrev G : Ghosts P.Denot
G = global-impl.ghosts

abbrev V : RattleType
V = vec-type.the_row R P G

-- a `&` to a pointer can be had twice
twice : {M : Type 1} {𝓤 : Ura M} (𝓛 : Logic 𝓤) (κ : Lft) (p : Ptr) (b o : ℕ)
    → ent 𝓤 (sem 𝓛 (hidden_shr RawPtr κ p b o))
    (sep 𝓤 (sem 𝓛 (hidden_shr RawPtr κ p b o)) (sem 𝓛 (hidden_shr RawPtr κ p b o)))
twice 𝓛 κ p b o = qed 𝓛 (‵ (hidden_shr RawPtr κ p b o) ∷ []) ∵ shr_dup ! RawPtr ptr_row_laws p b o κ $ done !

abbrev stayed : Stays f.ended.signature.params f.ended.kept
stayed = (
  stay_dropped (RefOf (0 ∷ []) tt (plain (λ _. V)) (λ _. tt)) yes,
  (stay_dropped (RefOf (0 ∷ []) tt (plain (λ _. R)) (λ _. tt)) yes, tt),
)

-- of what is shared of each item, what is shared of item i
one_of : (T : RattleType) {M : Type 1} {𝓤 : Ura M} (𝓛 : Logic 𝓤) (xs : List T.Denot) (size i : ℕ) (d : T.Denot)
    (b o : ℕ) (κ : Lft) → i < length xs
    → ent 𝓤 (sem 𝓛 (each_shared xs (shared_of T) size b o κ)) (sem 𝓛 (shared_of T (get_or xs i d) b (place size o i) κ))
one_of T 𝓛 [] size i d b o κ below = absurd (not-suc-le-zero below)
one_of T {𝓤 = 𝓤} 𝓛 (x ∷ xs) size zero d b o κ below =
    fst∗ 𝓤 (sem 𝓛 (shared_of T x b o κ)) (sem 𝓛 (each_shared xs (shared_of T) size b (o + size) κ))
one_of T {𝓤 = 𝓤} 𝓛 (x ∷ xs) size (suc i) d b o κ below =
    via 𝓤 (sem 𝓛 (each_shared xs (shared_of T) size b (o + size) κ))
    (snd∗ 𝓤 (sem 𝓛 (shared_of T x b o κ)) (sem 𝓛 (each_shared xs (shared_of T) size b (o + size) κ)))
    (one_of T 𝓛 xs size i d b (o + size) κ (le_of_suc-le-suc below))

pub frame_before_spec : {M : Type 1} → statement M
frame_before_spec 𝓤 𝓛 𝓜 𝓡 wired =
    let c = f.clauses 𝓛 𝓜.mem 𝓡.returns in let W = walk_of 𝓛 f.ended stayed c in let 𝓣 = tables 𝓤 𝓛.H 𝓜 𝓡 𝓡.env in
    proved 𝓛 f.ended stayed c 𝓜 𝓡 (
      Goes-dropped 𝓛 1 (RefOf (0 ∷ []) tt (plain (λ _. V)) (λ _. tt)) yes (λ κs x f. refl),
      (Goes-dropped 𝓛 1 (RefOf (0 ∷ []) tt (plain (λ _. R)) (λ _. tt)) yes (λ κs x f. refl), tt),
    )
    f.Key.name code.function (code.unfolded 𝓤 𝓛.H 𝓜 𝓡 wired)
    (λ κs. (shr_vals, (shr_vals, tt))) (λ κs. (shr_Tells (named 0) κs.0 V, (shr_Tells (named 0) κs.0 R, tt)))
    (λ κs qs bounds a _ are.
    let κ = κs.0 in let q = qs.0 in let h = a.0.now in let p = a.1.0.now.prev in
    let y : W.Ghost = ((κs, qs, bounds, a, (shr_vals a.0, (shr_vals a.1.0, tt))), tt) in
    let i = item_number frame_size (vec_ptr h) p in let b = block_of (vec_ptr h) in let o = count_of (vec_ptr h) in
    let b' = a.1.0.ref_ptr.0 in let at = a.1.0.ref_ptr.1 + 512 in let v : Val = vptr b (i * frame_size + o) in
    let Words : RattleType = Struct (shape (vec-type.the_type R P G)) in let x : Frame = frame_at h.items i in
    qed 𝓛 (((‵ (flft κ q) ⊛ ‵ ftrue) ⊛ ‵ (owns (ShrRef (named 0) κ V ∷ ShrRef (named 0) κ R ∷ []) a (
      shr_vals a.0,
      (shr_vals a.1.0, tt),
    ))) ∷ raw (fact 𝓤 (IsItemPlace frame_size (vec_ptr h) (vec_len h) p)) ∷ []) ∵
    move ! (1 ∷ []) $ heard ! _ (λ asked. split ! $ split ! $ keep ! (2 ∷ 0 ∷ []) $
    enter ! _ _ _ _ _ $ alloc_all ! (λ l. pass_all ! refl ((tt, tt), ((tt, tt), tt)) $
    let below : i < length h.items = let low = asked.1 in let same = h.ok.0 in omega arith in
    fsplit ! $ fsplit ! $ drop ! $
    use1 𝓛 (‵ (hidden_shr Words κ (h.ptr, (h.len, (h.cap, (h.alloc, tt)))) a.0.ref_ptr.0 a.0.ref_ptr.1) ⊛ ‵
    (fhide (vec-type.the_lent R P G h h.ptr κ)))
    (lent_out 𝓛 (vec-type.struct R P G) (vec-type.the_codes R.Denot P.Denot R.coded P.coded) (vec-type.the_heap R P G)
    (vec-type.the_lent R P G) κ h a.0.ref_ptr.0 a.0.ref_ptr.1) $ split ! $
    drop ! $ unhide ! $ fsplit ! $ drop ! $ fsplit ! $ use1 𝓛 (raw (fact 𝓤 (InBlock h.ptr))) (in_block_says 𝓛 h.ptr)
    $ heard ! (InBlock h.ptr) (λ inside. fsplit ! $ drop ! $
    -- [what is shared of each frame; the other frame; the token; ..]
    use1 𝓛 (‵ (shared_of R x b (place frame_size o i) κ)) (one_of R 𝓛 h.items frame_size i no_frame b o κ below) $
    rewrite ! 0 (λ (z : ℕ). ‵ (shared_of R x b z κ)) (place_is frame_size o i) refl $ hide ! $
    let here : p ≡ block_ptr b (i * frame_size + o) = asked.0
    ∙ (ap (λ (z : Ptr). z +ₚ i * frame_size) (at_block h.ptr inside)
    ∙ ap (block_ptr b) (add_comm o (i * frame_size))) in
    let known : InBlock p = subst InBlock (sym here) tt in
    let Cell = λ (s : Share) (z : Ptr). ‵ (fat s ty_ptr b' at (vptr (block_of z) (count_of z))) in
    move ! (1 ∷ []) $ fsplit ! $ fsplit ! $ drop ! $ unhide ! $ fsplit ! $ fsplit ! $ drop ! $ fsplit ! $ hide !
    $ move ! (0 ∷ 5 ∷ []) $
    -- [a `&` to the pointer; the token; two of the other frame; nothing; the frame before; ..]
    pointer_in ! tt p known b' at (twice 𝓛 κ p b' at) (λ s.
    rewrite ! 1 (Cell s) here refl $
    first ! $ blocks ! $ sets_last ! (addr ! (through ! refl (fld ! refl (hop ! (look ! 1 refl) (stop !))))) refl (
      tt,
      tt,
    ) $
    exec ! 𝓣.C 𝓣.Λ (env code.Mir.locals l) (after 1 (code.function).body) (at_ret _ (W.post y)) $
    sets ! (of_opd ! (get ! refl)) refl (tt, tt) $
    rewrite ! 1 (Cell s) (sym here) refl $ pointer_out ! tt p known b' at $
    returns ! (look_at ! 0 refl) $ free_all ! refl $ keep ! (0 ∷ 5 ∷ []) $
    suffices ! _ (ends_at 𝓛 f.ended stayed c y v (record { ref_ptr = (b, i * frame_size + o); now = x }) (tt, (tt, tt))
    (tt, (tt, tt))) $ says ! refl $
    nothing ! $ move ! (1 ∷ 0 ∷ []) $ join ! $ frame ! $ feq_i ! (List Val) (v ∷ []) (v ∷ []) refl $ fjoin ! $ nothing !
    $ nothing ! $ fjoin ! $ nothing ! $ fjoin ! $ done !)))))
