-- `bytes_mut` lends the bytes of a frame, and the frame that comes back has what was written in them
-- (`bytes_mut_spec`). The frame is taken apart into its first field and the rest (`apart`), the borrow of the whole
-- becomes one of the field (`lends_Part`), and at its end field and rest make a frame again (`back`). The field is the
-- first, at offset 0; another place of `bytes` among Frame's fields changes the offsets here.
use Rattle.std.proofs.Common.{ℕ, ◌+◌, List, [], ◌∷◌, refl, MutBor}
use seplogic.Ra.Ura.{Ura}
use mir.Syntax.{named}
use mir.Val.{vptr}
use base.Fraction.{full_share}
use base.Logic.{SProp, ent, sep, id⊢}
use base.Fml.{Lft, GName, Share, ftrue, flft}
use types.Logic.{Logic, sem}
use types.Mut.{open_ref}
use types.Kit.{‵, ◌⊛◌, raw, some, later, await, group, ◌$◌, ◌∵◌, !, qed, move, keep, use1, drop, split, join, pick}
use types.Kit.{fsplit3, fjoin, suffices, frame, done}
use types.Run.{stop, fld, addr, returns, enter}
use types.ByLocal.{alloc_all, pass_all, free_all, look_at, through, sets}
use denote.Exit.{no}
use denote.RattleType.{RattleType}
use denote.Memory.{lone, mem}
use denote.Array.{Array}
use denote.Builtin.{u8}
use denote.Ref.{MutRef, mut_vals, mut_Tells}
use denote.Follow.{follows, lends_Part}
use denote.Signature.{plain, mut_ref_to}
use denote.Steps.{nothing}
use denote.Struct.Field.{Field}
use denote.Struct.Laws.{lawfuls}
use denote.Struct.Members.{Member}
use denote.Struct.Parts.{PartsBack}
use denote.Struct.Pick.{rest_at, record_field_out, record_field_back}
use denote.Triple.Walked.{says, Stays, stay_dropped, walk_of, ends_at, Goes-spent_ref}
use Rattle.std.proofs.raw_atomic.Walks.{proved}
use Rattle.lfs_recency.specs.declared.frame.Frame.{Frame}
use Rattle.lfs_recency.specs.FrameLends.{with_bytes}
use Rattle.lfs_recency.specs.contracts.frame.Frame as frame-type
use Rattle.lfs_recency.proofs.frame.Frame.TheLaws as frame-laws
use Rattle.lfs_recency.specs.contracts.frame.Frame.bytes_mut as f
use Rattle.lfs_recency.proofs.frame.Frame.bytes_mut.Statement.{statement}
use Rattle.lfs_recency.proofs.frame.Frame.bytes_mut.Code as code

abbrev R : RattleType
R = frame-type.the_row

abbrev T : RattleType
T = Array u8 512

abbrev stayed : Stays f.ended.signature.params f.ended.kept
stayed = (stay_dropped (mut_ref_to (0 ∷ []) tt (plain (λ _. R))) no, tt)

-- the fields, each with its type
abbrev members_of : List Field → List Member
members_of [] = []
members_of (p ∷ ps) = record { row = p.row; ty = lone (p.row).mir } ∷ members_of ps

abbrev members : List Member
members = members_of (frame-type.struct).parts

module _ {M : Type 1} {𝓤 : Ura M} (𝓛 : Logic 𝓤) (κ : Lft) (q : Share) (b o : ℕ) (γ : GName) (h : Frame) where
  open 𝓛 use {H, A}

  -- the other fields, and that with these they make the frame
  abbrev Rest : SProp 𝓤
  Rest = sep 𝓤 (sem 𝓛 (rest_at full_share members 0 ((frame-type.the_type).to h) b o 0))
      (PartsBack 𝓛 full_share (frame-type.struct).name members b o)

  back : (w : List ℕ) → ent 𝓤 (sep 𝓤 (sem 𝓛 ((mem T).own_at w b (o + 0))) Rest)
      (sem 𝓛 ((mem R).own_at (with_bytes h w) b o))
  back w = record_field_back 𝓛 full_share (frame-type.struct).name members Frame (frame-type.the_type).to
      (frame-type.the_type).to_one (with_bytes h w) b o 0

  apart : ent 𝓤 (sem 𝓛 ((mem R).own_at h b o)) (sep 𝓤 (sem 𝓛 ((mem T).own_at h.bytes b (o + 0))) Rest)
  apart = record_field_out 𝓛 full_share (frame-type.struct).name members Frame (frame-type.the_type).to
      (frame-type.the_type).to_one (lawfuls 𝓛 (frame-type.struct).parts frame-laws.the_laws) h b o 0

  abbrev Got : GName → SProp 𝓤
  Got γ' = sep 𝓤 (sem 𝓛 ((MutRef (named 0) κ T).own_val
      (record { ref_ptr = (b, o + 0); ghost_name = γ'; now = h.bytes }) (vptr b (o + 0) ∷ [])))
      (sep 𝓤 (A.lft κ q) (sem 𝓛 (follows R T γ γ' (with_bytes h))))

pub bytes_mut_spec : {M : Type 1} → statement M
bytes_mut_spec 𝓤 𝓛 𝓜 𝓡 wired =
    let c = f.clauses 𝓛 𝓜.mem 𝓡.returns in
    proved 𝓛 f.ended stayed c 𝓜 𝓡 (Goes-spent_ref 𝓛 1 (0 ∷ []) tt (plain (λ _. R)), tt)
    f.Key.name code.function (code.unfolded 𝓤 𝓛.H 𝓜 𝓡 wired)
    (λ κs. (mut_vals, tt)) (λ κs. (mut_Tells (named 0) κs.0 R, tt)) (λ κs qs bounds a _ are.
    let κ = κs.0 in let q = qs.0 in let b = a.0.ref_ptr.0 in let o = a.0.ref_ptr.1 in let γ = a.0.ghost_name in let h =
    a.0.now in
    let vs = mut_vals a.0 in let W = walk_of 𝓛 f.ended stayed c in let y : W.Ghost =
    ((κs, qs, bounds, a, (vs, tt)), tt) in
    let lent : GName → MutBor (List ℕ) = λ γ'. record { ref_ptr = (b, o + 0); ghost_name = γ'; now = h.bytes } in
    qed 𝓛 (((‵ (flft κ q) ⊛ ‵ ftrue) ⊛ ‵ ((MutRef (named 0) κ R).own_val a.0 vs) ⊛ ‵ ftrue) ∷ ‵ ftrue ∷ []) ∵
    split ! $ split ! $ move ! (2 ∷ []) $ split ! $ keep ! (0 ∷ 2 ∷ []) $
    enter ! _ _ _ _ _ $ alloc_all ! (λ l. pass_all ! refl ((tt, tt), tt) $
    fsplit3 ! $ drop ! $ move ! (0 ∷ 1 ∷ 2 ∷ []) $ open_ref ! tt (mem R) {x = h} {b = b} {o = o} $
    -- [the frame; the open borrow, in three entries]
    use1 𝓛 (‵ ((mem T).own_at h.bytes b (o + 0)) ⊛ raw (Rest 𝓛 κ q b o γ h)) (apart 𝓛 κ q b o γ h) $ split !
    $ move ! (2 ∷ 3 ∷ 4 ∷ 0 ∷ 1 ∷ []) $
    sets ! (addr ! (through ! refl (fld ! refl (stop !)))) refl (tt, tt) $
    group ! 5 $ use1 𝓛 (later (some (λ (γ' : GName). raw (Got 𝓛 κ q b o γ h γ'))))
    (lends_Part 𝓛 R T (with_bytes h) (named 0) κ q b o b (o + 0) γ (Rest 𝓛 κ q b o γ h) (back 𝓛 κ q b o γ h)
    (R.coded.code h) (R.coded.code h) h.bytes) $ await ! tt $ pick ! (λ γ'.
    returns ! (look_at ! 0 refl) $ free_all ! refl $ keep ! (0 ∷ []) $
    use1 𝓛 (‵ ((MutRef (named 0) κ T).own_val (lent γ') (vptr b (o + 0) ∷ [])) ⊛ ‵ (flft κ q) ⊛ ‵
    (follows R T γ γ' (with_bytes h))) (id⊢ 𝓤 _) $ split ! $ move ! (1 ∷ []) $ split ! $ move ! (2 ∷ 0 ∷ 1 ∷ []) $
    suffices ! _ (ends_at 𝓛 f.ended stayed c y (vptr b (o + 0)) (lent γ') (tt, tt) (tt, tt)) $
    nothing ! $ nothing ! $ fjoin ! $ join ! $ nothing ! $ move ! (2 ∷ 0 ∷ []) $ join ! $ join ! $ frame ! $ says ! refl
    $ done !)))
