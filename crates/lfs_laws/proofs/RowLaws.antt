-- If a row is gone, moved, rewritten, or has another mode, owner or flags after a call, the call was one that does this
-- and its caller might: `gone_law`, `moved_law` to `reflagged_law`, for the laws of these names, BetweenLemmas and
-- EachLemmas. Each is read off from the seven cases of Fates: in all but one the part in question is the same, which is
-- a contradiction. The exception is a mode, which a write or a change of owner clears of its set-id bits for anyone but
-- the superuser (`mode_changed`); a call that changes two parts of a row at once needs a new right in each law.
use Rattle.std.proofs.Common.{◌≡◌, ◌≢◌, ◌⊎◌, ℕ, cond, List, Option, None, Some, inl, inr, refl, sym, ap, subst, ◌∙◌}
use Rattle.std.proofs.Common.{⊎_elim, ne_eqb}
use Rattle.std.proofs.lemmas.Bool.{eq-eqb}
use Rattle.std.specs.FinMap as map
use Rattle.lfs_types.specs.Caller.{Caller}
use Rattle.lfs_types.specs.Tree.{Row, World}
use Rattle.lfs_types.specs.declared.request.Request.{Request}
use Rattle.lfs_types.proofs.Somewhere.{none_there}
use Rattle.lfs_rules.specs.SetId.{set_id_cleared}
use Rattle.lfs_model.specs.Effects.{mode_after}
use Rattle.lfs_laws.specs.LawGone as gone
use Rattle.lfs_laws.specs.LawMoved.{HangsStill, MayMove, Moved}
use Rattle.lfs_laws.specs.LawRewritten.{MayRewrite, Rewritten}
use Rattle.lfs_laws.specs.LawMode.{IsChmod, LosesSetId, Remoded}
use Rattle.lfs_laws.specs.LawOwner.{SameOwner, SetsOwner, MayGive, Given}
use Rattle.lfs_laws.specs.LawFlagged.{MayReflag, Reflagged}
use Rattle.lfs_laws.specs.Rights.{EachCall}
use Rattle.lfs_laws.proofs.Fates.{Fate, fate}
use Rattle.lfs_laws.proofs.Fates.Fate.{Stays, Goes, Moves, Changes, Remodes, Gives, Reflags}

-- what a number has is one row
pub row_of : (o : Option Row) (x s : Row) → o ≡ Some x → o ≡ Some s → s ≡ x
row_of o x s e is = cc

-- a row that hangs where another hung
hangs_by : (r x s : Row) → s ≡ x → x.parent ≡ r.parent → x.name ≡ r.name → HangsStill r s
hangs_by r x s e parent name = record {
  parents = ap (λ (y : Row). y.parent) e ∙ parent;
  names = ap (λ (y : Row). y.name) e ∙ name;
}

owner_by : (r x s : Row) → s ≡ x → x.file.uid ≡ r.file.uid → x.file.gid ≡ r.file.gid → SameOwner r.file s.file
owner_by r x s e uid gid = record {
  uid = ap (λ (y : Row). y.file.uid) e ∙ uid;
  gid = ap (λ (y : Row). y.file.gid) e
      ∙ gid;
}

-- a caller other than the superuser clears the set-id bits
mode_ordinary : (caller : Caller) (mode : ℕ) → caller.uid ≢ 0 → mode_after caller mode ≡ set_id_cleared mode
mode_ordinary caller mode other = ap (λ b. cond b mode (set_id_cleared mode)) (ne_eqb caller.uid 0 other)

-- a mode that the caller's change left is cleared, by another than the superuser
mode_changed : (caller : Caller) (mode : ℕ) → mode_after caller mode ≢ mode → caller.uid ≢ 0
mode_changed caller mode differs super =
    differs (ap (λ b. cond b mode (set_id_cleared mode)) (eq-eqb caller.uid 0 super))

module _ (w : World) (caller : Caller) (request : Request) (v : World) (n : ℕ) (r : Row) where
  gone_by : Fate w caller request v n r → map.get v.rows n ≡ None → gone.MayRemove w caller request n r
      × gone.TakesOver w v request r
  gone_by (Stays e) none = none_there _ _ none e
  gone_by (Goes e x over) none = (x, over)
  gone_by (Moves parent name e x) none = none_there _ _ none e
  gone_by (Changes bytes e x) none = none_there _ _ none e
  gone_by (Remodes mode e x) none = none_there _ _ none e
  gone_by (Gives uid gid e x) none = none_there _ _ none e
  gone_by (Reflags flags e x) none = none_there _ _ none e

  module _ (s : Row) (is : map.get v.rows n ≡ Some s) where
    moved_by : Fate w caller request v n r → (HangsStill r s → ⊥) → MayMove w caller request n r s.parent s.name
    moved_by (Stays e) differs = absurd (differs (hangs_by r _ s (row_of _ _ s e is) refl refl))
    moved_by (Goes e x over) differs = none_there _ _ e is
    moved_by (Moves parent name e x) differs =
        subst (λ (y : Row). MayMove w caller request n r y.parent y.name) (sym (row_of _ _ s e is)) x
    moved_by (Changes bytes e x) differs = absurd (differs (hangs_by r _ s (row_of _ _ s e is) refl refl))
    moved_by (Remodes mode e x) differs = absurd (differs (hangs_by r _ s (row_of _ _ s e is) refl refl))
    moved_by (Gives uid gid e x) differs = absurd (differs (hangs_by r _ s (row_of _ _ s e is) refl refl))
    moved_by (Reflags flags e x) differs = absurd (differs (hangs_by r _ s (row_of _ _ s e is) refl refl))

    abbrev bytes_in : Row → List ℕ
    bytes_in y = y.file.bytes

    rewritten_by : Fate w caller request v n r → s.file.bytes ≢ r.file.bytes
        → MayRewrite w caller request n r s.file.bytes
    rewritten_by (Stays e) differs = absurd (differs (ap bytes_in (row_of _ _ s e is)))
    rewritten_by (Goes e x over) differs = none_there _ _ e is
    rewritten_by (Moves parent name e x) differs = absurd (differs (ap bytes_in (row_of _ _ s e is)))
    rewritten_by (Changes bytes e x) differs =
        subst (λ (y : Row). MayRewrite w caller request n r y.file.bytes) (sym (row_of _ _ s e is)) x
    rewritten_by (Remodes mode e x) differs = absurd (differs (ap bytes_in (row_of _ _ s e is)))
    rewritten_by (Gives uid gid e x) differs = absurd (differs (ap bytes_in (row_of _ _ s e is)))
    rewritten_by (Reflags flags e x) differs = absurd (differs (ap bytes_in (row_of _ _ s e is)))

    abbrev mode_in : Row → ℕ
    mode_in y = y.file.mode

    remoded_by : Fate w caller request v n r → s.file.mode ≢ r.file.mode → IsChmod w caller request n r s
        ⊎ LosesSetId w caller request n r s
    remoded_by (Stays e) differs = absurd (differs (ap mode_in (row_of _ _ s e is)))
    remoded_by (Goes e x over) differs = none_there _ _ e is
    remoded_by (Moves parent name e x) differs = absurd (differs (ap mode_in (row_of _ _ s e is)))
    remoded_by (Changes bytes e x) differs =
        let same = row_of _ _ s e is in
        let other = mode_changed caller r.file.mode (λ q. differs (ap mode_in same ∙ q)) in
        inr (record {
          cleared = ap mode_in same ∙ mode_ordinary caller r.file.mode other;
          ordinary = other;
          allowed = inr (x.regular, x.writes, x.asked, λ only. (x.appends only).0);
        })
    remoded_by (Remodes mode e x) differs =
        inl (subst (λ (y : Row). IsChmod w caller request n r y) (sym (row_of _ _ s e is))
        (record { allowed = x.allowed; asked = x.asked; rest = refl }))
    remoded_by (Gives uid gid e x) differs =
        let same = row_of _ _ s e is in
        let other = mode_changed caller r.file.mode (λ q. differs (ap mode_in same ∙ q)) in
        inr (record {
          cleared = ap mode_in same ∙ mode_ordinary caller r.file.mode other;
          ordinary = other;
          allowed = inl (
            x.allowed,
            subst (λ (y : Row). SetsOwner w n y.file.uid y.file.gid request)
                (sym same) x.asked,
          );
        })
    remoded_by (Reflags flags e x) differs = absurd (differs (ap mode_in (row_of _ _ s e is)))

    given_by : Fate w caller request v n r → (SameOwner r.file s.file → ⊥)
        → MayGive w caller request n r s.file.uid s.file.gid
    given_by (Stays e) differs = absurd (differs (owner_by r _ s (row_of _ _ s e is) refl refl))
    given_by (Goes e x over) differs = none_there _ _ e is
    given_by (Moves parent name e x) differs = absurd (differs (owner_by r _ s (row_of _ _ s e is) refl refl))
    given_by (Changes bytes e x) differs = absurd (differs (owner_by r _ s (row_of _ _ s e is) refl refl))
    given_by (Remodes mode e x) differs = absurd (differs (owner_by r _ s (row_of _ _ s e is) refl refl))
    given_by (Gives uid gid e x) differs =
        let same = row_of _ _ s e is in
        subst (λ (y : Row). MayGive w caller request n r y.file.uid y.file.gid) (sym same) (record {
          allowed = x.allowed;
          giving = ⊎_elim (λ super. inl super)
              (λ keeps. ⊎_elim (λ g. absurd (differs (owner_by r _ s same keeps.0 g))) (λ m. inr (keeps.0, m)) keeps.1)
              x.giving;
          asked = x.asked;
        })
    given_by (Reflags flags e x) differs = absurd (differs (owner_by r _ s (row_of _ _ s e is) refl refl))

    abbrev flags_in : Row → ℕ
    flags_in y = y.file.flags

    reflagged_by : Fate w caller request v n r → s.file.flags ≢ r.file.flags
        → MayReflag w caller request n r s.file.flags
    reflagged_by (Stays e) differs = absurd (differs (ap flags_in (row_of _ _ s e is)))
    reflagged_by (Goes e x over) differs = none_there _ _ e is
    reflagged_by (Moves parent name e x) differs = absurd (differs (ap flags_in (row_of _ _ s e is)))
    reflagged_by (Changes bytes e x) differs = absurd (differs (ap flags_in (row_of _ _ s e is)))
    reflagged_by (Remodes mode e x) differs = absurd (differs (ap flags_in (row_of _ _ s e is)))
    reflagged_by (Gives uid gid e x) differs = absurd (differs (ap flags_in (row_of _ _ s e is)))
    reflagged_by (Reflags flags e x) differs =
        subst (λ (y : Row). MayReflag w caller request n r y.file.flags) (sym (row_of _ _ s e is)) x

-- ---- the laws

pub gone_law : EachCall gone.Gone
gone_law numbers w caller request answer tree is n r there none =
    gone_by w caller request _ n r (fate numbers w caller tree n r there request answer is) none

pub moved_law : EachCall Moved
moved_law numbers w caller request answer tree is n r s there after differs =
    moved_by w caller request _ n r s after (fate numbers w caller tree n r there request answer is) differs

pub rewritten_law : EachCall Rewritten
rewritten_law numbers w caller request answer tree is n r s there after differs =
    rewritten_by w caller request _ n r s after (fate numbers w caller tree n r there request answer is) differs

pub remoded_law : EachCall Remoded
remoded_law numbers w caller request answer tree is n r s there after differs =
    remoded_by w caller request _ n r s after (fate numbers w caller tree n r there request answer is) differs

pub given_law : EachCall Given
given_law numbers w caller request answer tree is n r s there after differs =
    given_by w caller request _ n r s after (fate numbers w caller tree n r there request answer is) differs

pub reflagged_law : EachCall Reflagged
reflagged_law numbers w caller request answer tree is n r s there after differs =
    reflagged_by w caller request _ n r s after (fate numbers w caller tree n r there request answer is) differs
