-- Where bytes go, which limits hold, how the world opens and when set-id bits go, by number: `writes_at`, `reads_from`,
-- `length_by_number`, `opens_alone`, `set_ids_go` and their kin, for `bytes_by_place`, `limits_by_number`,
-- `opens_by_number` and `set_ids_by_bits`. Each is read off another law (DoneLemmas, CallLaws, RowLaws) or decided by
-- the tests of the attributes shown (`decided` of WordLemmas), where all but the limit are met. For the superuser no
-- grant is in the way, so only the sum of place and length decides; another limit of a file, or a row more at the
-- opening, changes the number in the law itself.
use Rattle.std.proofs.Common.{◌≡◌, ◌≢◌, ℕ, ◌+◌, ◌-◌, [], ◌∷◌, length, get_or, take, drop, min, Option, None, Some, refl}
use Rattle.std.proofs.Common.{sym, ap, ◌∙◌, ⊎_elim, arith}
use Rattle.std.proofs.lemmas.Bool.{not_from_false}
use Rattle.std.proofs.lemmas.List.{get_or-drop, get_or-take, length-drop, length-take}
use Rattle.std.specs.FinMap as map
use Rattle.lfs_types.specs.Tree.{Row, World, attrs_of, opening_world, root}
use Rattle.lfs_types.specs.declared.answer.Answer.TheVariants.{Served}
use Rattle.lfs_types.specs.declared.answer.Served.TheVariants as served
use Rattle.lfs_types.specs.declared.attrs.Attrs.{Attrs}
use Rattle.lfs_types.specs.declared.attrs.Bit.TheVariants as bits
use Rattle.lfs_types.specs.declared.request.Place.TheVariants.{At, End}
use Rattle.lfs_types.specs.declared.request.Request.{Request}
use Rattle.lfs_types.specs.declared.request.Request.TheVariants.{Write, Chmod}
use Rattle.lfs_model.specs.World.{file_at}
use Rattle.lfs_model.specs.Rules.{file_max, length_tests, reached, write_tests}
use Rattle.lfs_laws.specs.LawLimits.{AppendByNumber, FirstNumber, LengthByNumber, WriteByNumber}
use Rattle.lfs_laws.specs.LawMode.{SetsMode}
use Rattle.lfs_laws.specs.LawOpening.{IsChmodCall, OpensAlone, OpensInsecure, OpensWithRoot, SetIdsGo}
use Rattle.lfs_laws.specs.LawPlaces.{ReadsFrom, WritesAt, WritesAtEnd}
use Rattle.lfs_model.proofs.RunLemmas.{only_root}
use Rattle.lfs_laws.proofs.CallLaws.{new_law}
use Rattle.lfs_laws.proofs.DoneLemmas.{done_law}
use Rattle.lfs_laws.proofs.LockWords.{fits, granted_all}
use Rattle.lfs_laws.proofs.RowLaws.{remoded_law}
use Rattle.lfs_laws.proofs.WordLemmas.{a_file, decided, met_always, met_last, no_locks, number, said, shown}
use Rattle.lfs_types.proofs.Maps.{get-insert_same}

-- ---- places

pub writes_at : WritesAt
writes_at numbers w caller path start [] n attrs s k sees allowed is h = absurd (omega (arith, h))
writes_at numbers w caller path start (b ∷ bs) n attrs s k sees allowed is h =
    let did = done_law numbers w caller (Write path (At start) (b ∷ bs)) (Served served.Done) sees.tree (
      allowed,
      (λ x. x),
      refl,
    ) in
    let at = number w caller path n attrs sees in
    let row : s ≡ did.new = cc (is, did.is) in
    ap (λ (x : Row). get_or x.file.bytes (start + k) 0) row
    ∙ did.holds.1 (start + k) (get_or (b ∷ bs) k 0) (record { k = k; inside = h; at = refl; is = refl })

pub writes_at_end : WritesAtEnd
writes_at_end numbers w caller path [] n attrs s k sees allowed is h = absurd (omega (arith, h))
writes_at_end numbers w caller path (b ∷ bs) n attrs s k sees allowed is h =
    let did = done_law numbers w caller (Write path End (b ∷ bs)) (Served served.Done) sees.tree (
      allowed,
      (λ x. x),
      refl,
    ) in
    let at = number w caller path n attrs sees in
    let row : s ≡ did.new = cc (is, did.is) in
    let size : attrs.size ≡ length did.old.file.bytes =
    ap (λ (a : Attrs). a.size) (sym (shown w caller path n attrs sees) ∙ ap (λ o. attrs_of (file_at o)) did.was) in
    ap (λ (x : Row). get_or x.file.bytes (attrs.size + k) 0) row
    ∙ did.holds.1 (attrs.size + k) (get_or (b ∷ bs) k 0)
    (record { k = k; inside = h; at = ap (λ m. m + k) (sym size); is = refl })

pub reads_from : ReadsFrom
reads_from w caller path off len n attrs r bytes sees there is =
    let at = number w caller path n attrs sees in
    let row : (file_at (map.get w.rows (reached w.rows root path))).bytes
    ≡ r.file.bytes = ap (λ m. (file_at (map.get w.rows m)).bytes) at ∙ ap (λ o. (file_at o).bytes) there in
    let same : bytes ≡ take (min len 4_096) (drop off (file_at (map.get w.rows (reached w.rows root path))).bytes) =
    cc in
    let piece : bytes ≡ take (min len 4_096) (drop off r.file.bytes) = same
    ∙ ap (λ l. take (min len 4_096) (drop off l)) row in
    let long : length bytes ≡ min (min len 4_096) (length r.file.bytes - off) =
    ap (length {A = ℕ}) piece ∙ length-take (min len 4_096) (drop off r.file.bytes)
    ∙ ap (λ m. min (min len 4_096) m) (length-drop off r.file.bytes) in (
      long,
      λ i inside. ap (λ l. get_or l i 0) piece
          ∙ get_or-take (min len 4_096) (drop off r.file.bytes) i 0 (omega (arith, long, inside))
          ∙ get_or-drop off r.file.bytes i 0,
    )

-- ---- limits

pub length_by_number : LengthByNumber
length_by_number w caller path size len f =
    let locks = no_locks f.attrs f.flags in
    decided w caller path f.number f.attrs f.sees (length_tests caller len)
    (met_always _ _ _ (a_file f.attrs f.kind)
    (met_always _ _ _ (not_from_false _ locks.0)
    (met_always _ _ _ (granted_all caller f.attrs bits.Write f.superuser)
    (met_always _ _ _ (not_from_false _ locks.1)
    (met_last _ _ (fits len file_max))))))

pub write_by_number : WriteByNumber
write_by_number w caller path size start bytes f =
    let locks = no_locks f.attrs f.flags in
    decided w caller path f.number f.attrs f.sees (write_tests caller (At start) (length bytes))
    (met_always _ _ _ (a_file f.attrs f.kind)
    (met_always _ _ _ (not_from_false _ locks.0)
    (met_always _ _ _ (granted_all caller f.attrs bits.Write f.superuser)
    (met_always _ _ _ (not_from_false _ locks.1)
    (met_last _ _ (fits (start + length bytes) file_max))))))

pub append_by_number : AppendByNumber
append_by_number w caller path size bytes f =
    let locks = no_locks f.attrs f.flags in
    let is = f.size_is in
    said _ (λ h. omega (arith, h, is)) (λ h. omega (arith, h, is))
    (decided w caller path f.number f.attrs f.sees (write_tests caller End (length bytes))
    (met_always _ _ _ (a_file f.attrs f.kind)
    (met_always _ _ _ (not_from_false _ locks.0)
    (met_always _ _ _ (granted_all caller f.attrs bits.Write f.superuser)
    (met_last _ _ (fits (f.attrs.size + length bytes) file_max))))))

pub first_number : FirstNumber
first_number numbers w caller request answer n s tree is none there =
    let made = (new_law numbers w caller request answer tree is n s none there).number in
    (made.first, made.within, made.least)

-- ---- the opening world

pub opens_with_root : OpensWithRoot
opens_with_root = ap (λ o. served.Stat 2 (attrs_of (file_at o))) (get-insert_same map.empty root _)

nothing : (n : ℕ) → n ≢ 2 → (o : Option Row) → map.get opening_world.rows n ≡ o → map.get opening_world.rows n ≡ None
nothing n other None e = e
nothing n other (Some r) e = absurd (other (only_root n r e).0)

pub opens_alone : OpensAlone
opens_alone n other = nothing n other _ refl

pub opens_insecure : OpensInsecure
opens_insecure = refl

-- ---- set-id bits

sets_mode : (w : World) (n mode : ℕ) (request : Request) → SetsMode w n mode request → IsChmodCall request
sets_mode w n mode (Chmod path new) h = tt
sets_mode w n mode request h = absurd h

pub set_ids_go : SetIdsGo
set_ids_go numbers w caller request answer n r s tree is was there differs other = ⊎_elim
    (λ chmod. absurd (other (sets_mode w n s.file.mode request chmod.asked)))
    (λ loses. (loses.ordinary, loses.cleared))
    (remoded_law numbers w caller request answer tree is n r s was there differs)
