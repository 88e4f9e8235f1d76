-- A served call did what it asks: `done_law`, for the law `done`, EachLemmas, PlaceWords and SetIdLemmas. The path
-- leads to a row (by MayLemmas), and the world after the call has at its number just what `effect` puts there; sizes
-- follow from the sums of LawBytes, and the set-id bits are gone for all but the superuser (`left`). The hard call is
-- Rename onto a name in use: the row there is gone unless it's the moved one itself (`placed_over`), as no name leads
-- to two rows; it breaks if `after_rename` leaves the old row.
use Rattle.std.proofs.Common.{◌≡◌, ◌≢◌, ℕ, ◌+◌, cond, false, List, [], ◌∷◌, length, get_or, None, refl, sym, ap, ◌∙◌}
use Rattle.std.proofs.Common.{arith, ne_eqb, ◌==◌, Bool, true, Option, Some, eqb-true}
use Rattle.lfs_types.specs.Caller.{Caller}
use Rattle.lfs_types.specs.Splicing.{splice}
use Rattle.lfs_types.specs.Tree.{File, Row, World, root}
use Rattle.lfs_types.specs.declared.answer.Answer.TheVariants.{Served, Denied, Refused}
use Rattle.lfs_types.specs.declared.request.Request.{Request}
use Rattle.lfs_types.specs.declared.request.Request.TheVariants.{Stat, Read, Write, List as Names, SetLength, Create}
use Rattle.lfs_types.specs.declared.request.Request.TheVariants.{Mkdir, Unlink, Rmdir, Rename, Chmod, Chown, Chflags}
use Rattle.lfs_types.specs.declared.request.Request.TheVariants.{SetLevel, Sync}
use Rattle.lfs_rules.specs.Bits.{has_bit}
use Rattle.lfs_rules.specs.SetId.{set_id_cleared}
use Rattle.lfs_model.specs.World.{IsTree, child, IsChild}
use Rattle.lfs_model.specs.Rules.{decide, reached, front, last, start_in}
use Rattle.lfs_model.specs.Effects.{effect, with_file, written, cut, given, mode_after, least_unused, after_rename}
use Rattle.lfs_model.specs.Effects.{with_place, without_row}
use Rattle.lfs_laws.specs.LawDone.{Became, Did, Done, GaveWay}
use Rattle.lfs_laws.specs.LawServed.{HasRow, May}
use Rattle.lfs_laws.specs.Rights.{EachCall}
use Rattle.lfs_model.specs.Steps.{LacksInodes}
use Rattle.lfs_laws.proofs.Fates.{most, place_changed}
use Rattle.lfs_laws.proofs.LawBytes.{splice-inside, length-spliced}
use Rattle.lfs_laws.proofs.LawFates.{file_changed, place_unchanged}
use Rattle.lfs_model.proofs.NewNumbers.{new_unused}
use Rattle.lfs_laws.proofs.MayLemmas.{may}
use Rattle.lfs_laws.proofs.ServedLemmas.{led_reached}
use Rattle.lfs_types.proofs.Maps.{get-insert_same, get-remove_same}
use Rattle.lfs_types.proofs.Pieces.{length-resized}
use Rattle.lfs_types.proofs.Somewhere.{There}
use Rattle.lfs_model.proofs.Children.{child-is, child-none}
use Rattle.std.specs.FinMap as map

no_bits : (mode : ℕ) → (has_bit (set_id_cleared mode) 0o4000 ≡ false) × (has_bit (set_id_cleared mode) 0o2000 ≡ false)
no_bits mode = (ne_eqb _ _ (omega arith), ne_eqb _ _ (omega arith))

-- a mode that another than the superuser left
left : (caller : Caller) (mode : ℕ) → caller.uid ≢ 0 → (has_bit (mode_after caller mode) 0o4000 ≡ false)
    × (has_bit (mode_after caller mode) 0o2000 ≡ false)
left caller mode other =
    let cleared = ap (λ b. cond b mode (set_id_cleared mode)) (ne_eqb caller.uid 0 other) in
    let bits = no_bits mode in
    (ap (λ m. has_bit m 0o4000) cleared ∙ bits.0, ap (λ m. has_bit m 0o2000) cleared ∙ bits.1)

module _ (numbers : ℕ) (w : World) (caller : Caller) (tree : IsTree w.rows) where
  -- the row that a call finds at its path
  found : (path : List (List ℕ)) (Q : ℕ → Row → Type 0) → HasRow w path Q
      → There (map.get w.rows (reached w.rows root path))
  found path Q has = record {
    value = has.row;
    is = ap (map.get w.rows) (led_reached w.rows caller tree root has.number path has.leads) ∙ has.there;
  }

  changed : (path : List (List ℕ)) (change : File → File) (Q : ℕ → Row → Type 0) (P : Row → Row → Type 0)
      → HasRow w path Q
      → ((r : Row) → P r (record r { file = change r.file }))
      → Became w (with_file (map.get w.rows (reached w.rows root path)) (reached w.rows root path) change w)
      (reached w.rows root path) P
  changed path change Q P has holds = let r = found path Q has in record {
    old = r.value;
    new = record r.value { file = change r.value.file };
    was = r.is;
    is = file_changed w (reached w.rows root path) (reached w.rows root path) r.value change r.is refl;
    holds = holds r.value;
  }

  -- a row that got a place, and what had it
  abbrev Placed : ℕ → ℕ → List ℕ → World → Type 0
  Placed n dir name after = Became w after n (λ r s. (s.parent ≡ dir) × (s.name ≡ name)) × GaveWay w after n dir name

  placed_in : (n dir : ℕ) (name : List ℕ) (r : Row) (v : World) → map.get w.rows n ≡ Some r
      → Became w (with_place (map.get w.rows n) n dir name v) n (λ r s. (s.parent ≡ dir) × (s.name ≡ name))
  placed_in n dir name r v there = record {
    old = r;
    new = record r { parent = dir; name = name };
    was = there;
    is = place_changed (map.get w.rows n) v n r dir name there;
    holds = (refl, refl);
  }

  placed_over : (n dir m : ℕ) (name : List ℕ) (r : Row) → map.get w.rows n ≡ Some r → IsChild w.rows dir name m
      → (b : Bool) → (m == n) ≡ b
      → Placed n dir name (cond b w (with_place (map.get w.rows n) n dir name (without_row m w)))
  placed_over n dir m name r there c true e =
      let same = eqb-true m n e in (
        record {
          old = c.row;
          new = c.row;
          was = ap (map.get w.rows) (sym same) ∙ c.there;
          is = ap (map.get w.rows) (sym same) ∙ c.there;
          holds = (c.hangs, c.named);
        },
        λ k d apart. absurd (apart (tree.unique dir name k m d c ∙ same)),
      )
  placed_over n dir m name r there c false e = (
    placed_in n dir name r (without_row m w) there,
    λ k d apart. place_unchanged (map.get w.rows n) (without_row m w) k n dir name apart
        ∙ ap (map.get (map.remove w.rows m)) (tree.unique dir name k m d c) ∙ get-remove_same w.rows m,
  )

  renamed : (n dir : ℕ) (name : List ℕ) (r : Row) → map.get w.rows n ≡ Some r → (o : Option ℕ) → child w.rows dir name
      ≡ o → Placed n dir name (after_rename w n o dir name)
  renamed n dir name r there None e = (
    placed_in n dir name r w there,
    λ k d apart. absurd (child-none w.rows dir name e k d),
  )
  renamed n dir name r there (Some m) e = placed_over n dir m name r there (child-is w.rows dir name m e) (m == n) refl

  moved_to : (from to : List (List ℕ)) → May w caller (Rename from to)
      → Did w caller (Rename from to) (effect numbers w caller (Rename from to))
  moved_to from to has = let r = found from _ has in
      renamed (reached w.rows root from) (reached w.rows root (front to)) (last to) r.value r.is _ refl

  did : (request : Request) → decide w caller request ≡ None → (LacksInodes numbers w request → ⊥)
      → Did w caller request (effect numbers w caller request)
  did (Stat path) h room = refl
  did (Read path off len) h room = refl
  did (Names path) h room = refl
  did (Write path place []) h room = refl
  did (Write path place (b ∷ bs)) h room =
      changed path (written caller place (b ∷ bs)) _ _ (may w caller tree (Write path place (b ∷ bs)) h) (λ r.
      let start = start_in place (length r.file.bytes) in (
        length-spliced r.file.bytes start b bs ∙ most (length r.file.bytes) (start + length (b ∷ bs)),
        (λ i value c. ap (λ j. get_or (splice r.file.bytes start (b ∷ bs)) j 0) (sym c.at)
            ∙ splice-inside r.file.bytes start b bs c.k c.inside ∙ c.is),
        left caller r.file.mode,
      ))
  did (SetLength path len) h room = changed path (cut caller len) _ _ (may w caller tree (SetLength path len) h)
      (λ r. (length-resized r.file.bytes len, left caller r.file.mode))
  did (Create path mode) h room = record {
    number = least_unused w.rows numbers 4;
    row = _;
    unused = new_unused numbers w.rows room;
    is = get-insert_same w.rows _ _;
    holds = (refl, refl);
  }
  did (Mkdir path mode) h room = record {
    number = least_unused w.rows numbers 4;
    row = _;
    unused = new_unused numbers w.rows room;
    is = get-insert_same w.rows _ _;
    holds = (refl, refl);
  }
  did (Unlink path) h room = get-remove_same w.rows (reached w.rows root path)
  did (Rmdir path) h room = get-remove_same w.rows (reached w.rows root path)
  did (Rename from to) h room = moved_to from to (may w caller tree (Rename from to) h)
  did (Chmod path mode) h room = changed path (λ f. record f { mode = mode }) _ _
      (may w caller tree (Chmod path mode) h) (λ r. refl)
  did (Chown path uid gid) h room = changed path (given caller uid gid) _ _ (may w caller tree (Chown path uid gid) h)
      (λ r. (refl, refl, left caller r.file.mode))
  did (Chflags path flags) h room = changed path (λ f. record f { flags = flags }) _ _
      (may w caller tree (Chflags path flags) h) (λ r. refl)
  did (SetLevel level) h room = refl
  did Sync h room = refl

pub done_law : EachCall Done
done_law numbers w caller request (Served shown) tree is = did numbers w caller tree request is.0 is.1
done_law numbers w caller request (Denied denial) tree is = tt
done_law numbers w caller request (Refused resource) tree is = tt
