-- Each entry of a legal list meets all laws of one call in the worlds around it: `each_entry` and `opening_sound`, for
-- the law `each_entry`. The worlds stay sound (a tree whose files fit, `sound_after`) from the front, and in a sound
-- world each law of one call holds (`meets`), which are proved in RowLaws, CallLaws, DoneLemmas, OneThingLemmas and
-- MayLemmas. A file that grows fits as its call was tested (FitsFile); a new law of one call becomes a field of
-- MeetsLaws and a line in `meets`.
use Rattle.std.proofs.Common.{◌≡◌, ◌≤◌, ℕ, List, [], ◌∷◌, ◌++◌, length, Option, None, Some, refl, sym, ap, subst}
use Rattle.std.proofs.Common.{⊎_elim, arith}
use Rattle.std.specs.FinMap as map
use Rattle.lfs_types.specs.Caller.{Caller}
use Rattle.lfs_types.specs.Tree.{Row, World}
use Rattle.lfs_types.specs.declared.answer.Answer.{Answer}
use Rattle.lfs_types.specs.declared.request.Request.{Request}
use Rattle.lfs_model.specs.declared.journal.Entry.{Entry}
use Rattle.lfs_model.specs.declared.journal.Event.{Event}
use Rattle.lfs_model.specs.declared.journal.Event.TheVariants.{User, Cleaner}
use Rattle.lfs_model.specs.World.{Rows}
use Rattle.lfs_model.specs.Rules.{file_max}
use Rattle.lfs_laws.specs.LawEach.{EachEntry, IsSound, MeetsLaws, OpensSound}
use Rattle.lfs_model.specs.Steps.{IsAnswer, IsEvent, IsLegal, after_answer, after_event, world_after}
use Rattle.lfs_laws.proofs.BetweenLemmas.{cases_bytes}
use Rattle.lfs_laws.proofs.CallLaws.{new_law, relevelled_law, shown_law}
use Rattle.lfs_laws.proofs.LegalTrees.{event_tree}
use Rattle.lfs_laws.proofs.OneThingLemmas.{one_thing}
use Rattle.lfs_laws.proofs.DoneLemmas.{done_law}
use Rattle.lfs_laws.proofs.MayLemmas.{answered_as_may}
use Rattle.lfs_laws.proofs.RowLaws.{given_law, gone_law, moved_law, reflagged_law, remoded_law, rewritten_law}
use Rattle.lfs_model.proofs.RunLemmas.{only_root, opening_tree}

-- ---- sound trees

abbrev Fits : Rows → Type 0
Fits rows = (n : ℕ) (r : Row) → map.get rows n ≡ Some r → length r.file.bytes ≤ file_max

row_fits : (numbers : ℕ) (w : World) (caller : Caller) (request : Request) (answer : Answer) → IsSound w.rows
    → IsAnswer numbers w caller request answer → (n : ℕ) (s : Row)
    → map.get (after_answer numbers w caller request answer).rows n ≡ Some s → (o : Option Row) → map.get w.rows n ≡ o
    → length s.file.bytes ≤ file_max
row_fits numbers w caller request answer sound is n s at None old =
    let none = ap (λ (l : List ℕ). length l) (new_law numbers w caller request answer sound.tree is n s old at).bytes in
    omega (arith, none)
row_fits numbers w caller request answer sound is n s at (Some r) old = ⊎_elim
    (λ same. let long = ap (λ (l : List ℕ). length l) same in let fits = sound.fits n r old in
    omega (arith, long, fits))
    (λ differs. (rewritten_law numbers w caller request answer sound.tree is n r s old at differs).fits
    (sound.fits n r old))
    (cases_bytes s.file.bytes r.file.bytes)

fits_after : (numbers segments : ℕ) (w : World) (caller : Caller) (event : Event) → IsSound w.rows
    → IsEvent numbers segments w caller event → Fits (after_event numbers w caller event).rows
fits_after numbers segments w caller (User request answer) sound is n s at =
    row_fits numbers w caller request answer sound is n s at (map.get w.rows n) refl
fits_after numbers segments w caller (Cleaner kind outcome) sound is n s at = sound.fits n s at

sound_after : (numbers segments : ℕ) (w : World) (caller : Caller) (event : Event) → IsSound w.rows
    → IsEvent numbers segments w caller event → IsSound (after_event numbers w caller event).rows
sound_after numbers segments w caller event sound is = record {
  tree = event_tree numbers segments w caller event sound.tree is;
  fits = fits_after numbers segments w caller event sound is;
}

pub opening_sound : OpensSound
opening_sound = record {
  tree = opening_tree;
  fits = λ n r at. let root = only_root n r at in let none = ap (λ (x : Row). length x.file.bytes) (sym root.1) in
      omega (arith, none);
}

-- ---- each entry

record Standing (numbers segments : ℕ) (before : List Entry) (entry : Entry) (w : World) : Type 0 where
  sound : IsSound (world_after numbers before w).rows
  may : IsEvent numbers segments (world_after numbers before w) entry.cred entry.event

standing : (numbers segments : ℕ) (before : List Entry) (entry : Entry) (later : List Entry) (w : World)
    → IsSound w.rows → IsLegal numbers segments (before ++ entry ∷ later) w
    → Standing numbers segments before entry w
standing numbers segments [] entry later w sound legal = record { sound = sound; may = legal.0 }
standing numbers segments (e ∷ before) entry later w sound legal =
    let rest = standing numbers segments before entry later (after_event numbers w e.cred e.event)
    (sound_after numbers segments w e.cred e.event sound legal.0) legal.1 in
    record { sound = rest.sound; may = rest.may }

meets : (numbers : ℕ) (w : World) (caller : Caller) (request : Request) (answer : Answer) → IsSound w.rows
    → IsAnswer numbers w caller request answer
    → MeetsLaws numbers w caller request answer (after_answer numbers w caller request answer)
meets numbers w caller request answer sound is = record {
  may = answered_as_may numbers w caller request answer sound.tree is;
  gone = gone_law numbers w caller request answer sound.tree is;
  new = new_law numbers w caller request answer sound.tree is;
  moved = moved_law numbers w caller request answer sound.tree is;
  rewritten = rewritten_law numbers w caller request answer sound.tree is;
  remoded = remoded_law numbers w caller request answer sound.tree is;
  given = given_law numbers w caller request answer sound.tree is;
  reflagged = reflagged_law numbers w caller request answer sound.tree is;
  relevelled = relevelled_law numbers w caller request answer sound.tree is;
  one_thing = one_thing numbers w caller request answer sound.tree is;
  done = done_law numbers w caller request answer sound.tree is;
  shown = shown_law numbers w caller request answer sound.tree is;
}

module _ (numbers segments : ℕ) (w : World) (entry : Entry) (sound : IsSound w.rows)
    (may : IsEvent numbers segments w entry.cred entry.event) where
  by_user : (request : Request) (answer : Answer) → entry.event ≡ User request answer
      → MeetsLaws numbers w entry.cred request answer (after_event numbers w entry.cred entry.event)
  by_user request answer is =
      subst (λ (x : Event). MeetsLaws numbers w entry.cred request answer (after_event numbers w entry.cred x)) (sym is)
      (meets numbers w entry.cred request answer sound (subst (IsEvent numbers segments w entry.cred) is may))

pub each_entry : EachEntry
each_entry numbers segments before entry later begun sound legal =
    let stands = standing numbers segments before entry later begun sound legal in
    let w = world_after numbers before begun in
    record {
      may = stands.may;
      before = stands.sound;
      sound = sound_after numbers segments w entry.cred entry.event stands.sound stands.may;
      user = by_user numbers segments w entry stands.sound stands.may;
      cleaner = λ kind outcome is. ap (λ (x : Event). after_event numbers w entry.cred x) is;
    }
