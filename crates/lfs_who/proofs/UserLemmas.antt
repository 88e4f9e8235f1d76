-- Users told apart: `named_more` and `lines_append` for `put`. Of the users so far each is told what is decided of him,
-- by lines of his own or everybody else's, and whoever isn't among them is free: any lines would be found for him where
-- everybody else's stand (`AreNamed`). So a further user is put behind the others, where his lines are found if none of
-- those before is his; if one is, he was told before (`told_case`). Where his lines are everybody else's he needs no
-- name, as these are found for him anyway.
use Rattle.std.proofs.Common.{◌≡◌, ℕ, ◌==◌, ◌||◌, Bool, true, false, cond, List, [], ◌∷◌, ◌++◌, refl, sym, ap, subst}
use Rattle.std.proofs.Common.{◌∙◌}
use Rattle.std.proofs.lemmas.Bool.{eq-eqb, eqb-true, eqb-false, ne_eqb}
use Rattle.std.proofs.lemmas.List.Folds.{list_any-append}
use Rattle.lfs_types.specs.Caller.{Caller}
use Rattle.lfs_who.specs.Lines.{Told}
use Rattle.lfs_who.specs.Who.{AreNamed, IsToldTo, is_among, lines_for}
use Rattle.lfs_who.specs.declared.condition.Question.{Question}
use Rattle.lfs_who.specs.declared.who.Named.{Named}

-- ---- numbers among numbers

turned_case : (b : Bool) (x y : ℕ) → (x == y) ≡ b → (y == x) ≡ b
turned_case true x y e = eq-eqb y x (sym (eqb-true x y e))
turned_case false x y e = ne_eqb y x (λ same. eqb-false x y e (sym same))

turned : (x y : ℕ) → (x == y) ≡ (y == x)
turned x y = sym (turned_case (x == y) x y refl)

or_none : (b : Bool) → (b || false) ≡ b
or_none true = refl
or_none false = refl

pub among_more : (u uid : ℕ) (users : List ℕ) → is_among u (users ++ uid ∷ []) ≡ (is_among u users || (u == uid))
among_more u uid users = list_any-append (λ v. u == v) users (uid ∷ [])
    ∙ ap (λ b. is_among u users || b) (or_none (u == uid))

-- ---- lines of users

pub lines_append : (ns : List Named) (n : Named) (others : List Told) (u : ℕ) → lines_for (ns ++ n ∷ []) others u
    ≡ lines_for ns (cond (n.uid == u) n.lines.items others) u
lines_append [] n others u = refl
lines_append (m ∷ ns) n others u = ap (λ l. cond (m.uid == u) m.lines.items l) (lines_append ns n others u)

either_case : (P : List Told → Type 0) (b : Bool) (own some others : List Told) → P (cond b own some)
    → (P some → P others) → P (cond b own others)
either_case P true own some others so on = so
either_case P false own some others so on = on so

-- what holds of a user's lines, and of other lines, holds where those take the place of everybody else's
pub for_either : (P : List Told → Type 0) (ns : List Named) (some others : List Told) (u : ℕ) → P (lines_for ns some u)
    → P others → P (lines_for ns others u)
for_either P [] some others u so other = other
for_either P (n ∷ ns) some others u so other =
    either_case P (n.uid == u) n.lines.items (lines_for ns some u) (lines_for ns others u) so
    (λ on. for_either P ns some others u on other)

-- ---- one user more

module _ (questions : List Question) (old : List Named) (others : List Told) (users : List ℕ) (uid : ℕ)
    (lines : List Told)
    (own : (c : Caller) → c.uid ≡ uid → IsToldTo questions c lines) (so : AreNamed questions old others users) where
  module _ (new : List Named) (put : (u : ℕ) (some : List Told) → lines_for new some u
      ≡ lines_for old (cond (uid == u) lines some) u) where
    -- a caller who is the user
    mine : (c : Caller) → c.uid ≡ uid → (b : Bool) → is_among c.uid users ≡ b
        → IsToldTo questions c (lines_for old lines c.uid)
    mine c same true among = for_either (IsToldTo questions c) old others lines c.uid (so.told c among) (own c same)
    mine c same false among = subst (λ ls. IsToldTo questions c ls) (sym (so.free c.uid among lines)) (own c same)

    told_case : (c : Caller) (b : Bool) → (c.uid == uid) ≡ b → (is_among c.uid users || b) ≡ true
        → IsToldTo questions c (lines_for old (cond b lines others) c.uid)
    told_case c true e among = mine c (eqb-true c.uid uid e) (is_among c.uid users) refl
    told_case c false e among = so.told c (sym (or_none (is_among c.uid users)) ∙ among)

    free_case : (u : ℕ) (some : List Told) (b d : Bool) → is_among u users ≡ b → (u == uid) ≡ d → (b || d) ≡ false
        → lines_for old (cond d lines some) u ≡ some
    free_case u some true d among e none = absurd (cc)
    free_case u some false true among e none = absurd (cc)
    free_case u some false false among e none = so.free u among some

    pub named_more : AreNamed questions new others (users ++ uid ∷ [])
    named_more = record {
      told = λ c among.
          subst (λ ls. IsToldTo questions c ls)
          (sym (put c.uid others ∙ ap (λ b. lines_for old (cond b lines others) c.uid) (turned uid c.uid)))
          (told_case c (c.uid == uid) refl (sym (among_more c.uid uid users) ∙ among));
      free = λ u none some.
          put u some
          ∙ ap (λ b. lines_for old (cond b lines some) u) (turned uid u)
          ∙ free_case u some (is_among u users) (u == uid) refl refl (sym (among_more u uid users) ∙ none);
    }

  -- one whose lines are everybody else's
  module _ (alike : lines ≡ others) where
    alike_case : (c : Caller) (b d : Bool) → is_among c.uid users ≡ b → (c.uid == uid) ≡ d → (b || d) ≡ true
        → IsToldTo questions c (lines_for old others c.uid)
    alike_case c true d among e some = so.told c among
    alike_case c false true among e some = subst (λ ls. IsToldTo questions c ls) (alike
        ∙ sym (so.free c.uid among others)) (own c (eqb-true c.uid uid e))
    alike_case c false false among e some = absurd (cc)

    fewer_case : (u : ℕ) (b d : Bool) → is_among u users ≡ b → (b || d) ≡ false → is_among u users ≡ false
    fewer_case u true d among none = absurd (cc)
    fewer_case u false d among none = among
