-- Who could act by a path: for each user the lines of callers who are he.
use Rattle.std.specs.Prelude.{◌≡◌, ℕ, ◌==◌, Bool, true, false, List, [], ◌∷◌, if◌then◌else◌}
use Rattle.std.specs.List.{list_any}
use Rattle.lfs_types.specs.Caller.{Caller}
use Rattle.lfs_types.specs.Tree.{World}
use Rattle.lfs_types.specs.declared.request.Request.{Request}
use Rattle.lfs_types.specs.declared.request.Request.TheVariants.{SetLevel}
use Rattle.lfs_model.specs.Rules.{decide, first_failing}
use Rattle.lfs_who.specs.Acts.{act_denial}
use Rattle.lfs_who.specs.Conditions.{all_posed, has_part}
use Rattle.lfs_who.specs.Lines.{Told, told_to}
use Rattle.lfs_who.specs.declared.act.Act.{Act}
use Rattle.lfs_who.specs.declared.condition.Question.{Question}
use Rattle.lfs_who.specs.declared.who.Named.{Named}
use Rattle.lfs_who.specs.declared.who.Who.{Who}

-- the lines of a user: his own where he is named, else those of everybody else
abbrev pub lines_for : List Named → List Told → ℕ → List Told
lines_for [] others u = others
lines_for (named ∷ more) others u = if named.uid == u then named.lines.items
    else lines_for more others u

-- Every caller there can be, whoever he is and whatever groups he is in, fits one line of his user and no other, and it
-- has the denial of his call, or that the rules allow it.
abbrev pub IsWho : World → Act → List (List ℕ) → Who → Type 0
IsWho w act path who = (c : Caller) → told_to c (lines_for who.named.items who.others.items c.uid)
    ≡ act_denial w c act path ∷ []

-- the call sets the securelevel, which init alone may lower
abbrev pub SetsLevel : Request → Type 0
SetsLevel (SetLevel level) = Unit {0}
SetsLevel request = ⊥

-- the same of a call: of one that sets the securelevel, all callers who aren't init
abbrev pub IsWhoCalls : World → Request → Who → Type 0
IsWhoCalls w request who = (c : Caller) → (SetsLevel request → c.init ≡ false)
    → told_to c (lines_for who.named.items who.others.items c.uid) ≡ decide w c request ∷ []

-- whether a user is among some
abbrev pub is_among : ℕ → List ℕ → Bool
is_among u users = list_any (λ v. u == v) users

-- whether a user has a part in what is asked
abbrev pub has_part_in : ℕ → List Question → Bool
has_part_in u questions = list_any (λ (q : Question). has_part u q.condition) questions

-- a caller's lines tell him how all that is asked decides
abbrev pub IsToldTo : List Question → Caller → List Told → Type 0
IsToldTo questions c lines = told_to c lines ≡ first_failing (all_posed c questions) ∷ []

-- these users' lines are told, and no other user is named
pub record AreNamed (questions : List Question) (named : List Named) (others : List Told)
    (users : List ℕ) : Type 0 where
  pub told : (c : Caller) → is_among c.uid users ≡ true
      → IsToldTo questions c (lines_for named others c.uid)
  pub free : (u : ℕ) → is_among u users ≡ false → (lines : List Told)
      → lines_for named lines u ≡ lines
