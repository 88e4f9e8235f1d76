-- The limits, by number: 8,460,288 bytes of a file, and 4, the first number of a new row.
use Rattle.std.specs.Prelude.{◌≡◌, ◌↔◌, ℕ, ◌+◌, ◌<◌, ◌≤◌, List, length, IsSome, None, Some}
use Rattle.std.specs.FinMap as map
use Rattle.lfs_types.specs.Caller.{Caller}
use Rattle.lfs_types.specs.Tree.{Row, World}
use Rattle.lfs_types.specs.declared.answer.Answer.{Answer}
use Rattle.lfs_types.specs.declared.attrs.Attrs.{Attrs}
use Rattle.lfs_types.specs.declared.attrs.Kind.TheVariants.{File as Regular}
use Rattle.lfs_types.specs.declared.request.Place.TheVariants.{At, End}
use Rattle.lfs_types.specs.declared.request.Request.{Request}
use Rattle.lfs_types.specs.declared.request.Request.TheVariants.{Write, SetLength}
use Rattle.lfs_model.specs.World.{IsTree}
use Rattle.lfs_model.specs.Rules.{decide}
use Rattle.lfs_model.specs.Steps.{IsAnswer, after_answer}
use Rattle.lfs_laws.specs.LawSeen.{Sees}

-- user 0 sees a file here that no flag locks, of this many bytes
pub record SeesFile (w : World) (caller : Caller) (path : List (List ℕ)) (size : ℕ) : Type 0 where
  pub number : ℕ
  pub attrs : Attrs
  pub sees : Sees w caller path number attrs
  pub superuser : caller.uid ≡ 0
  pub kind : attrs.kind ≡ Regular
  pub flags : attrs.flags ≡ 0
  pub size_is : attrs.size ≡ size

-- he may give it each length up to 8,460,288
abbrev pub LengthByNumber : Type 0
LengthByNumber =
    (w : World) (caller : Caller) (path : List (List ℕ)) (size len : ℕ)
    → SeesFile w caller path size
    → (decide w caller (SetLength path len) ≡ None) ↔ (len ≤ 8_460_288)

-- and write to it up to there, at a place
abbrev pub WriteByNumber : Type 0
WriteByNumber =
    (w : World) (caller : Caller) (path : List (List ℕ)) (size start : ℕ) (bytes : List ℕ)
    → SeesFile w caller path size
    → (decide w caller (Write path (At start) bytes) ≡ None) ↔ (start + length bytes ≤ 8_460_288)

-- and at its end
abbrev pub AppendByNumber : Type 0
AppendByNumber =
    (w : World) (caller : Caller) (path : List (List ℕ)) (size : ℕ) (bytes : List ℕ)
    → SeesFile w caller path size
    → (decide w caller (Write path End bytes) ≡ None) ↔ (size + length bytes ≤ 8_460_288)

-- a new row's number is the least from 4 up that no row has
abbrev pub FirstNumber : Type 0
FirstNumber =
    (numbers : ℕ) (w : World) (caller : Caller) (request : Request) (answer : Answer) (n : ℕ) (s : Row)
    → IsTree w.rows
    → IsAnswer numbers w caller request answer
    → map.get w.rows n ≡ None
    → map.get (after_answer numbers w caller request answer).rows n ≡ Some s
    → (4 ≤ n) × (n < numbers) × ((k : ℕ) → 4 ≤ k → k < n → IsSome (map.get w.rows k))
