-- Where the bytes of a Write go, and which a Read shows, byte by byte.
use Rattle.std.specs.Prelude.{◌≡◌, ℕ, ◌+◌, ◌-◌, ◌<◌, min, List, length, get_or, None, Some}
use Rattle.std.specs.FinMap as map
use Rattle.lfs_types.specs.Caller.{Caller}
use Rattle.lfs_types.specs.Tree.{Row, World}
use Rattle.lfs_types.specs.declared.answer.Served.TheVariants as served
use Rattle.lfs_types.specs.declared.attrs.Attrs.{Attrs}
use Rattle.lfs_types.specs.declared.request.Place.TheVariants.{At, End}
use Rattle.lfs_types.specs.declared.request.Request.TheVariants.{Read, Write}
use Rattle.lfs_model.specs.Rules.{decide}
use Rattle.lfs_model.specs.Effects.{answer_of, effect}
use Rattle.lfs_laws.specs.LawSeen.{Sees}

-- after an allowed Write at a place byte k of its bytes stands at that place plus k
abbrev pub WritesAt : Type 0
WritesAt =
    (numbers : ℕ) (w : World) (caller : Caller) (path : List (List ℕ)) (start : ℕ) (bytes : List ℕ) (n : ℕ)
    (attrs : Attrs) (s : Row) (k : ℕ)
    → Sees w caller path n attrs
    → decide w caller (Write path (At start) bytes) ≡ None
    → map.get (effect numbers w caller (Write path (At start) bytes)).rows n ≡ Some s
    → k < length bytes
    → get_or s.file.bytes (start + k) 0 ≡ get_or bytes k 0

-- after one at the end, at the size that the file had plus k
abbrev pub WritesAtEnd : Type 0
WritesAtEnd =
    (numbers : ℕ) (w : World) (caller : Caller) (path : List (List ℕ)) (bytes : List ℕ) (n : ℕ) (attrs : Attrs)
    (s : Row) (k : ℕ)
    → Sees w caller path n attrs
    → decide w caller (Write path End bytes) ≡ None
    → map.get (effect numbers w caller (Write path End bytes)).rows n ≡ Some s
    → k < length bytes
    → get_or s.file.bytes (attrs.size + k) 0 ≡ get_or bytes k 0

-- a Read shows as many bytes as it asks for, but 4,096 at most, and none behind the file's last: byte i is the file's
-- byte off + i
abbrev pub ReadsFrom : Type 0
ReadsFrom =
    (w : World) (caller : Caller) (path : List (List ℕ)) (off len : ℕ) (n : ℕ) (attrs : Attrs) (r : Row)
    (bytes : List ℕ)
    → Sees w caller path n attrs
    → map.get w.rows n ≡ Some r
    → answer_of w (Read path off len) ≡ served.Bytes bytes
    → (length bytes ≡ min (min len 4_096) (length r.file.bytes - off))
    × ((i : ℕ) → i < length bytes → get_or bytes i 0 ≡ get_or r.file.bytes (off + i) 0)
