-- Where a name is kept.
use Rattle.std.specs.Prelude.{ℕ, ◌+◌, ◌*◌, ◌%◌, List, fold}

-- the hash of a name
unfoldable pub name_hash : List ℕ → ℕ
name_hash name = fold (λ hash byte. (hash * 403 + byte) % 4096) 0 name

-- the slot of a name in a directory
unfoldable pub place_of : ℕ → List ℕ → ℕ
place_of dir name = (name_hash name + dir * 2533) % 4096
