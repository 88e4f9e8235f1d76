-- Keys, and where the search for one starts.
use Rattle.std.specs.Prelude.{ℕ, ◌+◌, ◌*◌, ◌/◌, ◌%◌, Bool, ◌&&◌, ◌==◌}
use Rattle.lfs_cache.specs.declared.key.Key.{Key}

abbrev pub same_key : Key → Key → Bool
same_key a b = a.ino == b.ino && (a.version == b.version && a.lbn.0 == b.lbn.0)

-- the place where the search for a key starts, of so many: by sixteen bits of the key, as a fraction
abbrev pub start_of : Key → ℕ → ℕ
start_of k span = (k.ino * 668265263 + k.version * 374761393 + k.lbn.0 * 2654435761) / 65536 % 65536
    * span / 65536
