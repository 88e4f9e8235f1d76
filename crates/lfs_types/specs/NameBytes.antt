-- The bytes of a name, wherever they lie.
use Rattle.std.specs.Prelude.{ℕ, List}
use Rattle.lfs_types.specs.declared.name.Stored.{Stored}
use Rattle.lfs_types.specs.declared.name.Stored.TheVariants.{Short, Long}

abbrev pub stored_bytes : Stored → List ℕ
stored_bytes (Short bytes) = bytes
stored_bytes (Long bytes) = bytes.value.items
