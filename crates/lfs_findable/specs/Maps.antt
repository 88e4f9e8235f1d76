-- What the table of serials has.
use Rattle.std.specs.Prelude.{ℕ, Option, nat_eq}
use Rattle.std.specs.HashMap as hash
use Rattle.lfs_findable.specs.declared.places.Places.{Places}

-- the address of a serial
unfoldable pub address_of : Places → ℕ → Option ℕ
address_of places serial = hash.get nat_eq places.addresses serial
