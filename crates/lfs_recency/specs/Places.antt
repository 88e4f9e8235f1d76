-- Where the items of a vector lie: one after another, `size` bytes each, from `base` on.
use Rattle.std.specs.Prelude.{◌≡◌, ℕ, ◌-◌, ◌*◌, ◌/◌, ◌<◌}
use denote.RawPtr.{Ptr, count_of, ◌+ₚ◌}

-- where the item of this number lies
abbrev pub item_place : ℕ → Ptr → ℕ → Ptr
item_place size base number = base +ₚ number * size

-- the number of the item that lies at p
abbrev pub item_number : ℕ → Ptr → Ptr → ℕ
item_number size base p = (count_of p - count_of base) / size

-- p is the place of one of `len` items
abbrev pub IsItemPlace : ℕ → Ptr → ℕ → Ptr → Type 0
IsItemPlace size base len p = (p ≡ item_place size base (item_number size base p)) × (item_number size base p < len)
