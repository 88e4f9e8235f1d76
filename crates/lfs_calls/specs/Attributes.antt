-- What setting a file's attributes comes to, over a store.
use Rattle.std.specs.Prelude.{◌≡◌, ◌≢◌, ℕ, Some}
use Rattle.std.specs.FinMap as map
use Rattle.lfs_types.specs.Tree.{File, Content, file_of}
use Rattle.lfs_types.specs.declared.attrs.Attrs.{Attrs}

-- the content after a file was given attributes: its bytes and all other files stay
pub record SetsAttrs (old new : Content) (n : ℕ) (attrs : Attrs) : Type 0 where
  pub set : (f : File) → map.get old n ≡ Some f → map.get new n ≡ Some (file_of attrs f.bytes)
  pub others : (q : ℕ) → q ≢ n → map.get new q ≡ map.get old q
