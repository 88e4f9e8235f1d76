-- What a content has at a number, and how long its files may be.
use Rattle.std.proofs.Common.{◌≡◌, ◌≢◌, ℕ, ◌≤◌, Option, None, Some, IsSomeAnd, refl}
use Rattle.std.specs.FinMap as map
use Rattle.lfs_types.specs.Tree.{File, Content, content_with}
use Rattle.lfs_types.specs.Changes.{IsLength}
use Rattle.lfs_types.specs.declared.attrs.Kind.{Kind}
use Rattle.lfs_types.specs.declared.attrs.Kind.TheVariants.{File as Regular, Directory}
use Rattle.lfs_types.specs.declared.limits.TheConstants.{FILE_BYTES}
use Rattle.lfs_types.proofs.Maps.{get-insert_same, get-insert_other}

-- ---- a file put at a number
pub get-content_with : (k : ℕ) (o : Option File) (c : Content) → map.get c k ≡ None → map.get (content_with k o c) k ≡ o
get-content_with k None c none = none
get-content_with k (Some f) c none = get-insert_same c k f

pub get-content_with_apart : (k q : ℕ) (o : Option File) (c : Content) → q ≢ k → map.get (content_with k o c) q
    ≡ map.get c q
get-content_with_apart k q None c apart = refl
get-content_with_apart k q (Some f) c apart = get-insert_other c k f q apart

-- ---- lengths
pub length_limit : (kind : Kind) (len : ℕ) → IsLength kind len → len ≤ FILE_BYTES
length_limit Regular len h = h
length_limit Directory len h = h.0

pub length_of_file : (o : Option File) (len : ℕ) → IsSomeAnd o (λ f. IsLength f.kind len) → len ≤ FILE_BYTES
length_of_file None len h = absurd h
length_of_file (Some f) len h = length_limit f.kind len h
