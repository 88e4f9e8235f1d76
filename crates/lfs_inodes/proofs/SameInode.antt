-- Inodes with the same fields are one, since each of their facts has one proof.
use Rattle.std.proofs.Common.{◌≡◌, ◌≤◌, ◌<◌, length}
use Rattle.std.proofs.Props.{props}
use mathlib.Core.HLevel.{is_prop→PathP}
use Rattle.lfs_inodes.specs.declared.inode.Inode.{Inode}
use Rattle.lfs_types.specs.FlagNumbers.{IsKnown}
use Rattle.lfs_inodes.specs.Facts.{IsInodeNumber, IsSizeOf, AreDirect, IsDouble, IsSingle}

pub same_inode : (v w : Inode) → v.kind ≡ w.kind → v.number ≡ w.number → v.version ≡ w.version → v.owner ≡ w.owner
    → v.group ≡ w.group
    → v.mode ≡ w.mode → v.flags ≡ w.flags → v.size ≡ w.size → v.direct ≡ w.direct → v.single ≡ w.single → v.double
    ≡ w.double → v ≡ w
same_inode v w kind number version owner group mode flags size direct single double = λ i. record {
  kind = kind i;
  number = number i;
  version = version i;
  owner = owner i;
  group = group i;
  mode = mode i;
  flags = flags i;
  size = size i;
  direct = direct i;
  single = single i;
  double = double i;
  numbered = is_prop→PathP (λ j. IsInodeNumber (number j)) (λ j. hlevel props) v.numbered w.numbered i;
  versioned = is_prop→PathP (λ j. 1 ≤ version j) (λ j. hlevel props) v.versioned w.versioned i;
  permitted = is_prop→PathP (λ j. mode j < 4096) (λ j. hlevel props) v.permitted w.permitted i;
  flagged = is_prop→PathP (λ j. IsKnown (flags j)) (λ j. hlevel props) v.flagged w.flagged i;
  sized = is_prop→PathP (λ j. IsSizeOf (kind j) (size j)) (λ j. hlevel props) v.sized w.sized i;
  whole = is_prop→PathP (λ j. length (direct j) ≡ 12) (λ j. hlevel props) v.whole w.whole i;
  addressed = is_prop→PathP (λ j. AreDirect (size j) (direct j)) (λ j. hlevel props) v.addressed w.addressed i;
  indirect = is_prop→PathP (λ j. IsSingle (size j) (single j)) (λ j. hlevel props) v.indirect w.indirect i;
  doubled = is_prop→PathP (λ j. IsDouble (size j) (double j)) (λ j. hlevel props) v.doubled w.doubled i;
}
