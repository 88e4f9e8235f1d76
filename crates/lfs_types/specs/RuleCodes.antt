-- The rules in order, the code and the error number of each, and the name of each error number.
use Rattle.std.specs.Prelude.{ℕ, List, [], ◌∷◌, codes}
use Rattle.lfs_types.specs.declared.rule.Rule.{Rule}
use Rattle.lfs_types.specs.declared.rule.Rule.TheVariants.{IsDirectory, GrantsSearch, NameThere, NameFree}
use Rattle.lfs_types.specs.declared.rule.Rule.TheVariants.{IsNoDirectory, IsEmpty, IsNotRoot, IsNotBeneathItself}
use Rattle.lfs_types.specs.declared.rule.Rule.TheVariants.{IsMutable, IsNotAppendOnly, GrantsRead, GrantsWrite}
use Rattle.lfs_types.specs.declared.rule.Rule.TheVariants.{PassesSticky, IsOwner, MaySetOwner, IsSuperuser, MaySetFlags}
use Rattle.lfs_types.specs.declared.rule.Rule.TheVariants.{KeepsSystemLocks, MaySetLevel, FitsFile}
use Rattle.lfs_types.specs.declared.rule.Errno.{Errno}
use Rattle.lfs_types.specs.declared.rule.Errno.TheVariants.{EPERM, ENOENT, EACCES, EBUSY, EEXIST, ENOTDIR, EISDIR}
use Rattle.lfs_types.specs.declared.rule.Errno.TheVariants.{EINVAL, EFBIG, ENOTEMPTY}

-- the rules, in the order in which they are reported
abbrev pub rules : List Rule
rules =
    IsDirectory ∷ GrantsSearch ∷ NameThere ∷ NameFree ∷ IsNoDirectory ∷ IsEmpty ∷ IsNotRoot ∷ IsNotBeneathItself
    ∷ IsMutable ∷ IsNotAppendOnly ∷ GrantsRead ∷ GrantsWrite ∷ PassesSticky ∷ IsOwner ∷ MaySetOwner ∷ IsSuperuser
    ∷ MaySetFlags ∷ KeepsSystemLocks ∷ MaySetLevel ∷ FitsFile ∷ []

abbrev pub rule_code : Rule → List ℕ
rule_code IsDirectory = codes "N1"
rule_code GrantsSearch = codes "S1"
rule_code NameThere = codes "N2"
rule_code NameFree = codes "N3"
rule_code IsNoDirectory = codes "K1"
rule_code IsEmpty = codes "K2"
rule_code IsNotRoot = codes "K3"
rule_code IsNotBeneathItself = codes "K4"
rule_code IsMutable = codes "F1"
rule_code IsNotAppendOnly = codes "F2"
rule_code GrantsRead = codes "M1"
rule_code GrantsWrite = codes "M2"
rule_code PassesSticky = codes "Y1"
rule_code IsOwner = codes "O1"
rule_code MaySetOwner = codes "O2"
rule_code IsSuperuser = codes "U1"
rule_code MaySetFlags = codes "L1"
rule_code KeepsSystemLocks = codes "L2"
rule_code MaySetLevel = codes "L3"
rule_code FitsFile = codes "Z1"

abbrev pub rule_error : Rule → Errno
rule_error IsDirectory = ENOTDIR
rule_error GrantsSearch = EACCES
rule_error NameThere = ENOENT
rule_error NameFree = EEXIST
rule_error IsNoDirectory = EISDIR
rule_error IsEmpty = ENOTEMPTY
rule_error IsNotRoot = EBUSY
rule_error IsNotBeneathItself = EINVAL
rule_error IsMutable = EPERM
rule_error IsNotAppendOnly = EPERM
rule_error GrantsRead = EACCES
rule_error GrantsWrite = EACCES
rule_error PassesSticky = EPERM
rule_error IsOwner = EPERM
rule_error MaySetOwner = EPERM
rule_error IsSuperuser = EPERM
rule_error MaySetFlags = EPERM
rule_error KeepsSystemLocks = EPERM
rule_error MaySetLevel = EPERM
rule_error FitsFile = EFBIG

abbrev pub error_name : Errno → List ℕ
error_name EPERM = codes "EPERM"
error_name ENOENT = codes "ENOENT"
error_name EACCES = codes "EACCES"
error_name EBUSY = codes "EBUSY"
error_name EEXIST = codes "EEXIST"
error_name ENOTDIR = codes "ENOTDIR"
error_name EISDIR = codes "EISDIR"
error_name EINVAL = codes "EINVAL"
error_name EFBIG = codes "EFBIG"
error_name ENOTEMPTY = codes "ENOTEMPTY"
