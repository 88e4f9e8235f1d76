-- Which calls may lack memory.
use Rattle.std.specs.Prelude.{◌≡◌, ◌⊎◌, Bool, true}
use Rattle.lfs_types.specs.declared.cleaner.CleanerCall.{CleanerCall}
use Rattle.lfs_types.specs.declared.cleaner.CleanerCall.TheVariants as calls
use Rattle.lfs_types.specs.declared.request.Request.{Request}
use Rattle.lfs_types.specs.declared.request.Request.TheVariants.{Read, List as Names}
use Rattle.lfs_model.specs.Steps.{IsChanging}

-- the call copies what it serves, and so takes memory over any store
abbrev pub IsCopying : Request → Type 0
IsCopying (Read path off len) = Unit {0}
IsCopying (Names path) = Unit {0}
IsCopying request = ⊥

-- the call may lack memory: where it changes files over a store that can lack it, or copies what it serves
abbrev pub MayLackMemory : Bool → Request → Type 0
MayLackMemory can_lack request = ((can_lack ≡ true) × IsChanging request) ⊎ IsCopying request

-- a call of the cleaner hands infos in, of which its entry keeps a copy
abbrev pub HandsIn : CleanerCall → Type 0
HandsIn (calls.Bmapv infos) = Unit {0}
HandsIn (calls.Markv marks) = Unit {0}
HandsIn call = ⊥
