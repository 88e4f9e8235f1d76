-- A node that is gone has no path, so no call is made of it: `gone_handled`, `gone_set`, `gone_flagged` and
-- `gone_renamed` for each kind of message. No names lead up from it, so of its path it can only be told that it is
-- gone, or want of memory; and with a name in it too many bytes are those of the name alone, which is then too long by
-- itself (`gone_error`).
use Rattle.std.proofs.Common.{◌≡◌, ℕ, ◌<◌, ◌⊎◌, Bool, true, false, cond, List, [], ◌∷◌, ◌++◌, length, Option, None}
use Rattle.std.proofs.Common.{Some, Ok, refl, sym, ap, subst, ◌∙◌, arith, append-nil, nat_lt, inl, inr}
use Rattle.std.specs.Prelude.{◌==◌}
use Rattle.std.specs.Option.{option_to_list}
use Rattle.std.proofs.lemmas.Bool.Decides.{nat_tests}
use Rattle.lfs_types.specs.Paths.{slashed}
use Rattle.lfs_types.specs.declared.name.BadName.{BadName}
use Rattle.lfs_types.specs.Caller.{Caller}
use Rattle.lfs_types.specs.StoreStates.{StoreState}
use Rattle.lfs_volume.specs.Seen.{Seen}
use Rattle.lfs_nodes.specs.declared.node.Hang.{Hang}
use Rattle.lfs_nodes.specs.declared.node.Hang.TheVariants.{Gone}
use Rattle.lfs_nodes.specs.declared.parts.Parts.{Parts}
use Rattle.lfs_nodes.specs.Places.{place_of}
use Rattle.lfs_nodes.specs.Ways.{LeadsUp}
use Rattle.lfs_fuse_reply.specs.declared.errno.Errno.{Errno}
use Rattle.lfs_fuse_reply.specs.declared.errno.Errno.TheVariants.{ENAMETOOLONG, ENOMEM, ESTALE}
use Rattle.lfs_fuse_wire.specs.Said.{Said, ioctl, setattr}
use Rattle.lfs_fuse_wire.specs.declared.attributes.SetAttr.{SetAttr}
use Rattle.lfs_fuse_wire.specs.declared.ioctl.Ioctl.{Ioctl}
use Rattle.lfs_fuse_calls.specs.Paths.{IsPathOf, IsStaleError, LacksName, LacksPath}
use Rattle.lfs_fuse_calls.specs.Telling.{named_in}
use Rattle.lfs_fuse_calls.specs.declared.told.Told.{Told}
use Rattle.lfs_fuse_calls.specs.declared.told.Told.TheVariants as told
use Rattle.lfs_fuse_calls.proofs.PathLemmas.{gone_names}
use Rattle.lfs_mount.specs.Handled.{IsError, IsFlagged, IsGoneError, IsHandled, IsRefused, IsRenamed, IsSetAttr}
use Rattle.lfs_mount.specs.Handled.{LacksPaths, hangs_in}

pub gone_leads : (hangs : ℕ → Option Hang) (node : ℕ) (name : Option (List ℕ)) (path : List (List ℕ))
    → hangs node ≡ Some Gone → IsPathOf hangs node name path → ⊥
gone_leads hangs node name path gone leads = gone_names hangs node gone (Ok leads.above) leads.down

-- ---- the errors that are told of it

leads_nowhere : (hangs : ℕ → Option Hang) (node : ℕ) (names : List (List ℕ)) (top : ℕ) → hangs node ≡ Some Gone
    → LeadsUp hangs node names top → names ≡ []
leads_nowhere hangs node [] top gone up = refl
leads_nowhere hangs node (name ∷ names) top gone up =
    let none : place_of (hangs node) ≡ None = ap place_of gone in
    let wrong : None ≡ Some _ = sym none ∙ up.1 in
    absurd (cc)

second : (a b : Bool) (x y z : Option BadName) → a ≡ false → b ≡ true → cond a x (cond b y z) ≡ y
second true b x y z off on = absurd (cc)
second false false x y z off on = absurd (cc)
second false true x y z off on = refl

-- a name that is too long for a path is so for a name
long_name : (name : Option (List ℕ)) → 1024 < length (slashed (option_to_list name)) → LacksName name ENAMETOOLONG
long_name None over = absurd (omega (arith, over))
long_name (Some bytes) over =
    let same = ap (λ (l : List ℕ). length l) (append-nil bytes) in
    let long : 255 < length bytes = omega (arith, over, same) in
    let off : (length bytes == 0) ≡ false = grind (arith, nat_tests, long) in
    let on : nat_lt 255 (length bytes) ≡ true = grind (arith, nat_tests, long) in
    second _ _ _ _ _ off on

gone_error : (hangs : ℕ → Option Hang) (node : ℕ) (name : Option (List ℕ)) → hangs node ≡ Some Gone
    → (error : Errno) → LacksPath hangs node name error → IsGoneError name error
gone_error hangs node name gone ESTALE lacks = inl tt
gone_error hangs node name gone ENOMEM lacks = inl tt
gone_error hangs node name gone ENAMETOOLONG (inl way) =
    let at = leads_nowhere hangs node way.names way.top gone way.up in
    inr (long_name name (subst (λ ns. 1024 < length (slashed (ns ++ option_to_list name))) at way.holding))
gone_error hangs node name gone error (inl way) = absurd way
gone_error hangs node name gone error (inr lacks) = inr lacks

-- of the node itself
gone_alone : (error : Errno) → IsGoneError None error → IsStaleError error
gone_alone error (inl stale) = stale
gone_alone error (inr lacks) = absurd lacks

-- what is said of errors is said of the one that is told
refused_so : {F : Type 0} (Lacks So : Errno → Type 0) → ((error : Errno) → Lacks error → So error) → (reply : Told)
    (old new : Seen F) → IsRefused Lacks reply old new → IsRefused So reply old new
refused_so Lacks So so reply old new refused = record { error = told_so reply refused.error; none = refused.none }
  where
    told_so : (reply : Told) → IsError Lacks reply → IsError So reply
    told_so (told.Error error) h = so error h
    told_so reply h = absurd h

-- ---- messages

pub gone_handled : {F : Type 0} (state : F → StoreState) (is_flushed : F → Type 0) (caller : Caller)
    (nodes nodes_after : Parts) (node : ℕ) (message : Said) (reply : Told) (old new : Seen F)
    → hangs_in nodes node ≡ Some Gone
    → IsHandled state is_flushed caller nodes nodes_after node message reply old new
    → IsRefused (IsGoneError (named_in message)) reply old new
gone_handled state is_flushed caller nodes nodes_after node message reply old new gone (inl called) =
    absurd (gone_leads (hangs_in nodes) node (named_in message) called.made.path gone called.made.leads)
gone_handled state is_flushed caller nodes nodes_after node message reply old new gone (inr refused) =
    refused_so (LacksPath (hangs_in nodes) node (named_in message)) (IsGoneError (named_in message))
    (gone_error (hangs_in nodes) node (named_in message) gone) reply old new refused.0

module _ {F : Type 0} (state : F → StoreState) (is_flushed : F → Type 0) (caller : Caller)
    (hangs : ℕ → Option Hang) (node : ℕ) where
  refused_stale : (reply : Told) (old new : Seen F) → hangs node ≡ Some Gone
      → IsRefused (LacksPath hangs node None) reply old new → IsRefused IsStaleError reply old new
  refused_stale reply old new gone refused =
      refused_so (LacksPath hangs node None) IsStaleError
      (λ error lacks. gone_alone error (gone_error hangs node None gone error lacks)) reply old new refused

  pub gone_set : (fields : SetAttr) (reply : Told) (old new : Seen F) → hangs node ≡ Some Gone
      → IsSetAttr state is_flushed caller hangs node fields reply old new → IsRefused IsStaleError reply old new
  gone_set fields reply old new gone (inl at) =
      absurd (gone_leads hangs node (named_in (setattr fields)) at.looked.path gone at.looked.leads)
  gone_set fields reply old new gone (inr refused) = refused_stale reply old new gone refused

  pub gone_flagged : (fields : Ioctl) (reply : Told) (old new : Seen F) → hangs node ≡ Some Gone
      → IsFlagged state is_flushed caller hangs node fields reply old new → IsRefused IsStaleError reply old new
  gone_flagged fields reply old new gone (inl at) =
      absurd (gone_leads hangs node (named_in (ioctl fields)) at.looked.path gone at.looked.leads)
  gone_flagged fields reply old new gone (inr refused) = refused_stale reply old new gone refused

  pub gone_renamed : (name : List ℕ) (directory : ℕ) (new_name : List ℕ) (reply : Told) (old new : Seen F)
      → hangs node ≡ Some Gone
      → IsRenamed state is_flushed caller hangs node name directory new_name reply old new
      → IsRefused (λ error. IsGoneError (Some name) error ⊎ LacksPath hangs directory (Some new_name) error)
      reply old new
  gone_renamed name directory new_name reply old new gone (inl moved) =
      absurd (gone_leads hangs node (Some name) moved.from gone moved.leads_from)
  gone_renamed name directory new_name reply old new gone (inr refused) =
      refused_so (LacksPaths hangs node name directory new_name)
      (λ error. IsGoneError (Some name) error ⊎ LacksPath hangs directory (Some new_name) error) which reply old new
      refused
    where
      which : (error : Errno) → LacksPaths hangs node name directory new_name error
          → IsGoneError (Some name) error ⊎ LacksPath hangs directory (Some new_name) error
      which error (inl lacks) = inl (gone_error hangs node (Some name) gone error lacks)
      which error (inr lacks) = inr lacks
