-- Whatever stands over a log store contains what that contains (`same_content`), and which worlds a store shows is a matter
-- of its content (`same_volume`). So over a log that was laid out it shows the opening tree (`opening_over`), and over one
-- that was loaded the image's (`world_over`).
use Rattle.std.proofs.Common.{◌≡◌, ◌∙◌, ap, sym, subst}
use Rattle.lfs_types.specs.StoreStates.{StoreState}
use Rattle.lfs_types.specs.Tree.{Content, World, opening_world}
use Rattle.lfs_parts.specs.declared.parts.Parts.{Parts}
use Rattle.lfs_logstore.specs.States.{state_of}
use Rattle.lfs_calls.specs.Content.{Shows}
use Rattle.lfs_calls.specs.Volumes.{HasWorld, IsVolume}
use Rattle.lfs_stands.specs.Stands.{Stand}

-- a store that contains the same shows the same world
pub same_volume : (s t : StoreState) (w : World) → s.content ≡ t.content → IsVolume s w → IsVolume t w
same_volume s t w same v = record { shows = subst (λ (c : Content). Shows c w) same v.shows; tree = v.tree }

-- a store contains what the log store contains of which it is made
same_content : {S : Type 0} (state : S → StoreState) (stand : Stand S) (s : S) (log : Parts)
    → (state s).content ≡ (state_of (stand.parts s)).content → stand.parts s ≡ log
    → (state s).content ≡ (state_of log).content
same_content state stand s log contains on = contains ∙ ap (λ (p : Parts). (state_of p).content) on

-- and shows the world that it shows
pub world_over : {S : Type 0} (state : S → StoreState) (stand : Stand S) (s : S) (log : Parts)
    → (state s).content ≡ (state_of (stand.parts s)).content → stand.parts s ≡ log
    → HasWorld (state_of log) → HasWorld (state s)
world_over state stand s log contains on h =
    (h.0, same_volume (state_of log) (state s) h.0 (sym (same_content state stand s log contains on)) h.1)

pub opening_over : {S : Type 0} (state : S → StoreState) (stand : Stand S) (s : S) (log : Parts)
    → (state s).content ≡ (state_of (stand.parts s)).content → stand.parts s ≡ log
    → Shows (state_of log).content opening_world → Shows (state s).content opening_world
opening_over state stand s log contains on shows =
    subst (λ (c : Content). Shows c opening_world) (sym (same_content state stand s log contains on)) shows
