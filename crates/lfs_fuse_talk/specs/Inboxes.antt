-- What lies in an inbox.
use Rattle.std.specs.Prelude.{◌≡◌, ◌⊎◌, ℕ, ◌≤◌, List, [], ◌++◌, length, take}
use Rattle.lfs_fuse_talk.specs.declared.inbox.Inbox.{Inbox}

-- what was read and isn't answered yet: what is there from before, and what the last read gave
abbrev pub unanswered : Inbox → List ℕ
unanswered inbox = inbox.pending.items ++ take inbox.fresh inbox.buffer.items

-- The buffer takes one read. Where something is there from before, the last read stands behind it.
pub record IsInbox (inbox : Inbox) : Type 0 where
  pub room : length inbox.buffer.items ≡ 139264
  pub within : inbox.fresh ≤ 139264
  pub one : (inbox.pending.items ≡ []) ⊎ (inbox.fresh ≡ 0)
