pub mod FirstChanges
