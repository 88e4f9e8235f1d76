pub mod FlatFilesContent
pub mod FlatFilesReach
pub mod FlatFilesSplice
