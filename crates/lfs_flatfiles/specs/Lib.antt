pub mod FlatFiles
