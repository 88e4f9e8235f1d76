pub mod LayoutLemmas
pub mod LoadingLemmas
