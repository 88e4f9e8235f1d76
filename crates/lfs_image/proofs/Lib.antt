pub mod LoadingLemmas
pub mod HeadLemmas
pub mod ImageLemmas
