pub mod PaintingLemmas
