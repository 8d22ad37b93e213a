pub mod DecimalLaws
pub mod PutsLaws
pub mod LinesLaws
