pub mod KindCounts
