pub mod AnswerLinesLaws
pub mod LengthLaws
