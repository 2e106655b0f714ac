pub mod CallsSettle
pub mod AnswersTold
pub mod Main
