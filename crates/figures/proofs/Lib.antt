-- What the promises settle, and that each can be met.
pub mod FiguresSettle
pub mod FiguresMet
-- For the crates above: figures that fall, words that are written one after the other, and that each rule has its turn.
pub mod FiguresFall
pub mod FiguresKept
pub mod WrittenInOrder
pub mod EachTurn
-- The final statements.
pub mod Main
