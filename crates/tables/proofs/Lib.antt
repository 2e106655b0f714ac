-- Samples, by the definitions alone. Files are checked in the order of their names, so that a wrong definition meets a fact
-- before it meets a proof.
pub mod ASampleOfTables
-- What the promise settles.
pub mod TablesSettles
pub mod TablesExact
pub mod DeadGrammars
-- The rounds.
pub mod FiguresHaveRoom
pub mod ContextsFall
pub mod ContextRounds
pub mod SeenRounds
pub mod RuleTotals
-- The choices, the words, and the outcomes.
pub mod FirstsNoted
pub mod RulesChosen
pub mod LeadsChosen
pub mod RowsFound
pub mod TableFound
pub mod Outcomes
-- The final statements.
pub mod Main
