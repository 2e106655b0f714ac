-- The judge.
pub mod HeadJudged
pub mod RuleJudged
pub mod TableJudged
pub mod AnswerJudged
pub mod JudgeExact
-- The walk, and the rules by number.
pub mod WalkSteps
pub mod RulePlaces
pub mod WalkInOrder
pub mod RulesByNumber
pub mod PlacesNoted
-- What the layers above read of words.
pub mod RulesInView
pub mod RulesInside
pub mod WordsRead
pub mod ReadingsSame
pub mod ReadingMade
pub mod ReadingBounds
-- The final statements.
pub mod CodeSettles
pub mod Main
