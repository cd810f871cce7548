-- Laws of whole plans: planning's two answers, the places of its arrays, what cutting may lean on, how the plans of the two purposes compare,
-- that an axis that nobody moves along is never cut, that the layouts that were answered while row 7 was given keep their plans, and where a
-- walk begins.
pub mod Answers
pub mod Places
pub mod Bounds
pub mod Ranks
pub mod Purposes
pub mod Still
pub mod Widened
pub mod Begins
