-- Which calls cite each file in the proof of their clauses. A file without a call serves the files that are cited.
pub mod Follow
pub mod ExactTokens
pub mod ExactTypes
pub mod ExactCalls
pub mod ExactPrimaries
pub mod ExactOperators
pub mod ExactLevels
pub mod Heights
pub mod Deepening
pub mod DeeperTypes
pub mod Growing
pub mod DeeperCalls
pub mod DeeperPrimaries
pub mod DeeperOperators
pub mod DeeperLevels
pub mod OneAnswers
