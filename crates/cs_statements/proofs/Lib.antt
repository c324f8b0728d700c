-- Which calls cite each file in the proof of their clauses. A file without a call serves the files that are cited.
pub mod ExactActions
pub mod ExactStatements
pub mod DeeperActions
pub mod DeeperStatements
pub mod OneBlock
