-- What a reader must believe: what words ask for, and what a run comes to.
pub mod Words
pub mod Lines
pub mod Status
pub mod Escape
pub mod Show
pub mod Files
pub mod Outcome
pub mod Process
-- Inner facts: what taking files answers.
pub mod Taking
