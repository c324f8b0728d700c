-- Which calls cite each file in the proof of their clauses. A file without a call serves the files that are cited.
-- words::Command::form, words::Command::texts, words::values
pub mod Lists
-- put::put_all
pub mod Progress
pub mod SameDue
pub mod OneRequest
pub mod OneFiles
-- words::Command::texts
pub mod FormFacts
pub mod OneShow
-- due::one_due
pub mod OneDue
-- program::run
pub mod Wrote
-- answer::answer_request, answer::answer_words
pub mod DueOfFiles
-- taking::take_all
pub mod Taken
