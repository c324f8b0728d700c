-- Which calls cite each file in the proof of their clauses.
-- places::advanced, cuts::cut, cursor::Cursor::passed
pub mod Advances
-- cursor::Cursor::left, cursor::Cursor::peek, cursor::Cursor::passed, cursor::Cursor::advance, cuts::counted, cuts::cut
pub mod Cursors
-- whole::one_answer
pub mod OneAnswer
