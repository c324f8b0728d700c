-- Which calls cite each file in the proof of their clauses. A file without a call serves the files that are cited.
-- fronts, gaps, numbers, signs, words, quotes, pieces
pub mod Parts
-- numbers::number
pub mod Digits
-- quotes
pub mod Texts
-- words::split_word
pub mod SoFar
-- tokens::one_cut
pub mod OneCut
-- pieces::first_piece
pub mod Heads
