-- What a reader must believe: the rows that a reference text declares.
pub mod MemberRows
pub mod Pairs
pub mod Text
-- Inner facts: members by what they are, and by what an explicit implementation names.
pub mod ByKind
pub mod Keys
