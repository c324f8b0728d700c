-- index: numbers, MemberIndex::of, before_key, upto_key, MemberIndex::of_name
pub mod Order
