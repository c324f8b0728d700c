-- Which interfaces types name, by one more row.
pub mod Named
