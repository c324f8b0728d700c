-- What stands beside a token: meaning::meaning_of, meaning::tokens_mean.
pub mod Found
