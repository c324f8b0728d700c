mod Few
mod Found
