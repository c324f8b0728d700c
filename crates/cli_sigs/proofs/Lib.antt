-- Inner proofs.
mod Placed
mod Order
mod One
