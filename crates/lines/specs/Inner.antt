-- What only the proofs and the contracts inside the crate need.
pub mod Puts
pub mod Letters
