pub mod Batch
pub mod Certificate
pub mod Plan
