mod Asked
mod Awaited
mod Begun
mod Orders
mod Settled
mod Thin
mod Windows
