mod Abandoned
mod Holding
mod Kept
mod Live
mod Placed
mod Queued
