mod Copied
mod Dies
mod Passed
mod Placed
mod Settled
mod Windowed
