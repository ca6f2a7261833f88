mod Dies
mod Held
mod Holds
mod Opened
mod Rebuilds
