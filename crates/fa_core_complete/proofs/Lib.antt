mod Answered
mod Ended
mod Moved
mod Tracked
