mod Allowed
mod Alone
mod Calls
mod Rising
mod Tests
mod Whole
