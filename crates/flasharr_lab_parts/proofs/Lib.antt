mod Bodies
mod Refusals
