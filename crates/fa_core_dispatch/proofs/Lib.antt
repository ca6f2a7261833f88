mod Dropped
mod Fitting
mod Flights
mod Masks
mod Others
mod Steps
