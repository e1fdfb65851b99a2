mod Reported
mod Located
