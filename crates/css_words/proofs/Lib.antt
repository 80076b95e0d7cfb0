mod Parsing
mod Relays
mod Named
mod Walks
mod Refusals
mod Told
