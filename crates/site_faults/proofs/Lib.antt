mod Openings
mod Tellings
