mod Closed
mod Opening
mod Pieces
mod Spelled
mod Steps
