pub mod Ranking
pub mod Search
pub mod ScriptPlaceSearch
pub mod Index
pub mod Noting
