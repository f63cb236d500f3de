pub mod Names
pub mod Pages
pub mod Coverage
pub mod Walk
