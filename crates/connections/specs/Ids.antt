-- The numbers of what a front has many of.
pub use Rattle.cache_ids.specs.Ids.{FlightId, FlushId}
pub use Rattle.connection_ids.specs.Ids.{ConnectionId}
