mod FlightLemmas
pub mod HistoryLemmas
