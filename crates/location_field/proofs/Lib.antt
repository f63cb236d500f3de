pub mod LocationLemmas
