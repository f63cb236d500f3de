pub mod PropertyJson
