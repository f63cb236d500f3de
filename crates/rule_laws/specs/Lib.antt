pub mod FarmTable
pub mod Alike
pub mod Touched
pub mod Numbers
pub mod FarmFaults
