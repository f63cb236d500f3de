pub mod PageFiles
pub mod StoppedChanges
pub mod HeldLemmas
pub mod NextEpochs
