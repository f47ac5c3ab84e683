pub mod OneWorker
pub mod OpenEngines
