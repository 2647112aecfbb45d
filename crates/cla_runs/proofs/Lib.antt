pub mod RunsMade
pub mod RunsGiven
pub mod KeyedLists
pub mod WalkSteps
pub mod CountedRuns
