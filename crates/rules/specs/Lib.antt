pub mod Refusals
pub mod Marks
pub mod Marked
pub mod Machine
pub mod Answered
pub mod Sound
pub mod Results
