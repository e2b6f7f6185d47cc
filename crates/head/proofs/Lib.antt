pub mod Rounds
pub mod RowSound
pub mod Again
pub mod Laid
pub mod Marks
pub mod Clauses
pub mod Edits
