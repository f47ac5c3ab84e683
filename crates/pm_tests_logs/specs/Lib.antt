pub mod Edits
pub mod Rounds
pub mod Table
pub mod TableLaws
