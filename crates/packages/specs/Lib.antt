pub mod Cuts
pub mod Entries
pub mod Items
pub mod Views
pub mod Numbers
pub mod Answers
pub mod Values
pub mod Found
