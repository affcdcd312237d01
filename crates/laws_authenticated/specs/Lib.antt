pub mod WorkedDeletions
pub mod WorkedStrangers
pub mod WorkedClosings
pub mod WorkedPartners
pub mod WorkedBeside
