pub mod WorkedRequests
pub mod WorkedRecords
pub mod WorldRecords
pub mod GoingOut
pub mod WorkedMessages
pub mod WorkedChildren
pub mod WorkedRuns
pub mod WorkedExchanges
