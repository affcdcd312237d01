pub mod WorkedRequestLemmas
pub mod OctetLemmas
pub mod InitLemmas
pub mod SealedLemmas
pub mod AuthLemmas
pub mod CallerLemmas
pub mod RequestLemmas
pub mod AcceptLemmas
pub mod WorkedRecordLemmas
mod WorldRecordLemmas
mod GoingOutLemmas
pub mod MessageLemmas
pub mod FlowLemmas
pub mod TableLemmas
pub mod CarriedLemmas
pub mod StateLemmas
pub mod MapLemmas
pub mod TakenLemmas
pub mod InformationalLemmas
pub mod ArrivalLemmas
pub mod SenderLemmas
pub mod Stages
pub mod SoundnessLemmas
pub mod NewEndLemmas
pub mod BeginningLemmas
pub mod KeyedLemmas
pub mod ResponseLemmas
pub mod AcceptingLemmas
pub mod ConcludingLemmas
pub mod HeldLemmas
pub mod AskingLemmas
pub mod LastLemmas
pub mod WorkedRunLemmas
mod WorkedExchangeLemmas
