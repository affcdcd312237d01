mod StoringLemmas
mod PacketLemmas
mod LawLemmas
mod RunLemmas
mod GroupLemmas
mod LayingLemmas
pub mod RowLemmas
mod QuietLemmas
pub mod WorldLemmas
mod WorldHistoryLemmas
mod FittingLemmas
mod DeterminedSteps
pub mod ToldLemmas
pub mod HistoryLemmas
mod ConfiguredLemmas
mod StayingLemmas
mod ReplyLemmas
mod RequestLemmas
mod MomentLemmas
mod AuthenticationLemmas
mod DeliveryLemmas
mod LentLemmas
mod PromiseLemmas
pub mod PartyLemmas
pub mod MoveLemmas
pub mod TurnLemmas
pub mod SoundWorldLemmas
mod FlowLemmas
pub mod ChildLemmas
mod MirrorLemmas
mod PairLemmas
mod CarryLemmas
mod WindowWorldLemmas
mod NextLemmas
pub mod EndingLemmas
pub mod TellingLemmas
pub mod TickLemmas
pub mod StandingLemmas
pub mod StoodLemmas
pub mod CarryingLemmas
pub mod StrangerLemmas
pub mod KeylessLemmas
pub mod InsideLemmas
pub mod InsideRunLemmas
pub mod ClosingLemmas
mod KnownLemmas
mod GivingLemmas
mod SpiLemmas
mod FrontLemmas
mod OriginLemmas
pub mod LeavingLemmas
pub mod EffectLemmas
mod AlikeLemmas
pub mod BeforeLemmas
pub mod AlongLemmas
pub mod ExchangeLemmas
pub mod RenamedLaws
pub mod PairRenaming
mod TableRenaming
mod ChildRenaming
mod FirstRenaming
mod FurtherRenaming
mod InformationalRenaming
mod MessageRenaming
mod RenamedAll
mod RenamingLemmas
mod PacketRenaming
mod HeldRenaming
mod ReceivingRenaming
mod OrderRenaming
mod TickRenaming
mod MachineRenaming
mod StepRenaming
mod ListRemoval
mod TickRemoval
mod DatagramRemoval
mod CommandRemoval
mod Removal
mod BesideLists
mod BesideLemmas
pub mod BegunLemmas
mod BesideRuns
mod Nonces
mod PartnerLemmas
mod DrawnLemmas
mod UniqueLemmas
