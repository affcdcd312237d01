pub mod ComingUp
pub mod ComingUpBeside
pub mod BringingUp
pub mod BringingUpBeside
pub mod BringingUpUnderLoad
pub mod Carrying
pub mod CarryingBeside
pub mod WorkedTunnel
