-- One request of this end is given up, with the SPI of the Child SA that it asked for.
use Rattle.std.specs.Prelude.{ℕ}
use Rattle.requests.specs.Outgoing.{OwnRequests, WithdrawsRequest}
use Rattle.sadb.specs.Database.{Database}
use Rattle.association.specs.Closing.{GivesUpSpi}
use Rattle.association.specs.Purposes.{spi_asked}
use Rattle.association.specs.declared.phase.Request.{Request}

pub record GivesUpRequest (old : OwnRequests Request) (old_table : Database) (number : ℕ) (new : OwnRequests Request) (new_table : Database) : Type 0 where
  pub request : Request
  pub withdrawn : WithdrawsRequest old number request new
  pub released : GivesUpSpi (spi_asked request.purpose) old_table new_table
