-- For whom a half-open IKE SA is made while there are many (RFC 7296 section 2.6).
use Rattle.std.specs.Prelude.{◌≡◌, Some}
use Rattle.base.specs.Octets.{Octets}
use Rattle.wire.specs.Messages.{Spells}
use Rattle.wire.specs.declared.message.Message.{Message}
use Rattle.exchange.specs.Counting.{only_nonce}
use Rattle.sa_init.specs.Cookies.{CookieSecrets}
use Rattle.sa_init.specs.Judging.{BringsRightCookie}
use Rattle.ike.specs.Receiving.{sender_of}

-- the datagram from this address is a message whose first payload is a right cookie for its sender and its
-- only nonce
pub record WasReached (cookies : CookieSecrets) (from octets : Octets) : Type 0 where
  pub message : Message
  pub spelled : Spells message octets
  pub nonce : Octets
  pub nonce_is : only_nonce message.payloads ≡ Some nonce
  pub cookie : BringsRightCookie cookies (sender_of from message.header) message.payloads nonce
