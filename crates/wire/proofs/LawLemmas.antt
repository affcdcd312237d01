-- What the public laws say: what is spelled, and what is at fault, is determined.
use Rattle.std.proofs.Common.{◌≡◌, ℕ, ◌+◌, ◌-◌, false, List, length, Ok, Err, sym, ap, subst, ◌∙◌, arith}
use Rattle.std.proofs.lemmas.List.{length-append}
use Rattle.base.specs.Octets.{IsOctet, AreOctets}
use Rattle.wire.specs.Messages.{Spells}
use Rattle.wire.specs.Payloads.{SpellsChain}
use Rattle.wire.specs.Refusals.{IsFaultAt, IsFaultOf, IsChainFault, IsEncodingFaultOf}
use Rattle.wire.specs.Sizes.{FitsHeaderFields}
use Rattle.wire.specs.Reading.{chain_at}
use Rattle.wire.specs.declared.message.Message.{Message}
use Rattle.wire.specs.declared.payload.Payload.{Payload}
use Rattle.wire.specs.declared.fault.WireFault.{WireFault}
use Rattle.wire.proofs.Links.{ok_is, err_is}
use Rattle.wire.proofs.ChainReading.{chain_again, fault_again}
use Rattle.wire.proofs.MessageReading.{message_again, fault_message}
use Rattle.wire.proofs.Encoding.{fault_encoded}

pub one_message : (m n : Message) (b : List ℕ) → Spells m b → Spells n b → m ≡ n
one_message m n b s t = ok_is m n (sym (message_again m b s) ∙ message_again n b t)

pub one_chain : (first : ℕ) (ps qs : List Payload) (b : List ℕ) → SpellsChain first ps b → SpellsChain first qs b → ps ≡ qs
one_chain first ps qs b s t = ok_is ps qs (sym (read ps s) ∙ read qs t) where
  read : (rs : List Payload) → SpellsChain first rs b → chain_at false (length b) (length b) first b ≡ Ok rs
  read rs s = chain_again false (length b) (length b) first rs b (omega arith) s.clear s.payloads

pub one_fault : (b : List ℕ) (f g : WireFault) → AreOctets b → IsFaultOf b f → IsFaultOf b g → f ≡ g
one_fault b f g fits h i = err_is {A = Message} f g (sym (fault_message b f fits h) ∙ fault_message b g fits i)

pub one_chain_fault : (first : ℕ) (b : List ℕ) (f g : WireFault) → IsOctet first → AreOctets b → IsChainFault false 0 first b f → IsChainFault false 0 first b g → f ≡ g
one_chain_fault first b f g small fits h i = err_is {A = List Payload} f g (sym (read f h) ∙ read g i) where
  read : (e : WireFault) → IsChainFault false 0 first b e → chain_at false (length b) (length b) first b ≡ Err e
  read e c =
      let at : 0 + length c.front ≡ length b - length c.rest = omega (arith, ap length c.joined, length-append c.front c.rest) in
      fault_again false (length b) (length b) first c.payloads c.kind c.front c.rest b e (omega arith) small fits c.joined c.leads (subst (λ (n : ℕ). IsFaultAt false c.kind c.rest n e) at c.here)

pub one_encoding_fault : (m : Message) (f g : WireFault) → FitsHeaderFields m.header → IsEncodingFaultOf m f → IsEncodingFaultOf m g → f ≡ g
one_encoding_fault m f g fits h i =
    err_is {A = List ℕ} f g (sym (fault_encoded m f (λ low. record { spi_i = fits.spi_i; spi_r = fits.spi_r; id = fits.id }) h) ∙ fault_encoded m g (λ low. record { spi_i = fits.spi_i; spi_r = fits.spi_r; id = fits.id }) i)
