-- The codes of what contracts see of pairs of SAs (RFC 4301 section 4.4.2), which are plain data.
use Rattle.std.specs.Prelude.{◌≡◌, ◌⊎◌, ℕ, List, Bool, true, false, refl}
use Rattle.std.specs.Coded.{Coded, code_by, coded×, coded_ℕ, coded_bool, coded_list, coded⊎}
use Rattle.std.proofs.Common.{inl, inr}
use Rattle.base.specs.declared.address.Range.{Range}
use Rattle.base.specs.declared.address.Range.TheVariants as range
use Rattle.base.specs.declared.selector.Selector.{Selector}
use Rattle.esp.specs.Views.{Receiving, Sending, receiving_code, sending_code}
use Rattle.sadb.specs.declared.pair.Pair.{Pair}
use Rattle.sadb.specs.declared.pair.State.{State}
use Rattle.sadb.specs.declared.pair.State.TheVariants.{Live, Deleting}

abbrev pub ends_of : Range → (ℕ × ℕ) ⊎ (ℕ × ℕ)
ends_of (range.V4 start end) = inl (start, end)
ends_of (range.V6 start end) = inr (start, end)

abbrev pub range_of : (ℕ × ℕ) ⊎ (ℕ × ℕ) → Range
range_of (inl ends) = range.V4 ends.0 ends.1
range_of (inr ends) = range.V6 ends.0 ends.1

pub same_range : (r : Range) → range_of (ends_of r) ≡ r
same_range (range.V4 start end) = refl
same_range (range.V6 start end) = refl

abbrev pub range_code : Coded Range
range_code = code_by ((ℕ × ℕ) ⊎ (ℕ × ℕ)) (coded⊎ (coded× coded_ℕ coded_ℕ) (coded× coded_ℕ coded_ℕ)) ends_of range_of same_range

abbrev pub selector_code : Coded Selector
selector_code =
    code_by
    (ℕ × (ℕ × (ℕ × Range)))
    (coded× coded_ℕ (coded× coded_ℕ (coded× coded_ℕ range_code)))
    (λ s. (s.protocol, (s.start_port, (s.end_port, s.addresses))))
    (λ p. record { protocol = p.0; start_port = p.1.0; end_port = p.1.1.0; addresses = p.1.1.1 })
    (λ _. refl)

abbrev pub is_live : State → Bool
is_live Live = true
is_live Deleting = false

abbrev pub state_of : Bool → State
state_of true = Live
state_of false = Deleting

pub same_state : (s : State) → state_of (is_live s) ≡ s
same_state Live = refl
same_state Deleting = refl

abbrev pub state_code : Coded State
state_code = code_by Bool coded_bool is_live state_of same_state

abbrev pub pair_code : Coded Pair
pair_code =
    code_by
    (ℕ × (ℕ × (Receiving × (Sending × (List Selector × (List Selector × State))))))
    (coded× coded_ℕ (coded× coded_ℕ (coded× receiving_code (coded× sending_code (coded× (coded_list selector_code) (coded× (coded_list selector_code) state_code))))))
    (λ p. (p.serial, (p.ike, (p.inbound, (p.outbound, (p.local, (p.remote, p.state)))))))
    (λ c. record {
      serial = c.0;
      ike = c.1.0;
      inbound = c.1.1.0;
      outbound = c.1.1.1.0;
      local = c.1.1.1.1.0;
      remote = c.1.1.1.1.1.0;
      state = c.1.1.1.1.1.1;
    })
    (λ _. refl)
