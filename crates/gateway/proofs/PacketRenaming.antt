-- A packet is treated alike, whatever the serials of the IKE SAs of the SA pairs.
use Rattle.std.proofs.Common.{◌≡◌, inl, inr, ℕ, List, [], Option, Some, None, refl, sym, ap, subst, ◌∙◌}
use Rattle.std.specs.Option.{option_map}
use Rattle.base.specs.Addresses.{family_of}
use Rattle.base.specs.Octets.{Octets}
use Rattle.esp.specs.declared.fault.EspFault.{EspFault}
use Rattle.esp.specs.declared.fault.EspFault.TheVariants.{BadLength, Exhausted}
use Rattle.policy.specs.Decisions.{Covers}
use Rattle.policy.specs.declared.entry.Entry.{Entry}
use Rattle.policy.specs.declared.flow.Flow.{Flow}
use Rattle.sadb.specs.Database.{pair_at, Carries, ChangesAt, Database, HasInbound, IsInbound, IsOutbound, Marks, OpensAt, PairMap, RefusesAt, SealRefusalAt, SealsAt}
use Rattle.sadb.specs.declared.pair.Pair.{Pair}
use Rattle.sadb.specs.declared.pair.State.TheVariants.{Deleting}
use Rattle.traffic.specs.NextHeaders.{next_header_of}
use Rattle.traffic.specs.Outcomes.{Outcome, Up, Dummy, Sealed, Clear, Discarded, Dropped}
use Rattle.traffic.specs.Receiving.{spi_of, IsAddressedTo, IsAddressedToNone, IsNotOpened, IsOpened, IsUnopened, Receives}
use Rattle.traffic.specs.Sending.{IsProtected, IsToBeSealed, Protects, Sends}
use Rattle.traffic.specs.Verdicts.{Verdict, Packet, Nothing, Refused}
use Rattle.traffic.specs.declared.fault.PacketFault.{PacketFault}
use Rattle.traffic.specs.declared.fault.PacketFault.TheVariants.{UnknownAssociation, Esp, Inner, OutsideSelectors}
use Rattle.gateway.specs.Outputs.{OutputView}
use Rattle.gateway.specs.Steps.{ReceivesPacket, SendsPacket}
use Rattle.gateway.specs.Renaming.{renamed_pair, renamed_pairs, renamed_table}
use Rattle.gateway.proofs.RenamedLaws.{RenamedLaws}

-- what is found under another name was there under its own
pub record WasIn (r : ℕ → ℕ) (found : Option Pair) (named : Pair) : Type 0 where
  pub pair : Pair
  pub there : found ≡ Some pair
  pub is : named ≡ renamed_pair r pair

was_in : (r : ℕ → ℕ) (found : Option Pair) (named : Pair) → option_map (renamed_pair r) found ≡ Some named → WasIn r found named
was_in r None named same = absurd (cc)
was_in r (Some pair) named same = record { pair = pair; there = refl; is = cc }

module _ (r : ℕ → ℕ) (laws : RenamedLaws r) where
  -- ---- single pairs

  pub renamed_there : (pairs : PairMap) (serial : ℕ) (pair : Pair) → pair_at pairs serial ≡ Some pair → pair_at (renamed_pairs r pairs) serial ≡ Some (renamed_pair r pair)
  renamed_there pairs serial pair there = laws.pairs.at pairs serial ∙ ap (option_map (renamed_pair r)) there

  pub was_there : (pairs : PairMap) (serial : ℕ) (named : Pair) → pair_at (renamed_pairs r pairs) serial ≡ Some named → WasIn r (pair_at pairs serial) named
  was_there pairs serial named there = was_in r (pair_at pairs serial) named (sym (laws.pairs.at pairs serial) ∙ there)

  had_inbound : (pairs : PairMap) (spi serial : ℕ) → HasInbound (renamed_pairs r pairs) spi serial → HasInbound pairs spi serial
  had_inbound pairs spi serial has =
      let was = was_there pairs serial has.pair has.there in
      record { pair = was.pair; there = was.there; its_own = sym (ap (λ (p : Pair). p.inbound.association.spi) was.is) ∙ has.its_own }

  renamed_inbound : (pairs : PairMap) (spi : ℕ) (pair : Pair) → IsInbound pairs spi pair → IsInbound (renamed_pairs r pairs) spi (renamed_pair r pair)
  renamed_inbound pairs spi pair is = record {
    there = renamed_there pairs pair.serial pair is.there;
    its_own = is.its_own;
    only = λ serial has. is.only serial (had_inbound pairs spi serial has);
  }

  renamed_carries : (pairs : PairMap) (flow : Flow) (serial : ℕ) → Carries pairs flow serial → Carries (renamed_pairs r pairs) flow serial
  renamed_carries pairs flow serial is = record { pair = renamed_pair r is.pair; there = renamed_there pairs serial is.pair is.there; live = is.live; covered = is.covered }

  carried : (pairs : PairMap) (flow : Flow) (serial : ℕ) → Carries (renamed_pairs r pairs) flow serial → Carries pairs flow serial
  carried pairs flow serial is =
      let was = was_there pairs serial is.pair is.there in
      record {
        pair = was.pair;
        there = was.there;
        live = sym (ap (λ (p : Pair). p.state) was.is) ∙ is.live;
        covered = subst (λ (p : Pair). Covers p.local p.remote flow) was.is is.covered;
      }

  renamed_outbound : (pairs : PairMap) (flow : Flow) (serial : ℕ) → IsOutbound pairs flow serial → IsOutbound (renamed_pairs r pairs) flow serial
  renamed_outbound pairs flow serial is = record {
    carries = renamed_carries pairs flow serial is.carries;
    greatest = λ other above carries. is.greatest other above (carried pairs flow other carries);
  }

  -- ---- one pair changes

  pub renamed_change : (old : Database) (serial : ℕ) (was is : Pair) (new : Database) → ChangesAt old serial was is new
      → ChangesAt (renamed_table r old) serial (renamed_pair r was) (renamed_pair r is) (renamed_table r new)
  renamed_change old serial was is new changes = record {
    there = renamed_there old.pairs serial was changes.there;
    content = ap (renamed_table r) changes.content ∙ ap (λ (p : PairMap). record (renamed_table r old) { pairs = p }) (laws.pairs.insert old.pairs serial is);
  }

  pub renamed_marks : (old : Database) (serial : ℕ) (new : Database) → Marks old serial new → Marks (renamed_table r old) serial (renamed_table r new)
  renamed_marks old serial new is = record {
    pair = renamed_pair r is.pair;
    changed = renamed_change old serial is.pair (record is.pair { state = Deleting }) new is.changed;
  }

  renamed_opens : (old : Database) (serial : ℕ) (packet : Octets) (number next : ℕ) (payload : Octets) (new : Database) → OpensAt old serial packet number next payload new
      → OpensAt (renamed_table r old) serial packet number next payload (renamed_table r new)
  renamed_opens old serial packet number next payload new is = record {
    pair = renamed_pair r is.pair;
    inbound = is.inbound;
    opened = is.opened;
    changed = renamed_change old serial is.pair (record is.pair { inbound = is.inbound }) new is.changed;
  }

  renamed_refuses : (old : Database) (serial : ℕ) (packet : Octets) (fault : EspFault) (new : Database) → RefusesAt old serial packet fault new
      → RefusesAt (renamed_table r old) serial packet fault (renamed_table r new)
  renamed_refuses old serial packet fault new is = record {
    pair = renamed_pair r is.pair;
    inbound = is.inbound;
    refused = is.refused;
    changed = renamed_change old serial is.pair (record is.pair { inbound = is.inbound }) new is.changed;
  }

  renamed_seals : (old : Database) (serial next : ℕ) (payload before : Octets) (number : ℕ) (new : Database) (after : Octets) → SealsAt old serial next payload before number new after
      → SealsAt (renamed_table r old) serial next payload before number (renamed_table r new) after
  renamed_seals old serial next payload before number new after is = record {
    pair = renamed_pair r is.pair;
    outbound = is.outbound;
    sealed = is.sealed;
    changed = renamed_change old serial is.pair (record is.pair { outbound = is.outbound }) new is.changed;
  }

  renamed_refusal : (pairs : PairMap) (serial : ℕ) (payload : Octets) (fault : EspFault) → SealRefusalAt pairs serial payload fault → SealRefusalAt (renamed_pairs r pairs) serial payload fault
  renamed_refusal pairs serial payload fault is = record { pair = renamed_pair r is.pair; there = renamed_there pairs serial is.pair is.there; refused = is.refused }

  -- ---- a packet that came

  renamed_addressed : (table : Database) (packet : Octets) (pair : Pair) → IsAddressedTo table packet pair → IsAddressedTo (renamed_table r table) packet (renamed_pair r pair)
  renamed_addressed table packet pair is = record { has_spi = is.has_spi; inbound = renamed_inbound table.pairs (spi_of packet) pair is.inbound }

  renamed_to_none : (table : Database) (packet : Octets) (fault : PacketFault) → IsAddressedToNone table packet fault → IsAddressedToNone (renamed_table r table) packet fault
  renamed_to_none table packet (Esp BadLength) is = is
  renamed_to_none table packet (Esp fault) is = absurd is
  renamed_to_none table packet UnknownAssociation is = (is.0, λ serial has. is.1 serial (had_inbound table.pairs (spi_of packet) serial has))
  renamed_to_none table packet (Inner fault) is = absurd is
  renamed_to_none table packet OutsideSelectors is = absurd is

  renamed_not_opened : (old : Database) (packet : Octets) (fault : EspFault) (new : Database) → IsNotOpened old packet fault new → IsNotOpened (renamed_table r old) packet fault (renamed_table r new)
  renamed_not_opened old packet fault new is = record {
    pair = renamed_pair r is.pair;
    addressed = renamed_addressed old packet is.pair is.addressed;
    refused = renamed_refuses old is.pair.serial packet fault new is.refused;
    unchanged = λ other. ap (renamed_table r) (is.unchanged other);
  }

  renamed_opened : (old : Database) (packet : Octets) (child number : ℕ) (verdict : Verdict) (new : Database) → IsOpened old packet child number verdict new
      → IsOpened (renamed_table r old) packet child number verdict (renamed_table r new)
  renamed_opened old packet child number verdict new is = record {
    pair = renamed_pair r is.pair;
    addressed = renamed_addressed old packet is.pair is.addressed;
    child_is = is.child_is;
    next = is.next;
    payload = is.payload;
    opened = renamed_opens old child packet number is.next is.payload new is.opened;
    verdict_is = is.verdict_is;
  }

  renamed_unopened : (old : Database) (packet : Octets) (fault : PacketFault) (new : Database) → IsUnopened old packet fault new → IsUnopened (renamed_table r old) packet fault (renamed_table r new)
  renamed_unopened old packet (Esp fault) new is = renamed_not_opened old packet fault new is
  renamed_unopened old packet (Inner fault) new is = absurd is
  renamed_unopened old packet UnknownAssociation new is = absurd is
  renamed_unopened old packet OutsideSelectors new is = absurd is

  renamed_drops : (old : Database) (packet : Octets) (fault : PacketFault) (new : Database) → Receives old packet (Dropped fault) new → Receives (renamed_table r old) packet (Dropped fault) (renamed_table r new)
  renamed_drops old packet fault new (inl none) = inl (renamed_to_none old packet fault none.0, ap (renamed_table r) none.1)
  renamed_drops old packet fault new (inr (inl unopened)) = inr (inl (renamed_unopened old packet fault new unopened))
  renamed_drops old packet fault new (inr (inr rejected)) =
      inr (inr (record { child = rejected.child; number = rejected.number; opened = renamed_opened old packet rejected.child rejected.number (Refused fault) new rejected.opened }))

  pub renamed_receives : (old : Database) (packet : Octets) (outcome : Outcome) (new : Database) → Receives old packet outcome new → Receives (renamed_table r old) packet outcome (renamed_table r new)
  renamed_receives old packet (Up child number inner) new is = renamed_opened old packet child number (Packet inner) new is
  renamed_receives old packet (Dummy child number) new is = renamed_opened old packet child number Nothing new is
  renamed_receives old packet (Dropped fault) new is = renamed_drops old packet fault new is
  renamed_receives old packet (Sealed child number octets) new is = absurd is
  renamed_receives old packet (Clear octets) new is = absurd is
  renamed_receives old packet Discarded new is = absurd is

  pub renamed_receiving : (old : Database) (packet : Octets) (said : OutputView) (new : Database) → ReceivesPacket old packet said new → ReceivesPacket (renamed_table r old) packet said (renamed_table r new)
  renamed_receiving old packet said new is = record { outcome = is.outcome; receives = renamed_receives old packet is.outcome new is.receives; output = is.output }

  -- ---- a packet on its way out

  renamed_protects : (old : Database) (flow : Flow) (packet : Octets) (outcome : Outcome) (new : Database) → Protects old flow packet outcome new → Protects (renamed_table r old) flow packet outcome (renamed_table r new)
  renamed_protects old flow packet (Sealed child number octets) new is = record {
    carrier = renamed_outbound old.pairs flow child is.carrier;
    sealed = renamed_seals old child (next_header_of (family_of flow.source)) packet [] number new octets is.sealed;
  }
  renamed_protects old flow packet (Dropped UnknownAssociation) new is = (λ serial carries. is.0 serial (carried old.pairs flow serial carries), ap (renamed_table r) is.1)
  renamed_protects old flow packet (Dropped (Esp Exhausted)) new is = (
    record { child = is.0.child; carrier = renamed_outbound old.pairs flow is.0.child is.0.carrier; refused = renamed_refusal old.pairs is.0.child packet Exhausted is.0.refused },
    ap (renamed_table r) is.1,
  )
  renamed_protects old flow packet (Dropped (Esp fault)) new is = absurd is
  renamed_protects old flow packet (Dropped (Inner fault)) new is = absurd is
  renamed_protects old flow packet (Dropped OutsideSelectors) new is = absurd is
  renamed_protects old flow packet (Clear octets) new is = absurd is
  renamed_protects old flow packet Discarded new is = absurd is
  renamed_protects old flow packet (Up child number inner) new is = absurd is
  renamed_protects old flow packet (Dummy child number) new is = absurd is

  renamed_protected : (old : Database) (policy : List Entry) (packet : Octets) (outcome : Outcome) (new : Database) → IsProtected old policy packet outcome new
      → IsProtected (renamed_table r old) policy packet outcome (renamed_table r new)
  renamed_protected old policy packet outcome new is = record { flow = is.flow; decided = is.decided; protects = renamed_protects old is.flow packet outcome new is.protects }

  pub renamed_sends : (old : Database) (policy : List Entry) (packet : Octets) (outcome : Outcome) (new : Database) → Sends old policy packet outcome new → Sends (renamed_table r old) policy packet outcome (renamed_table r new)
  renamed_sends old policy packet (Sealed child number octets) new is = renamed_protected old policy packet (Sealed child number octets) new is
  renamed_sends old policy packet (Clear octets) new is = (is.0, is.1, ap (renamed_table r) is.2)
  renamed_sends old policy packet Discarded new is = (is.0, ap (renamed_table r) is.1)
  renamed_sends old policy packet (Dropped (Inner fault)) new is = (is.0, ap (renamed_table r) is.1)
  renamed_sends old policy packet (Dropped UnknownAssociation) new is = renamed_protected old policy packet (Dropped UnknownAssociation) new is
  renamed_sends old policy packet (Dropped (Esp fault)) new is = renamed_protected old policy packet (Dropped (Esp fault)) new is
  renamed_sends old policy packet (Dropped OutsideSelectors) new is = renamed_protected old policy packet (Dropped OutsideSelectors) new is
  renamed_sends old policy packet (Up child number inner) new is = absurd is
  renamed_sends old policy packet (Dummy child number) new is = absurd is

  renamed_sealable : (table : Database) (policy : List Entry) (packet : Octets) → IsToBeSealed table policy packet → IsToBeSealed (renamed_table r table) policy packet
  renamed_sealable table policy packet is =
      let child : ℕ = is.carrier.child in
      let number = is.carrier.number in
      record {
        flow = is.flow;
        decided = is.decided;
        carrier = record {
          child = child;
          carrier = renamed_outbound table.pairs is.flow child is.carrier.carrier;
          number = record { pair = renamed_pair r number.pair; there = renamed_there table.pairs child number.pair number.there; has_number = number.has_number };
        };
      }

  pub renamed_sending : (entries : List Entry) (old : Database) (packet : Octets) (said : OutputView) (new : Database) → SendsPacket entries old packet said new
      → SendsPacket entries (renamed_table r old) packet said (renamed_table r new)
  renamed_sending entries old packet said new (inl is) = inl (record { outcome = is.outcome; sends = renamed_sends old entries packet is.outcome new is.sends; output = is.output })
  renamed_sending entries old packet said new (inr is) = inr (record { sealable = renamed_sealable old entries packet is.sealable; output = is.output; unchanged = ap (renamed_table r) is.unchanged })
