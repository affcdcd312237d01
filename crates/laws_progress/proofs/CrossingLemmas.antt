-- One packet at two tables: what one seals goes up at the other, exactly where its number may be accepted.
use Rattle.std.proofs.Common.{◌≡◌, ◌↔◌, ℕ, ◌+◌, ◌%◌, ◌^◌, ◌<◌, ◌≤◌, Bool, true, false, List, [], Some, inl, inr, refl, sym, ap, ◌∙◌, subst, arith}
use Rattle.std.specs.FinSet as set
use Rattle.std.proofs.lemmas.Bool.{cases_Bool}
use Rattle.base.specs.Addresses.{family_of}
use Rattle.base.specs.Octets.{Octets}
use Rattle.replay.specs.Window.{IsSoundWindow, Seen}
use Rattle.esp.specs.Judging.{IsNumber, Judges, low_half}
use Rattle.esp.specs.Packet.{number_limit, IsPacket}
use Rattle.esp.specs.Sealing.{Seals}
use Rattle.esp.specs.declared.sa.Sa.{Sa}
use Rattle.esp.proofs.PacketLemmas.{packet_low_half}
use Rattle.policy.specs.declared.entry.Entry.{Entry}
use Rattle.sadb.specs.Database.{pair_at, Database, IsSoundTable, OpensAt, SealsAt}
use Rattle.sadb.specs.Mirrors.{Mirrors}
use Rattle.sadb.specs.declared.pair.Pair.{Pair}
use Rattle.traffic.specs.Due.{IsDueAtPair}
use Rattle.traffic.specs.NextHeaders.{next_header_of}
use Rattle.traffic.specs.Outcomes.{Outcome, Sealed, Up}
use Rattle.traffic.specs.Receiving.{Receives}
use Rattle.traffic.specs.Sending.{Sends}
use Rattle.laws_progress.specs.Delivering.{MayBeAccepted}

-- what is known of one packet at two tables
abbrev pub HandsUpLaw : Type 0
HandsUpLaw = (near near_new far far_new : Database) (policy : List Entry) (packet octets : Octets) (child number : ℕ) (pair mirror : Pair) (outcome : Outcome)
    → pair_at near.pairs child ≡ Some pair → Sends near policy packet (Sealed child number octets) near_new → Mirrors pair mirror
    → IsSoundTable far → IsDueAtPair far mirror octets number → Receives far octets outcome far_new → outcome ≡ Up mirror.serial number packet

same_pair : (a b : Pair) → Some a ≡ Some b → a ≡ b
same_pair a b is = cc

-- ---- numbers

-- what a sealed packet tells of its number
pub record Numbered (a : Sa) (number : ℕ) (octets : Octets) : Type 0 where
  pub low : low_half octets ≡ number % 2 ^ 32
  pub positive : 1 ≤ number
  pub fits : number < number_limit a.extended

pub number_is : (extended : Bool) (w : Seen) (low n : ℕ) → low ≡ n % 2 ^ 32 → 1 ≤ n → n < number_limit extended → MayBeAccepted extended w n → IsNumber extended w low n
number_is false w low n is positive fits may = (omega (arith, is, fits), positive)
number_is true w low n is positive fits may =
    record { low_half = sym is; from_the_edge = let reach = may.in_reach in omega (arith, reach); one_cycle = may.recovered refl; not_zero = positive; fits = fits }

pub is_recovered : (extended : Bool) (w : Seen) (low n : ℕ) → IsNumber extended w low n → extended ≡ true → n + w.size ≤ w.top + 2 ^ 32
is_recovered false w low n is extends = absurd cc
is_recovered true w low n is extends = is.one_cycle

judged_may : (a : Sa) (w : Seen) (octets : Octets) (n : ℕ) → Judges a w octets n → MayBeAccepted a.extended w n
judged_may a w octets n is = record { new = is.new; in_reach = is.in_reach; recovered = is_recovered a.extended w (low_half octets) n is.number }

not_taken : (w : Seen) (n : ℕ) → IsSoundWindow w → w.top < n → set.contains w.taken n ≡ false
not_taken w n sound above = elim (cases_Bool (set.contains w.taken n)) [
  | inl taken ↦ absurd (let below = sound.up_to_top n taken in omega (arith, below, above))
  | inr free ↦ free
]

-- a number above all that a sound window has taken is not taken, and not below it
pub above_may : (extended : Bool) (w : Seen) (n : ℕ) → IsSoundWindow w → w.top < n → (extended ≡ true → n + w.size ≤ w.top + 2 ^ 32) → MayBeAccepted extended w n
above_may extended w n sound above recovered = record {
  new = not_taken w n sound above;
  in_reach = omega (arith, above);
  recovered = recovered;
}

-- ---- the near end

pub sealed_so : (near near_new : Database) (policy : List Entry) (packet octets : Octets) (child number : ℕ) (pair : Pair)
    → pair_at near.pairs child ≡ Some pair → Sends near policy packet (Sealed child number octets) near_new → Numbered pair.outbound.association number octets
sealed_so near near_new policy packet octets child number pair there sends =
    let next : ℕ = next_header_of (family_of sends.flow.source) in
    let sealed : SealsAt near child next packet [] number near_new octets = sends.protects.sealed in
    let same : sealed.pair ≡ pair = same_pair sealed.pair pair (sym sealed.changed.there ∙ there) in
    let seals : Seals pair.outbound next packet [] number sealed.outbound octets =
    subst (λ (p : Pair). Seals p.outbound next packet [] number sealed.outbound octets) same sealed.sealed in
    let is : IsPacket pair.outbound.association number next packet seals.shortest.p seals.packet = seals.shortest.packet in
    record {
      low = ap low_half seals.appended ∙ packet_low_half pair.outbound.association number next packet seals.shortest.p seals.packet is;
      positive = let at = seals.number in omega (arith, at);
      fits = is.fits;
    }

-- ---- the far end

-- what goes up was judged as its number by the pair
module _ (far far_new : Database) (octets inner : Octets) (number : ℕ) (mirror : Pair) where
  opened_so : pair_at far.pairs mirror.serial ≡ Some mirror → Receives far octets (Up mirror.serial number inner) far_new → MayBeAccepted mirror.inbound.association.extended mirror.inbound.window number
  opened_so held receives =
      let opened : OpensAt far mirror.serial octets number receives.next receives.payload far_new = receives.opened in
      let same : opened.pair ≡ mirror = same_pair opened.pair mirror (sym opened.changed.there ∙ held) in
      let judged : Judges mirror.inbound.association mirror.inbound.window octets number =
      subst (λ (p : Pair). Judges p.inbound.association p.inbound.window octets number) same opened.opened.judged in
      judged_may mirror.inbound.association mirror.inbound.window octets number judged

-- ---- both ends

module _ (law : HandsUpLaw) (near near_new far far_new : Database) (policy : List Entry) (packet octets : Octets) (child number : ℕ) (pair mirror : Pair) (outcome : Outcome)
    (stood : pair_at near.pairs child ≡ Some pair) (sends : Sends near policy packet (Sealed child number octets) near_new) (mirrors : Mirrors pair mirror)
    (sound : IsSoundTable far) (held : pair_at far.pairs mirror.serial ≡ Some mirror) (receives : Receives far octets outcome far_new) where
  numbered : Numbered mirror.inbound.association number octets
  numbered = subst (λ (a : Sa). Numbered a number octets) mirrors.outward (sealed_so near near_new policy packet octets child number pair stood sends)

  due : MayBeAccepted mirror.inbound.association.extended mirror.inbound.window number → IsDueAtPair far mirror octets number
  due may = record {
    found = record {
      there = held;
      its_own = refl;
      only = λ serial has. sound.apart serial mirror.serial mirror.inbound.association.spi has (record { pair = mirror; there = held; its_own = refl });
    };
    number_is = number_is mirror.inbound.association.extended mirror.inbound.window (low_half octets) number numbered.low numbered.positive numbered.fits may;
    in_reach = may.in_reach;
    new = may.new;
  }

  pub crosses : (outcome ≡ Up mirror.serial number packet) ↔ MayBeAccepted mirror.inbound.association.extended mirror.inbound.window number
  crosses = (
    λ is. opened_so far far_new octets packet number mirror held (subst (λ (o : Outcome). Receives far octets o far_new) is receives),
    λ may. law near near_new far far_new policy packet octets child number pair mirror outcome stood sends mirrors sound (due may) receives,
  )
