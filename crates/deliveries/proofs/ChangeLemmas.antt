-- Changes of a table that move no window.
use Rattle.std.proofs.Common.{◌≡◌, ◌+◌, ℕ, false, List, Some, arith, refl, sym, ap, ◌∙◌, inl, inr}
use Rattle.std.proofs.lemmas.Bool.Decides.{eqb_tells, leb_tells}
use Rattle.std.specs.FinMap as map
use Rattle.std.specs.FinSet as set
use Rattle.base.specs.Octets.{Octets}
use Rattle.esp.specs.declared.fault.EspFault.TheVariants.{Exhausted}
use Rattle.policy.specs.declared.entry.Entry.{Entry}
use Rattle.sadb.specs.Database.{ChangesAt, Database, Installs, IsAsBefore, IsSoundTable, Marks, Releases, RemovesAllOf, Removes, Reserves, SealsAt, pair_at}
use Rattle.sadb.specs.declared.pair.Pair.{Pair}
use Rattle.sadb.specs.declared.pair.State.TheVariants.{Deleting}
use Rattle.traffic.specs.Outcomes.{Outcome, Up, Dummy, Sealed, Clear, Discarded, Dropped}
use Rattle.traffic.specs.Sending.{IsProtected, Sends}
use Rattle.traffic.specs.declared.fault.PacketFault.{PacketFault}
use Rattle.traffic.specs.declared.fault.PacketFault.TheVariants.{UnknownAssociation, Esp, Inner, OutsideSelectors}
use Rattle.deliveries.specs.Passages.{BringsUnused, LeavesWindows, StoodSo}
use Rattle.deliveries.proofs.TableLemmas.{changed_apart, changed_here, changed_next, inserted_apart, inserted_here, one_held, removed_apart, removed_here}

-- each SA pair stood as it stands, and none came
record Keeps (old new : Database) : Type 0 where
  next : new.next ≡ old.next
  each : (serial : ℕ) (pair : Pair) → pair_at new.pairs serial ≡ Some pair → StoodSo old serial pair

keeping : (old new : Database) → IsSoundTable old → Keeps old new → LeavesWindows old new
keeping old new sound keeps = record {
  next = let same = keeps.next in omega arith;
  old_pairs = λ serial pair below there. keeps.each serial pair there;
  new_pairs = λ serial n pair above there.
      let stood = keeps.each serial pair there in
      let below = (sound.serial_given serial stood.was stood.there).1 in
      absurd (omega arith);
}

stood : (old : Database) (serial : ℕ) (pair : Pair) → pair_at old.pairs serial ≡ Some pair → StoodSo old serial pair
stood old serial pair there = record { was = pair; there = there; inbound = refl; local = refl; remote = refl }

-- the SA pairs are as they were
same_pairs : (old new : Database) → new.next ≡ old.next → new.pairs ≡ old.pairs → Keeps old new
same_pairs old new next pairs = record {
  next = next;
  each = λ serial pair there. stood old serial pair (sym (ap (λ ps. pair_at ps serial) pairs) ∙ there);
}

pub unchanged : (old new : Database) → IsSoundTable old → new ≡ old → LeavesWindows old new
unchanged old new sound is = keeping old new sound (same_pairs old new (ap (λ (d : Database). d.next) is) (ap (λ (d : Database). d.pairs) is))

pub brought : (old new : Database) → IsSoundTable old → BringsUnused old new → LeavesWindows old new
brought old new sound brings = record {
  next = brings.next;
  old_pairs = λ serial pair below there. elim (brings.each serial pair there) [
    | inl same ↦ stood old serial pair same
    | inr comes ↦ (let above = comes.new in absurd (omega arith))
  ];
  new_pairs = λ serial n pair above there. elim (brings.each serial pair there) [
    | inl same ↦ (let below = (sound.serial_given serial pair same).1 in absurd (omega arith))
    | inr comes ↦ comes.unused n
  ];
}

pub prepared : (old new : Database) → IsSoundTable old → IsAsBefore old new → LeavesWindows old new
prepared old new sound is =
    keeping old new sound (same_pairs old new (ap (λ (d : Database). d.next) is.content) (ap (λ (d : Database). d.pairs) is.content))

pub reserved : (old new : Database) (spi : ℕ) → IsSoundTable old → Reserves old spi new → LeavesWindows old new
reserved old new spi sound is =
    keeping old new sound (same_pairs old new (ap (λ (d : Database). d.next) is.content) (ap (λ (d : Database). d.pairs) is.content))

pub released : (old new : Database) (spi : ℕ) → IsSoundTable old → Releases old spi new → LeavesWindows old new
released old new spi sound is =
    keeping old new sound (same_pairs old new (ap (λ (d : Database). d.next) is.content) (ap (λ (d : Database). d.pairs) is.content))

-- one SA pair changed, but neither its inbound SA nor its selectors
kept_by_change : (old : Database) (serial : ℕ) (was is : Pair) (new : Database) → ChangesAt old serial was is new → is.inbound ≡ was.inbound
    → is.local ≡ was.local → is.remote ≡ was.remote → Keeps old new
kept_by_change old serial was is new changed inbound local remote = record {
  next = changed_next old serial was is new changed;
  each = λ other pair there. elim (eqb_tells other serial) [
    | inl (_, same) ↦
        let there_is : pair_at new.pairs serial ≡ Some pair = sym (ap (pair_at new.pairs) same) ∙ there in
        let pair_is : pair ≡ is = one_held pair is (sym there_is ∙ changed_here old serial was is new changed) in
        record {
          was = was;
          there = ap (pair_at old.pairs) same ∙ changed.there;
          inbound = ap (λ (p : Pair). p.inbound) pair_is ∙ inbound;
          local = ap (λ (p : Pair). p.local) pair_is ∙ local;
          remote = ap (λ (p : Pair). p.remote) pair_is ∙ remote;
        }
    | inr (_, apart) ↦ stood old other pair (sym (changed_apart old serial was is new changed other apart) ∙ there)
  ];
}

pub marked : (old new : Database) (serial : ℕ) → IsSoundTable old → Marks old serial new → LeavesWindows old new
marked old new serial sound is =
    keeping old new sound (kept_by_change old serial is.pair (record is.pair { state = Deleting }) new is.changed refl refl refl)

pub sealed : (old new : Database) (serial next : ℕ) (payload before : List ℕ) (number : ℕ) (after : List ℕ)
    → IsSoundTable old → SealsAt old serial next payload before number new after → LeavesWindows old new
sealed old new serial next payload before number after sound is =
    keeping old new sound (kept_by_change old serial is.pair (record is.pair { outbound = is.outbound }) new is.changed refl refl refl)

pub removed : (old new : Database) (serial : ℕ) → IsSoundTable old → Removes old serial new → LeavesWindows old new
removed old new serial sound is = keeping old new sound (record {
  next = ap (λ (d : Database). d.next) is.content;
  each = λ other pair there.
      let there_is : map.get (map.remove old.pairs serial) other ≡ Some pair = sym (ap (λ (d : Database). pair_at d.pairs other) is.content) ∙ there in
      elim (eqb_tells other serial) [
        | inl (_, same) ↦ (let none = removed_here old.pairs serial other same in absurd (cc))
        | inr (_, apart) ↦ stood old other pair (sym (removed_apart old.pairs serial other apart) ∙ there_is)
      ];
})

pub emptied : (old new : Database) (ike : ℕ) → IsSoundTable old → RemovesAllOf old ike new → LeavesWindows old new
emptied old new ike sound is = keeping old new sound (record {
  next = ap (λ (d : Database). d.next) is.content;
  each = λ serial pair there. stood old serial pair ((is.kept serial pair).0 there).0;
})

pub installed : (old new : Database) (spi : ℕ) (pair : Pair) (serial : ℕ) → IsSoundTable old
    → ((n : ℕ) → set.contains pair.inbound.window.taken n ≡ false) → Installs old spi pair serial new → LeavesWindows old new
installed old new spi pair serial sound none is =
    let comes : Pair = record pair { serial = serial } in
    let next : new.next ≡ old.next + 1 = ap (λ (d : Database). d.next) is.content in
    let order = is.in_order in
    let there_is : (other : ℕ) → pair_at new.pairs other ≡ map.get (map.insert old.pairs serial comes) other =
    λ other. ap (λ (d : Database). pair_at d.pairs other) is.content in
    record {
      next = omega arith;
      old_pairs = λ other p below there.
          stood old other p (sym (inserted_apart old.pairs serial other comes (λ same. omega arith)) ∙ sym (there_is other) ∙ there);
      new_pairs = λ other n p above there. elim (eqb_tells other serial) [
        | inl (_, same) ↦
            let p_is : p ≡ comes = one_held p comes (sym there ∙ there_is other ∙ inserted_here old.pairs serial other comes same) in
            ap (λ (q : Pair). set.contains q.inbound.window.taken n) p_is ∙ none n
        | inr (_, apart) ↦
            let there_before : pair_at old.pairs other ≡ Some p = sym (inserted_apart old.pairs serial other comes apart) ∙ sym (there_is other) ∙ there in
            let below = (sound.serial_given other p there_before).1 in
            absurd (omega arith)
      ];
    }

-- one change after another
pub joined : (a b c : Database) → LeavesWindows a b → LeavesWindows b c → LeavesWindows a c
joined a b c first second = record {
  next = let one = first.next in let two = second.next in omega arith;
  old_pairs = λ serial pair below there.
      let one = first.next in
      let mid = second.old_pairs serial pair (omega arith) there in
      let start = first.old_pairs serial mid.was below mid.there in
      record {
        was = start.was;
        there = start.there;
        inbound = mid.inbound ∙ start.inbound;
        local = mid.local ∙ start.local;
        remote = mid.remote ∙ start.remote;
      };
  new_pairs = λ serial n pair above there. elim (leb_tells b.next serial) [
    | inl (_, new) ↦ second.new_pairs serial n pair new there
    | inr (_, old) ↦
        let mid = second.old_pairs serial pair old there in
        ap (λ r. set.contains r.window.taken n) mid.inbound ∙ first.new_pairs serial n mid.was above mid.there
  ];
}

protected : (old new : Database) (policy : List Entry) (packet : Octets) (fault : PacketFault) → IsSoundTable old
    → IsProtected old policy packet (Dropped fault) new → LeavesWindows old new
protected old new policy packet UnknownAssociation sound is = unchanged old new sound is.protects.1
protected old new policy packet (Esp Exhausted) sound is = unchanged old new sound is.protects.1
protected old new policy packet (Esp fault) sound is = absurd is.protects
protected old new policy packet (Inner fault) sound is = absurd is.protects
protected old new policy packet OutsideSelectors sound is = absurd is.protects

pub sent : (old new : Database) (policy : List Entry) (packet : Octets) (outcome : Outcome) → IsSoundTable old
    → Sends old policy packet outcome new → LeavesWindows old new
sent old new policy packet (Sealed child number octets) sound is = sealed old new child _ packet _ number octets sound is.protects.sealed
sent old new policy packet (Clear octets) sound is = unchanged old new sound is.2
sent old new policy packet Discarded sound is = unchanged old new sound is.1
sent old new policy packet (Dropped (Inner fault)) sound is = unchanged old new sound is.1
sent old new policy packet (Dropped UnknownAssociation) sound is = protected old new policy packet UnknownAssociation sound is
sent old new policy packet (Dropped (Esp fault)) sound is = protected old new policy packet (Esp fault) sound is
sent old new policy packet (Dropped OutsideSelectors) sound is = protected old new policy packet OutsideSelectors sound is
sent old new policy packet (Up child number inner) sound is = absurd is
sent old new policy packet (Dummy child number) sound is = absurd is
