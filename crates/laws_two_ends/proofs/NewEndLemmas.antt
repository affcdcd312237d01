-- The two new ends are rightly set up and sound, and what is fresh at their steps can be sealed with.
use Rattle.std.proofs.Common.{◌≡◌, ◌+◌, ◌||◌, ◌<◌, ◌≤◌, inl, inr, ℕ, zero, suc, Bool, true, false, cond, [], Some, None, ap, arith, refl, subst, sym, ◌∙◌}
use Rattle.std.specs.FinMap as map
use Rattle.std.specs.FinSet as set
use Rattle.std.specs.Ordering.{nat_cmp}
use Rattle.std.specs.Cmp.{nat_cmp_total}
use Rattle.std.specs.Prelude.{replicate, slice_get}
use Rattle.std.proofs.lemmas.Bool.{ne_eqb}
use Rattle.std.proofs.lemmas.Bool.Decides.{eqb_tells}
use Rattle.esp.proofs.NumberLemmas.{contains-insert_nat}
use Rattle.suite.specs.declared.key_record.KeyRecord.{KeyRecord}
use Rattle.suite.specs.declared.keys.Keys.{Keys}
use Rattle.base.specs.Octets.{AreOctets, Octets}
use Rattle.policy.specs.Entries.{IsSoundEntry, IsSoundPolicy}
use Rattle.policy.specs.declared.entry.Entry.{Entry}
use Rattle.sadb.specs.Database.{empty_table, pair_at, Database, HasInbound, IsSoundTable, IsStart, WasGiven}
use Rattle.sadb.specs.declared.pair.Pair.{Pair}
use Rattle.association.specs.Receiving.{Opening}
use Rattle.association.specs.declared.phase.Association.{Association}
use Rattle.setup.specs.Configs.{IsConfig}
use Rattle.setup.specs.declared.config.Config.{Config}
use Rattle.effects.specs.Taking.{asker_of}
use Rattle.ike.specs.Machines.{association_of, new_machine}
use Rattle.ike.specs.Moves.{HasSeal}
use Rattle.ike.specs.Soundness.{IsSoundMachine}
use Rattle.gateway.specs.BothEnds.{IsWhollySound}
use Rattle.gateway.specs.States.{IsSoundState, State}
use Rattle.gateway.specs.Worlds.{new_world, HoldsNothing}
use Rattle.gateway.specs.declared.world.stored.End.{End}
use Rattle.gateway.specs.declared.world.stored.End.TheVariants.{A, B}
use Rattle.gateway.proofs.PartyLemmas.{some_is}
use Rattle.laws_two_ends.proofs.WorkedRequestLemmas.{none_there}
use Rattle.laws_two_ends.specs.WorkedRecords.{fresh_of, CanBeMeant, IsFresh}
use Rattle.laws_two_ends.proofs.CallerLemmas.{can_be as can_be_meant}
use Rattle.laws_two_ends.specs.WorkedRuns.{all_protected, config_at, config_by, new_end, new_ends, run_meaning, spi_at, IsTyped}
use Rattle.laws_two_ends.proofs.Stages.{reserved_table}

-- ---- the caller, what is fresh, and how both are set up

pub can_be : CanBeMeant (asker_of run_meaning) run_meaning.plain_of
can_be = can_be_meant

alike : (number count : ℕ) → number < 256 → AreOctets (replicate count number)
alike number zero small = tt
alike number (suc count) small = (small, alike number count small)

pub sealing : (number : ℕ) → number < 256 → HasSeal (fresh_of number)
sealing number small = record { octets = alike number 16 small; many = refl }

pub is_fresh : (number : ℕ) → 1 ≤ number → number ≤ 8 → IsFresh (fresh_of number)
is_fresh number least most = record {
  named = λ is. absurd (omega (arith, least, is));
  spi_fits = omega (arith, most);
  nonce_long = refl;
  nonce_octets = alike number 32 (omega (arith, most));
  secret = record { whole = refl; octets = alike (number + 16) 32 (omega (arith, most)) };
  seal_long = refl;
  seal_octets = alike number 16 (omega (arith, most));
}

config_is : (own peer : ℕ) → own < 256 → peer < 256 → IsConfig (config_by own peer)
config_is own peer own_fits peer_fits = record {
  own = record { kind = omega arith; octets = record { some = omega arith; few = omega arith; fits = (own_fits, tt) } };
  peer = record { kind = omega arith; octets = record { some = omega arith; few = omega arith; fits = (peer_fits, tt) } };
  blocks = (1, omega arith, omega arith, refl);
  window = record { least = omega arith; widest = omega arith };
}

pub set_up : (end : End) → IsConfig (config_at end)
set_up A = config_is 1 2 (omega arith) (omega arith)
set_up B = config_is 2 1 (omega arith) (omega arith)

protected_is_sound : (place : ℕ) (e : Entry) → slice_get all_protected place ≡ Some e → IsSoundEntry e
protected_is_sound zero e there = subst (λ (x : Entry). IsSoundEntry x) (some_is _ e there) (record {
  local = omega arith;
  remote = omega arith;
  local_ports = omega arith;
  remote_ports = omega arith;
  family = refl;
})
protected_is_sound (suc place) e there = absurd cc

pub policy_is_sound : IsSoundPolicy all_protected
policy_is_sound = record { few = omega arith; each = protected_is_sound }

typed_by : (own peer : ℕ) → own < 256 → peer < 256 → IsTyped (config_by own peer)
typed_by own peer own_fits peer_fits =
    record { own = (alike own 4 own_fits, refl); peer = (alike peer 4 peer_fits, refl); cookie_secret = (alike 0 32 (omega arith), refl) }

pub typed : (end : End) → IsTyped (config_at end)
typed A = typed_by 1 2 (omega arith) (omega arith)
typed B = typed_by 2 1 (omega arith) (omega arith)

pub starts : (end : End) → IsStart (spi_at end)
starts A = record { least = omega arith; most = omega arith }
starts B = record { least = omega arith; most = omega arith }

-- ---- tables without pairs

no_pair : (serial : ℕ) (pair : Pair) → pair_at map.empty serial ≡ Some pair → ⊥
no_pair serial pair there = let none : pair_at map.empty serial ≡ None = map.get-empty nat_cmp serial in cc

no_inbound : (serial spi : ℕ) → HasInbound map.empty spi serial → ⊥
no_inbound serial spi is = no_pair serial is.pair is.there

-- so many SPIs were given, and these are reserved
abbrev pairless : ℕ → ℕ → set.FinSet nat_cmp → Database
pairless start given reserved = record (empty_table start) { given = given; reserved = reserved }

pairless_is_sound : (start given : ℕ) (reserved : set.FinSet nat_cmp) → IsStart start → given ≤ 1 → set.len reserved ≤ given
    → ((spi : ℕ) → set.contains reserved spi ≡ true → WasGiven (pairless start given reserved) spi) → IsSoundTable (pairless start given reserved)
pairless_is_sound start given reserved fits most few are_given = record {
  start = fits;
  given = omega (arith, most);
  first = omega arith;
  next = omega (arith, few);
  few = let none = map.len-empty nat_cmp Pair in omega (arith, none, few, most);
  reserved_given = are_given;
  serial = λ serial pair there. absurd (no_pair serial pair there);
  serial_given = λ serial pair there. absurd (no_pair serial pair there);
  window = λ serial pair there. absurd (no_pair serial pair there);
  spi_given = λ serial spi is. absurd (no_inbound serial spi is);
  spi_taken = λ serial spi is reserved. no_inbound serial spi is;
  apart = λ serial other spi first second. absurd (no_inbound serial spi first);
}

pub empty_is_sound : (start : ℕ) → IsStart start → IsSoundTable (empty_table start)
empty_is_sound start fits =
    pairless_is_sound start 0 set.empty fits (omega arith) (let none = set.len-empty nat_cmp in omega (arith, none)) (λ spi is. absurd (none_there spi is))

abbrev none_given : set.FinSet nat_cmp
none_given = set.empty

one_at_most : (is : Bool) (n : ℕ) → n ≡ 0 → cond is n (n + 1) ≤ 1
one_at_most true n none = omega (arith, none)
one_at_most false n none = omega (arith, none)

one_reserved : (spi : ℕ) → set.len (set.insert none_given spi) ≤ 1
one_reserved spi =
    let many = set.len-insert nat_cmp_total none_given spi in
    let most = one_at_most (set.contains none_given spi) (set.len none_given) (set.len-empty nat_cmp) in
    omega (arith, many, most)

reserved_is : (spi other : ℕ) → set.contains (set.insert none_given spi) other ≡ true → other ≡ spi
reserved_is spi other is = elim (eqb_tells other spi) [
  | inl (_, same) ↦ same
  | inr (_, apart) ↦
      let beside = contains-insert_nat none_given spi other ∙ ap (λ b. b || set.contains none_given other) (ne_eqb other spi apart) in
      absurd (none_there other (sym beside ∙ is))
]

pub reserved_is_sound : (start : ℕ) → IsStart start → IsSoundTable (reserved_table start)
reserved_is_sound start fits =
    pairless_is_sound start 1 (set.insert none_given start) fits (omega arith) (one_reserved start)
    (λ spi is. let same = reserved_is start spi is in record { from_start = omega (arith, same); before_next = omega (arith, same) })

-- ---- the ends

none_at : (place : ℕ) (a : Association) → slice_get [] place ≡ Some a → ⊥
none_at place a is = cc

pub none_found : (serial : ℕ) (a : Association) → association_of serial [] ≡ Some a → ⊥
none_found serial a is = cc

pub new_machine_is_sound : (config : Config) (table : Database) → IsConfig config → IsSoundMachine (new_machine config) table
new_machine_is_sound config table is = record {
  held = record {
    first = omega arith;
    serials = omega arith;
    few = omega arith;
    few_half_open = omega arith;
    each = λ place a there. absurd (none_at place a there);
    apart = λ place later a other less there too. absurd (none_at place a there);
  };
  config = is;
  asks = λ serial a there. absurd (none_found serial a there);
}

pub new_end_is_sound : {C : Type 0} (end : End) (caller : C) → IsSoundState (new_end end caller)
new_end_is_sound {C} end caller = record {
  machine = new_machine_is_sound (config_at end) (empty_table (spi_at end)) (set_up end);
  table = empty_is_sound (spi_at end) (starts end);
  timely = λ place d less. absurd (omega (arith, less));
  reservations = λ spi there. absurd (none_there spi there);
}

pub new_end_holds_nothing : {C : Type 0} (end : End) (caller : C) → HoldsNothing (new_end end caller)
new_end_holds_nothing {C} end caller = record { associations = refl; moment = refl; given = refl }

-- what the law `gateway::laws::new_worlds_are_wholly_sound` says
abbrev pub NewWorldsAreSound : Type 0 → Type 0
NewWorldsAreSound C =
    (body_of : Keys → Octets → Octets → Octets → Octets) (plain_of : Opening) (keys : KeyRecord) (a b : State C) → HoldsNothing a → HoldsNothing b
    → IsSoundState a → IsSoundState b → IsWhollySound body_of plain_of keys (new_world a b)

pub new_ends_are_sound : {C : Type 0} → NewWorldsAreSound C → (a b : C) (keys : KeyRecord)
    → IsWhollySound run_meaning.body_of run_meaning.plain_of keys (new_ends a b)
new_ends_are_sound {C} are_sound a b keys =
    are_sound run_meaning.body_of run_meaning.plain_of keys (new_end A a) (new_end B b) (new_end_holds_nothing A a) (new_end_holds_nothing B b)
    (new_end_is_sound A a) (new_end_is_sound B b)
