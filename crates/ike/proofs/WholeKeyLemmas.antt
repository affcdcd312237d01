-- The keys of all IKE SAs stay whole, whatever a step does.
use Rattle.std.proofs.Common.{◌≡◌, ◌≢◌, ◌⊎◌, inl, inr, ℕ, Bool, true, false, List, length, Option, Some, None, Result, Ok, Err, sym, ap, subst, ◌∙◌, max}
use Rattle.std.specs.List.{position, slice_get}
use Rattle.std.specs.Prelude.{slice_set}
use Rattle.base.specs.Octets.{Octets}
use Rattle.wire.specs.declared.message.Message.{Message}
use Rattle.policy.specs.declared.entry.Entry.{Entry}
use Rattle.suite.specs.declared.fresh.Fresh.{Fresh}
use Rattle.suite.specs.declared.sealer.Cipher.{Cipher}
use Rattle.sadb.specs.Database.{Database}
use Rattle.sa_init.specs.Cookies.{CookieSecrets}
use Rattle.sa_init.specs.Judging.{Accepted, Answered, Full, Incomplete, JudgementView, OfferView}
use Rattle.association.specs.Finding.{place_meant}
use Rattle.association.specs.AskedChildren.{AskedChildView}
use Rattle.association.specs.declared.fault.MessageFault.{MessageFault}
use Rattle.association.specs.declared.phase.Association.{Association}
use Rattle.association.specs.Admitting.{Admits}
use Rattle.initial.specs.Beginning.{begun}
use Rattle.setup.specs.Configs.{Setup}
use Rattle.effects.specs.Lengths.{HoldsWholeKeys}
use Rattle.effects.specs.Taking.{Meaning, TakesMessage}
use Rattle.association.specs.declared.admitting.Admitted.{Admitted}
use Rattle.initial.specs.declared.beginning.Beginning.{Beginning}
use Rattle.setup.specs.declared.config.Config.{Config}
use Rattle.effects.specs.declared.taking.Effect.{Effect}
use Rattle.ike.proofs.WayLemmas.{asked_one, further_one}
use Rattle.ike.specs.Lengths.{HoldWholeKeys}
use Rattle.ike.specs.Machines.{new_machine, setup_at, Held, Machine}
use Rattle.ike.specs.Receiving.{is_answered, is_initial_request, is_sound_initial, with_next, DoesJudgement, TakesDatagram, TakesFound, TakesOffer, TakesRead, TakesRequestAt, TakesSound}
use Rattle.ike.specs.Starting.{child_by, BeginsBy}
use Rattle.ike.specs.Steps as steps
use Rattle.ike.specs.Steps.{InputView, Start, Secret, Steps}
use Rattle.ike.specs.declared.output.Stepped.{Stepped}
use Rattle.ike.proofs.ListLemmas.{grown, replaced}
use Rattle.ike.proofs.AskingLemmas.{changed_phase}
use Rattle.ike.proofs.TickLemmas.{on_keys, origin, TicksHold}

-- what the laws of lower crates say of keys
pub record KeyLaws : Type 0 where
  pub held : TicksHold
  pub admitted : (cipher : Cipher) (group : ℕ) (public_value : Octets → Octets) (shared_secret : Octets → Octets → Option Octets) (fresh : Fresh) (moment serial : ℕ) (offer : OfferView) (spi_i : ℕ) (request : Octets) (admitted : Admitted)
      → Admits cipher group public_value shared_secret fresh moment serial offer spi_i request admitted → HoldsWholeKeys admitted.association.phase
  pub taken : (meaning : Meaning) (setup : Setup) (old : Association) (table : Database) (octets : Octets) (m : Message) (effect : Effect) (new : Association) (new_table : Database) → HoldsWholeKeys old.phase
      → TakesMessage meaning setup old table octets m effect new new_table → HoldsWholeKeys new.phase

unchanged : (old new : Held) → new ≡ old → HoldWholeKeys old → HoldWholeKeys new
unchanged old new same whole = subst HoldWholeKeys (sym same) whole

-- one IKE SA comes, or is changed, and its keys are whole
after_next : (old : Held) (x : Association) → HoldWholeKeys old → HoldsWholeKeys x.phase → HoldWholeKeys (with_next old x)
after_next old x whole more k b there = go (grown old.associations x k b there) where
  go : ((k ≡ length old.associations) × (b ≡ x)) ⊎ ((k ≢ length old.associations) × (slice_get old.associations k ≡ Some b)) → HoldsWholeKeys b.phase
  go (inl is) = subst (λ (y : Association). HoldsWholeKeys y.phase) (sym is.1) more
  go (inr is) = whole k b is.1

after_change : (old : Held) (place : ℕ) (x : Association) → HoldWholeKeys old → HoldsWholeKeys x.phase → HoldWholeKeys (record old { associations = slice_set old.associations place x })
after_change old place x whole more k b there = go (replaced old.associations place x k b there) where
  go : ((k ≡ place) × (b ≡ x)) ⊎ ((k ≢ place) × (slice_get old.associations k ≡ Some b)) → HoldsWholeKeys b.phase
  go (inl is) = subst (λ (y : Association). HoldsWholeKeys y.phase) (sym is.1) more
  go (inr is) = whole k b is.1

no_keys : (serial : ℕ) (beginning : Beginning) (child : AskedChildView) → HoldsWholeKeys (begun serial beginning child).phase
no_keys serial beginning child keys is = absurd (cc)

module _ (laws : KeyLaws) (meaning : Meaning) (setup : Setup) (old : Held) (whole : HoldWholeKeys old) (new : Held) (stepped : Stepped) where
  offered : (offer : OfferView) (spi_i : ℕ) (octets : Octets) → TakesOffer meaning setup offer spi_i octets old stepped new → HoldWholeKeys new
  offered offer spi_i octets is = elim is.done [
    | inl (refused, passed) ↦ unchanged old new passed.unchanged whole
    | inr admits ↦ subst HoldWholeKeys (sym admits.content) (after_next old admits.admitted.association whole
        (laws.admitted meaning.cipher meaning.group meaning.public_value meaning.shared_secret setup.fresh setup.moment old.next offer spi_i octets admits.admitted admits.admits))
  ]

  done : (spi_i : ℕ) (octets : Octets) (j : JudgementView) → DoesJudgement meaning setup spi_i octets j old stepped new → HoldWholeKeys new
  done spi_i octets (Answered notice) is = unchanged old new is.1 whole
  done spi_i octets Incomplete is = unchanged old new is.unchanged whole
  done spi_i octets Full is = unchanged old new is.unchanged whole
  done spi_i octets (Accepted offer) is = offered offer spi_i octets is

  at : (o : Option ℕ) (cookies : CookieSecrets) (from octets : Octets) (m : Message) → TakesRequestAt o meaning setup cookies from octets m old stepped new → HoldWholeKeys new
  at (Some place) cookies from octets m is = unchanged old new is.1 whole
  at None cookies from octets m is = done m.header.spi_i octets is.judgement is.done

  sound : (b : Bool) (cookies : CookieSecrets) (from octets : Octets) (m : Message) → TakesSound b meaning setup cookies from octets m old stepped new → HoldWholeKeys new
  sound true cookies from octets m is = at (position (is_answered octets) old.associations) cookies from octets m is
  sound false cookies from octets m is = unchanged old new is.unchanged whole

  there : (r : Result ℕ MessageFault) (octets : Octets) (m : Message) (table new_table : Database) → TakesFound r meaning setup octets m old table stepped new new_table → HoldWholeKeys new
  there (Ok place) octets m table new_table is =
      subst HoldWholeKeys (sym is.content) (after_change old place is.changed whole
      (laws.taken meaning setup is.association table octets m is.effect is.changed new_table (whole place is.association is.there) is.takes))
  there (Err f) octets m table new_table is = unchanged old new is.0.unchanged whole

  read : (b : Bool) (cookies : CookieSecrets) (from octets : Octets) (m : Message) (table new_table : Database) → TakesRead b meaning setup cookies from octets m old table stepped new new_table → HoldWholeKeys new
  read true cookies from octets m table new_table is = sound (is_sound_initial m.header) cookies from octets m is.0
  read false cookies from octets m table new_table is = there (place_meant m.header old.associations) octets m table new_table is

  datagram : (cookies : CookieSecrets) (from octets : Octets) (table new_table : Database) → TakesDatagram meaning setup cookies from octets old table stepped new new_table → HoldWholeKeys new
  datagram cookies from octets table new_table is = elim is [
    | inl fails ↦ unchanged old new fails.passed.unchanged whole
    | inr reads ↦ read (is_initial_request reads.message.header) cookies from octets reads.message table new_table reads.done
  ]

  started : (place : ℕ) (table new_table : Database) → BeginsBy meaning setup place old table stepped new new_table → HoldWholeKeys new
  started place table new_table is =
      let child = child_by is.entry is.done.spi setup.config.extended in
      subst HoldWholeKeys (sym is.done.content) (after_next old (begun old.next is.beginning child) whole (no_keys old.next is.beginning child))

pub stepped_whole : KeyLaws → (meaning : Meaning) (entries : List Entry) (given : InputView) (old : Machine) (table : Database) (stepped : Stepped) (new : Machine) (new_table : Database)
    → HoldWholeKeys old.held → Steps meaning entries given old table stepped new new_table → HoldWholeKeys new.held
stepped_whole laws meaning entries (steps.Message from octets fresh) old table stepped new new_table whole is =
    datagram laws meaning (setup_at old entries fresh) old.held whole new.held stepped old.cookies from octets table new_table is.1
stepped_whole laws meaning entries (Start None place fresh) old table stepped new new_table whole is =
    started laws meaning (setup_at old entries fresh) old.held whole new.held stepped place table new_table is.1
stepped_whole laws meaning entries (steps.Start (Some asker) place fresh) old table stepped new new_table whole is =
    let one = further_one meaning (setup_at old entries fresh) asker place old.held table stepped new.held new_table is.1 in
    let p = one.probes in
    subst HoldWholeKeys (sym p.content)
    (after_change old.held p.place p.changed whole (subst HoldsWholeKeys (sym (changed_phase meaning.body_of (setup_at old entries fresh) one.ike old.held stepped new.held p)) (whole p.place p.association p.there)))
stepped_whole laws meaning entries (steps.Order what fresh) old table stepped new new_table whole is =
    let one = asked_one meaning (setup_at old entries fresh) what old.held table stepped new.held new_table is.1 in
    let p = one.probes in
    subst HoldWholeKeys (sym p.content)
    (after_change old.held p.place p.changed whole (subst HoldsWholeKeys (sym (changed_phase meaning.body_of (setup_at old entries fresh) one.ike old.held stepped new.held p)) (whole p.place p.association p.there)))
stepped_whole laws meaning entries (steps.Tick moment) old table stepped new new_table whole is =
    let some = laws.held (max old.moment moment) old.held.associations table is.takes.ticked new.held.associations new_table is.takes.ticks in
    λ place b there.
    let o = origin (max old.moment moment) old.held.associations new.held.associations place b some there in
    λ keys are. whole o.from o.was o.there keys (sym (on_keys (max old.moment moment) o.was b o.on) ∙ are)
stepped_whole laws meaning entries (Secret secret) old table stepped new new_table whole is =
    subst HoldWholeKeys (sym (ap (λ (m : Machine). m.held) is.content)) whole

pub new_whole : (config : Config) → HoldWholeKeys (new_machine config).held
new_whole config place a there = absurd (cc)
