-- What an IKE SA was before a step, and how it came to be what it is after it.
use Rattle.std.proofs.Common.{◌≡◌, ◌⊎◌, ◌≤◌, ◌+◌, ◌∷◌, ◌++◌, [], inl, inr, ℕ, List, length, Some, None, max, refl, sym, ap, subst, ◌∙◌, arith}
use Rattle.std.proofs.lemmas.Option.{slice_get_past}
use Rattle.std.specs.Prelude.{slice_get}
use Rattle.base.specs.Octets.{Octets}
use Rattle.wire.specs.declared.message.Message.{Message as WireMessage}
use Rattle.policy.specs.declared.entry.Entry.{Entry}
use Rattle.suite.specs.declared.fresh.Fresh.{Fresh}
use Rattle.sadb.specs.Database.{Database}
use Rattle.association.specs.Admitting.{Admits}
use Rattle.association.specs.declared.phase.Association.{Association}
use Rattle.setup.specs.Configs.{Setup}
use Rattle.moments.specs.Holding.{HoldSome}
use Rattle.moments.specs.Ticking.{Ticks}
use Rattle.moments.specs.declared.ticking.Ticked.{Ticked}
use Rattle.effects.specs.Taking.{KeepsIdentity, Meaning, TakesMessage}
use Rattle.effects.specs.declared.taking.Effect.{Effect}
use Rattle.ike.specs.Before.{ByMessage, ByOrder, ByTick, CameNow, How, Same, WasThere}
use Rattle.ike.specs.Machines.{association_of, setup_at, Held, Machine}
use Rattle.ike.specs.Outputs.{half_open_step}
use Rattle.ike.specs.Soundness.{AreSound}
use Rattle.ike.specs.Starting.{BeginsBy}
use Rattle.ike.specs.Steps as ike
use Rattle.ike.specs.declared.output.Stepped.{Stepped}
use Rattle.ike.proofs.AskingLemmas.{changed_itself, changed_phase}
use Rattle.ike.proofs.MoveLemmas.{at_changed, at_grown}
use Rattle.ike.proofs.SerialLemmas.{last_there, same_one, set_there}
use Rattle.ike.proofs.TickLemmas.{ticked_stood}
use Rattle.ike.proofs.WayLemmas.{admitted, asked_one, datagram_came, further_one, joined, probed, rested, started, step_way, stood, taken, took, AsksOne, Came, Way}

-- what is known of a message, and of a tick
pub record BeforeLaws : Type 0 where
  pub itself : (meaning : Meaning) (setup : Setup) (old : Association) (table : Database) (octets : Octets) (m : WireMessage) (e : Effect) (new : Association) (new_table : Database)
      → TakesMessage meaning setup old table octets m e new new_table → KeepsIdentity old new
  pub held : (now : ℕ) (old : List Association) (table : Database) (ticked : Ticked) (new : List Association) (new_table : Database) → Ticks now old table ticked new new_table → HoldSome now old new

module _ (laws : BeforeLaws) (meaning : Meaning) (entries : List Entry) (view : ike.InputView) (old : Machine) (table : Database) (stepped : Stepped) (new : Held) (new_table : Database) (sound : AreSound old.held table)
    (serial : ℕ) (is : Association) (there : association_of serial new.associations ≡ Some is) where
  itself_there : association_of serial new.associations ≡ association_of serial old.held.associations → WasThere meaning entries view old table new new_table serial is
  itself_there same = record { was = is; stood = sym same ∙ there; how = Same refl }

  changed_there : (a b : Association) → association_of serial old.held.associations ≡ Some a → association_of serial new.associations ≡ Some b → How meaning entries view old table new new_table a b
      → WasThere meaning entries view old table new new_table serial is
  changed_there a b before after how = record {
    was = a;
    stood = before;
    how = subst (λ (x : Association). How meaning entries view old table new new_table a x) (same_one b is (sym after ∙ there)) how;
  }

  -- it stands behind all others
  came_last : (b : Association) → new ≡ record { next = old.held.next + 1; associations = old.held.associations ++ b ∷ [] } → b ≡ is → slice_get new.associations (length old.held.associations) ≡ Some is
  came_last b content same = ap (λ (h : Held). slice_get h.associations (length old.held.associations)) content ∙ last_there old.held.associations b ∙ ap Some same

  by_came : (from octets : Octets) (fresh : Fresh) → view ≡ ike.Message from octets fresh → Came meaning (setup_at old entries fresh) octets old.held table stepped new new_table
      → WasThere meaning entries view old table new new_table serial is ⊎ CameNow meaning entries view old stepped new serial is
  by_came from octets fresh view_is (stood r) = inl (itself_there (ap (λ (h : Held). association_of serial h.associations) r.same))
  by_came from octets fresh view_is (taken t) =
      let a = t.takes.association in
      let keeps = laws.itself meaning (setup_at old entries fresh) a table octets t.message t.takes.effect t.takes.changed new_table t.takes.takes in
      elim (at_changed old.held table t.place a t.takes.changed new serial sound t.takes.there keeps.serial t.takes.content) [
        | inl (here, before, after) ↦ inl (changed_there a t.takes.changed before after (ByMessage (record {
          from = from;
          octets = octets;
          fresh = fresh;
          came = view_is;
          message = t.message;
          spelled = t.spelled;
          effect = t.takes.effect;
          takes = t.takes.takes;
          place = t.place;
          stood_at = t.takes.there;
          stands_at = ap (λ (h : Held). slice_get h.associations t.place) t.takes.content ∙ set_there old.held.associations t.place a t.takes.changed t.takes.there;
        })))
        | inr (apart, same) ↦ inl (itself_there same)
      ]
  by_came from octets fresh view_is (joined a) =
      let made = a.admits.admitted.association in
      let next : made.serial ≡ old.held.next = ap (λ (x : Association). x.serial) a.admits.admits.content in
      elim (at_grown old.held table made new serial sound next a.admits.content) [
        | inl (here, before, after) ↦
            let same = same_one made is (sym after ∙ there) in
            let given : old.held.next ≡ serial = sym (here ∙ next) in
            inr (record {
              next = here ∙ next;
              place = length old.held.associations;
              none_at = slice_get_past old.held.associations (length old.held.associations) (omega arith);
              stands_at = came_last made a.admits.content same;
              how = inl (record {
                from = from;
                octets = octets;
                fresh = fresh;
                came = view_is;
                offer = a.offer;
                spi_i = a.spi_i;
                admitted = a.admits.admitted;
                admits = subst (λ (n : ℕ). Admits meaning.cipher meaning.group meaning.public_value meaning.shared_secret fresh old.moment n a.offer a.spi_i octets a.admits.admitted) given a.admits.admits;
                said = subst (λ (n : ℕ). stepped ≡ half_open_step n a.admits.admitted.octets) given a.admits.said;
                made = same;
              });
            })
        | inr (apart, same) ↦ inl (itself_there same)
      ]

  by_start : (place : ℕ) (fresh : Fresh) → view ≡ ike.Start None place fresh → BeginsBy meaning (setup_at old entries fresh) place old.held table stepped new new_table
      → WasThere meaning entries view old table new new_table serial is ⊎ CameNow meaning entries view old stepped new serial is
  by_start place fresh view_is s =
      elim (at_grown old.held table _ new serial sound refl s.done.content) [
        | inl (here, before, after) ↦
            let same = same_one _ is (sym after ∙ there) in
            inr (record {
              next = here;
              place = length old.held.associations;
              none_at = slice_get_past old.held.associations (length old.held.associations) (omega arith);
              stands_at = came_last _ s.done.content same;
              how = inr (record { place = place; fresh = fresh; came = view_is; sent = _; waits = ap (λ (x : Association). x.phase) (sym same) });
            })
        | inr (apart, same) ↦ inl (itself_there same)
      ]

  by_order : (setup : Setup) → AsksOne meaning setup old.held table stepped new new_table
      → WasThere meaning entries view old table new new_table serial is ⊎ CameNow meaning entries view old stepped new serial is
  by_order setup p =
      let asks = p.probes in
      let keeps = changed_itself meaning.body_of setup p.ike old.held stepped new asks in
      elim (at_changed old.held table asks.place asks.association asks.changed new serial sound asks.there keeps.serial asks.content) [
        | inl (here, before, after) ↦ inl (changed_there asks.association asks.changed before after
            (ByOrder asks.sends.keys asks.sends.established (changed_phase meaning.body_of setup p.ike old.held stepped new asks) keeps.spi_i))
        | inr (apart, same) ↦ inl (itself_there same)
      ]

-- an IKE SA was there before the step, or came with it
pub step_came : (laws : BeforeLaws) (meaning : Meaning) (entries : List Entry) (view : ike.InputView) (old : Machine) (table : Database) (stepped : Stepped) (new : Machine) (new_table : Database)
    → AreSound old.held table → ike.Steps meaning entries view old table stepped new new_table
    → (serial : ℕ) (is : Association) → association_of serial new.held.associations ≡ Some is
    → WasThere meaning entries view old table new.held new_table serial is ⊎ CameNow meaning entries view old stepped new.held serial is
step_came laws meaning entries (ike.Message from octets fresh) old table stepped new new_table sound steps serial is there =
    by_came laws meaning entries (ike.Message from octets fresh) old table stepped new.held new_table sound serial is there from octets fresh refl
    (datagram_came meaning (setup_at old entries fresh) old.cookies from octets old.held table stepped new.held new_table steps.1)
step_came laws meaning entries (ike.Start None place fresh) old table stepped new new_table sound steps serial is there =
    by_start laws meaning entries (ike.Start None place fresh) old table stepped new.held new_table sound serial is there place fresh refl steps.1
step_came laws meaning entries (ike.Start (Some asker) place fresh) old table stepped new new_table sound steps serial is there =
    by_order laws meaning entries (ike.Start (Some asker) place fresh) old table stepped new.held new_table sound serial is there (setup_at old entries fresh)
    (further_one meaning (setup_at old entries fresh) asker place old.held table stepped new.held new_table steps.1)
step_came laws meaning entries (ike.Order what fresh) old table stepped new new_table sound steps serial is there =
    by_order laws meaning entries (ike.Order what fresh) old table stepped new.held new_table sound serial is there (setup_at old entries fresh)
    (asked_one meaning (setup_at old entries fresh) what old.held table stepped new.held new_table steps.1)
step_came laws meaning entries (ike.Secret secret) old table stepped new new_table sound steps serial is there =
    inl (itself_there laws meaning entries (ike.Secret secret) old table stepped new.held new_table sound serial is there (ap (λ (m : Machine). association_of serial m.held.associations) steps.content))
step_came laws meaning entries (ike.Tick moment) old table stepped new new_table sound steps serial is there =
    let t = steps.takes in
    let now = max old.moment moment in
    let was = ticked_stood now old.held new.held table serial is sound (laws.held now old.held.associations table t.ticked new.held.associations new_table t.ticks) there in
    inl (record { was = was.was; stood = was.stood; how = ByTick now was.on })

-- no serial is given again
next_by : (meaning : Meaning) (setup : Setup) (octets : Octets) (old : Held) (table : Database) (stepped : Stepped) (new : Held) (new_table : Database)
    → Way meaning setup octets old table stepped new new_table → old.next ≤ new.next
next_by meaning setup octets old table stepped new new_table (rested r) = let same = ap (λ (h : Held). h.next) r.same in omega (arith, same)
next_by meaning setup octets old table stepped new new_table (took t) = let same = ap (λ (h : Held). h.next) t.takes.content in omega (arith, same)
next_by meaning setup octets old table stepped new new_table (admitted a) = let more = ap (λ (h : Held). h.next) a.admits.content in omega (arith, more)
next_by meaning setup octets old table stepped new new_table (started s) = let more = ap (λ (h : Held). h.next) s.starts.done.content in omega (arith, more)
next_by meaning setup octets old table stepped new new_table (probed p) = let same = ap (λ (h : Held). h.next) p.probes.content in omega (arith, same)

pub next_grows : (meaning : Meaning) (entries : List Entry) (view : ike.InputView) (old : Machine) (table : Database) (stepped : Stepped) (new : Machine) (new_table : Database)
    → ike.Steps meaning entries view old table stepped new new_table → old.held.next ≤ new.held.next
next_grows meaning entries view old table stepped new new_table steps = elim (step_way meaning entries view old table stepped new new_table steps) [
  | inl some ↦ next_by meaning some.setup some.octets old.held table stepped new.held new_table some.way
  | inr ticks ↦ (let same = ticks.takes.next in omega (arith, same))
]
