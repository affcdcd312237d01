-- Who is established proved itself, by the ways of a step.
use Rattle.std.proofs.Common.{◌≡◌, ◌⊎◌, inl, inr, ℕ, List, Option, Some, ap, refl, subst, sym, ◌∙◌, max, None}
use Rattle.std.proofs.lemmas.Bool.Decides.{eqb_tells}
use Rattle.base.specs.Octets.{Octets}
use Rattle.wire.specs.declared.message.Message.{Message}
use Rattle.policy.specs.declared.entry.Entry.{Entry}
use Rattle.suite.specs.declared.key_record.KeyRecord.{KeyRecord}
use Rattle.sadb.specs.Database.{Database}
use Rattle.association.specs.Phases.{keys_in}
use Rattle.association.specs.declared.phase.Association.{Association}
use Rattle.association.specs.declared.phase.HalfOpen.{HalfOpen}
use Rattle.association.specs.declared.phase.InitSent.{InitSent}
use Rattle.association.specs.declared.phase.Phase.TheVariants as phase
use Rattle.initial.specs.Beginning.{begun}
use Rattle.setup.specs.Configs.{Setup}
use Rattle.effects.specs.Proving.{ProvesByMessage}
use Rattle.effects.specs.Taking.{Meaning, KeepsIdentity, TakesMessage}
use Rattle.effects.specs.declared.taking.Effect.{Effect}
use Rattle.ike.specs.Machines.{association_of, setup_at, Held, Machine}
use Rattle.ike.specs.Asking.{AsksAt}
use Rattle.ike.specs.Proving.{ProvedItself, WasKnown}
use Rattle.ike.specs.Receiving.{with_next}
use Rattle.ike.specs.Soundness.{AreSound, IsSoundMachine}
use Rattle.ike.specs.Starting.{child_by, BeginsBy}
use Rattle.ike.specs.Steps.{InputView, Steps}
use Rattle.ike.specs.Steps as steps
use Rattle.ike.specs.Ticking.{TakesHeld}
use Rattle.ike.specs.declared.output.Stepped.{Stepped}
use Rattle.ike.proofs.SerialLemmas.{grown_found, grown_stands, replaced_found, replaced_stands, same_one, sound_found}
use Rattle.ike.proofs.AskingLemmas.{probed_stood}
use Rattle.ike.proofs.TickLemmas.{ticked_stood, TicksHold}
use Rattle.ike.proofs.WayLemmas.{admitted, asked_one, datagram_way, further_one, probed, rested, started, took, Takes, Way}

-- what is known of a message's effect
pub record ProvingFacts : Type 0 where
  pub itself : (meaning : Meaning) (setup : Setup) (old : Association) (table : Database) (octets : Octets) (m : Message) (effect : Effect) (new : Association) (new_table : Database)
      → TakesMessage meaning setup old table octets m effect new new_table → KeepsIdentity old new
  pub proves : (meaning : Meaning) (setup : Setup) (old : Association) (table : Database) (octets : Octets) (m : Message) (effect : Effect) (new : Association) (new_table : Database) (keys : KeyRecord)
      → TakesMessage meaning setup old table octets m effect new new_table → new.phase ≡ phase.Established keys → (old.phase ≡ phase.Established keys) ⊎ ProvesByMessage meaning setup old octets m

-- it was established before
record StoodSo (ike : ℕ) (keys : KeyRecord) (old : Held) : Type 0 where
  was : Association
  stood : association_of ike old.associations ≡ Some was
  established : was.phase ≡ phase.Established keys

-- or its peer proves itself by these octets
record StoodKnown (meaning : Meaning) (setup : Setup) (octets : Octets) (ike : ℕ) (keys : KeyRecord) (old : Held) : Type 0 where
  was : Association
  stood : association_of ike old.associations ≡ Some was
  known : (was.phase ≡ phase.Established keys) ⊎ ProvedItself meaning setup octets was

still_known : (meaning : Meaning) (setup : Setup) (octets : Octets) (ike : ℕ) (keys : KeyRecord) (old : Held) → StoodSo ike keys old → StoodKnown meaning setup octets ike keys old
still_known meaning setup octets ike keys old is = record { was = is.was; stood = is.stood; known = inl is.established }

same_stood : (old new : Held) (ike : ℕ) (a : Association) (keys : KeyRecord) → new ≡ old → association_of ike new.associations ≡ Some a → a.phase ≡ phase.Established keys → StoodSo ike keys old
same_stood old new ike a keys same stands established =
    record { was = a; stood = sym (ap (λ (h : Held). association_of ike h.associations) same) ∙ stands; established = established }

-- who came last is not established
came_stood : (old : Held) (table : Database) (b : Association) (new : Held) (ike : ℕ) (a : Association) (keys : KeyRecord) → AreSound old table → b.serial ≡ old.next → new ≡ with_next old b
    → (b.phase ≡ phase.Established keys → ⊥) → association_of ike new.associations ≡ Some a → a.phase ≡ phase.Established keys → StoodSo ike keys old
came_stood old table b new ike a keys sound serial content other stands established =
    elim (eqb_tells ike b.serial) [
      | inl (one, same) ↦
          let here : association_of b.serial new.associations ≡ Some b = ap (λ (h : Held). association_of b.serial h.associations) content ∙ grown_stands old table b sound serial in
          let found : association_of ike new.associations ≡ Some b = subst (λ n. association_of n new.associations ≡ Some b) (sym same) here in
          absurd (other (ap (λ (x : Association). x.phase) (same_one b a (sym found ∙ stands)) ∙ established))
      | inr (none, apart) ↦ record {
        was = a;
        stood = sym (ap (λ (h : Held). association_of ike h.associations) content ∙ grown_found old.associations b ike apart) ∙ stands;
        established = established;
      }
    ]

opened_stands : (opened : HalfOpen) (keys : KeyRecord) → phase.HalfOpen opened ≡ phase.Established keys → ⊥
opened_stands opened keys e = cc

waiting_stands : (sent : InitSent) (keys : KeyRecord) → phase.InitSent sent ≡ phase.Established keys → ⊥
waiting_stands sent keys e = cc

started_stood : (meaning : Meaning) (setup : Setup) (place : ℕ) (old : Held) (table : Database) (stepped : Stepped) (new : Held) (new_table : Database) (ike : ℕ) (a : Association) (keys : KeyRecord)
    → AreSound old table → BeginsBy meaning setup place old table stepped new new_table → association_of ike new.associations ≡ Some a → a.phase ≡ phase.Established keys → StoodSo ike keys old
started_stood meaning setup place old table stepped new new_table ike a keys sound is stands established =
    came_stood old table (begun old.next is.beginning (child_by is.entry is.done.spi setup.config.extended)) new ike a keys sound refl is.done.content (λ e. waiting_stands _ keys e) stands established

took_known : (facts : ProvingFacts) (meaning : Meaning) (setup : Setup) (octets : Octets) (old : Held) (table : Database) (stepped : Stepped) (new : Held) (new_table : Database) (ike : ℕ) (a : Association) (keys : KeyRecord)
    → AreSound old table → Takes meaning setup octets old table stepped new new_table → association_of ike new.associations ≡ Some a → a.phase ≡ phase.Established keys
    → StoodKnown meaning setup octets ike keys old
took_known facts meaning setup octets old table stepped new new_table ike a keys sound is stands established =
    let t = is.takes in
    let stays : KeepsIdentity t.association t.changed = facts.itself meaning setup t.association table octets is.message t.effect t.changed new_table t.takes in
    elim (eqb_tells ike t.association.serial) [
      | inl (one, same) ↦
          let stood : association_of ike old.associations ≡ Some t.association = subst (λ n. association_of n old.associations ≡ Some t.association) (sym same) (sound_found old table is.place t.association sound t.there) in
          let here : association_of t.association.serial new.associations ≡ Some t.changed = ap (λ (h : Held). association_of t.association.serial h.associations) t.content
          ∙ replaced_stands old table is.place t.association t.changed sound t.there stays.serial in
          let found : association_of ike new.associations ≡ Some t.changed = subst (λ n. association_of n new.associations ≡ Some t.changed) (sym same) here in
          let now : t.changed.phase ≡ phase.Established keys = ap (λ (x : Association). x.phase) (same_one t.changed a (sym found ∙ stands)) ∙ established in
          elim (facts.proves meaning setup t.association table octets is.message t.effect t.changed new_table keys t.takes now) [
            | inl before ↦ record { was = t.association; stood = stood; known = inl before }
            | inr proves ↦ record {
              was = t.association;
              stood = stood;
              known = inr (record { message = is.message; spelled = is.spelled; plain = proves.plain; opened = proves.opened; proved = proves.proved });
            }
          ]
      | inr (none, apart) ↦ record {
        was = a;
        stood = sym (ap (λ (h : Held). association_of ike h.associations) t.content ∙ replaced_found old.associations is.place t.association t.changed ike t.there apart stays.serial) ∙ stands;
        known = inl established;
      }
    ]

probed_so : (meaning : Meaning) (setup : Setup) (serial : ℕ) (old : Held) (table : Database) (stepped : Stepped) (new : Held) (ike : ℕ) (a : Association) (keys : KeyRecord)
    → AreSound old table → AsksAt meaning.body_of setup serial old stepped new → association_of ike new.associations ≡ Some a → a.phase ≡ phase.Established keys → StoodSo ike keys old
probed_so meaning setup serial old table stepped new ike a keys sound is stands established =
    let before = probed_stood meaning.body_of setup serial old stepped new is table ike a sound stands in
    record { was = before.was; stood = before.stood; established = sym before.phase_is ∙ established }

closed_stands : (keys : Option KeyRecord) (at : ℕ) (other : KeyRecord) → phase.Closed keys at ≡ phase.Established other → ⊥
closed_stands keys at other e = cc

passed_so : (held : TicksHold) (now : ℕ) (old : Held) (table : Database) (new : Held) (new_table : Database) (stepped : Stepped) (ike : ℕ) (a : Association) (keys : KeyRecord)
    → AreSound old table → TakesHeld now old table new new_table stepped → association_of ike new.associations ≡ Some a → a.phase ≡ phase.Established keys → StoodSo ike keys old
passed_so held now old table new new_table stepped ike a keys sound is stands established =
    let before = ticked_stood now old new table ike a sound (held now old.associations table is.ticked new.associations new_table is.ticks) stands in
    record {
      was = before.was;
      stood = before.stood;
      established = elim before.on.phase [
        | inl stays ↦ sym stays.1 ∙ established
        | inr closes ↦ absurd (closed_stands (keys_in before.was.phase) now keys (sym (ap (λ (x : Association). x.phase) closes.content) ∙ established))
      ];
    }

way_known : (facts : ProvingFacts) (meaning : Meaning) (setup : Setup) (octets : Octets) (old : Held) (table : Database) (stepped : Stepped) (new : Held) (new_table : Database) (ike : ℕ) (a : Association) (keys : KeyRecord)
    → AreSound old table → Way meaning setup octets old table stepped new new_table → association_of ike new.associations ≡ Some a → a.phase ≡ phase.Established keys
    → StoodKnown meaning setup octets ike keys old
way_known facts meaning setup octets old table stepped new new_table ike a keys sound (rested is) stands established =
    still_known meaning setup octets ike keys old (same_stood old new ike a keys is.same stands established)
way_known facts meaning setup octets old table stepped new new_table ike a keys sound (took is) stands established =
    took_known facts meaning setup octets old table stepped new new_table ike a keys sound is stands established
way_known facts meaning setup octets old table stepped new new_table ike a keys sound (admitted is) stands established =
    still_known meaning setup octets ike keys old
    (came_stood old table is.admits.admitted.association new ike a keys sound (ap (λ (x : Association). x.serial) is.admits.admits.content) is.admits.content
    (λ e. opened_stands _ keys (sym (ap (λ (x : Association). x.phase) is.admits.admits.content) ∙ e)) stands established)
way_known facts meaning setup octets old table stepped new new_table ike a keys sound (probed is) stands established =
    still_known meaning setup octets ike keys old (probed_so meaning setup is.ike old table stepped new ike a keys sound is.probes stands established)
way_known facts meaning setup octets old table stepped new new_table ike a keys sound (started is) stands established =
    still_known meaning setup octets ike keys old (started_stood meaning setup is.place old table stepped new new_table ike a keys sound is.starts stands established)

pub step_known : ProvingFacts → TicksHold → (meaning : Meaning) (entries : List Entry) (input : InputView) (old : Machine) (table : Database) (stepped : Stepped) (new : Machine) (new_table : Database) (ike : ℕ) (a : Association) (keys : KeyRecord)
    → IsSoundMachine old table → Steps meaning entries input old table stepped new new_table → association_of ike new.held.associations ≡ Some a → a.phase ≡ phase.Established keys
    → WasKnown meaning entries input old ike keys
step_known facts held meaning entries (steps.Message from octets fresh) old table stepped new new_table ike a keys sound is stands established =
    let known = way_known facts meaning (setup_at old entries fresh) octets old.held table stepped new.held new_table ike a keys sound.held
    (datagram_way meaning (setup_at old entries fresh) old.cookies from octets old.held table stepped new.held new_table is.1) stands established in
    record { was = known.was; stood = known.stood; known = known.known }
step_known facts held meaning entries (steps.Start None place fresh) old table stepped new new_table ike a keys sound is stands established =
    let stood = started_stood meaning (setup_at old entries fresh) place old.held table stepped new.held new_table ike a keys sound.held is.1 stands established in
    record { was = stood.was; stood = stood.stood; known = inl stood.established }
step_known facts held meaning entries (steps.Start (Some asker) place fresh) old table stepped new new_table ike a keys sound is stands established =
    let one = further_one meaning (setup_at old entries fresh) asker place old.held table stepped new.held new_table is.1 in
    let stood = probed_so meaning (setup_at old entries fresh) one.ike old.held table stepped new.held ike a keys sound.held one.probes stands established in
    record { was = stood.was; stood = stood.stood; known = inl stood.established }
step_known facts held meaning entries (steps.Order what fresh) old table stepped new new_table ike a keys sound is stands established =
    let one = asked_one meaning (setup_at old entries fresh) what old.held table stepped new.held new_table is.1 in
    let stood = probed_so meaning (setup_at old entries fresh) one.ike old.held table stepped new.held ike a keys sound.held one.probes stands established in
    record { was = stood.was; stood = stood.stood; known = inl stood.established }
step_known facts held meaning entries (steps.Tick moment) old table stepped new new_table ike a keys sound is stands established =
    let stood = passed_so held (max old.moment moment) old.held table new.held new_table stepped ike a keys sound.held is.takes stands established in
    record { was = stood.was; stood = stood.stood; known = inl stood.established }
step_known facts held meaning entries (steps.Secret secret) old table stepped new new_table ike a keys sound is stands established =
    let stood = same_stood old.held new.held ike a keys (ap (λ (m : Machine). m.held) is.content) stands established in
    record { was = stood.was; stood = stood.stood; known = inl stood.established }
