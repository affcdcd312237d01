-- Who is established has one partner alone.
use Rattle.std.proofs.Common.{◌≡◌, inl, inr, ℕ, List, Some, None, slice_get, sym, ap, subst, ◌∙◌}
use Rattle.base.specs.Octets.{Octets}
use Rattle.suite.specs.declared.key_record.KeyRecord.{KeyRecord}
use Rattle.association.specs.declared.phase.Association.{Association}
use Rattle.association.specs.declared.phase.HalfOpen.{HalfOpen}
use Rattle.effects.specs.Taking.{asker_of, Meaning}
use Rattle.ike.specs.Machines.{association_of, Machine}
use Rattle.ike.specs.Records.{introduced, ComesToKeysAsInitiator, ComesToKeysAsResponder, Introduction}
use Rattle.gateway.specs.Exchanges.{HaveExchanged}
use Rattle.gateway.specs.States.{association_in, State}
use Rattle.gateway.specs.WorldHistories.{Happening, IsWorldTrail}
use Rattle.gateway.specs.Worlds.{gateway_at, other_end, HoldsNothing, TakesEvent, WorldState}
use Rattle.gateway.specs.declared.world.stored.End.{End}
use Rattle.gateway.proofs.AlongLemmas.{after_here}
use Rattle.gateway.proofs.BeforeLemmas.{none_some, same_one}
use Rattle.gateway.proofs.ChildLemmas.{way_of}
use Rattle.gateway.proofs.ExchangeLemmas.{introduced_by, keys_agree, made_of, request_tells, step_at, MadeAt, TellsOffer}
use Rattle.gateway.specs.Agreeing.{HasAsker, HasPartner}
use Rattle.gateway.specs.DrawnNonces.{EachAnswerDrawsItsNonce, EachNonceIsDrawnOnce}
use Rattle.gateway.proofs.DrawnLemmas.{who_waits_is_one}
use Rattle.gateway.proofs.PartnerLemmas.{own_nonce_of_responder, PartnerLaws}

module _ {C : Type 0} (laws : PartnerLaws) (meaning_of : C → Meaning) where
  -- an IKE SA that a step makes has the next serial
  came_next : (h : Happening C) (t : TakesEvent meaning_of h.event h.before h.said h.after) (end : End) (serial : ℕ) (a : Association) → h.event.end ≡ end
      → association_in (gateway_at end h.before) serial ≡ None → association_in (gateway_at end h.after) serial ≡ Some a → serial ≡ (gateway_at h.event.end h.before).machine.held.next
  came_next h t end serial a at none there =
      let was = gateway_at h.event.end h.before in
      let meaning = meaning_of was.caller in
      let before : association_in was serial ≡ None = ap (λ (e : End). association_in (gateway_at e h.before) serial) at ∙ none in
      let here : gateway_at end h.after ≡ t.gateway = subst (λ (e : End). gateway_at e h.after ≡ t.gateway) at (after_here meaning_of h t) in
      let after : association_in t.gateway serial ≡ Some a = ap (λ (s : State C). association_in s serial) (sym here) ∙ there in
      elim (way_of meaning h.event.input was h.said t.trace t.gateway t.traces.does) [
        | inl w ↦ elim (laws.records.steps.came meaning was.entries w.view was.machine was.table w.stepped t.gateway.machine t.gateway.table serial a t.sound.machine w.steps after) [
          | inl stood ↦ absurd (none_some stood.was (sym before ∙ stood.stood))
          | inr now ↦ now.next
        ]
        | inr still ↦ absurd (none_some a (sym before ∙ ap (λ (m : Machine). association_of serial m.held.associations) (sym still.machine) ∙ after))
      ]

  module _ (public_value : Octets → Octets) (shares : (caller : C) → (meaning_of caller).public_value ≡ public_value) (hs : List (Happening C)) (old new : WorldState C) (trail : IsWorldTrail meaning_of old hs new)
      (agree : (caller answerer : C) (initiator responder : Introduction) (one other : KeyRecord) → ComesToKeysAsInitiator (asker_of (meaning_of caller)) initiator responder one
      → ComesToKeysAsResponder (meaning_of answerer).cipher (meaning_of answerer).group (meaning_of answerer).public_value (meaning_of answerer).shared_secret responder initiator other → one ≡ other) where
    -- the keys that an initiator read have the nonce which was fresh at the answer
    answered_nonce : (end : End) (serial partner : ℕ) (keys : KeyRecord) (e : HaveExchanged hs end serial partner) → e.reads.keys ≡ keys → e.answers.fresh.nonce ≡ keys.nonce_r
    answered_nonce end serial partner keys e read =
        let t = step_at laws.records meaning_of public_value shares hs old new trail e.answered e.replies e.replies_there in
        let asked = step_at laws.records meaning_of public_value shares hs old new trail e.asked e.asks e.asks_there in
        let made : MadeAt laws.records meaning_of e.replies t e.request e.response e.answers.fresh e.answers.association =
        made_of laws.records meaning_of public_value shares e.replies t (other_end end) partner e.request e.response e.answers in
        let tells : TellsOffer laws.records meaning_of e.request public_value e.sends.association e.sends.sent =
        request_tells laws.records meaning_of public_value shares e.asks asked end serial e.request e.sends in
        let who = introduced public_value e.sends.association.spi_i e.sends.sent.secret e.sends.sent.nonce in
        let answerer = meaning_of (gateway_at e.replies.event.end e.replies.before).caller in
        let comes = made.comes e.answers.secret who tells.says in
        let theirs = own_nonce_of_responder laws meaning_of answerer.cipher answerer.group answerer.public_value answerer.shared_secret
        (introduced answerer.public_value e.answers.fresh.spi e.answers.fresh.secret e.answers.fresh.nonce) who made.opened.keys comes in
        let agreed = keys_agree laws.records meaning_of public_value shares hs old new trail agree end serial partner (introduced_by laws.records meaning_of public_value shares hs old new trail end serial partner e) in
        sym theirs ∙ ap (λ (k : KeyRecord). k.nonce_r) (sym agreed ∙ read)

    -- the partner of an initiator
    pub one_partner : EachAnswerDrawsItsNonce hs → (place other : ℕ) (end : End) (serial another : ℕ) (keys : KeyRecord) (a : HasPartner hs place end serial keys) (b : HasPartner hs other end another keys)
        → a.partner ≡ b.partner
    one_partner apart place other end serial another keys a b =
        let e = a.exchanged in
        let f = b.exchanged in
        let nonces : e.answers.fresh.nonce ≡ f.answers.fresh.nonce = answered_nonce end serial a.partner keys e a.read ∙ sym (answered_nonce end another b.partner keys f b.read) in
        let places = apart.each e.answered f.answered e.replies f.replies (other_end end) a.partner b.partner e.request e.response f.request f.response e.replies_there f.replies_there e.answers f.answers nonces in
        let same : e.replies ≡ f.replies = same_one e.replies f.replies (sym e.replies_there ∙ ap (slice_get hs) places ∙ f.replies_there) in
        let one = came_next e.replies (step_at laws.records meaning_of public_value shares hs old new trail e.answered e.replies e.replies_there) (other_end end) a.partner e.answers.association e.answers.at e.answers.none e.answers.there in
        let two = came_next f.replies (step_at laws.records meaning_of public_value shares hs old new trail f.answered f.replies f.replies_there) (other_end end) b.partner f.answers.association f.answers.at f.answers.none f.answers.there in
        one ∙ ap (λ (h : Happening C). (gateway_at h.event.end h.before).machine.held.next) same ∙ sym two

  -- the partner of a responder
  module _ (hs : List (Happening C)) (old new : WorldState C) (trail : IsWorldTrail meaning_of old hs new) (begins : (end : End) → HoldsNothing (gateway_at end old)) where
    pub one_asker : EachNonceIsDrawnOnce hs → (place other : ℕ) (end : End) (opened another : HalfOpen) (keys : KeyRecord) (a : HasAsker hs place end opened keys) (b : HasAsker hs other end another keys)
        → a.partner ≡ b.partner
    one_asker once place other end opened another keys a b =
        who_waits_is_one laws meaning_of hs old new trail begins once a.by b.by a.reader b.reader (other_end end) a.partner b.partner keys.nonce_i a.reader_there b.reader_there
        (record { association = a.reads.is; there = a.reads.there; told = a.told; tells = a.tells; is = ap (λ (k : KeyRecord). k.nonce_i) a.same_keys })
        (record { association = b.reads.is; there = b.reads.there; told = b.told; tells = b.tells; is = ap (λ (k : KeyRecord). k.nonce_i) b.same_keys })
