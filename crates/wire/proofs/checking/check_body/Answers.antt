use Rattle.std.proofs.Common.{leb, Some, refl, ap, inl, inr, rules}
use Rattle.wire.specs.Reading.{◌>>=◌, body_of}
use Rattle.wire.specs.declared.payload.Payload.TheVariants.{Auth, IdI, IdR, Ke, Nonce, Notify, Skipped, Unknown}
use Rattle.wire.proofs.checking.check_body.Goals as goal

pub returns-in_ok-key_exchange-in-Ke : goal.returns-in_ok-key_exchange-in-Ke
unfolding body_of
returns-in_ok-key_exchange-in-Ke c = λ kind. (Ke c.in_ok-key_exchange-in-Ke.field-0.0 c.in_ok-key_exchange-in-Ke.field-0.1.now, search rules)

pub returns-in_ok-typed-in-IdI : goal.returns-in_ok-typed-in-IdI
unfolding body_of
returns-in_ok-typed-in-IdI c = λ kind.
    let x = c.in_ok-typed-in-IdI.field-0 in
    elim c.in-IdI.is [
      | inl is ↦ (IdI x.0 x.1.now, rw is (ap (λ o. o >>= λ y. Some (IdI y.0 y.1)) c.in_ok-typed-in-IdI.ensures.read))
      | inr is ↦ (IdR x.0 x.1.now, rw is (ap (λ o. o >>= λ y. Some (IdR y.0 y.1)) c.in_ok-typed-in-IdI.ensures.read))
    ]

pub returns-in_ok-typed-in-Auth : goal.returns-in_ok-typed-in-Auth
unfolding body_of
returns-in_ok-typed-in-Auth c = λ kind. (Auth c.in_ok-typed-in-Auth.field-0.0 c.in_ok-typed-in-Auth.field-0.1.now, search rules)

pub returns-in_ok-nonce-in-Nonce : goal.returns-in_ok-nonce-in-Nonce
unfolding body_of
returns-in_ok-nonce-in-Nonce c = λ kind. (Nonce c.in_ok-nonce-in-Nonce.field-0.now, search rules)

pub returns-in_ok-notify-in-Notify : goal.returns-in_ok-notify-in-Notify
unfolding body_of
returns-in_ok-notify-in-Notify c = λ kind.
    let n = c.in_ok-notify-in-Notify.field-0 in (Notify n.protocol n.spi.now n.kind n.data.now, search rules)

pub returns-in-Skipped : goal.returns-in-Skipped
unfolding body_of
returns-in-Skipped c = λ kind.
    let octets = c.args.part.inside.rest.now in
    elim c.in-Skipped.is [
      | inl is ↦ (Skipped is.0 octets, rw is.1 refl)
      | inr is ↦ (Unknown kind (leb 128 c.args.part.second) octets, rw is refl)
    ]
