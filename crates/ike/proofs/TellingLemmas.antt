-- What a step says of an IKE SA, and of which it says nothing.
use Rattle.std.proofs.Common.{◌≡◌, ◌≢◌, ◌⊎◌, inl, inr, ℕ, zero, suc, ◌∷◌, [], Bool, true, false, not, List, length, Option, Some, None, All, Contains, arith, ap, refl, subst, sym, ◌∙◌}
use Rattle.std.proofs.lemmas.List.Elements.{All-contains, Contains-append_cases}
use Rattle.std.proofs.lemmas.Option.{slice_get_read}
use Rattle.std.specs.List.{filter, flat_map, slice_get}
use Rattle.std.specs.FinMap as map
use Rattle.std.specs.Prelude.{◌==◌, option_and_then, map as list_map}
use Rattle.base.specs.Octets.{Octets}
use Rattle.wire.specs.Numbers.{IKE_SA_INIT}
use Rattle.suite.specs.declared.key_record.KeyRecord.{KeyRecord}
use Rattle.sadb.specs.Database.{Database}
use Rattle.association.specs.declared.phase.Association.{Association}
use Rattle.association.specs.declared.phase.Request.{Request}
use Rattle.moments.specs.Due.{closed_by, closed_of, has_failed, is_due, is_over, outstanding_of, resent, sent_by, sent_of}
use Rattle.moments.specs.Held.{IsOutstandingOf}
use Rattle.moments.specs.Ticking.{Ticks}
use Rattle.moments.specs.declared.resent.Resent.{Resent}
use Rattle.moments.specs.declared.ticking.Ticked.{Ticked}
use Rattle.effects.specs.Moves.{and_closes, ledger, makes_and_issues, moves_of, Close, Count, Issue, KeepsReply, Ledger, Make, Move, TakeEffect, WaitsWith}
use Rattle.effects.specs.Requests.{IsSoundlyHeld}
use Rattle.effects.specs.declared.taking.Effect.{Effect}
use Rattle.effects.specs.declared.taking.Effect.TheVariants as effect
use Rattle.association.specs.Purposes.{exchange_of}
use Rattle.ike.specs.Machines.{association_of, Held}
use Rattle.ike.specs.Moves.{ledger_at, IsKeyless, IsMadeBy, IsSentBy, SaysNoMore, TellsAgain, TellsClosed}
use Rattle.ike.specs.Outputs.{asking_step, child_of, closed_serial as closed_if, half_open_step, plain_step, stepped_of}
use Rattle.ike.specs.Soundness.{AreSound}
use Rattle.ike.specs.declared.output.IkeOutput.{IkeOutput}
use Rattle.ike.specs.declared.output.IkeOutput.TheVariants as output
use Rattle.ike.specs.declared.output.MadeChild.{MadeChild}
use Rattle.ike.specs.declared.output.Mark.{Mark}
use Rattle.ike.specs.declared.output.Stepped.{Stepped}
use Rattle.ike.proofs.SerialLemmas.{same_one, sound_found}
use Rattle.ike.proofs.WayLemmas.{GoesOut}
use Rattle.association.specs.Outcomes.{closed_by as fate_closed, made_by}

-- ---- a step that says nothing of an IKE SA

pub record IsSilent (stepped : Stepped) (serial : ℕ) : Type 0 where
  pub sent : (mark : Mark) → stepped.trace.sent ≡ Some mark → mark.ike ≡ serial → ⊥
  pub again : (ticked : Ticked) → stepped.output ≡ output.Ticked ticked → ⊥
  pub keyed : stepped.trace.keyed ≡ Some serial → ⊥
  pub counted : (child closed : Option ℕ) → stepped.output ≡ output.Counted serial child closed → ⊥
  pub closed : TellsClosed serial stepped.output → ⊥
  pub child : (made : MadeChild) → stepped.trace.child ≡ Some made → made.ike ≡ serial → ⊥

silent_again : (serial : ℕ) (o : IkeOutput) → ((ticked : Ticked) → o ≡ output.Ticked ticked → ⊥) → TellsAgain serial o → ⊥
silent_again serial (output.Reply octets closed) none told = told
silent_again serial (output.Repeat octets) none told = told
silent_again serial (output.Request ike octets) none told = told
silent_again serial (output.Counted ike child closed) none told = told
silent_again serial (output.Ticked ticked) none told = none ticked refl
silent_again serial output.Done none told = told
silent_again serial (output.Dropped f) none told = told

pub silent_tells : (old : Option Association) (stepped : Stepped) (serial : ℕ) (moves : List Move) → IsSilent stepped serial → SaysNoMore old stepped serial moves
silent_tells old stepped serial moves is = record {
  sent = λ mark octets sent here out. absurd (is.sent mark sent here);
  again = λ ticked r said there here sealed. absurd (is.again ticked said);
  none_beside = λ told. absurd (silent_again serial stepped.output is.again told);
  keyed = λ keyed. absurd (is.keyed keyed);
  counted = λ child closed said. absurd (is.counted child closed said);
  closed = λ told. absurd (is.closed told);
  child = λ made named here. absurd (is.child made named here);
}

none_marked : {T : Type 0} (x : T) → None ≡ Some x → ⊥
none_marked x is = cc

same_serial : (one other : ℕ) → Some one ≡ Some other → one ≡ other
same_serial one other is = cc

same_octets : (one other : Octets) → Some one ≡ Some other → one ≡ other
same_octets one other is = cc

same_mark : (one other : Mark) → Some one ≡ Some other → one ≡ other
same_mark one other is = cc

same_child : (one other : MadeChild) → Some one ≡ Some other → one ≡ other
same_child one other is = cc

-- one whose output is of none
pub said_silent : (old : Held) (said : IkeOutput) (serial : ℕ) → GoesOut old said → IsSilent (plain_step said) serial
said_silent old (output.Reply octets None) serial goes =
    record { sent = λ mark is here. none_marked mark is; again = λ ticked is. cc; keyed = λ is. none_marked serial is; counted = λ child closed is. cc; closed = λ told. told; child = λ made named here. none_marked made named }
said_silent old (output.Reply octets (Some closed)) serial goes = absurd goes
said_silent old (output.Repeat octets) serial goes =
    record { sent = λ mark is here. none_marked mark is; again = λ ticked is. cc; keyed = λ is. none_marked serial is; counted = λ child closed is. cc; closed = λ told. told; child = λ made named here. none_marked made named }
said_silent old (output.Request ike octets) serial goes = absurd goes
said_silent old (output.Counted ike child closed) serial goes = absurd goes
said_silent old (output.Ticked ticked) serial goes = absurd goes
said_silent old output.Done serial goes =
    record { sent = λ mark is here. none_marked mark is; again = λ ticked is. cc; keyed = λ is. none_marked serial is; counted = λ child closed is. cc; closed = λ told. told; child = λ made named here. none_marked made named }
said_silent old (output.Dropped f) serial goes =
    record { sent = λ mark is here. none_marked mark is; again = λ ticked is. cc; keyed = λ is. none_marked serial is; counted = λ child closed is. cc; closed = λ told. told; child = λ made named here. none_marked made named }

pub request_silent : (ike : ℕ) (octets : Octets) (serial : ℕ) → IsSilent (plain_step (output.Request ike octets)) serial
request_silent ike octets serial =
    record { sent = λ mark is here. none_marked mark is; again = λ ticked is. cc; keyed = λ is. none_marked serial is; counted = λ child closed is. cc; closed = λ told. told; child = λ made named here. none_marked made named }

-- one of another IKE SA
other_sent : (ike number serial : ℕ) (response : Bool) (mark : Mark) → serial ≢ ike → Some (record { ike = ike; response = response; number = number }) ≡ Some mark → mark.ike ≡ serial → ⊥
other_sent ike number serial response mark apart is here = apart (sym here ∙ sym (ap (λ (m : Mark). m.ike) (same_mark (record { ike = ike; response = response; number = number }) mark is)))

pub asking_silent : (ike number : ℕ) (octets : Octets) (serial : ℕ) → serial ≢ ike → IsSilent (asking_step ike number octets) serial
asking_silent ike number octets serial apart =
    record { sent = λ mark is here. other_sent ike number serial false mark apart is here; again = λ ticked is. cc; keyed = λ is. none_marked serial is; counted = λ child closed is. cc; closed = λ told. told; child = λ made named here. none_marked made named }

pub half_open_silent : (ike : ℕ) (octets : Octets) (serial : ℕ) → serial ≢ ike → IsSilent (half_open_step ike octets) serial
half_open_silent ike octets serial apart =
    record { sent = λ mark is here. none_marked mark is; again = λ ticked is. cc; keyed = λ is. apart (sym (same_serial ike serial is)); counted = λ child closed is. cc; closed = λ told. told; child = λ made named here. none_marked made named }

other_closed : (ike serial : ℕ) (octets : Octets) (closed : Bool) → serial ≢ ike → TellsClosed serial (output.Reply octets (closed_if ike closed)) → ⊥
other_closed ike serial octets true apart told = apart (sym told)
other_closed ike serial octets false apart told = told

other_ended : (ike serial : ℕ) (child : Option ℕ) (closed : Bool) → serial ≢ ike → TellsClosed serial (output.Counted ike child (closed_if ike closed)) → ⊥
other_ended ike serial child true apart told = apart (sym told)
other_ended ike serial child false apart told = told

other_counted : (ike serial : ℕ) (child closed one other : Option ℕ) → serial ≢ ike → output.Counted ike child closed ≡ output.Counted serial one other → ⊥
other_counted ike serial child closed one other apart is = let same : ike ≡ serial = cc in apart (sym same)

other_child : (ike number serial : ℕ) (asked : Bool) (child : Option ℕ) (made : MadeChild) → serial ≢ ike → child_of ike number asked child ≡ Some made → made.ike ≡ serial → ⊥
other_child ike number serial asked None made apart named here = none_marked made named
other_child ike number serial asked (Some child) made apart named here = apart (sym here ∙ sym (ap (λ (m : MadeChild). m.ike) (same_child (record { serial = child; ike = ike; number = number; asked = asked }) made named)))

pub effect_silent : (ike number : ℕ) (e : Effect) (serial : ℕ) → serial ≢ ike → IsSilent (stepped_of ike number e) serial
effect_silent ike number (effect.Refused f) serial apart =
    record { sent = λ mark is here. none_marked mark is; again = λ ticked is. cc; keyed = λ is. none_marked serial is; counted = λ child closed is. cc; closed = λ told. told; child = λ made named here. none_marked made named }
effect_silent ike number (effect.Repeated octets) serial apart =
    record { sent = λ mark is here. other_sent ike number serial true mark apart is here; again = λ ticked is. cc; keyed = λ is. none_marked serial is; counted = λ child closed is. cc; closed = λ told. told; child = λ made named here. none_marked made named }
effect_silent ike number (effect.Replied answered) serial apart =
    record {
      sent = λ mark is here. other_sent ike number serial true mark apart is here;
      again = λ ticked is. cc;
      keyed = λ is. none_marked serial is;
      counted = λ child closed is. cc;
      closed = λ told. other_closed ike serial answered.octets (fate_closed answered.fate) apart told;
      child = λ made named here. other_child ike number serial false (made_by answered.fate) made apart named here;
    }
effect_silent ike number (effect.Again octets) serial apart = request_silent ike octets serial
effect_silent ike number (effect.AsksAuth octets) serial apart =
    record {
      sent = λ mark is here. other_sent ike 1 serial false mark apart is here;
      again = λ ticked is. cc;
      keyed = λ is. apart (sym (same_serial ike serial is));
      counted = λ child closed is. cc;
      closed = λ told. told;
      child = λ made named here. none_marked made named;
    }
effect_silent ike number (effect.Counted ended) serial apart =
    record {
      sent = λ mark is here. none_marked mark is;
      again = λ ticked is. cc;
      keyed = λ is. none_marked serial is;
      counted = λ child closed is. other_counted ike serial (made_by ended.fate) (closed_if ike (fate_closed ended.fate)) child closed apart is;
      closed = λ told. other_ended ike serial (made_by ended.fate) (fate_closed ended.fate) apart told;
      child = λ made named here. other_child ike number serial true (made_by ended.fate) made apart named here;
    }

-- ---- what it says of the one that it is about

first_of : (move : Move) (closed : Bool) → Contains (and_closes move closed) move
first_of move true = (0, omega arith, refl)
first_of move false = (0, omega arith, refl)

closed_said : (serial : ℕ) (move : Move) (octets : Octets) (closed : Bool) → TellsClosed serial (output.Reply octets (closed_if serial closed)) → Contains (and_closes move closed) Close
closed_said serial move octets true told = (1, omega arith, refl)
closed_said serial move octets false told = absurd told

ended_said : (serial : ℕ) (move : Move) (child : Option ℕ) (closed : Bool) → TellsClosed serial (output.Counted serial child (closed_if serial closed)) → Contains (and_closes move closed) Close
ended_said serial move child true told = (1, omega arith, refl)
ended_said serial move child false told = absurd told

sent_by_mark : (moves : List Move) (old : Option Ledger) (o : IkeOutput) (ike number : ℕ) (response : Bool) (said : Octets) (mark : Mark) (octets : Octets)
    → Some (record { ike = ike; response = response; number = number }) ≡ Some mark → Some said ≡ Some octets
    → IsSentBy moves old o (record { ike = ike; response = response; number = number }) said → IsSentBy moves old o mark octets
sent_by_mark moves old o ike number response said mark octets is out sent =
    subst (λ (m : Mark). IsSentBy moves old o m octets) (same_mark (record { ike = ike; response = response; number = number }) mark is)
    (subst (λ (x : Octets). IsSentBy moves old o (record { ike = ike; response = response; number = number }) x) (same_octets said octets out) sent)

-- a Child SA is made by the move beside it
made_so : (moves : List Move) (one other : MadeChild) → one ≡ other → IsMadeBy moves one → IsMadeBy moves other
made_so moves one other same is = subst (λ (m : MadeChild). IsMadeBy moves m) same is

replied_child : (serial number : ℕ) (reply : Octets) (closed : Bool) (child : Option ℕ) (made : MadeChild) → child_of serial number false child ≡ Some made → IsMadeBy (and_closes (TakeEffect number reply) closed) made
replied_child serial number reply closed None made named = absurd (none_marked made named)
replied_child serial number reply closed (Some child) made named =
    let one : MadeChild = record { serial = child; ike = serial; number = number; asked = false } in
    made_so (and_closes (TakeEffect number reply) closed) one made (same_child one made named) (inr (refl, (reply, first_of (TakeEffect number reply) closed)))

counted_child : (serial number : ℕ) (closed : Bool) (child : Option ℕ) (made : MadeChild) → child_of serial number true child ≡ Some made → IsMadeBy (and_closes (Count number) closed) made
counted_child serial number closed None made named = absurd (none_marked made named)
counted_child serial number closed (Some child) made named =
    let one : MadeChild = record { serial = child; ike = serial; number = number; asked = true } in
    made_so (and_closes (Count number) closed) one made (same_child one made named) (inl (refl, first_of (Count number) closed))

identified_says : (old : Option Association) (serial number : ℕ) (next : Octets) (keys : Option KeyRecord) (k : KeyRecord) → keys ≡ Some k
    → SaysNoMore old (stepped_of serial number (effect.AsksAuth next)) serial (makes_and_issues keys next)
identified_says old serial number next None k are = absurd (none_marked k are)
identified_says old serial number next (Some keys) k are =
    record {
      sent = λ mark octets is here out. sent_by_mark (makes_and_issues (Some keys) next) (option_and_then ledger old) (output.Request serial next) serial 1 false next mark octets is out (inl (refl, (1, omega arith, refl)));
      again = λ ticked r said there here sealed. cc;
      none_beside = λ told. absurd told;
      keyed = λ is. (keys, (0, omega arith, refl));
      counted = λ child closed is. cc;
      closed = λ told. absurd told;
      child = λ made named here. absurd (none_marked made named);
    }

-- what is known of an effect: a reply that goes out again is kept, and who tells its identity has keys
pub record IsEffectOf (old : Option Ledger) (number : ℕ) (keys : Option KeyRecord) (e : Effect) : Type 0 where
  pub kept : (reply : Octets) → e ≡ effect.Repeated reply → KeepsReply old number reply
  pub keyed : (next : Octets) → e ≡ effect.AsksAuth next → (k : KeyRecord) × (keys ≡ Some k)

pub effect_says : (old : Option Association) (serial number : ℕ) (keys : Option KeyRecord) (e : Effect) → IsEffectOf (option_and_then ledger old) number keys e → SaysNoMore old (stepped_of serial number e) serial (moves_of number keys e)
effect_says old serial number keys (effect.Refused f) is =
    silent_tells old (stepped_of serial number (effect.Refused f)) serial []
    (record { sent = λ mark sent here. none_marked mark sent; again = λ ticked said. cc; keyed = λ named. none_marked serial named; counted = λ child closed said. cc; closed = λ told. told; child = λ made named here. none_marked made named })
effect_says old serial number keys (effect.Repeated reply) is =
    record {
      sent = λ mark octets sent here out. sent_by_mark [] (option_and_then ledger old) (output.Repeat reply) serial number true reply mark octets sent out
          (inr (refl, inr (record { kept = is.kept reply refl; repeated = refl; none = refl })));
      again = λ ticked r said there here sealed. cc;
      none_beside = λ told. absurd told;
      keyed = λ named. absurd (none_marked serial named);
      counted = λ child closed said. cc;
      closed = λ told. absurd told;
      child = λ made named here. absurd (none_marked made named);
    }
effect_says old serial number keys (effect.Replied answered) is =
    let move = TakeEffect number answered.octets in
    record {
      sent = λ mark octets sent here out. sent_by_mark (and_closes move (fate_closed answered.fate)) (option_and_then ledger old) (output.Reply answered.octets (closed_if serial (fate_closed answered.fate))) serial number true answered.octets mark octets sent out (inr (refl, inl (first_of move (fate_closed answered.fate))));
      again = λ ticked r said there here sealed. cc;
      none_beside = λ told. absurd told;
      keyed = λ named. absurd (none_marked serial named);
      counted = λ child closed said. cc;
      closed = λ told. inr (closed_said serial move answered.octets (fate_closed answered.fate) told);
      child = λ made named here. replied_child serial number answered.octets (fate_closed answered.fate) (made_by answered.fate) made named;
    }
effect_says old serial number keys (effect.Again octets) is = silent_tells old (plain_step (output.Request serial octets)) serial [] (request_silent serial octets serial)
effect_says old serial number keys (effect.AsksAuth next) is = let has = is.keyed next refl in identified_says old serial number next keys has.0 has.1
effect_says old serial number keys (effect.Counted ended) is =
    let move = Count number in
    record {
      sent = λ mark octets sent here out. absurd (none_marked mark sent);
      again = λ ticked r said there here sealed. cc;
      none_beside = λ told. absurd told;
      keyed = λ named. absurd (none_marked serial named);
      counted = λ child closed said. (number, first_of move (fate_closed ended.fate));
      closed = λ told. inr (ended_said serial move (made_by ended.fate) (fate_closed ended.fate) told);
      child = λ made named here. counted_child serial number (fate_closed ended.fate) (made_by ended.fate) made named;
    }

pub asking_says : (old : Option Association) (serial number : ℕ) (octets : Octets) → SaysNoMore old (asking_step serial number octets) serial (Issue number octets ∷ [])
asking_says old serial number octets =
    record {
      sent = λ mark out sent here said. sent_by_mark (Issue number octets ∷ []) (option_and_then ledger old) (output.Request serial octets) serial number false octets mark out sent said (inl (refl, (0, omega arith, refl)));
      again = λ ticked r said there here sealed. cc;
      none_beside = λ told. absurd told;
      keyed = λ named. absurd (none_marked serial named);
      counted = λ child closed said. cc;
      closed = λ told. absurd told;
      child = λ made named here. absurd (none_marked made named);
    }

pub half_open_says : (old : Option Association) (serial : ℕ) (octets : Octets) (keys : KeyRecord) → SaysNoMore old (half_open_step serial octets) serial (Make keys ∷ [])
half_open_says old serial octets keys =
    record {
      sent = λ mark out sent here said. absurd (none_marked mark sent);
      again = λ ticked r said there here sealed. cc;
      none_beside = λ told. absurd told;
      keyed = λ named. (keys, (0, omega arith, refl));
      counted = λ child closed said. cc;
      closed = λ told. absurd told;
      child = λ made named here. absurd (none_marked made named);
    }

-- ---- a tick

-- what is known of what goes out again, and of what is closed
pub record TickFacts : Type 0 where
  pub again : (now : ℕ) (old new : List Association) (table new_table : Database) (ticked : Ticked) → Ticks now old table ticked new new_table → All (IsOutstandingOf now old new) ticked.requests
  pub closed : (now : ℕ) (old : List Association) (table : Database) (ticked : Ticked) (new : List Association) (new_table : Database) → Ticks now old table ticked new new_table → ticked.closed ≡ flat_map (closed_of now) old
  pub sent : (now : ℕ) (old : List Association) (table : Database) (ticked : Ticked) (new : List Association) (new_table : Database) → Ticks now old table ticked new new_table → ticked.requests ≡ flat_map (sent_of now) old
  pub waits : (a : Association) (number : ℕ) (request : Request) → IsSoundlyHeld a → map.get a.outgoing.outstanding number ≡ Some request → (exchange_of request.purpose == IKE_SA_INIT) ≡ false → WaitsWith (ledger a) number request.octets

not_false : (b : Bool) → not b ≡ true → b ≡ false
not_false true is = absurd cc
not_false false is = refl

-- it waits at its IKE SA
pub resent_waits : (facts : TickFacts) (now : ℕ) (old : Held) (new : List Association) (table : Database) (r : Resent) → AreSound old table → (o : IsOutstandingOf now old.associations new r) → r.encrypted ≡ true
    → WaitsWith (ledger o.before) r.number o.request.octets
resent_waits facts now old new table r sound o sealed =
    let place = o.held_before in
    let held = slice_get_read old.associations (length old.associations) place.0 o.before refl place.1 (sym place.2) in
    let other : (exchange_of o.request.purpose == IKE_SA_INIT) ≡ false = not_false (exchange_of o.request.purpose == IKE_SA_INIT) (sym (ap (λ (x : Resent). x.encrypted) o.resent) ∙ sealed) in
    facts.waits o.before r.number o.request (sound.each place.0 o.before held).soundly o.there other

pub again_waits : (facts : TickFacts) (now : ℕ) (old : Held) (new : List Association) (table new_table : Database) (ticked : Ticked) (r : Resent) → AreSound old table → Ticks now old.associations table ticked new new_table
    → Contains ticked.requests r → r.encrypted ≡ true → WaitsWith (ledger_at old r.ike) r.number r.octets
again_waits facts now old new table new_table ticked r sound ticks there sealed =
    let o = All-contains (IsOutstandingOf now old.associations new) ticked.requests r (facts.again now old.associations new table new_table ticked ticks) there in
    let place = o.held_before in
    let held = slice_get_read old.associations (length old.associations) place.0 o.before refl place.1 (sym place.2) in
    let waits = resent_waits facts now old new table r sound o sealed in
    let found : association_of r.ike old.associations ≡ Some o.before =
    subst (λ (n : ℕ). association_of n old.associations ≡ Some o.before) (sym (ap (λ (x : Resent). x.ike) o.resent)) (sound_found old table place.0 o.before sound held) in
    subst (λ (x : Option Association). WaitsWith (option_and_then ledger x) r.number r.octets) (sym found)
    (subst (λ (octets : Octets). WaitsWith (ledger o.before) r.number octets) (sym (ap (λ (x : Resent). x.octets) o.resent)) waits)

-- one of these is closed
record Closing (now : ℕ) (xs : List Association) (serial : ℕ) : Type 0 where
  place : ℕ
  association : Association
  there : slice_get xs place ≡ Some association
  named : association.serial ≡ serial
  alive : is_over now association.phase ≡ false
  failed : has_failed now association ≡ true

none_contained : {T : Type 0} (x : T) → Contains [] x → ⊥
none_contained x is = let within = is.1 in omega (arith, within)

closing_here : (now serial : ℕ) (over failed : Bool) (a : Association) (rest : List Association) → is_over now a.phase ≡ over → has_failed now a ≡ failed → Contains (closed_by over failed a) serial → Closing now (a ∷ rest) serial
closing_here now serial true failed a rest over fails is = absurd (none_contained serial is)
closing_here now serial false false a rest over fails is = absurd (none_contained serial is)
closing_here now serial false true a rest over fails (zero, within, named) = record { place = 0; association = a; there = refl; named = named; alive = over; failed = fails }
closing_here now serial false true a rest over fails (suc k, within, named) = absurd (omega (arith, within))

closing_in : (now serial : ℕ) (xs : List Association) → Contains (flat_map (closed_of now) xs) serial → Closing now xs serial
closing_in now serial [] is = absurd (none_contained serial is)
closing_in now serial (a ∷ rest) is = elim (Contains-append_cases (closed_of now a) (flat_map (closed_of now) rest) serial is) [
  | inl here ↦ closing_here now serial (is_over now a.phase) (has_failed now a) a rest refl refl here
  | inr later ↦ (let found = closing_in now serial rest later in
      record { place = suc found.place; association = found.association; there = found.there; named = found.named; alive = found.alive; failed = found.failed })
]

-- the one with this serial is closed
pub record ClosesNow (now : ℕ) (a : Association) : Type 0 where
  pub alive : is_over now a.phase ≡ false
  pub failed : has_failed now a ≡ true

-- what is closed stood under its serial
closing_found : (facts : TickFacts) (now : ℕ) (old : Held) (new : List Association) (table new_table : Database) (ticked : Ticked) (serial : ℕ) → AreSound old table
    → Ticks now old.associations table ticked new new_table → Contains ticked.closed serial → (c : Association) × (association_of serial old.associations ≡ Some c) × ClosesNow now c
closing_found facts now old new table new_table ticked serial sound ticks told =
    let c = closing_in now serial old.associations (subst (λ (xs : List ℕ). Contains xs serial) (facts.closed now old.associations table ticked new new_table ticks) told) in (
      c.association,
      subst (λ (n : ℕ). association_of n old.associations ≡ Some c.association) c.named (sound_found old table c.place c.association sound c.there),
      record { alive = c.alive; failed = c.failed },
    )

pub closes_now : (facts : TickFacts) (now : ℕ) (old : Held) (new : List Association) (table new_table : Database) (ticked : Ticked) (serial : ℕ) (a : Association) → AreSound old table
    → Ticks now old.associations table ticked new new_table → association_of serial old.associations ≡ Some a → Contains ticked.closed serial → ClosesNow now a
closes_now facts now old new table new_table ticked serial a sound ticks stands told =
    let c = closing_found facts now old new table new_table ticked serial sound ticks told in
    subst (λ (x : Association). ClosesNow now x) (same_one c.0 a (sym c.1 ∙ stands)) c.2

pub closes_one : (facts : TickFacts) (now : ℕ) (old : Held) (new : List Association) (table new_table : Database) (ticked : Ticked) (serial : ℕ) → AreSound old table
    → Ticks now old.associations table ticked new new_table → association_of serial old.associations ≡ None → Contains ticked.closed serial → ⊥
closes_one facts now old new table new_table ticked serial sound ticks none told =
    let c = closing_found facts now old new table new_table ticked serial sound ticks told in
    none_marked c.0 (sym none ∙ c.1)

-- one whose requests go out again is held on, and its peer is not gone
pub record SendsNow (now : ℕ) (a : Association) : Type 0 where
  pub alive : is_over now a.phase ≡ false
  pub answered : has_failed now a ≡ false

record Sending (now : ℕ) (xs : List Association) (serial : ℕ) : Type 0 where
  place : ℕ
  association : Association
  there : slice_get xs place ≡ Some association
  named : association.serial ≡ serial
  sends : SendsNow now association

resent_named : (a : Association) (es : List (ℕ × Request)) (r : Resent) → Contains (list_map (resent a) es) r → a.serial ≡ r.ike
resent_named a [] r is = absurd (none_contained r is)
resent_named a (e ∷ es) r (zero, within, same) = ap (λ (x : Resent). x.ike) same
resent_named a (e ∷ es) r (suc k, within, same) = resent_named a es r (k, omega (arith, within), same)

sending_here : (now : ℕ) (r : Resent) (over failed : Bool) (a : Association) (rest : List Association) → is_over now a.phase ≡ over → has_failed now a ≡ failed → Contains (sent_by over failed now a) r → Sending now (a ∷ rest) r.ike
sending_here now r true failed a rest over fails is = absurd (none_contained r is)
sending_here now r false true a rest over fails is = absurd (none_contained r is)
sending_here now r false false a rest over fails is =
    record { place = 0; association = a; there = refl; named = resent_named a (filter (λ e. is_due now e.1) (outstanding_of a)) r is; sends = record { alive = over; answered = fails } }

sending_in : (now : ℕ) (r : Resent) (xs : List Association) → Contains (flat_map (sent_of now) xs) r → Sending now xs r.ike
sending_in now r [] is = absurd (none_contained r is)
sending_in now r (a ∷ rest) is = elim (Contains-append_cases (sent_of now a) (flat_map (sent_of now) rest) r is) [
  | inl here ↦ sending_here now r (is_over now a.phase) (has_failed now a) a rest refl refl here
  | inr later ↦ (let found = sending_in now r rest later in
      record { place = suc found.place; association = found.association; there = found.there; named = found.named; sends = found.sends })
]

pub sends_now : (facts : TickFacts) (now : ℕ) (old : Held) (new : List Association) (table new_table : Database) (ticked : Ticked) (serial : ℕ) (a : Association) → AreSound old table
    → Ticks now old.associations table ticked new new_table → association_of serial old.associations ≡ Some a → TellsAgain serial (output.Ticked ticked) → SendsNow now a
sends_now facts now old new table new_table ticked serial a sound ticks stands (r, there, named) =
    let c = sending_in now r old.associations (subst (λ (xs : List Resent). Contains xs r) (facts.sent now old.associations table ticked new new_table ticks) there) in
    let found : association_of serial old.associations ≡ Some c.association =
    subst (λ (n : ℕ). association_of n old.associations ≡ Some c.association) (c.named ∙ named) (sound_found old table c.place c.association sound c.there) in
    subst (λ (x : Association). SendsNow now x) (same_one c.association a (sym found ∙ stands)) c.sends

pub same_ticked : (one other : Ticked) → output.Ticked one ≡ output.Ticked other → one ≡ other
same_ticked one other is = cc

pub tick_says : (facts : TickFacts) (now : ℕ) (old : Held) (new : List Association) (table new_table : Database) (stepped : Stepped) (ticked : Ticked) (serial : ℕ) (moves : List Move) → AreSound old table
    → Ticks now old.associations table ticked new new_table → stepped ≡ plain_step (output.Ticked ticked) → (TellsClosed serial stepped.output → IsKeyless (association_of serial old.associations) ⊎ Contains moves Close)
    → (TellsAgain serial stepped.output → moves ≡ []) → SaysNoMore (association_of serial old.associations) stepped serial moves
tick_says facts now old new table new_table stepped ticked serial moves sound ticks said closes none =
    record {
      sent = λ mark octets sent here out. absurd (none_marked mark (sym (ap (λ (s : Stepped). s.trace.sent) said) ∙ sent));
      again = λ other r is there here sealed.
          let same : other ≡ ticked = same_ticked other ticked (sym is ∙ ap (λ (s : Stepped). s.output) said) in
          subst (λ (n : ℕ). WaitsWith (ledger_at old n) r.number r.octets) here
          (again_waits facts now old new table new_table ticked r sound ticks (subst (λ (x : Ticked). Contains x.requests r) same there) sealed);
      keyed = λ named. absurd (none_marked serial (sym (ap (λ (s : Stepped). s.trace.keyed) said) ∙ named));
      counted = λ child closed is. (let clash : output.Ticked ticked ≡ output.Counted serial child closed = sym (ap (λ (s : Stepped). s.output) said) ∙ is in cc);
      none_beside = none;
      closed = closes;
      child = λ made named here. absurd (none_marked made (sym (ap (λ (s : Stepped). s.trace.child) said) ∙ named));
    }
