-- What follows of two sound ends, in each direction.
use Rattle.std.proofs.Common.{◌≡◌, ◌⊎◌, ◌↔◌, ◌+◌, ◌-◌, ◌<◌, ◌≤◌, ℕ, zero, suc, Option, Some, List, ap, subst, refl, sym, ◌∙◌, arith, inl, inr}
use Rattle.std.specs.Prelude.{if◌then◌else◌}
use Rattle.std.proofs.lemmas.Bool.Decides.{leb_tells}
use Rattle.exchange.specs.Headers.{other_role}
use Rattle.exchange.specs.declared.headers.Role.{Role}
use Rattle.exchange.specs.declared.headers.Role.TheVariants.{Initiator, Responder}
use Rattle.requests.specs.Numbers.{HasNumber, IsGap, LacksNumber, NumberSet}
use Rattle.effects.specs.Moves.{Ledger}
use Rattle.lockstep.specs.Ends.{Entry}
use Rattle.lockstep.specs.Histories.{Ends, IsHistory, Step}
use Rattle.lockstep.specs.Promises.{AreHeld, AreInStep, AreIssuedAndInEffect, AreWithinWindows, lacking_below}
use Rattle.lockstep.specs.Soundness.{AreNewEnds, AreSoundEnds, HasAnswered, HasAsked, HoldsSoundly, IsSoundLedger}
use Rattle.lockstep.proofs.NumberLemmas.{above_gap, in_or_out, not_both}
use Rattle.lockstep.proofs.RunLemmas.{begins_sound, stays_sound}

other_of_other : (role : Role) → other_role (other_role role) ≡ role
other_of_other Initiator = refl
other_of_other Responder = refl

lacks_if_not : (s : NumberSet) (n : ℕ) → ¬ HasNumber s n → LacksNumber s n
lacks_if_not s n not = elim (in_or_out s n) [
  | inl has ↦ absurd (not has)
  | inr lacks ↦ lacks
]

-- what is in the set lies below its gap, where none is from one above the gap on
below_gap : (s : NumberSet) (gap : ℕ) → IsGap s gap → ((n : ℕ) → gap + 1 ≤ n → LacksNumber s n) → (n : ℕ) → HasNumber s n ↔ (n < gap)
below_gap s gap is none n = (
  λ has. elim (leb_tells (gap + 1) n) [
    | inl (_, above) ↦ absurd (not_both s n has (none n above))
    | inr (_, near) ↦ elim (leb_tells gap n) [
      | inl (_, here) ↦ absurd (let same : n ≡ gap = omega arith in not_both s n has (subst (λ (k : ℕ). LacksNumber s k) (sym same) is.missing))
      | inr (_, less) ↦ less
    ]
  ],
  λ less. is.below n less,
)

-- of the numbers below an end as many at most are not in the set as lie from the gap on
few_lacking : (s : NumberSet) (gap end : ℕ) → IsGap s gap → lacking_below s end ≤ end - gap
few_lacking s gap zero is = omega arith
few_lacking s gap (suc n) is =
    let before = few_lacking s gap n is in
    elim (in_or_out s n) [
      | inl has ↦ (let none : lacking_below s (suc n) ≡ 0 + lacking_below s n = ap (λ b. (if b then 0 else 1) + lacking_below s n) has in omega (arith, before, none))
      | inr lacks ↦
          (let one : lacking_below s (suc n) ≡ 1 + lacking_below s n = ap (λ b. (if b then 0 else 1) + lacking_below s n) lacks in
          let above = above_gap s gap n is lacks in
          omega (arith, before, one, above))
    ]

module _ (asking answering : Ledger) (sent others : List Entry) (roles : answering.role ≡ other_role asking.role)
    (one : IsSoundLedger asking sent others) (other : IsSoundLedger answering others sent) where
  same_role : other_role answering.role ≡ asking.role
  same_role = ap other_role roles ∙ other_of_other asking.role

  pub issued_and_in_effect : AreIssuedAndInEffect asking answering
  issued_and_in_effect = record {
    issued = λ n has. one.own.asked n (subst (λ (role : Role). HasAsked role sent n) same_role (other.peers.in_effect n has));
    in_effect = λ n has. other.own.answered n (subst (λ (role : Role). HasAnswered role others n) (sym same_role) (one.peers.answered n has));
  }

  unanswered_behind : one.windows.unanswered ≤ other.windows.gap
  unanswered_behind =
      above_gap asking.answered one.windows.unanswered other.windows.gap one.windows.is_unanswered
      (lacks_if_not asking.answered other.windows.gap (λ has. not_both answering.in_effect other.windows.gap (issued_and_in_effect.in_effect other.windows.gap has) other.windows.is_gap.missing))

  pub within_windows : AreWithinWindows asking answering
  within_windows =
      let mine = one.windows in
      let theirs = other.windows in
      let within = mine.within in
      record {
        gap = theirs.gap;
        is_gap = theirs.is_gap;
        size = theirs.size;
        none_above = theirs.none_above;
        unanswered = mine.unanswered;
        is_unanswered = mine.is_unanswered;
        window = mine.window;
        all_within = mine.within;
        under_way = λ n is. (above_gap asking.answered mine.unanswered n mine.is_unanswered is.unanswered, let less = is.issued in omega (arith, less, within));
        few = omega (arith, within, few_lacking asking.answered mine.unanswered asking.next mine.is_unanswered);
        behind = unanswered_behind;
      }

  pub in_step : asking.window ≡ 1 → AreInStep asking answering
  in_step window =
      let mine = one.windows in
      let theirs = other.windows in
      let within = mine.within in
      let no_more_issued = above_gap answering.in_effect theirs.gap asking.next theirs.is_gap
      (lacks_if_not answering.in_effect asking.next (λ has. let less = issued_and_in_effect.issued asking.next has in omega (arith, less))) in
      record {
        taken = theirs.gap;
        in_effect = below_gap answering.in_effect theirs.gap theirs.is_gap
            (λ n above. lacks_if_not answering.in_effect n
            (λ has. let less = issued_and_in_effect.issued n has in omega (arith, above, less, within, window, unanswered_behind)));
        counted = mine.unanswered;
        answered = below_gap asking.answered mine.unanswered mine.is_unanswered
            (λ n above. lacks_if_not asking.answered n (λ has. let less = mine.answered_issued n has in omega (arith, above, less, within, window)));
        no_more_counted = unanswered_behind;
        no_more_issued = no_more_issued;
        one_under_way = omega (arith, within, window);
        one_ahead = omega (arith, within, window, no_more_issued);
      }

-- ---- the two directions

pub held_soundly : (o : Option Ledger) (l : Ledger) (sent others : List Entry) → o ≡ Some l → HoldsSoundly o sent others → IsSoundLedger l sent others
held_soundly o l sent others is holds = subst (λ (x : Option Ledger). HoldsSoundly x sent others) is holds

pub record Direction (asking answering : Ledger) : Type 0 where
  pub sent : List Entry
  pub others : List Entry
  pub roles : answering.role ≡ other_role asking.role
  pub one : IsSoundLedger asking sent others
  pub other : IsSoundLedger answering others sent

direction_of : (ends : Ends) (asking answering : Ledger) → AreSoundEnds ends → answering.role ≡ other_role asking.role
    → (((ends.one.ledger ≡ Some asking) × (ends.other.ledger ≡ Some answering)) ⊎ ((ends.other.ledger ≡ Some asking) × (ends.one.ledger ≡ Some answering)))
    → Direction asking answering
direction_of ends asking answering sound roles (inl held) = record {
  sent = ends.one.sent;
  others = ends.other.sent;
  roles = roles;
  one = held_soundly ends.one.ledger asking ends.one.sent ends.other.sent held.0 sound.one.holds;
  other = held_soundly ends.other.ledger answering ends.other.sent ends.one.sent held.1 sound.other.holds;
}
direction_of ends asking answering sound roles (inr held) = record {
  sent = ends.other.sent;
  others = ends.one.sent;
  roles = roles;
  one = held_soundly ends.other.ledger asking ends.other.sent ends.one.sent held.0 sound.other.holds;
  other = held_soundly ends.one.ledger answering ends.one.sent ends.other.sent held.1 sound.one.holds;
}

pub sound_issued : (ends : Ends) (asking answering : Ledger) → AreSoundEnds ends → AreHeld ends asking answering → AreIssuedAndInEffect asking answering
sound_issued ends asking answering sound held =
    let d = direction_of ends asking answering sound held.roles held.held in
    issued_and_in_effect asking answering d.sent d.others d.roles d.one d.other

pub sound_windows : (ends : Ends) (asking answering : Ledger) → AreSoundEnds ends → AreHeld ends asking answering → AreWithinWindows asking answering
sound_windows ends asking answering sound held =
    let d = direction_of ends asking answering sound held.roles held.held in
    within_windows asking answering d.sent d.others d.roles d.one d.other

pub sound_in_step : (ends : Ends) (asking answering : Ledger) → AreSoundEnds ends → AreHeld ends asking answering → asking.window ≡ 1 → AreInStep asking answering
sound_in_step ends asking answering sound held window =
    let d = direction_of ends asking answering sound held.roles held.held in
    in_step asking answering d.sent d.others d.roles d.one d.other window

-- ---- over a list of steps

pub always_sound : (old new : Ends) (steps : List Step) → AreNewEnds old → IsHistory old steps new → AreSoundEnds new
always_sound old new steps begun is = stays_sound old new steps (begins_sound old begun) is
