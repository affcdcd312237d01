-- What a list of steps leaves of the two ends.
use Rattle.std.proofs.Common.{◌≡◌, ◌+◌, ◌≤◌, ◌++◌, ◌∷◌, ℕ, Bool, true, false, Option, Some, None, List, [], Contains, ap, subst, refl, sym, arith, inl, inr}
use Rattle.std.specs.List.{AllByRecursion}
use Rattle.std.proofs.lemmas.List.{append-nil, append_assoc}
use Rattle.std.proofs.lemmas.List.Elements.{All-contains, All-from_recursion, Contains-append_cases, Contains-append_left}
use Rattle.base.specs.Octets.{Octets}
use Rattle.suite.specs.declared.key_record.KeyRecord.{KeyRecord}
use Rattle.exchange.specs.declared.headers.Role.{Role}
use Rattle.effects.specs.Moves.{Close, Count, Issue, Lead, Ledger, Make, Move, Remove, TakeEffect}
use Rattle.lockstep.specs.Ends.{fresh_end, GoesOutAgain, IsKeptOrWaits, made_by, made_end, made_in, sent_by, sent_in, Deed, Does, End, Entry}
use Rattle.lockstep.specs.Histories.{AreGenuine, AtOne, AtOther, Ends, IsGenuine, IsGenuineAtOnce, IsGenuineMove, IsHistory, IsRun, Step, Takes}
use Rattle.lockstep.specs.Soundness.{AreNewEnds, AreSoundEnds, HoldsSoundly, IsNewEnd, IsSoundEnd}
use Rattle.lockstep.proofs.LogLemmas.{AllIn, sound_in, sound_later}
use Rattle.lockstep.proofs.MoveLemmas.{end_of, first_sound, nothing_once, sound_after}

-- ---- the moves of a step

none_more : (made : ℕ) → made ≡ made + 0
none_more made = omega arith

pub sound_led : (moves : List Move) (old new : Option Ledger) (made : ℕ) (sent others : List Entry) → Lead moves old new → AreGenuine others moves → made + made_in moves ≤ 1
    → IsSoundEnd (end_of old made sent) others → IsSoundEnd (end_of new (made + made_in moves) (sent ++ sent_in moves)) others
sound_led [] old new made sent others lead genuine once sound =
    subst (λ (e : End). IsSoundEnd e others) (λ i. end_of (sym lead i) (none_more made i) (sym (append-nil sent) i)) sound
sound_led (move ∷ moves) old new made sent others lead genuine once sound =
    let between = lead.0 in
    let so_far : IsSoundEnd (end_of between (made + made_by move) (sent ++ sent_by move)) others = sound_after move old between made sent others lead.1 genuine.0 (omega (arith, once)) sound in
    let at_end : IsSoundEnd (end_of new (made + made_by move + made_in moves) (sent ++ sent_by move ++ sent_in moves)) others =
    sound_led moves between new (made + made_by move) (sent ++ sent_by move) others lead.2 genuine.1 (omega (arith, once)) so_far in
    let times : made + made_by move + made_in moves ≡ made + (made_by move + made_in moves) = omega arith in
    subst (λ (e : End). IsSoundEnd e others) (λ i. end_of new (times i) (append_assoc sent (sent_by move) (sent_in moves) i)) at_end

-- ---- what goes out again

pub kept_or_waits : (response : Bool) (old : Option Ledger) (number : ℕ) (octets : Octets) (sent others : List Entry) → HoldsSoundly old sent others → IsKeptOrWaits response old number octets
    → Contains sent (record { response = response; number = number; octets = octets })
kept_or_waits true None number octets sent others holds is = absurd is
kept_or_waits true (Some l) number octets sent others holds is = holds.own.kept number octets is
kept_or_waits false None number octets sent others holds is = absurd is
kept_or_waits false (Some l) number octets sent others holds is = holds.own.waits number octets is

pub again_sent : (old : End) (others again : List Entry) → IsSoundEnd old others → AllByRecursion (GoesOutAgain old.ledger) again → AllIn again old.sent
again_sent old others again sound repeats entry there =
    kept_or_waits entry.response old.ledger entry.number entry.octets old.sent others sound.holds
    (All-contains (GoesOutAgain old.ledger) again entry (All-from_recursion (GoesOutAgain old.ledger) again repeats) there)

-- what was there already adds nothing
nothing_more : (sent again : List Entry) → AllIn again sent → AllIn (sent ++ again) sent
nothing_more sent again all entry there = elim (Contains-append_cases sent again entry there) [
  | inl before ↦ before
  | inr now ↦ all entry now
]

pub sound_done : (deed : Deed) (old new : End) (others : List Entry) → Does deed old new → AreGenuine others deed.moves → new.made ≤ 1 → IsSoundEnd old others → IsSoundEnd new others
sound_done deed old new others does genuine once sound =
    let log : List Entry = old.sent ++ sent_in deed.moves in
    let made = does.made in
    let led : IsSoundEnd (end_of new.ledger (old.made + made_in deed.moves) log) others =
    sound_led deed.moves old.ledger new.ledger old.made old.sent others does.lead genuine (omega (arith, once, made)) sound in
    let repeated : AllIn deed.again log = (λ entry there. Contains-append_left old.sent (sent_in deed.moves) entry (again_sent old others deed.again sound does.repeats entry there)) in
    let at_end : IsSoundEnd (end_of new.ledger (old.made + made_in deed.moves) (log ++ deed.again)) others =
    sound_in new.ledger (old.made + made_in deed.moves) log (log ++ deed.again) others (λ entry there. Contains-append_left log deed.again entry there)
    (nothing_more log deed.again repeated) led in
    subst (λ (e : End). IsSoundEnd e others) (λ i. end_of new.ledger (sym made i) (sym does.sent i)) at_end

-- ---- logs and counts grow

pub record Grows (old new : End) : Type 0 where
  pub made : old.made ≤ new.made
  pub sent : AllIn old.sent new.sent

grows_not : (old new : End) → new ≡ old → Grows old new
grows_not old new same = subst (λ (e : End). Grows old e) (sym same) (record { made = omega arith; sent = λ entry there. there })

grows_again : (a b c : End) → Grows a b → Grows b c → Grows a c
grows_again a b c one two = record { made = omega (arith, one.made, two.made); sent = λ entry there. two.sent entry (one.sent entry there) }

done_grows : (deed : Deed) (old new : End) → Does deed old new → Grows old new
done_grows deed old new does = record {
  made = (let is = does.made in omega arith);
  sent = λ entry there. subst (λ (log : List Entry). Contains log entry) (sym does.sent)
      (Contains-append_left (old.sent ++ sent_in deed.moves) deed.again entry (Contains-append_left old.sent (sent_in deed.moves) entry there));
}

pub record BothGrow (old new : Ends) : Type 0 where
  pub one : Grows old.one new.one
  pub other : Grows old.other new.other

step_grows : (step : Step) (old new : Ends) → Takes step old new → BothGrow old new
step_grows (AtOne deed) old new takes = record { one = done_grows deed old.one new.one takes.0; other = grows_not old.other new.other takes.1 }
step_grows (AtOther deed) old new takes = record { one = grows_not old.one new.one takes.1; other = done_grows deed old.other new.other takes.0 }

pub run_grows : (steps : List Step) (old new : Ends) → IsRun old steps new → BothGrow old new
run_grows [] old new run = record { one = grows_not old.one new.one (ap (λ (e : Ends). e.one) run); other = grows_not old.other new.other (ap (λ (e : Ends). e.other) run) }
run_grows (step ∷ steps) old new run =
    let first = step_grows step old run.0 run.1 in
    let rest = run_grows steps run.0 new run.2 in
    record { one = grows_again old.one run.0.one new.one first.one rest.one; other = grows_again old.other run.0.other new.other first.other rest.other }

-- ---- the two ends, where this is what each will have sent

record SoundTill (ends last : Ends) : Type 0 where
  one : IsSoundEnd ends.one last.other.sent
  other : IsSoundEnd ends.other last.one.sent

step_sound : (step : Step) (steps : List Step) (old new last : Ends) → Takes step old new → IsGenuine last (step ∷ steps) → new.one.made ≤ 1 → new.other.made ≤ 1 → SoundTill old last
    → SoundTill new last
step_sound (AtOne deed) steps old new last takes genuine one other sound = record {
  one = sound_done deed old.one new.one last.other.sent takes.0 genuine.0 one sound.one;
  other = subst (λ (e : End). IsSoundEnd e last.one.sent) (sym takes.1) sound.other;
}
step_sound (AtOther deed) steps old new last takes genuine one other sound = record {
  one = subst (λ (e : End). IsSoundEnd e last.other.sent) (sym takes.1) sound.one;
  other = sound_done deed old.other new.other last.one.sent takes.0 genuine.0 other sound.other;
}

genuine_rest : (step : Step) (steps : List Step) (last : Ends) → IsGenuine last (step ∷ steps) → IsGenuine last steps
genuine_rest (AtOne deed) steps last genuine = genuine.1
genuine_rest (AtOther deed) steps last genuine = genuine.1

run_sound : (steps : List Step) (old new last : Ends) → IsRun old steps new → IsGenuine last steps → new.one.made ≤ 1 → new.other.made ≤ 1 → SoundTill old last → SoundTill new last
run_sound [] old new last run genuine one other sound = subst (λ (e : Ends). SoundTill e last) (sym run) sound
run_sound (step ∷ steps) old new last run genuine one other sound =
    let grow = run_grows steps run.0 new run.2 in
    let one_made = grow.one.made in
    let other_made = grow.other.made in
    run_sound steps run.0 new last run.2 (genuine_rest step steps last genuine) one other
    (step_sound step steps old run.0 last run.1 genuine (omega arith) (omega arith) sound)

pub stays_sound : (old new : Ends) (steps : List Step) → AreSoundEnds old → IsHistory old steps new → AreSoundEnds new
stays_sound old new steps sound is =
    let grow = run_grows steps old new is.run in
    let at_first : SoundTill old new = record {
      one = sound_later old.one old.other.sent new.other.sent grow.other.sent sound.one;
      other = sound_later old.other old.one.sent new.one.sent grow.one.sent sound.other;
    } in
    let at_last = run_sound steps old new new is.run is.genuine is.one_distinct is.other_distinct at_first in
    record { one = at_last.one; other = at_last.other }

-- ---- as the list begins

nothing_there : (entry : Entry) → ¬ Contains [] entry
nothing_there entry there = (let less = there.1 in absurd (omega arith))

fresh_sound : (others : List Entry) → IsSoundEnd fresh_end others
fresh_sound others = record { unmade = λ none. (refl, nothing_there); once = nothing_once [] nothing_there; holds = tt }

made_end_sound : (keys : KeyRecord) (role : Role) (others : List Entry) → IsSoundEnd (made_end keys role) others
made_end_sound keys role others = record { unmade = λ none. absurd (omega arith); once = nothing_once [] nothing_there; holds = first_sound keys role [] others nothing_there }

new_sound : (e : End) (others : List Entry) → IsNewEnd e → IsSoundEnd e others
new_sound e others (inl is) = subst (λ (x : End). IsSoundEnd x others) (sym is) (fresh_sound others)
new_sound e others (inr is) = subst (λ (x : End). IsSoundEnd x others) (sym is.2) (made_end_sound is.0 is.1 others)

pub begins_sound : (ends : Ends) → AreNewEnds ends → AreSoundEnds ends
begins_sound ends new = record { one = new_sound ends.one ends.other.sent new.one; other = new_sound ends.other ends.one.sent new.other }

-- ---- what was sent before is sent

genuine_move_later : (move : Move) (sent later : List Entry) → AllIn sent later → IsGenuineMove sent move → IsGenuineMove later move
genuine_move_later (Make keys) sent later all genuine = tt
genuine_move_later (Issue number octets) sent later all genuine = tt
genuine_move_later (Count number) sent later all genuine = record { octets = genuine.octets; there = all _ genuine.there }
genuine_move_later (TakeEffect number reply) sent later all genuine = record { octets = genuine.octets; there = all _ genuine.there }
genuine_move_later Close sent later all genuine = tt
genuine_move_later Remove sent later all genuine = tt

genuine_later : (moves : List Move) (sent later : List Entry) → AllIn sent later → AreGenuine sent moves → AreGenuine later moves
genuine_later [] sent later all genuine = tt
genuine_later (move ∷ moves) sent later all genuine = (genuine_move_later move sent later all genuine.0, genuine_later moves sent later all genuine.1)

pub genuine_at_last : (old new : Ends) (steps : List Step) → IsRun old steps new → IsGenuineAtOnce old.one.sent old.other.sent steps → IsGenuine new steps
genuine_at_last old new [] run genuine = tt
genuine_at_last old new (AtOne deed ∷ steps) run genuine =
    let between = run.0 in
    let grow = run_grows (AtOne deed ∷ steps) old new run in
    let rest : IsGenuineAtOnce between.one.sent between.other.sent steps =
    subst (λ (log : List Entry). IsGenuineAtOnce between.one.sent log steps) (ap (λ (e : End). e.sent) (sym run.1.1))
    (subst (λ (log : List Entry). IsGenuineAtOnce log old.other.sent steps) (sym run.1.0.sent) genuine.1) in
    (genuine_later deed.moves old.other.sent new.other.sent grow.other.sent genuine.0, genuine_at_last between new steps run.2 rest)
genuine_at_last old new (AtOther deed ∷ steps) run genuine =
    let between = run.0 in
    let grow = run_grows (AtOther deed ∷ steps) old new run in
    let rest : IsGenuineAtOnce between.one.sent between.other.sent steps =
    subst (λ (log : List Entry). IsGenuineAtOnce log between.other.sent steps) (ap (λ (e : End). e.sent) (sym run.1.1))
    (subst (λ (log : List Entry). IsGenuineAtOnce old.one.sent log steps) (sym run.1.0.sent) genuine.1) in
    (genuine_later deed.moves old.one.sent new.one.sent grow.one.sent genuine.0, genuine_at_last between new steps run.2 rest)

one_step_genuine : (step : Step) (old new : Ends) → Takes step old new → IsGenuineAtOnce old.one.sent old.other.sent (step ∷ []) → IsGenuine new (step ∷ [])
one_step_genuine step old new takes genuine = genuine_at_last old new (step ∷ []) (new, takes, refl) genuine

pub step_stays_sound : (old new : Ends) (step : Step) → AreSoundEnds old → Takes step old new → IsGenuineAtOnce old.one.sent old.other.sent (step ∷ []) → new.one.made ≤ 1 → new.other.made ≤ 1
    → AreSoundEnds new
step_stays_sound old new step sound takes genuine one other =
    stays_sound old new (step ∷ []) sound (record {
      run = (new, takes, refl);
      genuine = one_step_genuine step old new takes genuine;
      one_distinct = one;
      other_distinct = other;
    })
