-- What a memory holds, by the notes at its places.
use Rattle.std.proofs.Common.{◌≡◌, ◌≢◌, ◌⊎◌, ◌+◌, ◌<◌, ◌∙◌, ℕ, Bool, true, false, ltb, cond, List, Option, Some, None, inl, inr, refl, sym, ap, subst, arith, length, get_or, get_or-set_same, get_or-set_other, length-set, nat_eq}
use Rattle.std.proofs.Math.ListN.{replicate, set}
use Rattle.std.specs.Prelude.{map, slice_get}
use Rattle.std.specs.Option.{option_map}
use Rattle.std.proofs.lemmas.Bool.Decides.{eqb_tells, leb_tells, nat_tests}
use Rattle.std.proofs.lemmas.Grind.{get_or-set_at}
use Rattle.std.proofs.lemmas.List.{get_or-replicate, length-replicate}
use Rattle.std.proofs.lemmas.Option.{slice_get-map, slice_get_past, slice_get_within, get_or_from_slice_get, slice_get-get_or}
use Rattle.policy.specs.declared.entry.Entry.{Entry}
use Rattle.policy.specs.declared.flow.Flow.{Flow}
use Rattle.sadb.specs.Database.{PairMap}
use Rattle.flows.specs.declared.memory.Answer.{Answer}
use Rattle.flows.specs.declared.memory.Note.{Note}
use Rattle.flows.specs.Memory.{AllRight, answer_in, Holds, HoldsNoMore, IsInPlace, IsKept, Notes, StaysButAt}
use Rattle.flows.specs.Places.{place_of}
use Rattle.flows.specs.declared.treatment.Treatment.{Treatment}
use Rattle.flows.specs.Treatments.{IsTreatment}

-- the note by which a place shows an answer
pub record Shows (epoch : ℕ) (kept : Option Note) (answer : Answer) : Type 0 where
  pub note : Note
  pub is : kept ≡ Some note
  pub present : note.epoch ≡ epoch
  pub same : note.answer ≡ answer

shows : (epoch : ℕ) (kept : Option Note) (answer : Answer) → answer_in epoch kept ≡ Some answer → Shows epoch kept answer
shows epoch None answer is = absurd cc
shows epoch (Some note) answer is =
    elim (nat_eq note.epoch epoch) as (λ b. nat_eq note.epoch epoch ≡ b → cond b (Some note.answer) None ≡ Some answer → Shows epoch (Some note) answer) [
      | true ↦ λ same shown. record { note = note; is = refl; present = grind (arith, nat_tests); same = cc }
      | false ↦ λ same shown. absurd cc
    ] refl is

shown_by : (epoch : ℕ) (note : Note) → note.epoch ≡ epoch → answer_in epoch (Some note) ≡ Some note.answer
shown_by epoch note is =
    elim (nat_eq note.epoch epoch) as (λ b. nat_eq note.epoch epoch ≡ b → cond b (Some note.answer) None ≡ Some note.answer) [
      | true ↦ λ same. refl
      | false ↦ λ same. absurd (grind (arith, nat_tests))
    ] refl

-- a place whose note shows an answer
pub record Stands (epoch : ℕ) (places : List (Option Note)) (place : ℕ) (answer : Answer) : Type 0 where
  pub note : Note
  pub there : slice_get places place ≡ Some (Some note)
  pub present : note.epoch ≡ epoch
  pub same : note.answer ≡ answer

stands_by : (epoch : ℕ) (places : List (Option Note)) (place : ℕ) (answer : Answer) (kept : Option (Option Note)) → slice_get places place ≡ kept
    → option_map (answer_in epoch) kept ≡ Some (Some answer) → Stands epoch places place answer
stands_by epoch places place answer None at is = absurd cc
stands_by epoch places place answer (Some kept) at is =
    let shown : Shows epoch kept answer = shows epoch kept answer (cc) in
    record { note = shown.note; there = at ∙ ap Some shown.is; present = shown.present; same = shown.same }

pub stands : (epoch : ℕ) (places : List (Option Note)) (place : ℕ) (answer : Answer) → slice_get (map (answer_in epoch) places) place ≡ Some (Some answer) → Stands epoch places place answer
stands epoch places place answer is = stands_by epoch places place answer (slice_get places place) refl (sym (slice_get-map (answer_in epoch) places place) ∙ is)

-- and back
pub shown_at : (epoch : ℕ) (places : List (Option Note)) (place : ℕ) (answer : Answer) → Stands epoch places place answer → slice_get (map (answer_in epoch) places) place ≡ Some (Some answer)
shown_at epoch places place answer is =
    slice_get-map (answer_in epoch) places place ∙ ap (option_map (answer_in epoch)) is.there ∙ ap Some (shown_by epoch is.note is.present ∙ ap Some is.same)

-- a place of a memory that holds an answer
record IsNoted (epoch : ℕ) (places : List (Option Note)) (answer : Answer) : Type 0 where
  place : ℕ
  note : Note
  there : slice_get places place ≡ Some (Some note)
  present : note.epoch ≡ epoch
  same : note.answer ≡ answer

noted : (epoch : ℕ) (places : List (Option Note)) (answer : Answer) → Holds (map (answer_in epoch) places) answer → IsNoted epoch places answer
noted epoch places answer is =
    let it : Stands epoch places is.place answer = stands epoch places is.place answer is.there in
    record { place = is.place; note = it.note; there = it.there; present = it.present; same = it.same }

holds : (epoch : ℕ) (places : List (Option Note)) (answer : Answer) → IsNoted epoch places answer → Holds (map (answer_in epoch) places) answer
holds epoch places answer is =
    record {
      place = is.place;
      there = shown_at epoch places is.place answer (record { note = is.note; there = is.there; present = is.present; same = is.same });
    }

-- ---- forgetting

pub forgotten : (epoch : ℕ) (places : List (Option Note)) → IsKept epoch places → (answer : Answer) → Holds (map (answer_in (epoch + 1)) places) answer → ⊥
forgotten epoch places kept answer held =
    let note = noted (epoch + 1) places answer held in
    let past = kept.past note.place note.note note.there in
    let present = note.present in
    omega arith

-- what holds of no note holds of an empty place alone
pub none_alone : (T : Option Note → Type 0) → ((note : Note) → T (Some note) → ⊥) → (kept : Option Note) → T kept → kept ≡ None
none_alone T never None is = refl
none_alone T never (Some note) is = absurd (never note is)

-- where all places are empty, nothing is held
pub emptied : (epoch count : ℕ) (places : List (Option Note)) → places ≡ replicate count None → (answer : Answer) → Holds (map (answer_in epoch) places) answer → ⊥
emptied epoch count places is answer held =
    let note = noted epoch places answer held in
    let within : note.place < length places = slice_get_within places note.place (Some note.note) note.there in
    let found : get_or places note.place (Some note.note) ≡ Some note.note = get_or_from_slice_get places note.place (Some note.note) (Some note.note) note.there in
    let below : note.place < count = subst (λ (n : ℕ). note.place < n) (ap (λ (l : List (Option Note)). length l) is ∙ length-replicate count None) within in
    let empty : get_or places note.place (Some note.note) ≡ None =
    ap (λ (l : List (Option Note)). get_or l note.place (Some note.note)) is ∙ get_or-replicate count note.place None (Some note.note) below in
    absurd cc

-- ---- asking

-- what is recalled stands at its place
pub recalled : (epoch : ℕ) (places : List (Option Note)) (place : ℕ) (kept : Option Note) (note : Note) (flow : Flow) → place < length places → kept ≡ get_or places place kept → kept ≡ Some note
    → note.epoch ≡ epoch → note.answer.flow ≡ flow → slice_get (map (answer_in epoch) places) place ≡ Some (Some (record { flow = flow; treatment = note.answer.treatment }))
recalled epoch places place kept note flow within at is present same =
    shown_at epoch places place (record { flow = flow; treatment = note.answer.treatment }) (record {
      note = note;
      there = slice_get-get_or places place kept within ∙ ap Some (sym at ∙ is);
      present = present;
      same = ap (λ (f : Flow). record { flow = f; treatment = note.answer.treatment }) same;
    })

pub one_note : (a b : Note) → Some a ≡ Some b → a ≡ b
one_note a b is = cc

-- what stands at a place is what is recalled there
pub shows_it : (epoch : ℕ) (places : List (Option Note)) (place : ℕ) (kept : Option Note) (answer : Answer) → place < length places → kept ≡ get_or places place kept
    → slice_get (map (answer_in epoch) places) place ≡ Some (Some answer) → Shows epoch kept answer
shows_it epoch places place kept answer within at is =
    let there : slice_get places place ≡ Some kept = slice_get-get_or places place kept within ∙ ap Some (sym at) in
    let shown : Some (answer_in epoch kept) ≡ Some (Some answer) = sym (slice_get-map (answer_in epoch) places place ∙ ap (option_map (answer_in epoch)) there) ∙ is in
    shows epoch kept answer (cc)

-- The same of a memory that is looked at, where its places were read.
pub shows_in_place : (epoch : ℕ) (places read : List (Option Note)) (memory : List (Option Answer)) (flow : Flow) (treatment : Treatment) (place : ℕ) (kept : Option Note) → read ≡ places
    → map (answer_in epoch) places ≡ memory → place ≡ place_of flow → place < length read → kept ≡ get_or read place kept
    → IsInPlace memory (record { flow = flow; treatment = treatment }) → Shows epoch kept (record { flow = flow; treatment = treatment })
shows_in_place epoch places read memory flow treatment place kept read_is memory_is place_is within at is =
    shows_it epoch places place kept (record { flow = flow; treatment = treatment })
    (subst (λ (l : List (Option Note)). place < length l) read_is within)
    (subst (λ (l : List (Option Note)). kept ≡ get_or l place kept) read_is at)
    (subst (λ (p : ℕ). slice_get (map (answer_in epoch) places) p ≡ Some (Some (record { flow = flow; treatment = treatment }))) (sym place_is)
    (subst (λ (m : List (Option Answer)). IsInPlace m (record { flow = flow; treatment = treatment })) (sym memory_is) is))

-- and nothing stands past the places
pub nothing_past : (epoch : ℕ) (places read : List (Option Note)) (memory : List (Option Answer)) (answer : Answer) (place : ℕ) → read ≡ places → map (answer_in epoch) places ≡ memory
    → place ≡ place_of answer.flow → false ≡ ltb place (length read) → IsInPlace memory answer → ⊥
nothing_past epoch places read memory answer place read_is memory_is place_is past is =
    let stood : Stands epoch places place answer = stands epoch places place answer
    (subst (λ (p : ℕ). slice_get (map (answer_in epoch) places) p ≡ Some (Some answer)) (sym place_is)
    (subst (λ (m : List (Option Answer)). IsInPlace m answer) (sym memory_is) is)) in
    let within : place < length places = slice_get_within places place (Some stood.note) stood.there in
    let beyond : false ≡ ltb place (length places) = subst (λ (l : List (Option Note)). false ≡ ltb place (length l)) read_is past in
    grind (arith, nat_tests)

-- ---- making the places

-- each note was there
abbrev pub HasNoMore : List (Option Note) → List (Option Note) → Type 0
HasNoMore old new = (place : ℕ) (note : Note) → slice_get new place ≡ Some (Some note) → slice_get old place ≡ Some (Some note)

pub holds_no_more : (epoch : ℕ) (old new : List (Option Note)) → HasNoMore old new → HoldsNoMore (map (answer_in epoch) old) (map (answer_in epoch) new)
holds_no_more epoch old new no_more = λ answer held.
    (let note = noted epoch new answer held in
    holds epoch old answer (record { place = note.place; note = note.note; there = no_more note.place note.note note.there; present = note.present; same = note.same }))

-- the places are made, all empty, or there was no memory for them
pub record IsMade (made : Bool) (count : ℕ) (old new : List (Option Note)) : Type 0 where
  pub none : length old ≡ 0
  pub all : length new ≡ cond made count (length old)
  pub empty : (k : ℕ) (d : Option Note) → true ≡ made → k < count → get_or new k d ≡ None

all_or_none : (made : Bool) (count : ℕ) (old new : List (Option Note)) → IsMade made count old new → ((length new ≡ count) × (true ≡ made)) ⊎ (length new ≡ 0)
all_or_none true count old new is = inl (is.all, refl)
all_or_none false count old new is = inr (is.all ∙ is.none)

pub made_empty : (made : Bool) (count : ℕ) (old new : List (Option Note)) → IsMade made count old new → HasNoMore old new
made_empty made count old new is = λ place note there.
    (let within : place < length new = slice_get_within new place (Some note) there in
    let found : get_or new place (Some note) ≡ Some note = get_or_from_slice_get new place (Some note) (Some note) there in
    elim (all_or_none made count old new is) [
      | inl all ↦
          (let none = is.none in
          let count_is = all.0 in
          let empty : get_or new place (Some note) ≡ None = is.empty place (Some note) all.1 (omega arith) in
          absurd cc)
      | inr nothing ↦ absurd (omega arith)
    ])

pub made_kept : (epoch : ℕ) (made : Bool) (count : ℕ) (old new : List (Option Note)) → count ≡ 4096 → IsMade made count old new → IsKept epoch old → IsKept epoch new
made_kept epoch made count old new all is kept =
    record {
      past = λ place note there. kept.past place note (made_empty made count old new is place note there);
      whole = λ some. elim (all_or_none made count old new is) [ inl made_all ↦ made_all.0 ∙ all | inr nothing ↦ absurd (omega arith) ];
    }

-- ---- noting

-- what is written at a place is there, and all else is as it was
written : (places : List (Option Note)) (place : ℕ) (new : Option Note) (at : ℕ) (kept : Option Note) → slice_get (set places place new) at ≡ Some kept → (kept ≡ new) ⊎ (slice_get places at ≡ Some kept)
written places place new at kept is =
    let within : at < length (set places place new) = slice_get_within _ at kept is in
    let found : get_or (set places place new) at kept ≡ kept = get_or_from_slice_get _ at kept kept is in
    elim (eqb_tells at place) [
      | inl (_, same) ↦ inl (sym found ∙ get_or-set_at places place at new kept same (omega (arith, length-set {A = Option Note})))
      | inr (_, other) ↦ inr (slice_get-get_or places at kept (omega (arith, length-set {A = Option Note})) ∙ ap Some (sym (get_or-set_other places place at new kept other) ∙ found))
    ]

pub notes : (epoch : ℕ) (places : List (Option Note)) (place : ℕ) (answer : Answer) → Notes (map (answer_in epoch) places) answer (map (answer_in epoch) (set places place (Some (record { epoch = epoch; answer = answer }))))
notes epoch places place answer = λ other held.
    (let note = noted epoch (set places place (Some (record { epoch = epoch; answer = answer }))) other held in
    elim (written places place (Some (record { epoch = epoch; answer = answer })) note.place (Some note.note) note.there) [
      | inl same ↦ inl (sym note.same ∙ cc)
      | inr before ↦ inr (holds epoch places other (record { place = note.place; note = note.note; there = before; present = note.present; same = note.same }))
    ])

pub noted_here : (epoch : ℕ) (places : List (Option Note)) (place : ℕ) (answer : Answer) → place < length places
    → slice_get (map (answer_in epoch) (set places place (Some (record { epoch = epoch; answer = answer })))) place ≡ Some (Some answer)
noted_here epoch places place answer within =
    shown_at epoch (set places place (Some (record { epoch = epoch; answer = answer }))) place answer (record {
      note = record { epoch = epoch; answer = answer };
      there = slice_get-get_or (set places place (Some (record { epoch = epoch; answer = answer }))) place None (omega (arith, length-set {A = Option Note}))
          ∙ ap Some (get_or-set_same places place (Some (record { epoch = epoch; answer = answer })) None within);
      present = refl;
      same = refl;
    })

unwritten : (places : List (Option Note)) (place other : ℕ) (new : Option Note) → other ≢ place → slice_get (set places place new) other ≡ slice_get places other
unwritten places place other new apart =
    elim (leb_tells (length places) other) [
      | inl (_, past) ↦ slice_get_past (set places place new) other (omega (arith, length-set {A = Option Note})) ∙ sym (slice_get_past places other past)
      | inr (_, within) ↦
          slice_get-get_or (set places place new) other new (omega (arith, length-set {A = Option Note}))
          ∙ ap Some (get_or-set_other places place other new new apart)
          ∙ sym (slice_get-get_or places other new within)
    ]

pub others_stay : (epoch : ℕ) (places : List (Option Note)) (place : ℕ) (new : Option Note) → StaysButAt place (map (answer_in epoch) places) (map (answer_in epoch) (set places place new))
others_stay epoch places place new = λ other apart.
    (slice_get-map (answer_in epoch) (set places place new) other ∙ ap (option_map (answer_in epoch)) (unwritten places place other new apart)
    ∙ sym (slice_get-map (answer_in epoch) places other))

pub all_right : (policy : List Entry) (pairs : PairMap) (old between new : List (Option Answer)) (noted_now : Answer) → AllRight policy pairs old → HoldsNoMore old between → Notes between noted_now new
    → IsTreatment policy pairs noted_now.flow noted_now.treatment → AllRight policy pairs new
all_right policy pairs old between new noted_now right no_more notes_it is = λ flow treatment r.
    elim (notes_it (record { flow = flow; treatment = treatment }) r.held) [
      | inl same ↦ subst (λ (a : Answer). IsTreatment policy pairs a.flow a.treatment) (sym same) is
      | inr held ↦ right flow treatment (record { held = no_more _ held; counts = r.counts })
    ]
