-- What opening one packet does (RFC 4303 section 3.4).
use Rattle.std.specs.Prelude.{◌≡◌, ℕ, ◌+◌, ◌<◌, ◌≤◌, true, false, List, [], ◌∷◌, Result, Ok, Err, length}
use Rattle.std.specs.FinSet as set
use Rattle.replay.specs.Window.{Seen, Takes, judgement}
use Rattle.replay.specs.declared.window.Judgement.TheVariants.{Fresh}
use Rattle.esp.specs.declared.sa.Sa.{Sa}
use Rattle.esp.specs.Packet.{PassesIntegrity, IsContents}
use Rattle.esp.specs.Judging.{IsJudgedLength, low_half, IsNumber, Judges}
use Rattle.esp.specs.Views.{Receiving}
use Rattle.esp.specs.declared.inbound.Opened.{Opened}
use Rattle.esp.specs.declared.fault.EspFault.{EspFault}
use Rattle.esp.specs.declared.fault.EspFault.TheVariants.{Exhausted, PayloadSize, BadLength, Old, Replayed, BadNumber, BadIcv, BadPadding, Memory}

-- The refusals of a packet that is not judged, each where those before it don't apply: its length, its
-- sequence number, a number below the window, one that was taken, the ICV.
abbrev pub IsOpeningRefusal : Sa → Seen → List ℕ → EspFault → Type 0
IsOpeningRefusal a w b BadLength = ¬ IsJudgedLength (length b)
IsOpeningRefusal a w b BadNumber = IsJudgedLength (length b) × ((n : ℕ) → ¬ IsNumber a.extended w (low_half b) n)
IsOpeningRefusal a w b Old =
    IsJudgedLength (length b)
    × ((n : ℕ) × IsNumber a.extended w (low_half b) n × (n + w.size ≤ w.top))
IsOpeningRefusal a w b Replayed =
    IsJudgedLength (length b)
    × ((n : ℕ) × IsNumber a.extended w (low_half b) n × (w.top < n + w.size) × (set.contains w.taken n ≡ true))
IsOpeningRefusal a w b BadIcv =
    IsJudgedLength (length b)
    × ((n : ℕ) × IsNumber a.extended w (low_half b) n × (w.top < n + w.size) × (set.contains w.taken n ≡ false)
    × (¬ PassesIntegrity a n b))
IsOpeningRefusal a w b Exhausted = ⊥
IsOpeningRefusal a w b PayloadSize = ⊥
IsOpeningRefusal a w b BadPadding = ⊥
IsOpeningRefusal a w b Memory = ⊥

-- n is the packet's sequence number at this end, and was not taken
pub record IsFreshNumber (r : Receiving) (b : List ℕ) (n : ℕ) : Type 0 where
  pub whole : IsJudgedLength (length b)
  pub number : IsNumber r.association.extended r.window (low_half b) n
  pub fresh : judgement r.window n ≡ Fresh

-- the end takes n, and changes nothing else
pub record TakesNumber (old : Receiving) (n : ℕ) (new : Receiving) : Type 0 where
  pub association : new.association ≡ old.association
  pub window : Takes old.window n new.window

-- the packet is judged as n, which is taken, and its payload is delivered
pub record HandsUp (old : Receiving) (b : List ℕ) (n next : ℕ) (payload : List ℕ) (new : Receiving) : Type 0 where
  pub judged : Judges old.association old.window b n
  pub taken : TakesNumber old n new
  pub contents : IsContents b next payload

-- the packet is judged as n, which is taken, and has no contents to deliver
pub record WastesNumber (old : Receiving) (b : List ℕ) (n : ℕ) (new : Receiving) : Type 0 where
  pub judged : Judges old.association old.window b n
  pub taken : TakesNumber old n new
  pub contents : (next : ℕ) (payload : List ℕ) → ¬ IsContents b next payload

-- The packet is refused. Only bad padding leaves its sequence number taken; every other refusal changes
-- nothing. want says whether taking a number may want memory.
abbrev pub Refuses : Type 0 → Receiving → List ℕ → EspFault → Receiving → Type 0
Refuses want old b BadPadding new = (n : ℕ) × WastesNumber old b n new
Refuses want old b Memory new = want × ((n : ℕ) × Judges old.association old.window b n) × (new ≡ old)
Refuses want old b e new = IsOpeningRefusal old.association old.window b e × (new ≡ old)

-- what is answered of one packet: what it carries, which is a part of it, or why it is refused
abbrev pub Answer : Type 0
Answer = Result Opened EspFault

-- one packet, its answer, and the end before and after it
abbrev pub Step : Type 0 → Receiving → List ℕ → Answer → Receiving → Type 0
Step want old b (Ok o) new = HandsUp old b o.number o.next o.payload.now new
Step want old b (Err e) new = Refuses want old b e new

-- several packets, one after the other
abbrev pub Run : Type 0 → Receiving → List (List ℕ) → List Answer → Receiving → Type 0
Run want old [] [] new = new ≡ old
Run want old (b ∷ bs) (r ∷ rs) new = (mid : Receiving) × Step want old b r mid × Run want mid bs rs new
Run want old [] (r ∷ rs) new = ⊥
Run want old (b ∷ bs) [] new = ⊥
