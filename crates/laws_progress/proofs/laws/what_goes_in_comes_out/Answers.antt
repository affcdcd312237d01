use Rattle.std.proofs.Common.{◌+◌, inl, inr}
use Rattle.laws_progress.proofs.laws.what_goes_in_comes_out.Goals as goal

pub returns : goal.returns
returns g c meaning_of old new happenings trail place packet pair h there goes =
    elim (c.what_is_to_be_protected_is_sealed.ensures meaning_of old new happenings trail place packet pair h there goes) [
      | inl seals ↦ inl (record {
        octets = seals.octets;
        sealed = seals.sealed;
        goes_up = λ later mirror far here mirrors comes.
            c.what_is_sealed_and_delivered_goes_up.ensures.in_time meaning_of old new happenings trail later (pair.outbound.last + 1) packet seals.octets mirror far here
            (record { place = place; happening = h; there = there; child = pair.serial; pair = pair; sealed = seals.sealed; mirrors = mirrors }) comes;
      })
      | inr refused ↦ inr refused
    ]
