-- What both ends come to is the power of the generator by both secrets.
use Rattle.std.proofs.Common.{◌≡◌, ◌↔◌, ℕ, ◌+◌, ◌*◌, ◌%◌, ◌^◌, ◌<◌, ◌≤◌, Bool, true, false, if◌then◌else◌, Option, Some, None, List, length, refl, sym, ap, ◌∙◌, subst, arith}
use Rattle.base.specs.Octets.{AreOctets}
use Rattle.modp.specs.Number.{octets_number, number_octets}
use Rattle.modp.specs.Group.{element_of, generator, is_trivial, power, prime}
use Rattle.modp.proofs.OctetLemmas.{element_fits, length-number_octets, octets_again, octets_fit, octets_number-number_octets}
use Rattle.modp.proofs.PowerLemmas.{power_is, power_lt, power_power}
use Rattle.modp.proofs.ElementLemmas.{element_made, element_parts, not_trivial_exactly}
use Rattle.caller_peer.specs.Groups.{IsSharedBy, public_of, secret_of, shared_by, shared_of}
use Rattle.caller_peer.specs.OtherLaws.{shared_with}

chosen : (t : Bool) (xs ys : List ℕ) → (if t then None else Some xs) ≡ Some ys → (t ≡ false) × (xs ≡ ys)
chosen true xs ys is = cc
chosen false xs ys is = (refl, cc)

kept : (t : Bool) (xs : List ℕ) → t ≡ false → (if t then None else Some xs) ≡ Some xs
kept t xs is = rw is refl

secret_parts : (element : ℕ) (shared : List ℕ) → secret_of element ≡ Some shared → (is_trivial element ≡ false) × (number_octets 256 element ≡ shared)
unfolding secret_of
secret_parts element shared is = chosen (is_trivial element) (number_octets 256 element) shared is

secret_made : (element : ℕ) → is_trivial element ≡ false → secret_of element ≡ Some (number_octets 256 element)
unfolding secret_of
secret_made element is = kept (is_trivial element) (number_octets 256 element) is

record IsGiven (value : Option ℕ) (exponent : ℕ) (shared : List ℕ) : Type 0 where
  pub other : ℕ
  pub there : value ≡ Some other
  pub is : secret_of (power other exponent) ≡ Some shared

given : (value : Option ℕ) (exponent : ℕ) (shared : List ℕ) → shared_by value exponent ≡ Some shared → IsGiven value exponent shared
unfolding shared_by
given None exponent shared is = cc
given (Some other) exponent shared is = record { other = other; there = refl; is = is }

by_element : (other exponent : ℕ) → shared_by (Some other) exponent ≡ secret_of (power other exponent)
unfolding shared_by
by_element other exponent = refl

shared_is : (secret other : List ℕ) → shared_of secret other ≡ shared_by (element_of other) (octets_number secret)
unfolding shared_of
shared_is secret other = refl

is_power : (secret other shared : List ℕ) → shared_of secret other ≡ Some shared → IsSharedBy secret other shared
is_power secret other shared is =
    let exponent = octets_number secret in
    let told = given (element_of other) exponent shared (sym (shared_is secret other) ∙ is) in
    let parts = element_parts other told.other told.there in
    let element = power told.other exponent in
    let below : element < prime = power_lt told.other exponent in
    let answer = secret_parts element shared told.is in
    let within = (not_trivial_exactly element below).0 answer.0 in
    let fits = element_fits element below in
    record {
      other_long = parts.0;
      element = parts.1;
      power = element;
      is = power_is told.other exponent ∙ ap (λ (n : ℕ). n ^ exponent % prime) (sym parts.2);
      from_two = within.0;
      below_last = within.1;
      shared_long = ap length (sym answer.1) ∙ length-number_octets 256 element;
      shared_octets = subst (λ (xs : List ℕ). AreOctets xs) answer.1 (octets_fit 256 element fits);
      spelt = ap octets_number (sym answer.1) ∙ octets_number-number_octets 256 element fits;
    }

from_power : (secret other shared : List ℕ) → IsSharedBy secret other shared → shared_of secret other ≡ Some shared
from_power secret other shared is =
    let exponent = octets_number secret in
    let element = power (octets_number other) exponent in
    let same : is.power ≡ element = is.is ∙ sym (power_is (octets_number other) exponent) in
    let below : element < prime = power_lt (octets_number other) exponent in
    let few : (2 ≤ element) × (element + 2 ≤ prime) = subst (λ (n : ℕ). (2 ≤ n) × (n + 2 ≤ prime)) same (is.from_two, is.below_last) in
    let octets : number_octets 256 element ≡ shared =
    (λ i. number_octets (sym is.shared_long i) (sym (is.spelt ∙ same) i)) ∙ octets_again shared is.shared_octets in
    shared_is secret other
    ∙ ap (λ (value : Option ℕ). shared_by value exponent) (element_made other is.other_long is.element)
    ∙ by_element (octets_number other) exponent
    ∙ secret_made element ((not_trivial_exactly element below).1 few)
    ∙ ap (λ (xs : List ℕ). Some xs) octets

pub shared_exactly : (secret other shared : List ℕ) → (shared_of secret other ≡ Some shared) ↔ IsSharedBy secret other shared
shared_exactly secret other shared = (is_power secret other shared, from_power secret other shared)

swapped : (a b : ℕ) → generator ^ (b * a) % prime ≡ generator ^ (a * b) % prime
swapped a b = ap (λ (n : ℕ). generator ^ n % prime) (commute b a)
  where
    commute : (m n : ℕ) → m * n ≡ n * m
    commute m n = omega arith

pub both_come_to_it : (a b : List ℕ) → is_trivial (2 ^ (octets_number a * octets_number b) % prime) ≡ false →
    shared_of a (public_of b) ≡ Some (number_octets 256 (2 ^ (octets_number a * octets_number b) % prime))
both_come_to_it a b other =
    let element : power (power generator (octets_number b)) (octets_number a) ≡ 2 ^ (octets_number a * octets_number b) % prime =
    power_power generator (octets_number b) (octets_number a) ∙ swapped (octets_number a) (octets_number b) in
    shared_with a b
    ∙ by_element (power generator (octets_number b)) (octets_number a)
    ∙ ap secret_of element
    ∙ secret_made (2 ^ (octets_number a * octets_number b) % prime) other
