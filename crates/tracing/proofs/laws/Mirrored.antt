-- Tracing is a mirrored permutation of the places: the exchange lemmas and the face counts of crate `orbits` apply to it.
use Rattle.std.specs.Prelude.{ℕ, ◌<◌, ◌≡◌, Bool, true}
use Rattle.table.specs.Rotation.{Rotation, Lawful}
use Rattle.orbits.specs.Mirror.{Mirror}
use Rattle.tracing.proofs.laws.Place.{places, trace, flip, on, trace_low, flip_low, flip_flip, trace_turn, on_trace, on_flip, flip_other, trace_other}

-- some of the places that are there, with each the one that it leads to and its mirror: as those of a connected part
pub record Part (R : Rotation) (P : ℕ → Bool) : Type 0 where
  pub traced : (s : ℕ) → s < places → P (trace R s) ≡ P s
  pub flipped : (s : ℕ) → s < places → P (flip R s) ≡ P s
  pub within : (s : ℕ) → s < places → P s ≡ true → on R s ≡ true

module _ (R : Rotation) (L : Lawful R) where
  pub whole : Part R (on R)
  whole = record { traced = λ s h. on_trace R L s; flipped = λ s h. on_flip R L s; within = λ s h e. e }

  pub mirrored : (P : ℕ → Bool) → Part R P → Mirror places (trace R) (flip R) P
  mirrored P K = record {
    fwd = trace_low R L;
    inv = K.traced;
    low = flip_low R L;
    twice = λ s h. flip_flip R L s;
    turn = λ s h. trace_turn R L s;
    keep = K.flipped;
    still = λ s o. flip_other R L s;
    cross = λ s o. trace_other R L s;
  }
