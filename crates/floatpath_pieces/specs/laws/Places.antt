-- Where the lent words of a step begin, and that slices of the sizes that are needed have them.
--     places_of, places_are    where the words of a step's two ends and its lift begin
--     Ends, ends              the ends of a live step's edge are vertices
--     Lent                    a live step, and points and lifts of the sizes needed
--     Lies, lies              the three words of each are there
use Rattle.std.specs.Prelude.{ℕ, ◌+◌, ◌*◌, ◌/◌, ◌≤◌, ◌<◌, ◌≡◌, refl, List, ℤ, length}
use Rattle.std.proofs.Common.{arith}
use Rattle.table.specs.Layout.{words, vertices, edges, edge_of, leaves}
use Rattle.table.specs.laws.Rotation.{live_yes}
use Rattle.tracing_walks.specs.laws.Stands.{Stands}
use Rattle.floatpath_pieces.specs.declared.place.Places.{Places}
use Rattle.floatpath_pieces.specs.Path.{point_words, lift_words, first_end, second_end, lift_at}

unfoldable pub places_of : List ℕ → ℕ → Places
places_of t s = record { first = first_end t s; second = second_end t s; lift = lift_at s }

pub places_are : (t : List ℕ) (s : ℕ) → record { first = first_end t s; second = second_end t s; lift = lift_at s } ≡ places_of t s
unfolding places_of
places_are t s = refl

-- the vertices at the ends of a step's edge, and the edge
pub record Ends (t : List ℕ) (s : ℕ) : Type 0 where
  pub size : length t ≡ words
  pub edge : edge_of (s / 2) < edges
  pub first : leaves t (2 * edge_of (s / 2)) < vertices
  pub second : leaves t (2 * edge_of (s / 2) + 1) < vertices

pub ends : {t : List ℕ} {s : ℕ} → Stands t s → Ends t s
ends {t} {s} h =
    let l = live_yes t (s / 2) h.live in
    let low = l.low in
    let even : edge_of (2 * edge_of (s / 2)) ≡ edge_of (s / 2) = omega arith in
    let odd : edge_of (2 * edge_of (s / 2) + 1) ≡ edge_of (s / 2) = omega arith in
    record {
      size = h.good.size;
      edge = omega arith;
      first = h.good.leaves_low (2 * edge_of (s / 2)) (record { low = omega arith; on = rw even l.on });
      second = h.good.leaves_low (2 * edge_of (s / 2) + 1) (record { low = omega arith; on = rw odd l.on });
    }

-- "1,536 points, 3,072 lifts"
pub record Lent (t : List ℕ) (points lifts : List ℤ) (s : ℕ) : Type 0 where
  pub stands : Stands t s
  pub points_size : point_words ≤ length points
  pub lifts_size : lift_words ≤ length lifts

-- the three words of each are there
pub record Lies (t : List ℕ) (points lifts : List ℤ) (s : ℕ) : Type 0 where
  pub first : first_end t s + 2 < length points
  pub second : second_end t s + 2 < length points
  pub lift : lift_at s + 2 < length lifts

pub lies : {t : List ℕ} {points lifts : List ℤ} {s : ℕ} → Lent t points lifts s → Lies t points lifts s
lies k =
    let e = ends k.stands in
    let f = e.first in
    let g = e.second in
    let h = e.edge in
    let p = k.points_size in
    let q = k.lifts_size in
    record { first = omega arith; second = omega arith; lift = omega arith }
