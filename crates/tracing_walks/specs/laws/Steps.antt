-- The steps of a walk as an iterator gives them.
--     steps_left              the steps that are left
--     walk_road, walk_item    a chain over the walk goes over its steps; each stands on a live dart
--     sum_total               the sum that such a chain makes
use Rattle.std.specs.Prelude.{ℕ, ◌<◌, ◌≡◌, refl, true, List, [], ◌∷◌, length}
use Rattle.std.specs.List.{sum_by}
use Rattle.std.proofs.lemmas.List.Sums.{sum_by-cons}
use Rattle.std.proofs.Common.{zero, suc, ◌+◌, get_or, arith, ◌∙◌, ap}
use Rattle.std.specs.Iterator.{YieldsFirst}
use Rattle.std.proofs.lemmas.Iterator.{YieldsList}
use Rattle.std.proofs.lemmas.Iterator.Consumers.{YieldsList-from_first}
use Rattle.table.specs.Rotation.{rotation}
use Rattle.tracing.specs.Walk.{walk}
use Rattle.tracing.specs.Listing.{has}
use Rattle.tracing.proofs.laws.Listing.{has_here}
use Rattle.tracing.proofs.laws.Has.{has_tail}
use Rattle.tracing.specs.Met.{total}
use Rattle.tracing_walks.specs.declared.walk.Steps.{Steps}
use Rattle.tracing_walks.specs.laws.Stands.{Stands}
use Rattle.tracing_walks.specs.laws.Along.{walk_stands}
use Rattle.tracing_walks.specs.laws.Onward.{to_come}

-- the steps that are left
abbrev pub steps_left : Steps → List ℕ
steps_left w = to_come w.table.now w.first w.last

pub walk_road : (t : List ℕ) (s : ℕ) {w : Steps} → steps_left w ≡ walk (rotation t) s → YieldsList (YieldsFirst steps_left) (λ x. x) w (walk (rotation t) s)
walk_road t s e = YieldsList-from_first (λ x. x) steps_left (walk (rotation t) s) e

has_place : (l : List ℕ) (k x : ℕ) → k < length l → x ≡ get_or l k x → has x l ≡ true
has_place [] k x h e = absurd (omega arith)
has_place (y ∷ l) zero x h e = rw e (has_here y l)
has_place (y ∷ l) (suc k) x h e = has_tail x y l (has_place l k x (omega arith) e)

pub walk_item : {t : List ℕ} {s : ℕ} → Stands t s → (x k : ℕ) → k < length (walk (rotation t) s) → x ≡ get_or (walk (rotation t) s) k x → Stands t x
walk_item {t} {s} h x k l e = walk_stands h (has_place (walk (rotation t) s) k x l e)

pub sum_total : (f : ℕ → ℕ) (l : List ℕ) → sum_by f l ≡ total f l
unfolding total
sum_total f [] = refl
sum_total f (x ∷ l) = sum_by-cons f x l ∙ ap (λ n. f x + n) (sum_total f l)
