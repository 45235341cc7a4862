-- What the steps of a ribbon take up, summed along it.
--     cut_total                              the cut length is what the steps take up, and the lap
--     taken_before                           what the first n steps take up
--     taken_most, taken_most_lem             the most that one step does
--     taken_step                             a step's share, from the word of its edge
--     length_most                            the length of an edge on the way
--     walk_taken, taken_room, taken_more     the most that all steps do; room for one step more, and one step more
use Rattle.std.specs.Prelude.{ℕ, ◌+◌, ◌*◌, ◌/◌, ◌%◌, ◌≤◌, ◌≡◌, refl, List, [], ◌∷◌, ◌++◌, eqb}
use Rattle.std.proofs.Common.{arith, ◌∙◌, ap}
use Rattle.table.specs.Layout.{edge_of, longest}
use Rattle.table.specs.Rotation.{rotation}
use Rattle.tracing.specs.Step.{step}
use Rattle.tracing.specs.Walk.{walk}
use Rattle.tracing.proofs.laws.Walk.{iterates}
use Rattle.tracing.specs.Listing.{gather}
use Rattle.tracing.specs.Met.{times, count_in, total}
use Rattle.tracing.proofs.laws.Has.{count_in_append}
use Rattle.tracing.proofs.laws.Totals.{total_append, total_most}
use Rattle.tracing_walks.specs.laws.Stands.{Stands, stands_low}
use Rattle.tracing_walks.specs.laws.Along.{Along, walk_stands, walk_most}
use Rattle.weave.specs.Letters.{over, letters_on, step_letters, letters}
use Rattle.weave_letters.specs.laws.Crossing.{EdgeWord}
use Rattle.weave_letters.specs.laws.Counts.{letters_few, overs_step}
use Rattle.lengths.specs.CutLength.{length_of, strip_length, over_allowance, taken_by, lap, cut_length}

-- the cut length is what the steps take up, and the lap

taken_total : (t l : List ℕ) → strip_length t l + over_allowance (gather (step_letters t) l) ≡ total (taken_by t) l
unfolding strip_length gather count_in total
taken_total t [] = refl
taken_total t (s ∷ l) =
    let r = taken_total t l in
    let overs = count_in_append (λ y. eqb over y) (step_letters t s) (gather (step_letters t) l) in
    omega arith

pub cut_total : (t : List ℕ) (s : ℕ) → cut_length t s ≡ total (taken_by t) (walk (rotation t) s) + lap
unfolding cut_length letters
cut_total t s = ap (λ n. n + lap) (taken_total t (walk (rotation t) s))

-- the length of an edge on the way
pub length_most : {t : List ℕ} {x : ℕ} → Stands t x → length_of t x ≤ longest
length_most {t} {x} h = let low = stands_low h in (h.good.lengths (edge_of (x / 2)) (omega arith)).most

-- what a step takes up, from the word of its edge
pub taken_step : {t : List ℕ} {s n w o : ℕ} → n ≡ length_of t s → EdgeWord t s w → o ≡ times over (letters_on w (s % 2)) → n + 8 * o ≡ taken_by t s
taken_step long e f = let own = overs_step e f in omega arith

-- what the steps so far take up
abbrev pub taken_before : List ℕ → ℕ → ℕ → ℕ
taken_before t s n = total (taken_by t) (iterates (step (rotation t)) s n)

-- the most that a step takes up: the longest edge and 99 O's
abbrev pub taken_most : ℕ
taken_most = 66327

pub taken_most_lem : {t : List ℕ} {x : ℕ} → Stands t x → taken_by t x ≤ taken_most
taken_most_lem h = let few = (letters_few h).0 in let long = length_most h in omega arith

-- what the steps of a ribbon take up
pub walk_taken : {t : List ℕ} {s : ℕ} → Stands t s → total (taken_by t) (walk (rotation t) s) ≤ taken_most * 4096
walk_taken {t} {s} h =
    let sum = total_most (taken_by t) taken_most (walk (rotation t) s) (λ x e. taken_most_lem (walk_stands h e)) in
    let few = walk_most h in
    omega arith

-- a loop along a ribbon: the steps so far take up `sum`, and there is room for one step more
pub taken_room : {t : List ℕ} {s : ℕ} {gone left : List ℕ} {at : ℕ} {left' : List ℕ} {sum x : ℕ} → Along t s gone left → left ≡ at ∷ left' → sum ≡ total (taken_by t) gone
    → x ≡ taken_by t at → sum + x ≤ taken_most * 4096
unfolding total
taken_room {t} {gone = gone} {at = at} {left' = left'} a e k f =
    let parts = total_append (taken_by t) gone (at ∷ left') in
    let whole = ap (total (taken_by t)) (a.whole ∙ ap (λ l. gone ++ l) e) in
    let most = walk_taken a.start in
    omega arith

pub taken_more : (t gone : List ℕ) (at : ℕ) {sum x : ℕ} → sum ≡ total (taken_by t) gone → x ≡ taken_by t at → sum + x ≡ total (taken_by t) (gone ++ at ∷ [])
unfolding total
taken_more t gone at k f = let parts = total_append (taken_by t) gone (at ∷ []) in omega arith
