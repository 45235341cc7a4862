-- The hands of the edges along a walk, as the code gathers them, and the loop that does.
--     hands_with, hands_among                        these hands and that of one edge more; those of some steps
--     with_positive, with_negative, with_unturned    the three kinds of edge words
--     Seeing                                         the loop over the walk
--     seeing_none, seeing_more, seeing_all           it begins, goes on, ends
--     tell_positive, tell_none                       what the hands tell: whether the ribbon alternates
use Rattle.std.specs.Prelude.{ℕ, ◌<◌, ◌≤◌, ◌≡◌, refl, Bool, true, false, not, ◌&&◌, ◌||◌, List, [], ◌∷◌, ◌++◌}
use Rattle.std.proofs.Common.{arith, sym, ◌∙◌, ap, ap₂}
use Rattle.std.proofs.Math.Bool.{or-false, or-true}
use borrow.Author.Tests.{lt-ltb, le-ltb}
use Rattle.table.specs.Rotation.{rotation}
use Rattle.tracing.specs.Walk.{walk}
use Rattle.tracing_walks.specs.laws.Stands.{Stands, stands_low}
use Rattle.tracing_walks.specs.laws.Along.{Along, along_none, along_more, along_all}
use Rattle.weave_plain.specs.declared.hands.Hands.{Hands}
use Rattle.weave.specs.Letters.{unturned, positive, negative, word_of, alternates}
use Rattle.weave.specs.Ribbon.{some, some_positive, some_negative}
use Rattle.weave.proofs.laws.Ribbon.{some_append, alternates_hands}
use Rattle.weave_letters.specs.laws.Crossing.{EdgeWord}

-- these hands, and that of an edge of word w
unfoldable pub hands_with : Hands → ℕ → Hands
hands_with h w = record { positive = h.positive || positive w; negative = h.negative || negative w }

-- the hands of the edges of these steps
unfoldable pub hands_among : List ℕ → List ℕ → Hands
hands_among t l = record { positive = some_positive t l; negative = some_negative t l }

two_hands : Bool → Bool → Hands
two_hands a b = record { positive = a; negative = b }

module _ (h : Hands) (w : ℕ) where
  pub with_positive : unturned < w → record { positive = true; negative = h.negative } ≡ hands_with h w
  unfolding hands_with two_hands
  with_positive l = rw (lt-ltb unturned w l, le-ltb w unturned (omega arith)) (ap₂ two_hands (sym (or-true h.positive)) (sym (or-false h.negative)))

  pub with_negative : w < unturned → record { positive = h.positive; negative = true } ≡ hands_with h w
  unfolding hands_with two_hands
  with_negative l = rw (lt-ltb w unturned l, le-ltb unturned w (omega arith)) (ap₂ two_hands (sym (or-false h.positive)) (sym (or-true h.negative)))

  pub with_unturned : w ≤ unturned → unturned ≤ w → h ≡ hands_with h w
  unfolding hands_with two_hands
  with_unturned l m = rw (le-ltb w unturned m, le-ltb unturned w l) (ap₂ two_hands (sym (or-false h.positive)) (sym (or-false h.negative)))

among_more : (t l : List ℕ) (x : ℕ) → hands_with (hands_among t l) (word_of t x) ≡ hands_among t (l ++ (x ∷ []))
unfolding hands_with hands_among two_hands some
among_more t l x =
    ap₂ two_hands
    (ap (λ b. some_positive t l || b) (sym (or-false (positive (word_of t x)))) ∙ sym (some_append (λ y. positive (word_of t y)) l (x ∷ [])))
    (ap (λ b. some_negative t l || b) (sym (or-false (negative (word_of t x)))) ∙ sym (some_append (λ y. negative (word_of t y)) l (x ∷ [])))

-- the loop over the walk
pub record Seeing (t : List ℕ) (s : ℕ) (gone left : List ℕ) (h : Hands) : Type 0 where
  pub along : Along t s gone left
  pub seen : h ≡ hands_among t gone

pub seeing_none : {t : List ℕ} {s : ℕ} {left : List ℕ} → Stands t s → left ≡ walk (rotation t) s → Seeing t s [] left (record { positive = false; negative = false })
unfolding hands_among some
seeing_none h e = record { along = along_none h e; seen = refl }

module _ {t : List ℕ} {s : ℕ} {gone left : List ℕ} {h : Hands} (k : Seeing t s gone left h) where
  pub seeing_more : {at : ℕ} {left' : List ℕ} {w : ℕ} {h' : Hands} → left ≡ at ∷ left' → EdgeWord t at w → h' ≡ hands_with h w → Seeing t s (gone ++ at ∷ []) left' h'
  seeing_more {at} e f g = record { along = along_more k.along e; seen = g ∙ ap₂ hands_with k.seen f.word ∙ among_more t gone at }

  pub seeing_all : left ≡ [] → h ≡ hands_among t (walk (rotation t) s)
  seeing_all e = rw (← along_all k.along e) k.seen

-- what the hands tell
hands_tell : {t : List ℕ} {s : ℕ} {h : Hands} → Stands t s → h ≡ hands_among t (walk (rotation t) s) → alternates t s ≡ not (h.positive && h.negative)
unfolding hands_among
hands_tell {t} {s} st e = alternates_hands t st.good s (stands_low st) ∙ ap (λ g. not (g.positive && g.negative)) (sym e)

pub tell_positive : {t : List ℕ} {s : ℕ} {h : Hands} → Stands t s → h ≡ hands_among t (walk (rotation t) s) → h.positive ≡ true → not h.negative ≡ alternates t s
tell_positive st e p = sym (hands_tell st e ∙ rw p)

pub tell_none : {t : List ℕ} {s : ℕ} {h : Hands} → Stands t s → h ≡ hands_among t (walk (rotation t) s) → h.positive ≡ false → true ≡ alternates t s
tell_none st e p = sym (hands_tell st e ∙ rw p)
