-- Alternating belongs to the face: it depends neither on the step that names the ribbon nor on the sense in which the face is traced.
-- So a weave is plain exactly if the ribbon through every live step alternates.
--     alternates_named, alternates_mirror, alternates_face    any step, either sense, any step of the face may name the ribbon
--     plain_iff, plain_same                                   plain exactly if every ribbon alternates; if its edges turn the same way
--     mixed_iff, bare_plain                                   not plain exactly if some ribbon's edges do not; plain without ribbons
--     SameLetters, named_alike, mirror_alike                  a step of one walk has one on the other whose edge word is the same
use Rattle.std.specs.Prelude.{ℕ, ◌*◌, ◌/◌, ◌<◌, ◌≡◌, refl, Bool, false, List, [], ◌∷◌, ◌↔◌}
use native.Mathlib.Omega.{arith}
use Rattle.std.proofs.Math.Path.{sym}
use Rattle.std.proofs.Common.{◌∙◌, ap}
use Rattle.std.proofs.Math.Bool.{true}
use Rattle.orbits.proofs.laws.Truth.{truth, holds, fails, clash, false_unless, same_truth, both, both_left, both_right}
use Rattle.orbits.specs.Reach.{Reach}
use Rattle.orbits.proofs.laws.Reach.{reach_one, reach_trans, reach_sym}
use Rattle.orbits.specs.Mirror.{Mirror}
use Rattle.orbits.proofs.laws.Mirror.{mirror_world, reach_mirror}
use Rattle.orbits.specs.Faces.{Face, along, mirrored}
use Rattle.table.specs.Layout.{darts, edge_of, edge_word}
use Rattle.table.specs.Good.{Good}
use Rattle.table.specs.Rotation.{Lawful, rotation, live?}
use Rattle.table.specs.laws.Lawful.{good_lawful, rev_edge}
use Rattle.tracing.specs.Step.{steps, mirror, corner, back}
use Rattle.tracing.proofs.laws.Step.{corner_dart, corner_live, mirror_word, mirror_mirror, step_back, back_back, back_dart}
use Rattle.tracing.proofs.laws.Place.{places, trace, flip, on, trace_step, flip_step, flip_flip, flip_low}
use Rattle.tracing.specs.Walk.{walk}
use Rattle.tracing.specs.Listing.{has, starts}
use Rattle.tracing.proofs.laws.Mirrored.{whole, mirrored as tracing-mirror}
use Rattle.tracing.proofs.laws.Meets.{has_walk, walk_has, trace_reach}
use Rattle.tracing.proofs.laws.Has.{has_empty, has_cons, here, later, has_head, has_tail}
use Rattle.tracing.proofs.laws.Cover.{covered, corner_face}
use Rattle.tracing.proofs.laws.Starts.{start_live, has_start, start_has}
use Rattle.weave.specs.Letters.{word_of, alternates, every, plain}
use Rattle.weave.specs.Ribbon.{SameWay, all_positive, all_negative, Mixed}
use Rattle.weave.proofs.laws.Ribbon.{alternates_same, same_alternates}

-- a step of the walk from s whose edge has the word of x's
record SameLetters (t : List ℕ) (s x : ℕ) : Type 0 where
  at : ℕ
  among : has at (walk (rotation t) s) ≡ true
  word : word_of t at ≡ word_of t x

-- every step of one walk has one alike on another: what turns the same way there, does here
carry_same : (t : List ℕ) (s r : ℕ) → ((x : ℕ) → has x (walk (rotation t) r) ≡ true → SameLetters t s x) → SameWay t s → SameWay t r
carry_same t s r alike (all_positive p) = all_positive (λ x h n. let a = alike x h in rw a.word at (p a.at a.among (rw a.word n)))
carry_same t s r alike (all_negative p) = all_negative (λ x h n. let a = alike x h in rw a.word at (p a.at a.among (rw a.word n)))

every_has : (q : ℕ → Bool) (l : List ℕ) → every q l ≡ true → (x : ℕ) → has x l ≡ true → q x ≡ true
unfolding every
every_has q [] e x h = absurd (has_empty x h)
every_has q (y ∷ l) e x h = elim (has_cons x y l h) [
  | here p ↦ rw p (both_left (q y) (every q l) e)
  | later r ↦ every_has q l (both_right (q y) (every q l) e) x r
]

has_every : (q : ℕ → Bool) (l : List ℕ) → ((x : ℕ) → has x l ≡ true → q x ≡ true) → every q l ≡ true
unfolding every
has_every q [] p = refl
has_every q (y ∷ l) p = both (p y (has_head l refl)) (has_every q l (λ x h. p x (has_tail x y l h)))

-- a member of l that does not pass
record Failing (q : ℕ → Bool) (l : List ℕ) : Type 0 where
  at : ℕ
  among : has at l ≡ true
  not_so : q at ≡ false

every_fails : (q : ℕ → Bool) (l : List ℕ) → every q l ≡ false → Failing q l
unfolding every
every_fails q [] e = absurd (clash refl e)
every_fails q (y ∷ l) e = elim (truth (q y)) [
  | fails n ↦ record { at = y; among = has_head l refl; not_so = n }
  | holds p ↦
      let rest : every q l ≡ false = rw p at e in
      let f = every_fails q l rest in
      record { at = f.at; among = has_tail f.at y l f.among; not_so = f.not_so }
]

module _ (t : List ℕ) (g : Good t) where
  L : Lawful (rotation t)
  L = good_lawful t g

  tracing : Mirror places (trace (rotation t)) (flip (rotation t)) (on (rotation t))
  tracing = tracing-mirror (rotation t) L (on (rotation t)) (whole (rotation t) L)

  -- a walk named by another of its steps has the same steps
  named_alike : (s r : ℕ) → s < steps → Reach (trace (rotation t)) s r → (x : ℕ) → has x (walk (rotation t) r) ≡ true → SameLetters t s x
  named_alike s r h p x e =
      let low = (trace_reach (rotation t) L h p).low in
      record { at = x; among = walk_has (rotation t) L s x h (reach_trans p (has_walk (rotation t) L r x low e)); word = refl }

  -- a step of the walk from the mirror of s: the way back along its edge is on the walk from s
  mirror_alike : (s : ℕ) → s < steps → (x : ℕ) → has x (walk (rotation t) (mirror (rotation t) s)) ≡ true → SameLetters t s x
  mirror_alike s h x e =
      let R = rotation t in
      let I = (mirror_world tracing).perm in
      let turned = mirror_word R L s h in
      let r : Reach (trace R) (flip R s) x = rw (flip_step R s h) (has_walk R L (mirror R s) x turned e) in
      let low = (trace_reach R L turned (has_walk R L (mirror R s) x turned e)).low in
      let to : Reach (trace R) (flip R x) s = rw (flip_flip R L s) at (reach_mirror tracing (flip_low R L s (omega arith)) r) in
      let out : Reach (trace R) s (flip R x) = reach_sym I (flip_low R L x (omega arith)) to in
      let way = back_dart R x in
      let low-back : back R x < steps = omega arith in
      let next : trace R (back R x) ≡ flip R x =
      trace_step R (back R x) low-back ∙ step_back R (back R x) ∙ ap (mirror R) (back_back R L x) ∙ sym (flip_step R x low) in
      let home : Reach (trace R) (flip R x) (back R x) = reach_sym I (omega arith) (rw next at (reach_one {f = trace R} (back R x))) in
      record {
        at = back R x;
        among = walk_has R L s (back R x) h (reach_trans out home);
        word = ap (λ d. edge_word t (edge_of d)) way ∙ ap (edge_word t) (rev_edge (x / 2));
      }

  -- walks each of whose steps has one alike on the other
  both_ways : (s r : ℕ) → s < steps → r < steps → ((x : ℕ) → has x (walk (rotation t) r) ≡ true → SameLetters t s x)
      → ((x : ℕ) → has x (walk (rotation t) s) ≡ true → SameLetters t r x) → alternates t s ≡ alternates t r
  both_ways s r h l a b =
      same_truth (alternates t s) (alternates t r)
      (λ e. same_alternates t g r l (carry_same t s r a (alternates_same t g s h e)))
      (λ e. same_alternates t g s h (carry_same t r s b (alternates_same t g r l e)))

  alternates_reach : (s r : ℕ) → s < steps → Reach (trace (rotation t)) s r → alternates t s ≡ alternates t r
  alternates_reach s r h p =
      let low = (trace_reach (rotation t) L h p).low in
      both_ways s r h low (named_alike s r h p) (named_alike r s low (reach_sym (mirror_world tracing).perm (omega arith) p))

  -- any step of the ribbon may name it
  pub alternates_named : (s x : ℕ) → s < steps → has x (walk (rotation t) s) ≡ true → alternates t s ≡ alternates t x
  alternates_named s x h e = alternates_reach s x h (has_walk (rotation t) L s x h e)

  -- and either sense
  pub alternates_mirror : (s : ℕ) → s < steps → alternates t s ≡ alternates t (mirror (rotation t) s)
  alternates_mirror s h =
      let R = rotation t in
      let turned = mirror_word R L s h in
      both_ways s (mirror R s) h turned (mirror_alike s h) (λ x e. mirror_alike (mirror R s) turned x (rw (mirror_mirror R L s) e))

  pub alternates_face : (s x : ℕ) → s < steps → x < steps → Face (trace (rotation t)) (flip (rotation t)) s x → alternates t s ≡ alternates t x
  alternates_face s x h l (along r) = alternates_reach s x h r
  alternates_face s x h l (mirrored r) = alternates_reach s (mirror (rotation t) x) h (rw (flip_step (rotation t) x l) at r) ∙ sym (alternates_mirror x l)

  -- a weave is plain exactly if the ribbon through every live step alternates

  plain_all : plain t ≡ true → (s : ℕ) → live? t (s / 2) ≡ true → alternates t s ≡ true
  unfolding plain
  plain_all e s live =
      let R = rotation t in
      let dart = L.dart_low (s / 2) live in
      let low : s < steps = omega arith in
      let at = corner_dart R L s low in
      let c = covered R L (corner R s) (corner_live R L s ∙ live) in
      let start_low = c.low in
      alternates_face s (2 * corner R s) low (omega arith) (corner_face R L s low)
      ∙ sym (alternates_face (2 * c.at) (2 * corner R s) (omega arith) (omega arith) c.face)
      ∙ every_has (λ d. alternates t (2 * d)) (starts R darts) e c.at (start_has R darts c.at start_low c.start)

  all_plain : ((s : ℕ) → live? t (s / 2) ≡ true → alternates t s ≡ true) → plain t ≡ true
  unfolding plain
  all_plain p =
      let R = rotation t in
      has_every (λ d. alternates t (2 * d)) (starts R darts) (λ d h.
      let half : 2 * d / 2 ≡ d = omega arith in
      p (2 * d) (rw half (start_live R d (has_start R darts d h).start)))

  pub plain_iff : (plain t ≡ true) ↔ ((s : ℕ) → live? t (s / 2) ≡ true → alternates t s ≡ true)
  plain_iff = (plain_all, all_plain)

  live_low : (s : ℕ) → live? t (s / 2) ≡ true → s < steps
  live_low s live = let dart = L.dart_low (s / 2) live in omega arith

  -- "all its ribbons alternate": the edges of each turn the same way
  pub plain_same : (plain t ≡ true) ↔ ((s : ℕ) → live? t (s / 2) ≡ true → SameWay t s)
  plain_same = (
    λ e s live. alternates_same t g s (live_low s live) (plain_all e s live),
    λ p. all_plain (λ s live. same_alternates t g s (live_low s live) (p s live)),
  )

  -- a weave that is not plain has a ribbon whose edges do not
  plain_mixed : plain t ≡ false → Mixed t
  unfolding plain
  plain_mixed e =
      let R = rotation t in
      let f = every_fails (λ d. alternates t (2 * d)) (starts R darts) e in
      let half : 2 * f.at / 2 ≡ f.at = omega arith in
      let live : live? t (2 * f.at / 2) ≡ true = rw half (start_live R f.at (has_start R darts f.at f.among).start) in
      record { on = 2 * f.at; live = live; ways = λ w. clash (same_alternates t g (2 * f.at) (live_low (2 * f.at) live) w) f.not_so }

  pub mixed_iff : (plain t ≡ false) ↔ Mixed t
  mixed_iff = (plain_mixed, λ m. false_unless (plain t) (λ e. m.ways (plain_same.0 e m.on m.live)))

  -- a mesh without ribbons
  pub bare_plain : ((d : ℕ) → live? t d ≡ false) → plain t ≡ true
  bare_plain none = all_plain (λ s live. absurd (clash live (none (s / 2))))
