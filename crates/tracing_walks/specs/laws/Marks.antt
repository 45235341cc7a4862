-- The marks of the corners that have been met: one for each dart, 0 or 1.
--     mark, unmarked              the marks with some corners marked too; no mark yet
--     mark_append, mark_length    corners marked in two goes; as many marks as before
--     mark_has, mark_reads        a corner is marked exactly if it is among them
--     mark_step                   the corners of some steps marked, and of one more
use Rattle.std.specs.Prelude.{ℕ, ◌<◌, ◌≡◌, refl, true, List, [], ◌∷◌, ◌++◌, map, length, get_or, set, replicate}
use Rattle.std.proofs.Common.{sym, ◌∙◌, ap, length-set, get_or-set_same, get_or-set_other}
use Rattle.std.proofs.Math.Decide.{ℕ_discrete}
use Rattle.std.proofs.lemmas.List.{length-replicate, get_or-replicate, map-append}
use Rattle.table.specs.Layout.{darts}
use Rattle.table.specs.Rotation.{Rotation}
use Rattle.tracing.specs.Step.{corner}
use Rattle.tracing.specs.Listing.{has, bit}
use Rattle.tracing.proofs.laws.Listing.{has_here, has_there}

-- the marks m with these corners marked too
unfoldable pub mark : List ℕ → List ℕ → List ℕ
mark m [] = m
mark m (c ∷ cs) = mark (set m c 1) cs

pub mark_append : (m a b : List ℕ) → mark m (a ++ b) ≡ mark (mark m a) b
unfolding mark
mark_append m [] b = refl
mark_append m (c ∷ a) b = mark_append (set m c 1) a b

pub mark_length : (m cs : List ℕ) → length (mark m cs) ≡ length m
unfolding mark
mark_length m [] = refl
mark_length m (c ∷ cs) = mark_length (set m c 1) cs ∙ length-set m c 1

-- a marked corner stays marked; another is marked if it is among those that are
mark_kept : (m cs : List ℕ) (c : ℕ) → c < length m → get_or m c 0 ≡ 1 → get_or (mark m cs) c 0 ≡ 1
unfolding mark
mark_kept m [] c h e = e
mark_kept m (x ∷ cs) c h e = elim (ℕ_discrete c x) [
  | yes q ↦ mark_kept (set m x 1) cs c (rw length-set h) (rw q (get_or-set_same m x 1 0 (rw q at h)))
  | no q ↦ mark_kept (set m x 1) cs c (rw length-set h) (get_or-set_other m x c 1 0 q ∙ e)
]

pub mark_has : (m cs : List ℕ) (c : ℕ) → c < length m → get_or m c 0 ≡ 0 → get_or (mark m cs) c 0 ≡ bit (has c cs)
unfolding mark has
mark_has m [] c h e = e
mark_has m (x ∷ cs) c h e = elim (ℕ_discrete c x) [
  | yes q ↦
      let len : c < length (set m x 1) = rw length-set h in
      let one : get_or (set m x 1) c 0 ≡ 1 = rw q (get_or-set_same m x 1 0 (rw q at h)) in
      let here : has c (x ∷ cs) ≡ true = rw q (has_here x cs) in
      mark_kept (set m x 1) cs c len one ∙ ap bit (sym here)
  | no q ↦
      let len : c < length (set m x 1) = rw length-set h in
      mark_has (set m x 1) cs c len (get_or-set_other m x c 1 0 q ∙ e) ∙ ap bit (sym (has_there c x cs q))
]

-- no mark yet
abbrev pub unmarked : List ℕ
unmarked = replicate darts 0

pub mark_reads : (cs : List ℕ) (c : ℕ) → c < darts → get_or (mark unmarked cs) c 0 ≡ bit (has c cs)
mark_reads cs c h = mark_has unmarked cs c (rw length-replicate h) (get_or-replicate darts c 0 0 h)

-- the corners of some steps, and of one more
pub mark_step : (R : Rotation) (m l : List ℕ) (x : ℕ) → mark m (map (corner R) (l ++ x ∷ [])) ≡ set (mark m (map (corner R) l)) (corner R x) 1
unfolding mark
mark_step R m l x = rw map-append (mark_append m (map (corner R) l) (corner R x ∷ []))
