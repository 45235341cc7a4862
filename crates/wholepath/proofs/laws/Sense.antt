-- What the call answers belongs to the face: it depends neither on the step that names the ribbon nor on the sense in which the face is traced.
--     whole_named                 any step of the ribbon may name it
--     whole_mirror                and either sense may
--     along_sized, along_alike    the answer, by the number of pieces and whether a word is far
--     far_back, spots_back        the way back along an edge is far alike, and has as many pieces
use Rattle.std.specs.Prelude.{ℕ, ◌+◌, ◌*◌, ◌≡◌, Bool, true, not, List, ltb, leb, ℤ, Ok, Err}
use Rattle.std.proofs.Common.{sym, ◌∙◌, ap₂}
use Rattle.std.proofs.Math.Path.{ap}
use Rattle.std.proofs.Math.ListN.{length}
use Rattle.table.specs.Rotation.{Lawful, rotation}
use Rattle.table.specs.Answers.{unless, Answer}
use Rattle.table.specs.laws.Lawful.{good_lawful}
use Rattle.table.specs.declared.answer.Refusal.TheVariants.{ShortSlice, Far}
use Rattle.tracing.specs.Step.{mirror, back}
use Rattle.tracing.specs.Walk.{walk}
use Rattle.tracing.specs.Listing.{bit, has}
use Rattle.tracing.specs.Met.{total}
use Rattle.tracing.proofs.laws.Totals.{total_named, total_mirror}
use Rattle.tracing_walks.specs.laws.Stands.{Stands, stands_low}
use Rattle.weave.specs.Ribbon.{some}
use Rattle.weave.specs.Calls.{named_step}
use Rattle.weave.proofs.laws.Calls.{there_steps}
use Rattle.weave.proofs.laws.Tests.{some_total}
use Rattle.floatpath_pieces.specs.Path.{point_words, lift_words, far_step}
use Rattle.wholepath_pieces.specs.Pieces.{spots_of, pieces_along, whole_path}
use Rattle.wholepath_pieces.specs.laws.Pieces.{pieces_total}
use Rattle.wholepath_pieces.specs.laws.Back.{same_edge}
use Rattle.wholepath.specs.WholePath.{whole_along, whole_by, whole_answer}
use Rattle.wholepath_writing.specs.laws.Written.{forms_length, words_length, rests_length}
use Rattle.wholepath_writing.specs.laws.Laying.{path_length}

module _ (t : List ℕ) (points lifts : List ℤ) (k c r : ℕ) where
  -- what the call answers, once the number of pieces is known, and whether a word is far
  abbrev sized : ℕ → Bool → Answer
  sized p far =
      unless (leb point_words (length points)) (Err ShortSlice)
      (unless (leb lift_words (length lifts)) (Err ShortSlice)
      (unless (leb p k) (Err ShortSlice)
      (unless (leb (3 * p) c) (Err ShortSlice)
      (unless (leb (3 * p) r) (Err ShortSlice)
      (unless (not far) (Err Far)
      (Ok p))))))

  along_sized : (s : ℕ) → whole_along t points lifts k c r s ≡ sized (total (spots_of t) (walk (rotation t) s) + 1) (some (far_step t points lifts) (walk (rotation t) s))
  unfolding whole_along pieces_along
  along_sized s =
      let path = whole_path t points lifts s in
      let pieces : length path ≡ total (spots_of t) (walk (rotation t) s) + 1 =
      path_length t points lifts s ∙ ap (λ n. n + 1) (pieces_total t points lifts (walk (rotation t) s)) in
      rw (forms_length path, words_length path, rests_length path, pieces)

  along_alike : (s x : ℕ) → total (spots_of t) (walk (rotation t) s) ≡ total (spots_of t) (walk (rotation t) x)
      → total (λ y. bit (far_step t points lifts y)) (walk (rotation t) s) ≡ total (λ y. bit (far_step t points lifts y)) (walk (rotation t) x)
      → whole_along t points lifts k c r s ≡ whole_along t points lifts k c r x
  along_alike s x e f =
      let far = some_total (far_step t points lifts) (walk (rotation t) s) ∙ ap (ltb 0) f ∙ sym (some_total (far_step t points lifts) (walk (rotation t) x)) in
      along_sized s ∙ ap₂ (λ n. sized (n + 1)) e far ∙ sym (along_sized x)

-- the way back along an edge has as many pieces, and is far alike
far_back : (t : List ℕ) (points lifts : List ℤ) (x : ℕ) → bit (far_step t points lifts (back (rotation t) x)) ≡ bit (far_step t points lifts x)
unfolding far_step
far_back t points lifts x = rw (same_edge (rotation t) x)

spots_back : (t : List ℕ) (x : ℕ) → spots_of t (back (rotation t) x) ≡ spots_of t x
spots_back t x = rw (same_edge (rotation t) x)

module _ (t : List ℕ) (points lifts : List ℤ) (d y d' y' : ℕ) {s x : ℕ} (a : named_step t d y ≡ Ok s) (b : named_step t d' y' ≡ Ok x) (k c r : ℕ) where
  stands : Stands t s
  stands = (there_steps t d y (sym a)).stands

  L : Lawful (rotation t)
  L = good_lawful t stands.good

  same_call : whole_along t points lifts k c r s ≡ whole_along t points lifts k c r x → whole_answer t d y points lifts k c r ≡ whole_answer t d' y' points lifts k c r
  same_call e = ap (whole_by t points lifts k c r) a ∙ e ∙ sym (ap (whole_by t points lifts k c r) b)

  -- any step of the ribbon may name it
  pub whole_named : has x (walk (rotation t) s) ≡ true → whole_answer t d y points lifts k c r ≡ whole_answer t d' y' points lifts k c r
  whole_named e =
      let low = stands_low stands in
      same_call (along_alike t points lifts k c r s x (total_named (rotation t) L (spots_of t) s x low e) (total_named (rotation t) L (λ z. bit (far_step t points lifts z)) s x low e))

  -- and either sense
  pub whole_mirror : x ≡ mirror (rotation t) s → whole_answer t d y points lifts k c r ≡ whole_answer t d' y' points lifts k c r
  whole_mirror e =
      let low = stands_low stands in
      same_call
      (along_alike t points lifts k c r s (mirror (rotation t) s) (total_mirror (rotation t) L (spots_of t) (spots_back t) s low)
      (total_mirror (rotation t) L (λ z. bit (far_step t points lifts z)) (far_back t points lifts) s low)
      ∙ ap (whole_along t points lifts k c r) (sym e))
