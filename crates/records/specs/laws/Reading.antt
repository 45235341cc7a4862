-- All records of some bytes, document 01, "The job program": the edits, the bytes that they took, and why the reading ended.
--     reading_stopped, reading_record                    what a reading is, by the first record
--     First, first_view, first_nothing                    what can stand first; nothing, where there is no byte
--     Sized, record_sized                                a record has at least four bytes, which are there
--     joined, joined_none, joined_after, joined_ended    a reading that goes on where another left off
--     reading_blocks, reading_bad                        bytes that come in blocks
--     Bounds, reading_bounds                             how many bytes and edits
use Rattle.std.specs.Prelude.{ℕ, zero, suc, ◌+◌, ◌-◌, ◌*◌, ◌≤◌, ◌<◌, ◌≡◌, refl, true, false, List, [], ◌∷◌, ◌++◌, ltb, eqb, length, drop, Option, Some, None, Ok, Err}
use Rattle.std.proofs.Common.{arith, zero-add, add-zero, add_assoc, sym, ◌∙◌, ap₂, append_assoc, append-nil, length-append, drop-drop, ltb-true, ltb-false, le-ltb, eqb-true, eq-eqb, ne_eqb}
use Rattle.std.proofs.Math.Path.{ap}
use Rattle.std.proofs.Math.ListN.{length-drop, get_or-append}
use Rattle.std.proofs.lemmas.List.{drop-append-le}
use Rattle.std.proofs.lemmas.Bool.{eqb-false}
use Rattle.orbits.proofs.laws.Truth.{truth, holds, fails, clash}
use Rattle.edits.specs.declared.edit.Edit.{Edit}
use Rattle.edits.specs.declared.edit.Edit.TheVariants.{AddVertex, RemoveVertex, DeleteEdge, TurnEdge}
use Rattle.records.specs.declared.records.Mark.{Mark}
use Rattle.records.specs.declared.records.Mark.TheVariants.{AV, RV, IE, IL, DE, TW}
use Rattle.records.specs.declared.records.Stop.{Stop}
use Rattle.records.specs.declared.records.Stop.TheVariants.{End, BadMark, CutRecord}
use Rattle.records.specs.Records.{word, signed_word, mark_of, size_of, longest_record, edit_of, Found, found, known_record, marked_record, first_record}
use Rattle.records.specs.Reading.{Reading, ended, after, read_up_to, reading, reads_on}

-- a reading that goes on where another left off
abbrev pub joined : Reading → Reading → Reading
joined r q = record { edits = r.edits ++ q.edits; taken = r.taken + q.taken; stop = q.stop }

-- what can stand first

mark_size : (m : Mark) → (4 ≤ size_of m) × (size_of m ≤ longest_record)
mark_size AV = (omega arith, omega arith)
mark_size RV = (omega arith, omega arith)
mark_size IE = (omega arith, omega arith)
mark_size IL = (omega arith, omega arith)
mark_size DE = (omega arith, omega arith)
mark_size TW = (omega arith, omega arith)

pub data First (s : List ℕ) (f : Found) : Type 0 where
  nothing : length s ≡ 0 → f ≡ Err End → First s f
  cut : 1 ≤ length s → length s < longest_record → f ≡ Err CutRecord → First s f
  unknown : 2 ≤ length s → mark_of (word s 0) ≡ None → f ≡ Err BadMark → First s f
  whole : (m : Mark) → mark_of (word s 0) ≡ Some m → size_of m ≤ length s → f ≡ found (edit_of m s) (size_of m) → First s f

known_first : (s : List ℕ) (m : Mark) → 2 ≤ length s → mark_of (word s 0) ≡ Some m → First s (known_record m s)
unfolding known_record
known_first s m h e = elim (truth (ltb (length s) (size_of m))) [
  | holds l ↦ let short = ltb-true (length s) (size_of m) l in let low = mark_size m in cut (omega arith) (omega arith) (rw l)
  | fails l ↦ whole m e (ltb-false (length s) (size_of m) l) (rw l)
]

marked_first : (s : List ℕ) (k : Option Mark) → 2 ≤ length s → mark_of (word s 0) ≡ k → First s (marked_record k s)
marked_first s (Some m) h e = known_first s m h e
marked_first s None h e = unknown h e refl

pub first_view : (s : List ℕ) → First s (first_record s)
unfolding first_record
first_view s = elim (truth (eqb (length s) 0)) [
  | holds e ↦ nothing (eqb-true (length s) 0 e) (rw e)
  | fails e ↦ elim (truth (eqb (length s) 1)) [
    | holds l ↦ let one = eqb-true (length s) 1 l in cut (omega arith) (omega arith) (rw (e, l))
    | fails l ↦
        let some = eqb-false (length s) 0 e in
        let two = eqb-false (length s) 1 l in
        rw (e, l) (marked_first s (mark_of (word s 0)) (omega arith) refl)
  ]
]

pub first_nothing : (s : List ℕ) → length s ≡ 0 → Err End ≡ first_record s
unfolding first_record
first_nothing s e = rw (eq-eqb (length s) 0 e)

-- a record has at least four bytes, which are there
pub record Sized (s : List ℕ) (k : ℕ) : Type 0 where
  pub some : 4 ≤ k
  pub there : k ≤ length s

size_in : Found → ℕ
size_in (Ok r) = r.size
size_in (Err x) = 0

record_parts : {E F : Edit} {k l : ℕ} → found E k ≡ found F l → k ≡ l
unfolding size_in
record_parts e = ap size_in e

stopped_other : {E : Edit} {k : ℕ} {x : Stop} → Err x ≡ found E k → ⊥
stopped_other e = let z : ◌≡◌ {A = ℕ} 0 1 = cc in omega arith

pub record_sized : (s : List ℕ) {E : Edit} {k : ℕ} → first_record s ≡ found E k → Sized s k
record_sized s e = elim (first_view s) [
  | nothing h f ↦ absurd (stopped_other (sym f ∙ e))
  | cut h l f ↦ absurd (stopped_other (sym f ∙ e))
  | unknown h g f ↦ absurd (stopped_other (sym f ∙ e))
  | whole m g h f ↦
      let size = record_parts (sym f ∙ e) in
      let low = mark_size m in
      record { some = omega arith; there = omega arith }
]

-- a reading, by the first record

module _ (n : ℕ) (s : List ℕ) where
  up_to_stopped : (x : Stop) → first_record s ≡ Err x → read_up_to (suc n) s ≡ ended x
  unfolding read_up_to
  up_to_stopped x e = rw e

  up_to_record : (E : Edit) (k : ℕ) → first_record s ≡ found E k → read_up_to (suc n) s ≡ after E k (read_up_to n (drop k s))
  unfolding read_up_to
  up_to_record E k e = rw e

-- more records than bytes allow change nothing
none_left : (n : ℕ) (s : List ℕ) → length s ≤ 0 → read_up_to n s ≡ ended End
unfolding read_up_to
none_left zero s h = refl
none_left (suc n) s h = elim (first_view s) [
  | nothing z f ↦ up_to_stopped n s End f
  | cut t c f ↦ absurd (omega arith)
  | unknown t g f ↦ absurd (omega arith)
  | whole m g t f ↦ let low = mark_size m in absurd (omega arith)
]

enough : (n m : ℕ) (s : List ℕ) → length s ≤ n → length s ≤ m → read_up_to n s ≡ read_up_to m s
enough zero m s h l = none_left zero s h ∙ sym (none_left m s h)
enough (suc n) zero s h l = none_left (suc n) s l ∙ sym (none_left zero s l)
enough (suc n) (suc m) s h l = elim (first_view s) [
  | nothing z f ↦ up_to_stopped n s End f ∙ sym (up_to_stopped m s End f)
  | cut t c f ↦ up_to_stopped n s CutRecord f ∙ sym (up_to_stopped m s CutRecord f)
  | unknown t g f ↦ up_to_stopped n s BadMark f ∙ sym (up_to_stopped m s BadMark f)
  | whole k g t f ↦
      let low = mark_size k in
      let left = length-drop (size_of k) s in
      up_to_record n s (edit_of k s) (size_of k) f
      ∙ ap (after (edit_of k s) (size_of k)) (enough n m (drop (size_of k) s) (omega arith) (omega arith))
      ∙ sym (up_to_record m s (edit_of k s) (size_of k) f)
]

reading_suc : (s : List ℕ) → reading s ≡ read_up_to (suc (length s)) s
unfolding reading
reading_suc s = enough (length s) (suc (length s)) s (omega arith) (omega arith)

module _ (s : List ℕ) where
  pub reading_stopped : (x : Stop) → first_record s ≡ Err x → reading s ≡ ended x
  reading_stopped x e = reading_suc s ∙ up_to_stopped (length s) s x e

  pub reading_record : (E : Edit) (k : ℕ) → first_record s ≡ found E k → reading s ≡ after E k (reading (drop k s))
  unfolding reading
  reading_record E k e =
      let left = length-drop k s in
      reading_suc s ∙ up_to_record (length s) s E k e ∙ ap (after E k) (enough (length s) (length (drop k s)) (drop k s) (omega arith) (omega arith))

-- bytes that come in blocks

pub joined_none : (x : Stop) (r : Reading) → joined (ended x) r ≡ r
joined_none x r = ap (λ t. record { edits = r.edits; taken = t; stop = r.stop }) (zero-add r.taken)

after_joined : (E : Edit) (k : ℕ) (r q : Reading) → after E k (joined r q) ≡ joined (after E k r) q
after_joined E k r q = ap (λ t. record { edits = E ∷ (r.edits ++ q.edits); taken = t; stop = q.stop }) (sym (add_assoc k r.taken q.taken))

-- one edit more, and the end
pub joined_after : (r : Reading) (E : Edit) (k : ℕ) (q : Reading) → joined r (after E k q) ≡ joined (record { edits = r.edits ++ (E ∷ []); taken = r.taken + k; stop = End }) q
joined_after r E k q =
    ap₂ (λ l t. record { edits = l; taken = t; stop = q.stop }) (sym (append_assoc r.edits (E ∷ []) q.edits)) (sym (add_assoc r.taken k q.taken))

pub joined_ended : (Es : List Edit) (t : ℕ) (x : Stop) → joined (record { edits = Es; taken = t; stop = End }) (ended x) ≡ record { edits = Es; taken = t; stop = x }
joined_ended Es t x = rw (append-nil Es, add-zero t)

-- more bytes do not change a whole record
word_append : (s b : List ℕ) (i : ℕ) → i + 1 < length s → word (s ++ b) i ≡ word s i
word_append s b i h = ap₂ (λ x y. x * 256 + y) (get_or-append s b 0 i (omega arith)) (get_or-append s b 0 (i + 1) h)

edit_append : (m : Mark) (s b : List ℕ) → size_of m ≤ length s → edit_of m (s ++ b) ≡ edit_of m s
edit_append AV s b h = ap AddVertex (word_append s b 2 (omega arith))
edit_append RV s b h = ap RemoveVertex (word_append s b 2 (omega arith))
edit_append IE s b h = rw (word_append s b 2 (omega arith), word_append s b 4 (omega arith), word_append s b 6 (omega arith), word_append s b 8 (omega arith))
edit_append IL s b h = rw (word_append s b 2 (omega arith), word_append s b 4 (omega arith), word_append s b 6 (omega arith), word_append s b 8 (omega arith), word_append s b 10 (omega arith))
edit_append DE s b h = ap DeleteEdge (word_append s b 2 (omega arith))
edit_append TW s b h = ap₂ (λ x y. TurnEdge x (signed_word y)) (word_append s b 2 (omega arith)) (word_append s b 4 (omega arith))

whole_append : (m : Mark) (s b : List ℕ) → mark_of (word s 0) ≡ Some m → size_of m ≤ length s → first_record (s ++ b) ≡ found (edit_of m s) (size_of m)
unfolding first_record known_record
whole_append m s b e h =
    let low = mark_size m in
    let size = length-append s b in
    let known : mark_of (word (s ++ b) 0) ≡ Some m = ap mark_of (word_append s b 0 (omega arith)) ∙ e in
    rw (ne_eqb (length (s ++ b)) 0 (omega arith), ne_eqb (length (s ++ b)) 1 (omega arith), known, le-ltb (length (s ++ b)) (size_of m) (omega arith), edit_append m s b h)

blocks : (n : ℕ) (a b : List ℕ) → reads_on (read_up_to n a).stop ≡ true → reading (a ++ b) ≡ joined (read_up_to n a) (reading (drop (read_up_to n a).taken a ++ b))
unfolding read_up_to
blocks zero a b h = sym (joined_none End (reading (a ++ b)))
blocks (suc n) a b h = elim (first_view a) [
  | nothing z f ↦ rw (up_to_stopped n a End f) (sym (joined_none End (reading (a ++ b))))
  | cut t c f ↦ rw (up_to_stopped n a CutRecord f) (sym (joined_none CutRecord (reading (a ++ b))))
  | unknown t g f ↦ absurd (clash h (ap (λ r. reads_on r.stop) (up_to_stopped n a BadMark f)))
  | whole m g t f ↦
      let E = edit_of m a in
      let k = size_of m in
      let r = read_up_to n (drop k a) in
      let first = up_to_record n a E k f in
      let next = blocks n (drop k a) b (sym (ap (λ x. reads_on x.stop) first) ∙ h) in
      rw first
      (reading_record (a ++ b) E k (whole_append m a b g t)
      ∙ ap (after E k) (ap reading (drop-append-le k a b t) ∙ next)
      ∙ after_joined E k r (reading (drop r.taken (drop k a) ++ b))
      ∙ ap (λ l. joined (after E k r) (reading (l ++ b))) (drop-drop r.taken k a))
]

-- a cut record may be whole with the bytes that follow it
pub reading_blocks : (a b : List ℕ) → reads_on (reading a).stop ≡ true → reading (a ++ b) ≡ joined (reading a) (reading (drop (reading a).taken a ++ b))
unfolding reading
reading_blocks a b h = blocks (length a) a b h

unknown_append : (s b : List ℕ) → mark_of (word s 0) ≡ None → 2 ≤ length s → first_record (s ++ b) ≡ Err BadMark
unfolding first_record
unknown_append s b e h =
    let size = length-append s b in
    let same : mark_of (word (s ++ b) 0) ≡ None = ap mark_of (word_append s b 0 (omega arith)) ∙ e in
    rw (ne_eqb (length (s ++ b)) 0 (omega arith), ne_eqb (length (s ++ b)) 1 (omega arith), same)

bad : (n : ℕ) (a b : List ℕ) → reads_on (read_up_to n a).stop ≡ false → reading (a ++ b) ≡ read_up_to n a
unfolding read_up_to
bad zero a b h = absurd (clash refl h)
bad (suc n) a b h = elim (first_view a) [
  | nothing z f ↦ absurd (clash (ap (λ x. reads_on x.stop) (up_to_stopped n a End f)) h)
  | cut t c f ↦ absurd (clash (ap (λ x. reads_on x.stop) (up_to_stopped n a CutRecord f)) h)
  | unknown t g f ↦ reading_stopped (a ++ b) BadMark (unknown_append a b g t) ∙ sym (up_to_stopped n a BadMark f)
  | whole m g t f ↦
      let E = edit_of m a in
      let k = size_of m in
      let first = up_to_record n a E k f in
      reading_record (a ++ b) E k (whole_append m a b g t)
      ∙ ap (after E k) (ap reading (drop-append-le k a b t) ∙ bad n (drop k a) b (sym (ap (λ x. reads_on x.stop) first) ∙ h))
      ∙ sym first
]

-- a bad mark is bad whatever follows
pub reading_bad : (a b : List ℕ) → reads_on (reading a).stop ≡ false → reading (a ++ b) ≡ reading a
unfolding reading
reading_bad a b h = bad (length a) a b h

-- the records lie in the bytes, with at least four bytes each; what is left of them is no whole record, unless a bad mark ended the reading
pub record Bounds (s : List ℕ) (r : Reading) : Type 0 where
  pub within : r.taken ≤ length s
  pub some : 4 * length r.edits ≤ r.taken
  pub rest : reads_on r.stop ≡ true → length s - r.taken < longest_record

bounds : (n : ℕ) (s : List ℕ) → length s ≤ n → Bounds s (read_up_to n s)
unfolding read_up_to
bounds zero s h = record { within = omega arith; some = omega arith; rest = λ q. omega arith }
bounds (suc n) s h = elim (first_view s) [
  | nothing z f ↦ rw (up_to_stopped n s End f) (record { within = omega arith; some = omega arith; rest = λ q. omega arith })
  | cut t c f ↦ rw (up_to_stopped n s CutRecord f) (record { within = omega arith; some = omega arith; rest = λ q. omega arith })
  | unknown t g f ↦ rw (up_to_stopped n s BadMark f) (record { within = omega arith; some = omega arith; rest = λ q. absurd (clash q refl) })
  | whole m g t f ↦
      let low = mark_size m in
      let size = length-drop (size_of m) s in
      let b = bounds n (drop (size_of m) s) (omega arith) in
      let within = b.within in
      let some = b.some in
      rw (up_to_record n s (edit_of m s) (size_of m) f) (record {
        within = omega arith;
        some = omega arith;
        rest = λ q. let rest = b.rest q in omega arith;
      })
]

pub reading_bounds : (s : List ℕ) → Bounds s (reading s)
unfolding reading
reading_bounds s = bounds (length s) s (omega arith)
