-- What the tags of one trace tell of two corners, and of the two sides of an edge.
--     Corners, corner_word              two corners of a good table; one that is below 32,768 is a dart
--     TagRead, read_dart, read_lone     r is the tag of corner c, of whatever table has these tags
--     corners_meet                      the tags of two corners tell how they meet
--     same_tags, one_face, two_faces    equal tags; tags of one face; tags of two
--     LiveEdge, EdgeNear, edge_near     a live edge of a good table, and where its word is
--     side_stands, side_low             the step of the other side, and its corner
--     sides_read                        the tags of both sides tell how they lie
--     other_side, one_more              the sides by the parity of the edge word
use Rattle.std.specs.Prelude.{ℕ, zero, suc, ◌+◌, ◌-◌, ◌*◌, ◌/◌, ◌%◌, ◌<◌, ◌≤◌, ◌≡◌, refl, true, false, List, ◌≢◌, eqb, length, get_or}
use native.Mathlib.Omega.{arith}
use Rattle.std.proofs.Common.{sym, ◌∙◌, ap, ap₂, eq-eqb, ne_eqb}
use Rattle.table.specs.Layout.{words, darts, edges, lone_at, rev, edge_word}
use Rattle.table.specs.Good.{Good}
use Rattle.table.specs.Rotation.{Rotation, Lawful, rotation, live?, turns_of}
use Rattle.table.specs.laws.Lawful.{good_lawful}
use Rattle.tracing.specs.declared.meeting.Meeting.TheVariants.{Apart, SameType, OtherType}
use Rattle.tracing.specs.declared.meeting.Sides.TheVariants.{SameDart}
use Rattle.tracing.specs.Step.{corner}
use Rattle.tracing.proofs.laws.Step.{corner_live}
use Rattle.tracing.specs.Corner.{face_of, type_of, meeting_by, meeting_of, Present, at_dart, at_lone}
use Rattle.tracing.proofs.laws.Corner.{type_zero, type_one, typed, face_of_lone, type_of_lone}
use Rattle.tracing.specs.Sides.{sides_of}
use Rattle.tracing.proofs.laws.Sides.{across, sides_met, sides_met_lem}
use Rattle.tracing_walks.specs.laws.Stands.{Stands}
use Rattle.tracing_tags.specs.laws.Tags.{Tags}

-- two corners of a good table
pub record Corners (t : List ℕ) (a b : ℕ) : Type 0 where
  pub good : Good t
  pub first : Present (rotation t) a
  pub second : Present (rotation t) b

pub corner_word : {R : Rotation} {c : ℕ} → Present R c → c < lone_at → c < darts
corner_word (at_dart low l) h = low
corner_word (at_lone v low q a) h = absurd (omega arith)

-- r is the tag of corner c, of whatever table m has the tags
abbrev pub TagRead : List ℕ → ℕ → ℕ → Type 0
TagRead m c r = (t : List ℕ) → Tags t m → Present (rotation t) c → r ≡ 2 * face_of (rotation t) c + type_of (rotation t) c

pub read_lone : (m : List ℕ) (c : ℕ) → lone_at ≤ c → TagRead m c (2 * c)
read_lone m c h t g p =
    let f = face_of_lone (rotation t) c h in
    let k = type_of_lone (rotation t) c h in
    omega arith

pub read_dart : (m : List ℕ) (c : ℕ) → c < lone_at → TagRead m c (get_or m c 0)
read_dart m c h t g (at_dart low l) = g.tag c l
read_dart m c h t g (at_lone v low q a) = absurd (omega arith)

-- tags tell how corners meet

type_low : (R : Rotation) (L : Lawful R) (c : ℕ) → Present R c → type_of R c < 2
type_low R L c p = elim (typed R L c p) [ type_zero z r ↦ omega arith | type_one z r ↦ omega arith ]

tags_meet : (R : Rotation) (L : Lawful R) (a b x y : ℕ) → Present R a → Present R b → x ≡ 2 * face_of R a + type_of R a → y ≡ 2 * face_of R b + type_of R b
    → meeting_by (eqb (x / 2) (y / 2)) (eqb (x % 2) (y % 2)) ≡ meeting_of R a b
unfolding meeting_of
tags_meet R L a b x y p q e f =
    let k = type_low R L a p in
    let l = type_low R L b q in
    let x-face : x / 2 ≡ face_of R a = omega arith in
    let x-type : x % 2 ≡ type_of R a = omega arith in
    let y-face : y / 2 ≡ face_of R b = omega arith in
    let y-type : y % 2 ≡ type_of R b = omega arith in
    ap₂ meeting_by (ap₂ eqb x-face y-face) (ap₂ eqb x-type y-type)

pub corners_meet : {t m : List ℕ} {a b x y : ℕ} → Corners t a b → Tags t m → TagRead m a x → TagRead m b y
    → meeting_by (eqb (x / 2) (y / 2)) (eqb (x % 2) (y % 2)) ≡ meeting_of (rotation t) a b
corners_meet {t} {m} {a} {b} {x} {y} k g f h =
    tags_meet (rotation t) (good_lawful t k.good) a b x y k.first k.second (f t g k.first) (h t g k.second)

-- equal tags, or those of one face

pub same_tags : (x y : ℕ) → x ≡ y → SameType ≡ meeting_by (eqb (x / 2) (y / 2)) (eqb (x % 2) (y % 2))
same_tags x y e = rw (eq-eqb (x / 2) (y / 2) (omega arith), eq-eqb (x % 2) (y % 2) (omega arith))

pub one_face : (x y : ℕ) → x ≢ y → x / 2 ≡ y / 2 → OtherType ≡ meeting_by (eqb (x / 2) (y / 2)) (eqb (x % 2) (y % 2))
one_face x y n e = rw (eq-eqb (x / 2) (y / 2) e, ne_eqb (x % 2) (y % 2) (omega arith))

pub two_faces : (x y : ℕ) → x / 2 ≢ y / 2 → Apart ≡ meeting_by (eqb (x / 2) (y / 2)) (eqb (x % 2) (y % 2))
two_faces x y n = rw (ne_eqb (x / 2) (y / 2) n) (by (eqb (x % 2) (y % 2)))
  where
    by : (b : _) → Apart ≡ meeting_by false b
    by true = refl
    by false = refl

-- types that differ are one more turn

pub other_side : (n : ℕ) → n ≢ 0 → SameDart ≡ sides_met SameType n
other_side zero h = absurd (h refl)
other_side (suc n) h = refl

pub one_more : (n : ℕ) → n < 2 → sides_met SameType (1 - n) ≡ sides_met OtherType n
one_more zero h = refl
one_more (suc zero) h = refl
one_more (suc (suc n)) h = absurd (omega arith)

-- a live edge of a good table
pub record LiveEdge (t : List ℕ) (e : ℕ) : Type 0 where
  pub good : Good t
  pub live : live? t (2 * e) ≡ true

-- where the word of a live edge is
pub record EdgeNear (t : List ℕ) (e : ℕ) : Type 0 where
  pub size : length t ≡ words
  pub low : e < edges

module _ {t : List ℕ} {e : ℕ} (k : LiveEdge t e) where
  lawful : Lawful (rotation t)
  lawful = good_lawful t k.good

  edge_low : e < edges
  edge_low = let d = lawful.dart_low (2 * e) k.live in omega arith

  pub edge_near : EdgeNear t e
  edge_near = record { size = k.good.size; low = edge_low }

  other_live : live? t ((4 * e + 2 + edge_word t e % 2) / 2) ≡ true
  other_live =
      let other : (4 * e + 2 + edge_word t e % 2) / 2 ≡ rev (2 * e) = let l = edge_low in omega arith in
      rw other (lawful.live_rev (2 * e) ∙ k.live)

  -- the step of the other side
  pub side_stands : Stands t (4 * e + 2 + edge_word t e % 2)
  side_stands = record { good = k.good; live = other_live }

  across_word : 4 * e + 2 + edge_word t e % 2 ≡ across (rotation t) e
  unfolding turns_of
  across_word = let half : 2 * e / 2 ≡ e = omega arith in rw half

  parity_word : (rotation t).turns (2 * e) % 2 ≡ edge_word t e % 2
  unfolding turns_of
  parity_word = let half : 2 * e / 2 ≡ e = omega arith in rw half

  module _ {m : List ℕ} (g : Tags t m) {c : ℕ} (q : c ≡ corner (rotation t) (4 * e + 2 + edge_word t e % 2)) where
    side_live : live? t c ≡ true
    side_live = rw q (corner_live (rotation t) lawful (4 * e + 2 + edge_word t e % 2) ∙ other_live)

    pub side_low : c < darts
    side_low = lawful.dart_low c side_live

    pub sides_read : {x y : ℕ} → TagRead m (2 * e) x → TagRead m c y
        → sides_met (meeting_by (eqb (x / 2) (y / 2)) (eqb (x % 2) (y % 2))) (edge_word t e % 2) ≡ sides_of (rotation t) e
    sides_read {x} {y} f h =
        let here : Present (rotation t) (2 * e) = at_dart (lawful.dart_low (2 * e) k.live) k.live in
        let there : Present (rotation t) c = at_dart side_low side_live in
        let meet = tags_meet (rotation t) lawful (2 * e) c x y here there (f t g here) (h t g there) in
        ap₂ sides_met (meet ∙ ap (meeting_of (rotation t) (2 * e)) (q ∙ ap (corner (rotation t)) across_word)) (sym parity_word)
        ∙ sym (sides_met_lem (rotation t) lawful e k.live)
