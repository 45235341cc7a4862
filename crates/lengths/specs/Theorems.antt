-- The theorems of this crate, document 02, d. Each is proved by the law of its name.
use Rattle.std.specs.Prelude.{ℕ, ◌/◌, ◌<◌, ◌≤◌, ◌≡◌, true, List, ◌≢◌, Ok}
use Rattle.table.specs.Layout.{leaves}
use Rattle.table.specs.Good.{Good}
use Rattle.table.specs.Rotation.{rotation, live?, alone?}
use Rattle.tracing.specs.Step.{steps, mirror}
use Rattle.tracing.specs.Walk.{walk}
use Rattle.tracing.specs.Listing.{has, lone_corner}
use Rattle.weave.specs.Calls.{named_step}
use Rattle.lengths.specs.CutLength.{cut_length, cut_length_of}
use Rattle.lengths.specs.laws.Sense as sense

-- the cut length does not depend on the step that names the ribbon
pub cut_named : (t : List ℕ) (g : Good t) (s x : ℕ) → s < steps → has x (walk (rotation t) s) ≡ true → cut_length t s ≡ cut_length t x
cut_named = sense.cut_named

-- nor on the sense in which its face is traced: over stays over when it is travelled back
pub cut_mirror : (t : List ℕ) (g : Good t) (s : ℕ) → s < steps → cut_length t s ≡ cut_length t (mirror (rotation t) s)
cut_mirror = sense.cut_mirror

-- nor does the call's answer: of two names of one ribbon, and of two names of its face, one in each sense
pub answer_named : (t : List ℕ) (d k d' k' : ℕ) {s x : ℕ} → named_step t d k ≡ Ok s → named_step t d' k' ≡ Ok x
    → has x (walk (rotation t) s) ≡ true → cut_length_of t d k ≡ cut_length_of t d' k'
answer_named = sense.answer_named

pub answer_mirror : (t : List ℕ) (d k d' k' : ℕ) {s x : ℕ} → named_step t d k ≡ Ok s → named_step t d' k' ≡ Ok x
    → x ≡ mirror (rotation t) s → cut_length_of t d k ≡ cut_length_of t d' k'
answer_mirror = sense.answer_mirror

-- "any cut length" fits 32 bits: it is at most 135,838,016
pub cut_most : (t : List ℕ) (g : Good t) (s : ℕ) → live? t (s / 2) ≡ true → cut_length t s ≤ 135838016
cut_most = sense.cut_most

-- "An isolated vertex still yields no ribbon": a dart that has a cut length does not leave one, and is not the corner of one
pub lone_none : (t : List ℕ) (d k n : ℕ) → cut_length_of t d k ≡ Ok n → (v : ℕ) → alone? t v ≡ true → (leaves t d ≢ v) × (d ≢ lone_corner v)
lone_none = sense.lone_none
