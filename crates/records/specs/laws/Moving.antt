-- A block of a job's bytes, as the code takes it: what is left of it is moved to the front.
--     BlockFits, block_fits                   few bytes are left, the records are few, the lines have room
--     front_moved                             what is moved to the front
--     block_bad, taken_there, block_more      the ends: after a bad mark; where more is read
use Rattle.std.specs.Prelude.{ℕ, zero, suc, ◌+◌, ◌-◌, ◌≤◌, ◌<◌, ◌≡◌, refl, Bool, true, false, List, [], ◌∷◌, ◌++◌, length, take, drop}
use Rattle.std.proofs.Common.{arith, zero-add, sym, ◌∙◌, ap, length-drop, length-take-le}
use Rattle.std.proofs.Math.Nat.{sub-zero, zero-sub, suc-sub-suc}
use Rattle.std.proofs.lemmas.List.Edits.{sets}
use Rattle.std.proofs.Math.Seq.{take-nil}
use Rattle.std.specs.List.{copy_within}
use Rattle.text.specs.laws.Paste.{sets_front}
use Rattle.records.specs.declared.run.Ran.{Ran}
use Rattle.records.specs.declared.block.Block.{Block}
use Rattle.records.specs.Records.{longest_record}
use Rattle.records.specs.Reading.{reading, reads_on}
use Rattle.records.specs.laws.Reading.{reading_bounds}
use Rattle.records.specs.laws.Lines.{lines_few}
use Rattle.records.specs.Blocks.{left, ran_of, block_of}
use Rattle.records.specs.laws.Blocks.{left_none, left_some, left_few}
use Rattle.records.specs.laws.Running.{Ready}

-- what a caller can count on: few bytes are left, so there is room for more; the records are not more than the bytes; the lines have room
pub record BlockFits (number : ℕ) (s out : List ℕ) (b : Block) : Type 0 where
  pub few : b.left < longest_record
  pub next : b.next ≤ number + length s
  pub written : b.written ≤ length out

pub block_fits : (t : List ℕ) {number : ℕ} {s out : List ℕ} {b : Block} → Ready number s out → b ≡ block_of t number s → BlockFits number s out b
block_fits t {number} {s} h e =
    let bounds = reading_bounds s in
    let within = bounds.within in
    let some = bounds.some in
    let ready = h in
    let lines = lines_few t number (reading s).edits (omega arith) in
    rw e (record { few = left_few s; next = omega arith; written = omega arith })

-- the bytes from index `from` up to `to`, moved to the front
front_moved : {from to : ℕ} (buf : List ℕ) → from ≤ to → to ≤ length buf → copy_within buf from to 0 ≡ sets buf 0 (take (to - from) (drop from buf))
front_moved {from} {to} buf h l =
    let size = length-drop from buf in
    let part = length-take-le (to - from) (drop from buf) (omega arith) in
    ap (λ k. take (to - from) (drop from buf) ++ drop k buf) (zero-add (to - from) ∙ sym part) ∙ sym (sets_front buf (take (to - from) (drop from buf)) (omega arith))

-- the ends of the code, where the block is the first n bytes of `buf`

drop_take : (a n : ℕ) (l : List ℕ) → drop a (take n l) ≡ take (n - a) (drop a l)
drop_take zero n l = ap (λ k. take k l) (sym (sub-zero n))
drop_take (suc a) zero l = ap (λ k. take k (drop (suc a) l)) (sym (zero-sub (suc a)))
drop_take (suc a) (suc n) [] = sym (take-nil (suc n - suc a))
drop_take (suc a) (suc n) (x ∷ l) = drop_take a n l ∙ ap (λ k. take k (drop a l)) (sym (suc-sub-suc n a))

module _ (t : List ℕ) (number : ℕ) (buf : List ℕ) (n : ℕ) {r : Ran} (e : r ≡ ran_of t number (take n buf)) where
  pub block_bad : {on : Bool} → on ≡ reads_on r.stop → on ≡ false
      → (record { left = 0; next = r.next; written = r.written; stop = r.stop } ≡ block_of t number (take n buf)) × (buf ≡ sets buf 0 (left (take n buf)))
  block_bad g h =
      let none : left (take n buf) ≡ [] = left_none (take n buf) (sym (g ∙ ap (λ x. reads_on x.stop) e) ∙ h) in
      rw (e, none) (refl, refl)

  module _ (h : n ≤ length buf) where
    pub taken_there : r.taken ≤ n
    taken_there =
        let within = (reading_bounds (take n buf)).within in
        let size = length-take-le n buf h in
        let same : r.taken ≡ (reading (take n buf)).taken = ap (λ x. x.taken) e in
        omega arith

    pub block_more : {on : Bool} {buf' : List ℕ} → on ≡ reads_on r.stop → on ≡ true → buf' ≡ copy_within buf r.taken n 0
        → (record { left = n - r.taken; next = r.next; written = r.written; stop = r.stop } ≡ block_of t number (take n buf)) × (buf' ≡ sets buf 0 (left (take n buf)))
    block_more g q f =
        let some : left (take n buf) ≡ drop (reading (take n buf)).taken (take n buf) = left_some (take n buf) (sym (g ∙ ap (λ x. reads_on x.stop) e) ∙ q) in
        let size : length (left (take n buf)) ≡ n - (reading (take n buf)).taken =
        ap length some ∙ length-drop (reading (take n buf)).taken (take n buf) ∙ ap (λ k. k - (reading (take n buf)).taken) (length-take-le n buf h) in
        (rw (e, size), f ∙ front_moved buf taken_there h ∙ rw (e, some) (ap (sets buf 0) (sym (drop_take (reading (take n buf)).taken n buf))))
