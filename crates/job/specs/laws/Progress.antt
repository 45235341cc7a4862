-- The blocks of the job program: they are ready to be run, and what is known of all that came.
--     block_ready, block_written, block_left, block_after    a block can be run; what is written, left, and known after it
--     fine_after, going_reads, over_why                      where the reading stands
--     turn_came                                              one read, and the records that it makes whole
--     Going                                                  the loop that reads: what is known of all the bytes that came
--     going_none, going_ready, going_more                    it begins, can go on, goes on
--     waiting                                                the measure that falls with each turn
use Rattle.std.specs.Prelude.{ℕ, zero, suc, ◌+◌, ◌≤◌, ◌<◌, ◌^◌, ◌≡◌, refl, Bool, true, false, List, [], ◌∷◌, ◌++◌, length, take, drop}
use Rattle.std.proofs.Common.{arith, zero-add, suc-add, sym, ◌∙◌, ap, ap₂, length-append, length-drop, length-take-le}
use Rattle.std.proofs.lemmas.List.Edits.{sets}
use Rattle.std.proofs.Math.Seq.{length-sets, take-nil, drop-nil}
use Rattle.orbits.proofs.laws.Truth.{clash}
use Rattle.table.specs.Good.{Good}
use Rattle.text.specs.laws.Paste.{front_text}
use Rattle.records.specs.declared.block.Block.{Block}
use Rattle.records.specs.declared.records.Stop.{Stop}
use Rattle.records.specs.declared.records.Stop.TheVariants.{End, BadMark, CutRecord}
use Rattle.runs.specs.Run.{run}
use Rattle.records.specs.Records.{longest_record}
use Rattle.records.specs.Reading.{reading, read_up_to, ended, reads_on}
use Rattle.records.specs.laws.Reading.{joined, reading_bounds}
use Rattle.records.specs.Lines.{lines}
use Rattle.records.specs.laws.Lines.{lines_few}
use Rattle.records.specs.Blocks.{left, block_of}
use Rattle.records.specs.laws.Blocks.{left_some, reading_left, left_again, left_few, lines_blocks, run_blocks}
use Rattle.records.specs.laws.Running.{Ready}
use Rattle.records.specs.laws.Moving.{block_fits}
use Rattle.job.specs.declared.Progress.{Progress}
use Rattle.job.specs.declared.State.{State}
use Rattle.job.specs.declared.State.TheVariants.{More, Over, Failed}
use Rattle.job.specs.Job.{going, fine, state_after, after_block, Turn, came, failed, Finished, nothing_came, stopped}

-- a write that failed is known by the state
fine_after : (f : Bool) (new : ℕ) (stop : Stop) → fine (state_after f new stop) ≡ f
fine_after false new stop = refl
fine_after true zero stop = refl
fine_after true (suc new) End = refl
fine_after true (suc new) BadMark = refl
fine_after true (suc new) CutRecord = refl

-- the first n bytes of the buffer, and a buffer for the lines
module _ (number n : ℕ) (t buf out : List ℕ) (e : length buf ≡ 4096) (l : n ≤ 4096) (h : number ≤ 2 ^ 61) (f : 65536 ≡ length out) where
  pub block_ready : (n ≤ length buf) × Ready number (take n buf) out
  block_ready = let s = length-take-le n buf (omega arith) in (omega arith, record { count = omega arith; few = omega arith; room = omega arith })

  -- the lines have room, and what is left stands at the front
  module _ {b : Block} {t' buf' out' : List ℕ} (k : (b ≡ block_of t number (take n buf))
      × (t' ≡ run t (reading (take n buf)).edits)
      × (buf' ≡ sets buf 0 (left (take n buf)))
      × (out' ≡ sets out 0 (lines t number (reading (take n buf)).edits))) where
    pub block_written : b.written ≤ length out'
    block_written = rw (k.3, length-sets out 0 (lines t number (reading (take n buf)).edits)) (block_fits t block_ready.1 k.0).written

    pub block_left : take b.left buf' ≡ left (take n buf)
    block_left =
        let few = left_few (take n buf) in
        rw (k.0, k.2) (front_text buf (left (take n buf)) (omega arith))

    -- how far the reading is then, where the lines were handed over
    pub block_after : (p : Progress) (new : ℕ) {state : State} (f : Bool) {bytes : ℕ} → p.next ≡ number
        → state ≡ state_after f new b.stop → bytes ≡ length (take b.written out')
        → record { state = state; left = b.left; next = b.next; stop = b.stop; came = new; read = p.read + new; printed = p.printed + bytes }
        ≡ after_block t p new (take n buf) (fine state)
    block_after p new f same goes handed =
        let bytes-all = handed ∙ length-take-le b.written out' block_written in
        rw (ap fine goes ∙ fine_after f new b.stop, goes, bytes-all, k.0, same)

-- where the reading stands

going_reads : (f : Bool) (new : ℕ) (stop : Stop) → going (state_after f new stop) ≡ true → reads_on stop ≡ true
going_reads false new stop e = absurd (clash e refl)
going_reads true zero stop e = absurd (clash e refl)
going_reads true (suc new) End e = refl
going_reads true (suc new) BadMark e = absurd (clash e refl)
going_reads true (suc new) CutRecord e = refl

over_why : {came read : ℕ} (f : Bool) (new : ℕ) (stop : Stop) → f ≡ true → going (state_after f new stop) ≡ false → came ≡ new → Finished came stop read
over_why false new stop f e c = absurd (clash f refl)
over_why true zero stop f e c = nothing_came c
over_why true (suc new) End f e c = absurd (clash refl e)
over_why true (suc new) BadMark f e c = stopped refl
over_why true (suc new) CutRecord f e c = absurd (clash refl e)

-- one read

take_split : (a n : ℕ) (l : List ℕ) → take (a + n) l ≡ take a l ++ take n (drop a l)
take_split zero n l = ap (λ k. take k l) (zero-add n)
take_split (suc a) n [] = take-nil (suc a + n) ∙ sym (take-nil n)
take_split (suc a) n (x ∷ l) = ap (λ k. take k (x ∷ l)) (suc-add a n) ∙ ap (λ r. x ∷ r) (take_split a n l)

pub turn_came : {t₀ buf₀ t buf : List ℕ} {p r : Progress} (buf₁ : List ℕ) (new : ℕ) → p.left + new ≤ length buf₁ → new ≤ 4096
    → take p.left buf₁ ≡ take p.left buf₀
    → (r ≡ after_block t₀ p new (take (p.left + new) buf₁) (fine r.state))
    × (t ≡ run t₀ (reading (take (p.left + new) buf₁)).edits)
    × (take r.left buf ≡ left (take (p.left + new) buf₁))
    → Turn t₀ buf₀ p t buf r
turn_came {t₀} {buf₀} {t} {buf} {p} {r} buf₁ new room most front (e, f, g) =
    let part = take new (drop p.left buf₁) in
    let rest = length-drop p.left buf₁ in
    let size : length part ≡ new = length-take-le new (drop p.left buf₁) (omega arith) in
    let same : take (p.left + new) buf₁ ≡ take p.left buf₀ ++ part = take_split p.left new buf₁ ∙ ap (λ l. l ++ part) front in
    came part (rw size most)
    (e ∙ ap₂ (λ n s. after_block t₀ p n s (fine r.state)) (sym size) same)
    (f ∙ ap (λ s. run t₀ (reading s).edits) same)
    (g ∙ ap left same)

-- the loop that reads: `input` has all the bytes that came
pub record Going (t₀ t buf : List ℕ) (p : Progress) : Type 0 where
  pub input : List ℕ
  pub good : Good t₀
  pub size : length t ≡ length t₀
  pub buffer : length buf ≡ 4096
  pub all : p.read ≡ length input
  pub low : p.read ≤ 2 ^ 60 + 4096
  pub table : t ≡ run t₀ (reading input).edits
  pub next : p.next ≡ 1 + length (reading input).edits
  pub stop : p.stop ≡ (reading input).stop
  pub printed : p.printed ≡ length (lines t₀ 1 (reading input).edits)
  pub waits : p.left ≡ length (left input)
  pub front : take p.left buf ≡ left input
  pub on : going p.state ≡ true → reads_on (reading input).stop ≡ true
  pub over : fine p.state ≡ true → going p.state ≡ false → Finished p.came (reading input).stop p.read

nothing_read : reading [] ≡ ended End
unfolding reading read_up_to
nothing_read = refl

nothing_left : left [] ≡ []
nothing_left = left_some [] (ap (λ r. reads_on r.stop) nothing_read) ∙ drop-nil (reading []).taken

pub going_none : {t buf : List ℕ} → Good t → 4096 ≡ length buf
    → Going t t buf (record { state = More; left = 0; next = 1; stop = End; came = 1; read = 0; printed = 0 })
unfolding run lines
going_none {t} g e = record {
  input = [];
  good = g;
  size = refl;
  buffer = sym e;
  all = refl;
  low = omega arith;
  table = rw nothing_read;
  next = rw nothing_read;
  stop = rw nothing_read;
  printed = rw nothing_read;
  waits = rw nothing_left;
  front = rw nothing_left;
  on = λ q. rw nothing_read;
  over = λ f q. absurd (clash refl q);
}

-- what the next turn asks
pub going_ready : {t₀ t buf : List ℕ} {p : Progress} → Going t₀ t buf p
    → (length buf ≡ 4096) × (p.left < longest_record) × (p.next ≤ 2 ^ 61) × (p.read ≤ 2 ^ 61) × (p.printed ≤ 2 ^ 63)
going_ready {t₀} {p = p} k =
    let bounds = reading_bounds k.input in
    let within = bounds.within in
    let some = bounds.some in
    let all = k.all in
    let low = k.low in
    let next = k.next in
    let printed = k.printed in
    let waits = k.waits in
    let few = left_few k.input in
    let short = lines_few t₀ 1 (reading k.input).edits (omega arith) in
    (k.buffer, omega arith, omega arith, omega arith, omega arith)

-- the measure: the bytes that may still come, and one more turn for the read that gives none
abbrev pub waiting : State → ℕ
waiting More = 1
waiting Over = 0
waiting Failed = 0

module _ {t₀ t buf : List ℕ} {p : Progress} (k : Going t₀ t buf p) (g : p.state ≡ More) (l : p.read < 2 ^ 60) {t' buf' : List ℕ} {p' : Progress} where
  pub going_more : Turn t buf p t' buf' p' → length t' ≡ length t → length buf' ≡ length buf → Going t₀ t' buf' p'
  going_more (came new m e f h) z y =
      let s = left k.input ++ new in
      let here : take p.left buf ++ new ≡ s = ap (λ x. x ++ new) k.front in
      let A = (reading k.input).edits in
      let B = (reading s).edits in
      let whole : reading (k.input ++ new) ≡ joined (reading k.input) (reading s) = reading_left k.input new (k.on (ap going g)) in
      let after : p' ≡ after_block t p (length new) s (fine p'.state) = e ∙ ap (λ x. after_block t p (length new) x (fine p'.state)) here in
      let all = k.all in
      let low = k.low in
      let next = k.next in
      let printed = k.printed in
      let size = length-append k.input new in
      let edits = length-append A B in
      let read : p'.read ≡ p.read + length new = ap (λ x. x.read) after in
      let more : p'.next ≡ p.next + length B = ap (λ x. x.next) after in
      let text : p'.printed ≡ p.printed + length (lines t p.next B) = ap (λ x. x.printed) after in
      let line : length (lines t₀ 1 (reading (k.input ++ new)).edits) ≡ length (lines t₀ 1 A) + length (lines t p.next B) =
      ap length (lines_blocks t₀ 1 k.input new (k.on (ap going g))) ∙ length-append (lines t₀ 1 A) (lines (run t₀ A) (1 + length A) B)
      ∙ ap₂ (λ x n. length (lines t₀ 1 A) + length (lines x n B)) (sym k.table) (sym next) in
      record {
        input = k.input ++ new;
        good = k.good;
        size = z ∙ k.size;
        buffer = y ∙ k.buffer;
        all = omega arith;
        low = omega arith;
        table = f ∙ ap₂ (λ x a. run x (reading a).edits) k.table here ∙ sym (run_blocks t₀ 1 k.input new (k.on (ap going g)));
        next = rw whole (omega arith);
        stop = ap (λ x. x.stop) after ∙ ap (λ r. r.stop) (sym whole);
        printed = omega arith;
        waits = ap (λ x. x.left) after ∙ ap length (sym (left_again k.input new (k.on (ap going g))));
        front = h ∙ ap left here ∙ sym (left_again k.input new (k.on (ap going g)));
        on = λ q. rw whole (going_reads (fine p'.state) (length new) (reading s).stop (sym (ap (λ x. going x.state) after) ∙ q));
        over = λ q r. rw whole
            (over_why (fine p'.state) (length new) (reading s).stop q (sym (ap (λ x. going x.state) after) ∙ r) (ap (λ x. x.came) after));
      }
  going_more (failed e f h) z y = record {
    input = k.input;
    good = k.good;
    size = z ∙ k.size;
    buffer = y ∙ k.buffer;
    all = rw e k.all;
    low = rw e k.low;
    table = f ∙ k.table;
    next = rw e k.next;
    stop = rw e k.stop;
    printed = rw e k.printed;
    waits = rw e k.waits;
    front = ap (λ x. take x.left buf') e ∙ h ∙ k.front;
    on = λ q. absurd (clash q (ap (λ x. going x.state) e));
    over = λ q r. absurd (clash q (ap (λ x. fine x.state) e));
  }
