-- Records run over a table, as the code does it: what its loop knows.
--     Ready                                                  what the code asks
--     line_done, line_declined                               the line of one edit: none, or its refusal
--     stop_none, stop_bad, stop_cut                          the line of a reading that ended
--     Running                                                the loop: the edits of the first `at` bytes are done
--     running_none, running_more, running_stopped            it begins, goes on, ends
--     left_part, ReadWithin, running_within                  the bytes left; a whole record is within bounds
use Rattle.std.specs.Prelude.{ℕ, ◌+◌, ◌-◌, ◌*◌, ◌≤◌, ◌<◌, ◌^◌, ◌≡◌, refl, List, [], ◌∷◌, ◌++◌, length, take, drop, Err, Ok}
use Rattle.std.proofs.Common.{arith, ◌∙◌, ap, length-append, length-drop, take_all, drop-drop}
use Rattle.std.proofs.Math.Path.{sym}
use Rattle.std.proofs.lemmas.List.Edits.{sets}
use Rattle.text.specs.laws.Paste.{paste_none, paste_sets, pasted_then, pasted_as}
use Rattle.table.specs.Answers.{number_of, Answer}
use Rattle.table.specs.declared.answer.Refusal.{Refusal}
use Rattle.table.specs.declared.answer.Refusal.TheVariants as refusal
use Rattle.edits.specs.Edits.{answer, edited}
use Rattle.edits.specs.declared.edit.Edit.{Edit}
use Rattle.records.specs.declared.records.Stop.{Stop}
use Rattle.records.specs.declared.records.Stop.TheVariants.{End, BadMark, CutRecord}
use Rattle.runs.specs.Run.{run}
use Rattle.runs.proofs.laws.Run.{run_append, run_one}
use Rattle.records.specs.Records.{Found, found, first_record}
use Rattle.records.specs.Reading.{reading, ended, after}
use Rattle.records.specs.laws.Reading.{joined, joined_none, joined_after, joined_ended, reading_stopped, reading_record, record_sized}
use Rattle.records.specs.Lines.{no_line, stop_line, edit_line, lines}
use Rattle.records.specs.Blocks.{ran_of}
use Rattle.records.specs.laws.Lines.{lines_append, lines_one, lines_few}
use Rattle.text.specs.Paste.{Pasted}

-- what the code asks: the records can be counted, and there is room for the lines, 27 bytes at most for 4 bytes of a record
pub record Ready (number : ℕ) (s out : List ℕ) : Type 0 where
  pub count : number + length s < 2 ^ 64
  pub few : length s ≤ 2 ^ 32
  pub room : 7 * length s ≤ length out

-- the line of one edit, by its answer
module _ (t : List ℕ) (n : ℕ) (E : Edit) {a : Answer} (e : a ≡ answer t E) where
  pub line_done : {f at : ℕ} (out : List ℕ) → a ≡ Ok f → Pasted 0 at out (edit_line t n E) at out
  unfolding edit_line
  line_done {at = at} out g = rw (← e, g) (record { end = omega arith; shows = sym (paste_none 0 at out) })

  pub line_declined : {r : Refusal} {m at end : ℕ} {out out' : List ℕ} → a ≡ Err r → m ≡ number_of r → Pasted 0 at out (no_line n m) end out'
      → Pasted 0 at out (edit_line t n E) end out'
  unfolding edit_line
  line_declined g h p = rw (← e, g, ← h) p

-- the line of a reading that ended
pub stop_none : (n : ℕ) {stop : Stop} (out : List ℕ) → stop ≡ End → Pasted 0 0 out (stop_line n stop) 0 out
unfolding stop_line
stop_none n out e = rw e (record { end = refl; shows = sym (paste_none 0 0 out) })

module _ (n : ℕ) {stop : Stop} {m end : ℕ} {out out' : List ℕ} where
  pub stop_bad : stop ≡ BadMark → m ≡ number_of refusal.BadMark → Pasted 0 0 out (no_line n m) end out' → Pasted 0 0 out (stop_line n stop) end out'
  unfolding stop_line
  stop_bad e h p = rw e (rw h at p)

  pub stop_cut : stop ≡ CutRecord → m ≡ number_of refusal.CutRecord → Pasted 0 0 out (no_line n m) end out' → Pasted 0 0 out (stop_line n stop) end out'
  unfolding stop_line
  stop_cut e h p = rw e (rw h at p)

-- the edits of the first `at` bytes are done
pub record Running (t₀ s : List ℕ) (number : ℕ) (out₀ t : List ℕ) (at next end : ℕ) (out : List ℕ) : Type 0 where
  pub so_far : List Edit
  pub ready : Ready number s out₀
  pub read : reading s ≡ joined (record { edits = so_far; taken = at; stop = End }) (reading (drop at s))
  pub within : at ≤ length s
  pub table : t ≡ run t₀ so_far
  pub size : length t ≡ length t₀
  pub count : next ≡ number + length so_far
  pub few : 4 * length so_far ≤ at
  pub text : Pasted 0 0 out₀ (lines t₀ number so_far) end out

pub running_none : {t s : List ℕ} {number : ℕ} {out : List ℕ} → Ready number s out → Running t s number out t 0 number 0 out
unfolding run lines
running_none {s = s} {out = out} h = record {
  so_far = [];
  ready = h;
  read = sym (joined_none End (reading s));
  within = omega arith;
  table = refl;
  size = refl;
  count = omega arith;
  few = omega arith;
  text = record { end = omega arith; shows = sym (paste_none 0 0 out) };
}

module _ {t₀ s : List ℕ} {number : ℕ} {out₀ t : List ℕ} {at next end : ℕ} {out : List ℕ} (k : Running t₀ s number out₀ t at next end out) where
  -- what is left, as the part of the slice that the code passes on
  pub left_part : take (length s - at) (drop at s) ≡ drop at s
  left_part = take_all (length s - at) (drop at s) (let size = length-drop at s in omega arith)

  module _ {f : Found} (e : f ≡ first_record (take (length s - at) (drop at s))) where
    here : f ≡ first_record (drop at s)
    here = rw left_part at e

    -- a record that is whole: its size, the next number, the place of its line
    pub record ReadWithin (size : ℕ) : Type 0 where
      pub some : 4 ≤ size
      pub there : at + size ≤ length s
      pub low : at + size ≤ 2 ^ 32
      pub number_fits : next + 1 < 2 ^ 64
      pub place : end ≤ 2 ^ 40

    pub running_within : {E : Edit} {size : ℕ} → f ≡ found E size → ReadWithin size
    running_within q =
        let z = record_sized (drop at s) (sym here ∙ q) in
        let left = length-drop at s in
        let r = k.ready in
        let few = k.few in
        let count = k.count in
        let within = k.within in
        let end = k.text.end in
        let short = lines_few t₀ number k.so_far (omega arith) in
        record { some = z.some; there = omega arith; low = omega arith; number_fits = omega arith; place = omega arith }

    pub running_more : {E : Edit} {size : ℕ} {t' : List ℕ} {end' : ℕ} {out' : List ℕ} → f ≡ found E size → t' ≡ edited t E → length t' ≡ length t
        → Pasted 0 end out (edit_line t next E) end' out'
        → Running t₀ s number out₀ t' (at + size) (next + 1) end' out'
    running_more {E} {size} {t'} {end'} {out'} q d z p =
        let Es = k.so_far in
        let w = running_within q in
        let count = k.count in
        let few = k.few in
        let more = length-append Es (E ∷ []) in
        record {
          so_far = Es ++ (E ∷ []);
          ready = k.ready;
          read =
              k.read
              ∙ ap (joined (record { edits = Es; taken = at; stop = End })) (reading_record (drop at s) E size (sym here ∙ q) ∙ ap (λ l. after E size (reading l)) (drop-drop size at s))
              ∙ joined_after (record { edits = Es; taken = at; stop = End }) E size (reading (drop (at + size) s));
          within = w.there;
          table = d ∙ ap (λ x. edited x E) k.table ∙ sym (run_append t₀ Es (E ∷ []) ∙ run_one (run t₀ Es) E);
          size = z ∙ k.size;
          count = omega arith;
          few = let some = w.some in omega arith;
          text = pasted_as (pasted_then k.text p) (line_more Es k.table k.count);
        }
      where
        line_more : (Es : List Edit) → t ≡ run t₀ Es → next ≡ number + length Es → lines t₀ number Es ++ edit_line t next E ≡ lines t₀ number (Es ++ (E ∷ []))
        line_more Es a b =
            rw (a, b) (sym (lines_append t₀ number Es (E ∷ []) ∙ ap (λ l. lines t₀ number Es ++ l) (lines_one (run t₀ Es) (number + length Es) E)))

  -- what the code hands over where no whole record is left
  module _ {x : Stop} (e : reading (drop at s) ≡ ended x) where
    all_read : reading s ≡ record { edits = k.so_far; taken = at; stop = x }
    all_read = k.read ∙ ap (joined (record { edits = k.so_far; taken = at; stop = End })) e ∙ joined_ended k.so_far at x

    running_all : (record { taken = at; next = next; written = end; stop = x } ≡ ran_of t₀ number s)
        × (t ≡ run t₀ (reading s).edits)
        × (out ≡ sets out₀ 0 (lines t₀ number (reading s).edits))
    running_all =
        let written : end ≡ length (lines t₀ number k.so_far) = let place = k.text.end in omega arith in
        rw all_read (rw (k.count, written), k.table, k.text.shows ∙ paste_sets 0 out₀ (lines t₀ number k.so_far))

  module _ {f : Found} (e : f ≡ first_record (take (length s - at) (drop at s))) where
    pub running_stopped : {x : Stop} → f ≡ Err x
        → (record { taken = at; next = next; written = end; stop = x } ≡ ran_of t₀ number s)
        × (t ≡ run t₀ (reading s).edits)
        × (out ≡ sets out₀ 0 (lines t₀ number (reading s).edits))
    running_stopped {x} q = running_all (reading_stopped (drop at s) x (sym (here e) ∙ q))
