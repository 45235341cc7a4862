-- The steps of a walk, as the code writes them.
--     Crossed, edge_crossed                                        a step on a live edge, whose letters are few
--     lettering_more, lettering_all                                the loop that writes them
--     step_wrote                                                   a step
--     StepsWriting                                                 the loop over the walk
--     stepping_none, stepping_near, stepping_more, stepping_all    it begins, is far from any limit, goes on, ends
use Rattle.std.specs.Prelude.{ℕ, ◌+◌, ◌*◌, ◌/◌, ◌%◌, ◌<◌, ◌≤◌, ◌^◌, ◌≡◌, List, [], ◌∷◌, ◌++◌, length}
use Rattle.std.proofs.Common.{arith, sym, ◌∙◌, ap, length-append}
use Rattle.table.specs.Rotation.{rotation}
use Rattle.tracing.specs.Walk.{walk}
use Rattle.tracing.specs.Listing.{gather}
use Rattle.tracing.proofs.laws.Listing.{gather_one, gather_append}
use Rattle.tracing_walks.specs.laws.Stands.{Stands}
use Rattle.tracing_walks.specs.laws.Along.{Along, along_none, along_more, along_all, along_low, walk_most}
use Rattle.weave.specs.Letters.{crossings, letters_on, step_letters, letter_at}
use Rattle.weave_letters.specs.laws.Crossing.{EdgeWord, crossings_few, letters_length, letters_at}
use Rattle.text.specs.Paste.{put, Pasted}
use Rattle.text.specs.laws.Paste.{paste_one}
use Rattle.text.specs.Decimal.{decimal}
use Rattle.text.specs.laws.Writing.{Copying, copying_more, copying_all}
use Rattle.report_lines.specs.Lines.{space, step_text}
use Rattle.report_lines.specs.laws.Wrote.{Wrote, wrote_none, wrote_then, wrote_as, wrote_most, short, number_wrote, steps_most}

-- a step of type `kind` on a live edge of word w
pub record Crossed (w kind at : ℕ) : Type 0 where
  pub type : kind < 2
  pub few : crossings w ≤ 99
  pub near : at < 2 ^ 46

pub edge_crossed : {t : List ℕ} {s w at : ℕ} → EdgeWord t s w → at < 2 ^ 46 → Crossed w (s % 2) at
edge_crossed e h = record { type = omega arith; few = crossings_few e.some e.most; near = h }

-- the letter of crossing j, after those before it
pub lettering_more : {from at w kind n j b r : ℕ} {out₀ out out' : List ℕ} → Crossed w kind at → n ≡ crossings w → Copying from at (letters_on w kind) j out₀ out → j < n
    → b ≡ letter_at w kind j → Pasted from (at + j) out (b ∷ []) r out' → Copying from at (letters_on w kind) (j + 1) out₀ out'
lettering_more {from} {at} {w} {kind} {j = j} {b = b} {out = out} c all k h e p =
    let size = letters_length w kind in
    let low : j < crossings w = omega arith in
    copying_more k (omega arith) (p.shows ∙ paste_one from (at + j) out b ∙ ap (put from (at + j) out) (e ∙ sym (letters_at w kind j c.type low)))

pub lettering_all : {from at w kind n j : ℕ} {out₀ out : List ℕ} → Crossed w kind at → n ≡ crossings w → Copying from at (letters_on w kind) j out₀ out → n ≤ j
    → Wrote 99 from at out₀ (letters_on w kind) (at + n) out
lettering_all {from} {at} {w} {kind} {n} {j} {out₀} {out} c all k h =
    let size = letters_length w kind in
    let most = k.most in
    let few = c.few in
    let end : j ≡ n = omega arith in
    short 99 (rw (← end) (copying_all k (omega arith))) (omega arith)

-- the parts of a step's field
pub step_wrote : {t : List ℕ} {s w from at dart slash kind colon r : ℕ} {out o-dart o-slash o-kind o-colon out' : List ℕ} → s < 65536 → EdgeWord t s w
    → Wrote 21 from at out (space ∷ decimal (s / 2)) dart o-dart → Pasted from dart o-dart (47 ∷ []) slash o-slash → Pasted from slash o-slash (decimal (s % 2)) kind o-kind
    → Pasted from kind o-kind (58 ∷ []) colon o-colon → Wrote 99 from colon o-colon (letters_on w (s % 2)) r out' → Wrote 142 from at out (step_text t s) r out'
unfolding step_text step_letters
step_wrote {t} {s} {w} low e a b c d l =
    wrote_then (wrote_then (wrote_then (wrote_then a (short 1 b (omega arith))) (number_wrote (omega arith) c)) (short 1 d (omega arith))) (wrote_as l (ap (λ x. letters_on x (s % 2)) e.word))

-- the loop over the walk: the steps so far are written
pub record StepsWriting (t : List ℕ) (s from at : ℕ) (gone left : List ℕ) (end : ℕ) (out₀ out : List ℕ) : Type 0 where
  pub along : Along t s gone left
  pub wrote : Wrote (142 * length gone) from at out₀ (gather (step_text t) gone) end out

pub stepping_none : {t : List ℕ} {s : ℕ} (from at : ℕ) (out : List ℕ) {left : List ℕ} → Stands t s → left ≡ walk (rotation t) s → StepsWriting t s from at [] left at out out
unfolding gather
stepping_none from at out h e = record { along = along_none h e; wrote = wrote_none from at out }

module _ {t : List ℕ} {s from at : ℕ} {gone left : List ℕ} {end : ℕ} {out₀ out : List ℕ} (k : StepsWriting t s from at gone left end out₀ out) where
  pub stepping_all : left ≡ [] → Wrote steps_most from at out₀ (gather (step_text t) (walk (rotation t) s)) end out
  stepping_all e =
      let most = walk_most k.along.start in
      rw (← along_all k.along e) (wrote_most k.wrote steps_most (omega (arith, ap length (along_all k.along e))))

  module _ {here : ℕ} {left' : List ℕ} (e : left ≡ here ∷ left') where
    -- far from the end of the places
    pub stepping_near : at < 2 ^ 44 → end < 2 ^ 45
    stepping_near h = let low = along_low k.along e in let near = k.wrote.near in omega arith

    pub stepping_more : {r : ℕ} {out' : List ℕ} → Wrote 142 from end out (step_text t here) r out' → StepsWriting t s from at (gone ++ here ∷ []) left' r out₀ out'
    stepping_more w =
        let size = length-append gone (here ∷ []) in
        record {
          along = along_more k.along e;
          wrote = rw (gather_append (step_text t) gone (here ∷ []), gather_one (step_text t) here) (wrote_most (wrote_then k.wrote w) (142 * length (gone ++ here ∷ [])) (omega arith));
        }
