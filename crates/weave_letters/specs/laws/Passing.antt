-- The letters along a walk, as the code counts and writes them: what its loops know.
--     LetterCount, letters_count                       a ribbon's letters are so many; they are its crossings
--     Lettering                                        the loop that writes them
--     lettering_none, lettering_more, lettering_all    it begins, goes on, ends
--     lettering_room                                   the present step has room
use Rattle.std.specs.Prelude.{ℕ, ◌%◌, ◌≤◌, ◌≡◌, refl, List, [], ◌∷◌, ◌++◌, length}
use Rattle.std.proofs.Common.{arith, sym, ◌∙◌, length-append}
use Rattle.std.proofs.Math.Path.{ap}
use Rattle.std.proofs.lemmas.List.Edits.{sets}
use Rattle.table.specs.Rotation.{rotation}
use Rattle.tracing.specs.Walk.{walk}
use Rattle.tracing.specs.Met.{total}
use Rattle.tracing.proofs.laws.Totals.{total_most}
use Rattle.tracing.specs.Listing.{gather}
use Rattle.tracing.proofs.laws.Listing.{gather_one, gather_append}
use Rattle.tracing_walks.specs.laws.Stands.{Stands}
use Rattle.tracing_walks.specs.laws.Along.{Along, along_none, along_more, along_all, walk_stands, walk_most}
use Rattle.weave.specs.Letters.{crossings, letters_on, word_of, step_letters, letters}
use Rattle.weave_letters.specs.laws.Crossing.{EdgeWord, edge_read, crossings_few, letters_length, LetterRoom, Lettered}
use Rattle.table.specs.laws.Front.{Front, front_none, front_more}

step_length_lem : {t : List ℕ} {s w : ℕ} → EdgeWord t s w → length (step_letters t s) ≡ crossings w
unfolding step_letters
step_length_lem {t} {s} e = letters_length (word_of t s) (s % 2) ∙ ap crossings (sym e.word)

-- so many letters
pub record LetterCount (t : List ℕ) (s n : ℕ) : Type 0 where
  pub count : n ≡ length (letters t s)
  pub low : n ≤ 405504

-- they are the crossings of its steps
count_total : (t l : List ℕ) → total (λ x. crossings (word_of t x)) l ≡ length (gather (step_letters t) l)
unfolding total gather step_letters
count_total t [] = refl
count_total t (x ∷ l) =
    let here = letters_length (word_of t x) (x % 2) in
    let rest = count_total t l in
    let parts = length-append (step_letters t x) (gather (step_letters t) l) in
    omega arith

pub letters_count : {t : List ℕ} {s n : ℕ} → Stands t s → n ≡ total (λ x. crossings (word_of t x)) (walk (rotation t) s) → LetterCount t s n
unfolding letters
letters_count {t} {s} h e =
    let most = total_most (λ x. crossings (word_of t x)) 99 (walk (rotation t) s) (λ x i. let w = edge_read (walk_stands h i) in crossings_few w.some w.most) in
    let few = walk_most h in
    record { count = e ∙ count_total t (walk (rotation t) s); low = omega arith }

-- the loop that writes them
pub record Lettering (t : List ℕ) (s : ℕ) (gone left : List ℕ) (end : ℕ) (out₀ out : List ℕ) : Type 0 where
  pub along : Along t s gone left
  pub room : length (letters t s) ≤ length out₀
  pub front : Front (gather (step_letters t) gone) out₀ 0 end out

pub lettering_none : {t : List ℕ} {s : ℕ} {out left : List ℕ} → Stands t s → length (letters t s) ≤ length out → left ≡ walk (rotation t) s → Lettering t s [] left 0 out out
unfolding gather
lettering_none {out = out} h l e = record { along = along_none h e; room = l; front = front_none out 0 }

module _ {t : List ℕ} {s : ℕ} {gone left : List ℕ} {end : ℕ} {out₀ out : List ℕ} (k : Lettering t s gone left end out₀ out) where
  pub lettering_all : left ≡ [] → out ≡ sets out₀ 0 (letters t s)
  unfolding letters
  lettering_all e = rw (← along_all k.along e) k.front.words

  module _ {at : ℕ} {left' : List ℕ} (e : left ≡ at ∷ left') {w : ℕ} (f : EdgeWord t at w) where
    -- the letters of the present step are among those of the ribbon
    pub lettering_room : LetterRoom w (at % 2) end (length out)
    unfolding letters gather
    lettering_room =
        let here = step_length_lem f in
        let whole = ap (λ l. length (gather (step_letters t) l)) (k.along.whole ∙ ap (λ l. gone ++ l) e) in
        let parts = ap length (gather_append (step_letters t) gone (at ∷ left')) ∙ length-append (gather (step_letters t) gone) (step_letters t at ++ gather (step_letters t) left') in
        let rest = length-append (step_letters t at) (gather (step_letters t) left') in
        let room = k.room in
        let size = k.front.size in
        let at-end = k.front.end in
        record { type = omega arith; few = crossings_few f.some f.most; room = omega arith }

    pub lettering_more : {r : ℕ} {out' : List ℕ} → Lettered w (at % 2) end out r out' → Lettering t s (gone ++ at ∷ []) left' r out₀ out'
    unfolding step_letters
    lettering_more d = record {
      along = along_more k.along e;
      room = k.room;
      front = rw (gather_append (step_letters t) gone (at ∷ []), gather_one (step_letters t) at)
          (front_more (letters_on (word_of t at) (at % 2)) k.front (rw f.word at d.end) (rw f.word at d.text));
    }
