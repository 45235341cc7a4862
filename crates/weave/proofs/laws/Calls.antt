-- What the calls answer, and what the call for the letters leaves in the slice, document 01, "When a call declines":
-- torn, then no such name, then absent, then a slice shorter than "the output's exact size".
--     named_torn, named_past, named_type, named_dead           the refusals of a step's name: 1, 2, 2, 4
--     named_there, NamedThere, there_steps, named_live         a step that is there, on a live dart
--     alternates_refused, alternates_done                      the ends of the call that asks whether a ribbon alternates
--     letters_refused, letters_short, letters_done             the ends of the call for the letters
--     plain_torn, plain_done                                   the ends of the call that asks whether the weave is plain
--     letters_accepted, alternates_accepted, plain_accepted    what the calls answered, where accepted
use Rattle.table.specs.Answers.{Answer}
use Rattle.std.specs.Prelude.{ℕ, ◌+◌, ◌*◌, ◌/◌, ◌%◌, ◌<◌, ◌≤◌, refl, Bool, true, false, ◌&&◌, List, leb, length, Ok, Err}
use native.Mathlib.Omega.{arith}
use Rattle.std.proofs.Math.Path.{◌≡◌}
use Rattle.std.proofs.Common.{sym, ◌∙◌, ap}
use Rattle.std.proofs.Math.Dec.{ltb}
use Rattle.std.proofs.lemmas.List.Edits.{sets}
use borrow.Author.Tests.{lt-ltb, le-ltb, le-leb, lt-leb, ltb-true}
use Rattle.orbits.proofs.laws.Truth.{truth, holds, fails, both_right}
use Rattle.table.specs.Layout.{darts, edge_of, edge_word}
use Rattle.table.specs.Rotation.{live?}
use Rattle.table.specs.laws.Rotation.{live_yes, yes_live, not_live, case_yes}
use Rattle.table.specs.Check.{good?}
use Rattle.table.specs.laws.Check.{good_case, good_yes}
use Rattle.table.specs.laws.Output.{sets_front, sized_accepted, declined_accepted, done_same, done_declined}
use Rattle.table.specs.Output.{Accepted}
use Rattle.table.specs.declared.answer.Refusal.{Refusal}
use Rattle.table.specs.declared.answer.Refusal.TheVariants.{Torn, NoSuchName, Absent, ShortSlice}
use Rattle.tracing.specs.Listing.{bit}
use Rattle.tracing_walks.specs.laws.Stands.{Stands, stands_low}
use Rattle.weave.specs.Letters.{letters, alternates, plain}
use Rattle.weave.specs.Calls.{named_step, alternates_by, alternates_of, plain_of, letters_of, letters_out, Named}

-- the ends of the naming

module _ (t : List ℕ) (d k : ℕ) where
  pub named_torn : good? t ≡ false → Err Torn ≡ named_step t d k
  unfolding named_step
  named_torn g = rw g

  pub named_past : good? t ≡ true → darts ≤ d → Err NoSuchName ≡ named_step t d k
  unfolding named_step
  named_past g h = rw (g, le-ltb d darts h)

  pub named_type : good? t ≡ true → d < darts → 1 < k → Err NoSuchName ≡ named_step t d k
  unfolding named_step
  named_type g h l = rw (g, lt-ltb d darts h, le-ltb k 2 (omega arith))

  pub named_dead : good? t ≡ true → d < darts → k ≤ 1 → edge_word t (edge_of d) ≡ 0 → Err Absent ≡ named_step t d k
  unfolding named_step
  named_dead g h l e = rw (g, lt-ltb d darts h, lt-ltb k 2 (omega arith), not_live t d (λ v. v.on e))

  pub named_there : good? t ≡ true → d < darts → k ≤ 1 → (edge_word t (edge_of d) ≡ 0 → ⊥) → Ok (2 * d + k) ≡ named_step t d k
  unfolding named_step
  named_there g h l e = rw (g, lt-ltb d darts h, lt-ltb k 2 (omega arith), yes_live t d (record { low = h; on = e }))

  -- a step that is there stands on a live dart
  pub record NamedThere (s : ℕ) : Type 0 where
    pub stands : Stands t s
    pub word : s ≡ 2 * d + k
    pub type : k < 2

  pub there_steps : {s : ℕ} → Ok s ≡ named_step t d k → NamedThere s
  unfolding named_step
  there_steps {s} e = elim (truth (good? t)) [
    | fails g ↦ absurd (other (rw g at e))
    | holds g ↦ elim (truth (ltb d darts && ltb k 2)) [
      | fails n ↦ absurd (other (rw (g, n) at e))
      | holds n ↦ elim (truth (live? t d)) [
        | fails l ↦ absurd (other (rw (g, n, l) at e))
        | holds l ↦
            let low = ltb-true k 2 (both_right (ltb d darts) (ltb k 2) n) in
            let f : ◌≡◌ {A = Named} (Ok s) (Ok (2 * d + k)) = rw (g, n, l) at e in
            let word : s ≡ 2 * d + k = cc in
            let half : s / 2 ≡ d = omega arith in
            record { stands = record { good = case_yes (good_case t) g; live = rw half l }; word = word; type = low }
      ]
    ]
  ]
    where
      other : {r : Refusal} → ◌≡◌ {A = Named} (Ok s) (Err r) → ⊥
      other f = let z : ◌≡◌ {A = ℕ} 0 1 = cc in omega arith

-- and every step on a live dart is there
pub named_live : {t : List ℕ} {s : ℕ} → Stands t s → Ok s ≡ named_step t (s / 2) (s % 2)
named_live {t} {s} h =
    let low = stands_low h in
    let whole : 2 * (s / 2) + s % 2 ≡ s = omega arith in
    rw whole at (named_there t (s / 2) (s % 2) (sym (good_yes t h.good)) (omega arith) (omega arith) (live_yes t (s / 2) h.live).on)

-- the ends of the calls

module _ (t : List ℕ) (d k : ℕ) {n : Named} (e : n ≡ named_step t d k) where
  pub alternates_refused : {r : Refusal} → n ≡ Err r → Err r ≡ alternates_of t d k
  alternates_refused {r} f = sym (ap (alternates_by t) (sym e ∙ f))

  pub alternates_done : {s : ℕ} {b : Bool} → n ≡ Ok s → b ≡ alternates t s → Ok (bit b) ≡ alternates_of t d k
  alternates_done f g = ap (λ x. Ok (bit x)) g ∙ sym (ap (alternates_by t) (sym e ∙ f))

  pub letters_refused : {r : Refusal} (out : List ℕ) → n ≡ Err r → (Err r ≡ letters_of t d k (length out)) × (out ≡ letters_out t d k out)
  letters_refused out f = rw (← e, f) (refl, refl)

  pub letters_short : {s size : ℕ} (out : List ℕ) → n ≡ Ok s → size ≡ length (letters t s) → length out < size
      → (Err ShortSlice ≡ letters_of t d k (length out)) × (out ≡ letters_out t d k out)
  letters_short {s} out f count h =
      rw (← e, f, lt-leb (length (letters t s)) (length out) (omega arith)) (refl, refl)

  pub letters_done : {s size : ℕ} (out : List ℕ) {out' : List ℕ} → n ≡ Ok s → size ≡ length (letters t s) → size ≤ length out → out' ≡ sets out 0 (letters t s)
      → (Ok size ≡ letters_of t d k (length out)) × (out' ≡ letters_out t d k out)
  letters_done {s} {size} out f count h w =
      let word = (there_steps t d k (sym f ∙ e)).word in
      let room : length (letters t s) ≤ length out = omega arith in
      rw (← e, f, le-leb (length (letters t s)) (length out) room, ← word)
      (ap Ok count, w ∙ sets_front (letters t s) out room)

module _ (t : List ℕ) where
  pub plain_torn : good? t ≡ false → Err Torn ≡ plain_of t
  plain_torn g = rw g

  pub plain_done : {b : Bool} → good? t ≡ true → b ≡ plain t → Ok (bit b) ≡ plain_of t
  plain_done g e = rw (g, ← e)

-- what accepted calls answered

data Naming (n : Named) : Type 0 where
  there : (s : ℕ) → n ≡ Ok s → Naming n
  refused : (r : Refusal) → n ≡ Err r → Naming n

naming : (n : Named) → Naming n
naming (Ok s) = there s refl
naming (Err r) = refused r refl

module _ (t : List ℕ) (d k : ℕ) where
  pub letters_accepted : (out : List ℕ) → Accepted (letters_of t d k (length out)) (letters t (2 * d + k)) out (letters_out t d k out)
  letters_accepted out = elim (naming (named_step t d k)) [
    | there s e ↦
        let word = (there_steps t d k (sym e)).word in
        rw (e, ← word) (sized_accepted (leb (length (letters t s)) (length out)) (letters t s) out)
    | refused r e ↦ rw e (declined_accepted r (letters t (2 * d + k)) out)
  ]

  pub alternates_accepted : (n : ℕ) → alternates_of t d k ≡ Ok n → n ≡ bit (alternates t (2 * d + k))
  alternates_accepted n a = elim (naming (named_step t d k)) [
    | there s e ↦
        let word = (there_steps t d k (sym e)).word in
        let same : ◌≡◌ {A = Answer} (Ok (bit (alternates t s))) (Ok n) = rw e at a in
        rw (← word) (done_same same)
    | refused r e ↦ absurd (done_declined (rw e at a))
  ]

pub plain_accepted : (t : List ℕ) (n : ℕ) → plain_of t ≡ Ok n → n ≡ bit (plain t)
plain_accepted t n a = elim (truth (good? t)) [
  | holds g ↦ let same : ◌≡◌ {A = Answer} (Ok (bit (plain t))) (Ok n) = rw g at a in done_same same
  | fails g ↦ absurd (done_declined (rw g at a))
]
