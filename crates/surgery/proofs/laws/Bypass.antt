-- A number taken out of its cycle: whoever led to it now leads to the one after it, and it leads to itself.
--     bypass_self, bypass_into, bypass_off    where each number leads after it
--     bypass_inverse                          the inverse of a bypass is the bypass of the inverse
--     skip_over                               a step onto a number that is not marked, which is named by an equation
--     bypass_skip                             with two numbers taken out, each other number leads to the first after it that is neither
use Rattle.std.specs.Prelude.{◌≡◌, refl, ◌≢◌, Bool, true, false, ℕ}
use Rattle.std.proofs.Common.{sym, ◌∙◌, ap}
use Rattle.std.proofs.Math.Decide.{ℕ_discrete}
use borrow.Author.Tests.{eq-eqb, ne_eqb}
use Rattle.orbits.specs.Follow.{Skip, land, pass}
use Rattle.surgery.specs.Without.{bypass}

module _ (f : ℕ → ℕ) (x : ℕ) where
  pub bypass_self : bypass f x x ≡ x
  unfolding bypass
  bypass_self = rw (eq-eqb x x refl)

  pub bypass_into : (d : ℕ) → d ≢ x → f d ≡ x → bypass f x d ≡ f x
  unfolding bypass
  bypass_into d n e = rw (ne_eqb d x n, eq-eqb (f d) x e)

  pub bypass_off : (d : ℕ) → d ≢ x → f d ≢ x → bypass f x d ≡ f d
  unfolding bypass
  bypass_off d n e = rw (ne_eqb d x n, ne_eqb (f d) x e)

-- g undoes f
pub bypass_inverse : (f g : ℕ → ℕ) → ((d : ℕ) → g (f d) ≡ d) → ((d : ℕ) → f (g d) ≡ d) → (x d : ℕ) → bypass g x (bypass f x d) ≡ d
bypass_inverse f g back forth x d = elim (ℕ_discrete d x) [
  | yes e ↦ rw (e, bypass_self f x) (bypass_self g x)
  | no n ↦ elim (ℕ_discrete (f d) x) [
    | yes e ↦
        let source : g x ≡ d = ap g (sym e) ∙ back d in
        rw (bypass_into f x d n e)
        (bypass_into g x (f x) (λ q. n (sym (back d) ∙ ap g (e ∙ sym q) ∙ back x)) (back x) ∙ source)
    | no k ↦ rw (bypass_off f x d n k) (bypass_off g x (f d) k (λ q. n (sym (back d) ∙ q)) ∙ back d)
  ]
]

pub skip_over : {f : ℕ → ℕ} {marked : ℕ → Bool} {i j k : ℕ} → f i ≡ k → marked k ≡ false → Skip f marked k j → Skip f marked i j
skip_over {f} {marked} {i} {j} {k} e n s = pass {i = i} {j = j} (rw e n) (rw e s)

-- two numbers a and b taken out of a map that is injective; `other` is false at both, and true at all else
module _ (f : ℕ → ℕ) (inj : (i j : ℕ) → f i ≡ f j → i ≡ j) (a b : ℕ) (apart : a ≢ b) where
  pub bypass_skip : (other : ℕ → Bool) → other a ≡ false → other b ≡ false → ((k : ℕ) → k ≢ a → k ≢ b → other k ≡ true)
      → (d : ℕ) → d ≢ a → d ≢ b → Skip f other d (bypass (bypass f a) b d)
  bypass_skip other off-a off-b on d na nb = elim (ℕ_discrete (f d) a) [
    | yes e ↦ elim (ℕ_discrete (f a) b) [
      | yes p ↦
          let fb-a : f b ≢ a = λ q. nb (inj d b (e ∙ sym q)) in
          let fb-b : f b ≢ b = λ q. apart (inj a b (p ∙ sym q)) in
          rw (bypass_into (bypass f a) b d nb (bypass_into f a d na e ∙ p), bypass_off f a b (λ q. apart (sym q)) fb-a)
          (skip_over e off-a (skip_over p off-b (land (on (f b) fb-a fb-b) refl)))
      | no p ↦
          let fa-a : f a ≢ a = λ q. na (inj d a (e ∙ sym q)) in
          let once = bypass_into f a d na e in
          rw (bypass_off (bypass f a) b d nb (λ q. p (sym once ∙ q)), once)
          (skip_over e off-a (land (on (f a) fa-a p) refl))
    ]
    | no e ↦
        let once = bypass_off f a d na e in
        elim (ℕ_discrete (f d) b) [
          | yes p ↦
              let over : f b ≢ b = λ q. nb (inj d b (p ∙ sym q)) in
              rw (bypass_into (bypass f a) b d nb (once ∙ p))
              (skip_over p off-b (elim (ℕ_discrete (f b) a) [
                | yes q ↦
                    let fa-a : f a ≢ a = λ r. apart (inj a b (r ∙ sym q)) in
                    let fa-b : f a ≢ b = λ r. na (inj d a (p ∙ sym r)) in
                    rw (bypass_into f a b (λ r. apart (sym r)) q) (skip_over q off-a (land (on (f a) fa-a fa-b) refl))
                | no q ↦ rw (bypass_off f a b (λ r. apart (sym r)) q) (land (on (f b) q over) refl)
              ]))
          | no p ↦ rw (bypass_off (bypass f a) b d nb (λ q. p (sym once ∙ q)), once) (land (on (f d) e p) refl)
        ]
  ]
