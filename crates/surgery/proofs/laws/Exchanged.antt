-- When a map h is the mirrored exchange of another map f at x and y: it takes x and y where f takes y and x, their opposites
-- u and v where f takes v and u, and all else where f takes it. Then f is the same exchange of h.
--     Exchanged            h is f with this exchange;     exchanged_back    f is h with it
--     exchanged_keeps      what f and m keep, h keeps, if x and y agree on it
--     exchanged_is         so h is the exchange of crate orbits, and its face counts apply
use Rattle.std.specs.Prelude.{◌≡◌, ◌≢◌, Bool, ℕ, ◌<◌}
use Rattle.std.proofs.Common.{sym, ◌∙◌, ap, ap₂}
use Rattle.std.proofs.Math.Path.{fun_ext}
use Rattle.orbits.specs.Exchange.{tr, exch2, tr2}
use Rattle.orbits.proofs.laws.Swap.{tr_left, tr_right, tr_off, position, at_left, at_right, off}
use Rattle.orbits.specs.Mirror.{Mirror}
use Rattle.orbits.proofs.laws.Mirror.{opposite_low}
use Rattle.orbits.proofs.laws.MirrorExchange.{exch2_at}

pub record Exchanged (f m h : ℕ → ℕ) (x y u v : ℕ) : Type 0 where
  pub over : m (f x) ≡ u
  pub home : m (f y) ≡ v
  pub x_u : x ≢ u
  pub x_v : x ≢ v
  pub y_u : y ≢ u
  pub y_v : y ≢ v
  pub at_x : h x ≡ f y
  pub at_y : h y ≡ f x
  pub at_u : h u ≡ f v
  pub at_v : h v ≡ f u
  pub beside : (i : ℕ) → i ≢ x → i ≢ y → i ≢ u → i ≢ v → h i ≡ f i

pub exchanged_back : {f m h : ℕ → ℕ} {x y u v : ℕ} → Exchanged f m h x y u v → Exchanged h m f x y v u
exchanged_back {f} {m} {h} X = record {
  over = ap m X.at_x ∙ X.home;
  home = ap m X.at_y ∙ X.over;
  x_u = X.x_v;
  x_v = X.x_u;
  y_u = X.y_v;
  y_v = X.y_u;
  at_x = sym X.at_y;
  at_y = sym X.at_x;
  at_u = sym X.at_u;
  at_v = sym X.at_v;
  beside = λ i p q r s. sym (X.beside i p q s r);
}

pub exchanged_keeps : {N : ℕ} {f m h : ℕ → ℕ} {live : ℕ → Bool} {x y u v : ℕ} → Mirror N f m live → x < N → y < N → Exchanged f m h x y u v
    → (P : ℕ → Bool) → ((i : ℕ) → i < N → P (f i) ≡ P i) → ((i : ℕ) → i < N → P (m i) ≡ P i) → P x ≡ P y → (i : ℕ) → i < N → P (h i) ≡ P i
exchanged_keeps {N} {f} {m} {h} {live} {x} {y} {u} {v} E a b X P inv keep level i l = elim (position u v i) [
  | at_left e ↦ rw (e, X.at_u) (inv v low_v ∙ home ∙ sym level ∙ sym over)
  | at_right e ↦ rw (e, X.at_v) (inv u low_u ∙ over ∙ level ∙ sym home)
  | off r s ↦ elim (position x y i) [
    | at_left e ↦ rw (e, X.at_x) (inv y b ∙ sym level)
    | at_right e ↦ rw (e, X.at_y) (inv x a ∙ level)
    | off p q ↦ rw (X.beside i p q r s) (inv i l)
  ]
]
  where
    low_u : u < N
    low_u = rw X.over at (opposite_low E a)

    low_v : v < N
    low_v = rw X.home at (opposite_low E b)

    over : P u ≡ P x
    over = ap P (sym X.over) ∙ keep (f x) (E.fwd x a) ∙ inv x a

    home : P v ≡ P y
    home = ap P (sym X.home) ∙ keep (f y) (E.fwd y b) ∙ inv y b

pub exchanged_is : {f m h : ℕ → ℕ} {x y u v : ℕ} → Exchanged f m h x y u v → exch2 f m x y ≡ h
unfolding tr2
exchanged_is {f} {m} {h} {x} {y} {u} {v} X = fun_ext (λ i. exch2_at f m x y i ∙ ap f (there i) ∙ goes i)
  where
    -- x and y exchanged, and u and v
    moved : ℕ → ℕ
    moved i = tr x y (tr u v i)

    there : (i : ℕ) → tr2 f m x y i ≡ moved i
    there i = ap₂ (λ p q. tr x y (tr p q i)) X.over X.home

    goes : (i : ℕ) → f (moved i) ≡ h i
    goes i = elim (position u v i) [
      | at_left e ↦ rw (e, tr_left u v, tr_off x y v (λ q. X.x_v (sym q)) (λ q. X.y_v (sym q))) (sym X.at_u)
      | at_right e ↦ rw (e, tr_right u v, tr_off x y u (λ q. X.x_u (sym q)) (λ q. X.y_u (sym q))) (sym X.at_v)
      | off r s ↦ rw (tr_off u v i r s) (elim (position x y i) [
        | at_left e ↦ rw (e, tr_left x y) (sym X.at_x)
        | at_right e ↦ rw (e, tr_right x y) (sym X.at_y)
        | off p q ↦ rw (tr_off x y i p q) (sym (X.beside i p q r s))
      ])
    ]
