-- What is written for each element of a list, one after the other (`flat_map`): of two lists, of one element, and how long it is where all take as much.
use Rattle.std.specs.Prelude.{ℕ, ◌*◌, ◌≡◌, refl, length}
use Rattle.std.proofs.Common.{arith, sym, length-append, mul-suc}
use mathlib.Core.List.{List, [], ◌∷◌, ◌++◌, flat_map, append_assoc, append-nil}

pub flat_append : {A B : Type 0} (f : A → List B) (a b : List A) → flat_map f (a ++ b) ≡ flat_map f a ++ flat_map f b
unfolding flat_map
flat_append f [] b = refl
flat_append f (x ∷ a) b = rw (flat_append f a b) (sym (append_assoc (f x) (flat_map f a) (flat_map f b)))

pub flat_one : {A B : Type 0} (f : A → List B) (x : A) → flat_map f (x ∷ []) ≡ f x
unfolding flat_map
flat_one f x = append-nil (f x)

pub flat_length : {A B : Type 0} (f : A → List B) (k : ℕ) → ((x : A) → length (f x) ≡ k) → (l : List A) → length (flat_map f l) ≡ k * length l
unfolding flat_map
flat_length f k e [] = omega arith
flat_length f k e (x ∷ l) = let r = flat_length f k e l in let h = e x in rw (length-append, mul-suc) (omega arith)
