-- Blocks of 32 names, whose words are or-ed or and-ed together: what the result has, all of them have.
--     edge_blocks, vertex_blocks                     how many blocks there are
--     DeadBlock, IdleBlock, Blank                    no edge of the block is live; and its darts' words are 65,535; 64 such words
--     LooseBlock                                     no vertex of the block leads a cycle
--     Together                                       the loop over a block: P of the words put together says Q of each name
--     together_none, together_more, together_case    its beginning, one name more, and what a test on it tells
--     or_zero, and_nothing, and_isolated             what or-ed and and-ed words tell of each
--     idle_blank, blank_idle                         an idle block is dead and its three kinds of words are blank
--     dead_dart                                      the edge word of a dart in a dead block is 0
--     block_on                                       from name to name, over n of them
use Rattle.std.specs.Prelude.{ℕ, zero, suc, ◌+◌, ◌*◌, ◌/◌, ◌<◌, ◌≤◌, ◌≡◌, List, get_or, Bool}
use Rattle.std.proofs.Common.{arith, add-zero, add_assoc}
use Rattle.std.proofs.Math.Decide.{ℕ_discrete}
use Rattle.std.specs.Int.Bits.{bit_or, bit_and, or_add_and, and_self}
use Rattle.std.proofs.lemmas.Nat.{or_lt, and_le_l, and_le_r}
use Rattle.table.specs.laws.Rotation.{Case, case_map}
use Rattle.table.specs.Layout.{nothing, isolated, edge_word, vertex_word, edge_of}
use Rattle.table.specs.Good.{Bare}

-- the blocks of edges, and of vertices
abbrev pub edge_blocks : ℕ
edge_blocks = 32

abbrev pub vertex_blocks : ℕ
vertex_blocks = 16

-- no edge of block b is live
abbrev pub DeadBlock : List ℕ → ℕ → Type 0
DeadBlock t b = (i : ℕ) → i < 32 → edge_word t (32 * b + i) ≡ 0

-- the words of 64 darts, one kind of them, from index `from` on, are all 65,535
abbrev pub Blank : List ℕ → ℕ → Type 0
Blank t from = (i : ℕ) → i < 64 → get_or t (from + i) 0 ≡ nothing

-- no edge of block b is live, and its darts keep their rule
pub record IdleBlock (t : List ℕ) (b : ℕ) : Type 0 where
  pub dead : DeadBlock t b
  pub bare : (i : ℕ) → i < 64 → Bare t (64 * b + i)

-- no vertex of block b leads a cycle
abbrev pub LooseBlock : List ℕ → ℕ → Type 0
LooseBlock t b = (i : ℕ) → i < 32 → (isolated ≤ vertex_word t (32 * b + i)) × (vertex_word t (32 * b + i) ≤ nothing)

-- The loop over a block: P holds, of the words so far put together, exactly if Q holds of each of their names.
pub record Together (P : Type 0) (Q : ℕ → Type 0) (n : ℕ) : Type 0 where
  pub each : P → (i : ℕ) → i < n → Q i
  pub back : ((i : ℕ) → i < n → Q i) → P

pub together_none : {P : Type 0} {Q : ℕ → Type 0} → P → Together P Q 0
together_none p = record { each = λ _ i h. absurd (omega arith); back = λ _. p }

pub together_more : {P P' : Type 0} {Q : ℕ → Type 0} {n : ℕ} → Together P Q n → (P' → P × Q n) → (P → Q n → P') → Together P' Q (n + 1)
together_more {n = n} k apart join = record {
  each = λ p i h. elim (ℕ_discrete i n) [
    | yes e ↦ rw e (apart p).1
    | no e ↦ k.each (apart p).0 i (omega arith)
  ];
  back = λ q. join (k.back (λ i h. q i (omega arith))) (q n (omega arith));
}

pub together_case : {b : Bool} {P : Type 0} {Q : ℕ → Type 0} {n : ℕ} → Case b P → Together P Q n → Case b ((i : ℕ) → i < n → Q i)
together_case c k = case_map k.each k.back c

-- or-ed words are 0 if both are
pub or_zero : (a b : ℕ) → bit_or a b ≡ 0 → (a ≡ 0) × (b ≡ 0)
or_zero a b e = let s = or_add_and a b in let l = and_le_l a b in let r = and_le_r a b in (omega arith, omega arith)

-- and-ed words are no larger than either
pub and_nothing : (a b : ℕ) → a < 65536 → b < 65536 → bit_and a b ≡ nothing → (a ≡ nothing) × (b ≡ nothing)
and_nothing a b h k e = let l = and_le_l a b in let r = and_le_r a b in (omega arith, omega arith)

pub and_isolated : (a b : ℕ) → a < 65536 → b < 65536 → isolated ≤ a → isolated ≤ b → isolated ≤ bit_and a b
and_isolated a b h k p q = elim (ℕ_discrete a b) [
  | yes e ↦ rw (e, and_self b) q
  | no n ↦ let s = or_add_and a b in let l : bit_or a b < 65536 = or_lt 16 a b h k in omega arith
]

-- an idle block, kind of word by kind of word
module _ {t : List ℕ} {b : ℕ} where
  pub idle_blank : IdleBlock t b → Blank t (64 * b) × Blank t (2048 + 64 * b) × Blank t (4096 + 64 * b)
  idle_blank k = (
    λ i h. (k.bare i h).next_none,
    λ i h. rw (add_assoc 2048) (k.bare i h).prev_none,
    λ i h. rw (add_assoc 4096) (k.bare i h).leaves_none,
  )

  pub blank_idle : DeadBlock t b → Blank t (64 * b) → Blank t (2048 + 64 * b) → Blank t (4096 + 64 * b) → IdleBlock t b
  blank_idle dead next prev left = record {
    dead = dead;
    bare = λ i h. record { next_none = next i h; prev_none = rw (add_assoc 2048) at (prev i h); leaves_none = rw (add_assoc 4096) at (left i h) };
  }

-- the darts of a dead block
pub dead_dart : (t : List ℕ) (b : ℕ) → DeadBlock t b → (i : ℕ) → i < 64 → edge_word t (edge_of (64 * b + i)) ≡ 0
dead_dart t b k i h = let e : (64 * b + i) / 2 ≡ 32 * b + i / 2 = omega arith in rw e (k (i / 2) (omega arith))

-- what goes on from name to name goes on over n of them
pub block_on : (P : ℕ → Type 0) (from n : ℕ) → ((i : ℕ) → i < n → P (from + i) → P (from + i + 1)) → P from → P (from + n)
block_on P from zero on p = rw add-zero p
block_on P from (suc n) on p = let e : from + n + 1 ≡ from + suc n = omega arith in rw e at (on n (omega arith) (block_on P from n (λ i h. on i (omega arith)) p))
