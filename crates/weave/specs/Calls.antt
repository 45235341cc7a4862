-- What the calls answer, and what the call for the letters leaves in the slice, document 01, "When a call declines":
-- torn, then no such name, then absent, then a slice shorter than "the output's exact size".
use Rattle.std.specs.Prelude.{ℕ, ◌+◌, ◌*◌, ◌&&◌, List, ltb, leb, length, Ok, Err, Result}
use Rattle.table.specs.Layout.{darts}
use Rattle.table.specs.Rotation.{live?}
use Rattle.table.specs.Check.{good?}
use Rattle.table.specs.declared.answer.Refusal.{Refusal}
use Rattle.table.specs.declared.answer.Refusal.TheVariants.{Torn, NoSuchName, Absent, ShortSlice}
use Rattle.tracing.specs.Listing.{bit}
use Rattle.weave.specs.Letters.{letters, alternates, plain}
use Rattle.table.specs.Answers.{unless, if_done, Answer}
use Rattle.table.specs.Output.{front}

-- the step that a call names, as a step word, or the refusal alone
abbrev pub Named : Type 0
Named = Result ℕ Refusal

-- the step word of dart d and type k, "Where several hold: 1, 2, 3, 4"
unfoldable pub named_step : List ℕ → ℕ → ℕ → Named
named_step t d k =
    unless (good? t) (Err Torn)
    (unless (ltb d darts && ltb k 2) (Err NoSuchName)
    (unless (live? t d) (Err Absent)
    (Ok (2 * d + k))))

-- 1 if the ribbon alternates, and 0 if not
abbrev pub alternates_by : List ℕ → Named → Answer
alternates_by t (Ok s) = Ok (bit (alternates t s))
alternates_by t (Err r) = Err r

abbrev pub alternates_of : List ℕ → ℕ → ℕ → Answer
alternates_of t d k = alternates_by t (named_step t d k)

-- 1 if the weave is plain, and 0 if not
abbrev pub plain_of : List ℕ → Answer
plain_of t = unless (good? t) (Err Torn) (Ok (bit (plain t)))

-- the number of letters, if n places are enough for them
abbrev pub letters_by : List ℕ → ℕ → Named → Answer
letters_by t n (Ok s) = let l = length (letters t s) in unless (leb l n) (Err ShortSlice) (Ok l)
letters_by t n (Err r) = Err r

abbrev pub letters_of : List ℕ → ℕ → ℕ → ℕ → Answer
letters_of t d k n = letters_by t n (named_step t d k)

abbrev pub letters_out : List ℕ → ℕ → ℕ → List ℕ → List ℕ
letters_out t d k out = if_done (letters_of t d k (length out)) (front (letters t (2 * d + k)) out) out
