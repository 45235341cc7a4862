-- What the call leaves once its step is there.
use Rattle.std.specs.Prelude.{ℕ, ◌≡◌, ℤ, length}
use mathlib.Core.List.{List, flat_map}
use Rattle.table.specs.Answers.{if_done, Answer}
use Rattle.table.specs.Output.{front}
use Rattle.wholepath_pieces.specs.Pieces.{whole_path, whole_forms_of, words_of, rests_of}
use Rattle.wholepath.specs.WholePath.{whole_along}
use Rattle.wholepath_writing.specs.laws.Written.{Out}

-- the ends of the path from a step

-- what is answered and left where the path from step s is asked for
pub record Left (t : List ℕ) (points lifts : List ℤ) (s : ℕ) (o : Out) (a : Answer) (o' : Out) : Type 0 where
  pub answer : a ≡ whole_along t points lifts (length o.forms) (length o.coords) (length o.rests) s
  pub forms : o'.forms ≡ if_done a (front (flat_map whole_forms_of (whole_path t points lifts s)) o.forms) o.forms
  pub coords : o'.coords ≡ if_done a (front (flat_map words_of (whole_path t points lifts s)) o.coords) o.coords
  pub rests : o'.rests ≡ if_done a (front (flat_map rests_of (whole_path t points lifts s)) o.rests) o.rests
