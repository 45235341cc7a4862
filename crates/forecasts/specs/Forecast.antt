-- Forecast, then do it: document 02, request b.
--     forecast, ask, asked_by   the three answers; or the edit's own refusal
--     same_three                are they the same
--     on_asked, commit_verdict  does a commit go through, and if not, with which number
--     commit_reply, reply_by    its answer
--     committed, left_by        the table that it leaves
use Rattle.std.specs.Prelude.{ℕ, Bool, ◌&&◌, List, eqb, Ok, Err, Result}
use Rattle.table.specs.Rotation.{rotation}
use Rattle.table.specs.Answers.{unless}
use Rattle.table.specs.declared.answer.Refusal.{Refusal}
use Rattle.table.specs.declared.answer.Refusal.TheVariants.{StaleForecast}
use Rattle.tracing.specs.Listing.{face_count}
use Rattle.edits.specs.Verdicts.{verdict, Verdict}
use Rattle.edits.specs.Edits.{written, edited}
use Rattle.edits.specs.Rules.{rule_of, reply, number_met}
use Rattle.edits.specs.declared.edit.Edit.{Edit}
use Rattle.edits.specs.declared.rule.Reply.{Reply}
use Rattle.forecasts.specs.declared.forecast.Forecast.{Forecast}

-- "Ask takes an insertion, a deletion or a turn and gives its rule and the face count before and after, writing nothing." The rule
-- is told by its number; a vertex's edit, for which there is no call, has none, 0
unfoldable pub forecast : List ℕ → Edit → Forecast
forecast t E = record { before = face_count (rotation t); after = face_count (rotation (written t E)); rule = number_met (rule_of t E) }

-- the forecast, or the edit's own refusal
abbrev pub Asked : Type 0
Asked = Result Forecast Refusal

-- "An edit that would be declined gives its own number to both."
abbrev pub asked_by : Verdict → Forecast → Asked
asked_by (Ok tt) f = Ok f
asked_by (Err r) f = Err r

unfoldable pub ask : List ℕ → Edit → Asked
ask t E = asked_by (verdict t E) (forecast t E)

-- "the same three"
abbrev pub same_three : Forecast → Forecast → Bool
same_three f g = eqb f.before g.before && (eqb f.after g.after && eqb f.rule g.rule)

-- "12, stale forecast, tested after all of the edit's own numbers": by what ask gives now
abbrev pub on_asked : Forecast → Asked → Verdict
on_asked f (Ok now) = unless (same_three f now) (Err StaleForecast) (Ok tt)
on_asked f (Err r) = Err r

-- "Commit takes the edit and those three answers, and does the edit exactly if the table as it now is would give the same three."
unfoldable pub commit_verdict : List ℕ → Edit → Forecast → Verdict
commit_verdict t E f = on_asked f (ask t E)

-- "a commit that goes through has the effect and the answer of the plain edit on the present table"; any other answers its number alone, and
-- all words stay
abbrev pub reply_by : Verdict → Result Reply Refusal → Result Reply Refusal
reply_by (Ok tt) plain = plain
reply_by (Err r) plain = Err r

abbrev pub left_by : Verdict → List ℕ → List ℕ → List ℕ
left_by (Ok tt) new old = new
left_by (Err r) new old = old

unfoldable pub commit_reply : List ℕ → Edit → Forecast → Result Reply Refusal
commit_reply t E f = reply_by (commit_verdict t E f) (reply t E)

unfoldable pub committed : List ℕ → Edit → Forecast → List ℕ
committed t E f = left_by (commit_verdict t E f) (edited t E) t
