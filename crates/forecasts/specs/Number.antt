-- A forecast as one number, as a host gets it from ask and hands it to commit: the face count after in the low 16 bits, the rule's number in the
-- 16 above, the face count before in the 32 above these.
use Rattle.forecasts.specs.Forecast.{Asked}
use Rattle.std.specs.Prelude.{◌+◌, ◌*◌, ◌/◌, ℤ, pos, negsuc, Ok, Err}
use Rattle.table.specs.Answers.{refusal_code}
use Rattle.edits.specs.Rules.{faces_read, rule_read}
use Rattle.forecasts.specs.declared.forecast.Forecast.{Forecast}

-- the number that ask answers
abbrev pub asked_code : Asked → ℤ
asked_code (Ok f) = pos (f.after + 65536 * f.rule + 4294967296 * f.before)
asked_code (Err r) = refusal_code r

-- the three answers that commit reads in the number it is handed; a number below 0 is no forecast, and no edge's rule has the number 0
abbrev pub forecast_in : ℤ → Forecast
forecast_in (pos x) = record { before = x / 4294967296; after = faces_read x; rule = rule_read x }
forecast_in (negsuc n) = record { before = 0; after = 0; rule = 0 }
