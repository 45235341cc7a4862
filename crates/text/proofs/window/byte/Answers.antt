-- `window::byte` meets its contract: a text of one byte.
use Rattle.text.specs.laws.Paste.{paste_one}
use mathlib.Core.Path.{◌∙◌, sym, refl}
use Rattle.text.proofs.window.byte.Goals as goal

pub returns : goal.returns
returns c = record { end = refl; shows = c.store.ensures ∙ sym (paste_one c.args.from c.args.at c.args.out.now c.args.b) }
