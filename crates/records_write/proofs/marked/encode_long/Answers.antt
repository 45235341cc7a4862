-- `marked::encode_long` meets its contract: the record at the front, or 7.
use mathlib.Core.Path.{refl}
use Rattle.records.specs.declared.records.Mark.TheVariants.{IL}
use Rattle.records_write.specs.Encoding.{record_by}
use Rattle.records_write.proofs.laws.Writing.{record_done}
use Rattle.records_write.proofs.marked.encode_long.Goals as goal

pub returns : goal.returns
returns c = record_done (record_by IL c.args.w.name c.args.w.first c.args.w.second c.args.w.turns c.args.w.strip) c.args.out.now refl
    c.if-out-lt-LONG_BYTES.false c.write_long.ensures
