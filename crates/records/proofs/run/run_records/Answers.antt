-- `run::run_records` meets its contract. The invariant: the edits of the bytes taken so far are done, and their lines written.
use Rattle.records.specs.laws.Running.{running_none, running_within, running_more, running_stopped}
use native.Mathlib.Omega.{arith}
use Rattle.records.proofs.run.run_records.Goals as goal

pub loop-record-init : goal.loop-record-init
loop-record-init c = running_none c.requires

pub run_record-end-requires : goal.run_record-end-requires
run_record-end-requires c = (running_within c.loop-record.invariant c.first_record.ensures c.in-Ok.is).place

pub overflow_add-at : goal.overflow_add-at
overflow_add-at c = let w = running_within c.loop-record.invariant c.first_record.ensures c.in-Ok.is in omega arith

pub overflow_add-next : goal.overflow_add-next
overflow_add-next c = let w = running_within c.loop-record.invariant c.first_record.ensures c.in-Ok.is in omega arith

pub loop-record-smaller : goal.loop-record-smaller
loop-record-smaller c = let w = running_within c.loop-record.invariant c.first_record.ensures c.in-Ok.is in omega arith

pub loop-record-preserved : goal.loop-record-preserved
loop-record-preserved c = running_more c.loop-record.invariant c.first_record.ensures c.in-Ok.is c.run_record-end.ensures.0 c.run_record-end.auto.t c.run_record-end.ensures.1

pub returns-in-Err : goal.returns-in-Err
returns-in-Err c = running_stopped c.loop-record.invariant c.first_record.ensures c.in-Err.is
