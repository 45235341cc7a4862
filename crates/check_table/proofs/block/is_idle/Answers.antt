-- `block::is_idle` meets its contract, a return for each kind of word: the edges', and three of the darts'.
use Rattle.check_reads.proofs.laws.Tests.{told_fails, told_goes, told_end}
use Rattle.check_reads.proofs.laws.Darts.{dead_case, blank_case}
use Rattle.table.specs.laws.Rotation.{case_no, case_yes, case_says, case_denies, same_case}
use Rattle.check_table.proofs.block.is_idle.Goals as goal

pub returns-then-not-is_dead_with : goal.returns-then-not-is_dead_with
returns-then-not-is_dead_with g c = told_fails c.is_dead_with.ensures.1 (case_denies (dead_case _ _) (case_no c.is_dead_with.ensures.0 c.if-not-is_dead_with.true))

pub returns-then-not-is_blank : goal.returns-then-not-is_blank
returns-then-not-is_blank g c = told_goes c.is_dead_with.ensures.1 (case_says (dead_case _ _) (case_yes c.is_dead_with.ensures.0 c.if-not-is_dead_with.false))
    (told_fails c.is_blank.ensures.1 (case_denies (blank_case _ _) (case_no c.is_blank.ensures.0 c.if-not-is_blank.true)))

pub returns-then-not-is_blank-2 : goal.returns-then-not-is_blank-2
returns-then-not-is_blank-2 g c = told_goes c.is_dead_with.ensures.1 (case_says (dead_case _ _) (case_yes c.is_dead_with.ensures.0 c.if-not-is_dead_with.false))
    (told_goes c.is_blank.ensures.1 (case_says (blank_case _ _) (case_yes c.is_blank.ensures.0 c.if-not-is_blank.false))
    (told_fails c.is_blank-2.ensures.1 (case_denies (blank_case _ _) (case_no c.is_blank-2.ensures.0 c.if-not-is_blank-2.true))))

pub returns : goal.returns
returns g c = told_goes c.is_dead_with.ensures.1 (case_says (dead_case _ _) (case_yes c.is_dead_with.ensures.0 c.if-not-is_dead_with.false))
    (told_goes c.is_blank.ensures.1 (case_says (blank_case _ _) (case_yes c.is_blank.ensures.0 c.if-not-is_blank.false))
    (told_goes c.is_blank-2.ensures.1 (case_says (blank_case _ _) (case_yes c.is_blank-2.ensures.0 c.if-not-is_blank-2.false))
    (told_end c.is_blank-3.ensures.1 (same_case (λ b. b) (λ b. b) c.is_blank-3.ensures.0 (blank_case _ _)))))
