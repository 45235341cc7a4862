-- The third demand: one claim about a whole run, a field for each clause, document 01, "Runs of edits" and "Counts".
-- It holds for every list of edits, declined ones included, from every good table, and so from the empty mesh (`Theorems`).
--     after, R                                       the table after the run; its rotation system
--     RunLaws                                        the claim; its fields are these
--     good, checked                                  the table is good, and the check says so
--     corners_once, no_others, edges_twice           listed walks meet every corner once, nothing else, every live edge twice
--     one_part, part_once, part_named, part_alone    the connected parts, and their names
--     part_marked, walk_once, walk_part              which parts are orientable; the part that a walk is in
--     part_euler_lem, mesh_euler_lem                 V-E+F of each part and of the mesh
--     count, answered, ruled, told_count             the face count, the edits' answers and their rules
--     lengths                                        the lengths of live edges
--     alternation                                    a ribbon alternates exactly if its turned edges all turn the same way
--     listing_call, counts_call, parts_call          the calls for the listing and the counts answer these
--     letters_call, alternates_call, plain_call      and those for the letters
use Rattle.std.specs.Prelude.{ℕ, ◌<◌, ◌+◌, ◌*◌, ◌/◌, ◌≤◌, ◌≡◌, true, List, [], ◌∷◌, ◌++◌, ◌↔◌, ◌≢◌, length, ℤ, pos, ◌+ℤ◌, Ok, Option, None, Some}
use Rattle.table.specs.Layout.{edges, edge_word, length_word}
use Rattle.table.specs.Good.{Good}
use Rattle.table.specs.Check.{check_of}
use Rattle.table.specs.Rotation.{Rotation, rotation}
use Rattle.table.specs.Output.{Accepted}
use Rattle.tracing.specs.Met.{times, count_in, corners_of, listed_corners, listed_steps, on_edge}
use Rattle.tracing.specs.Listing.{has, faces, face_count, listing, bit}
use Rattle.tracing.specs.Call.{list_answer, list_out}
use Rattle.tracing.specs.Corner.{Present}
use Rattle.surgery.specs.Change.{Changes}
use Rattle.edits.specs.Edits.{answer}
use Rattle.edits.specs.Rules.{rule_of, rule_change, with_rule, reply}
use Rattle.edits.specs.declared.rule.Rule.{Rule}
use Rattle.edits.specs.declared.edit.Edit.{Edit}
use Rattle.surface.specs.Chain.{Chain, Orientable}
use Rattle.surface.specs.Labels.{in_part, orientable}
use Rattle.surface.specs.Counts.{corner_vertex}
use Rattle.surface.specs.Parts.{parts, Together}
use Rattle.surface.specs.Signed.{PartLaws, part_euler, mesh_euler, total_ℤ}
use Rattle.surface.specs.Calls.{counts_of, counts_answer, counts_out, part_rows, parts_answer, parts_out}
use Rattle.weave.specs.Letters.{letters, alternates, plain}
use Rattle.weave.specs.Calls.{letters_of, letters_out, alternates_of, plain_of}
use Rattle.weave.specs.Ribbon.{SameWay}
use Rattle.runs.specs.Run.{run, called, told, face_number, length_given}

module _ (t : List ℕ) (Es : List Edit) where
  -- "Walks, counts, orientable marks and letters are those of the table after the run": that table, and its rotation system
  abbrev after : List ℕ
  after = run t Es

  abbrev R : Rotation
  R = rotation after

  pub record RunLaws : Type 0 where
    -- "the table stays good": every rule of a good table holds, and so the check answers
    pub good : Good after
    pub checked : check_of after ≡ Ok 0
    -- "listed walks meet every corner once and every live edge twice"; what is no corner of the table is met by none
    pub corners_once : (c : ℕ) → Present R c → times c (listed_corners R) ≡ 1
    pub no_others : (c : ℕ) → ¬ Present R c → times c (listed_corners R) ≡ 0
    pub edges_twice : (e : ℕ) → R.live (2 * e) ≡ true → count_in (on_edge e) (listed_steps R) ≡ 2
    -- "Live vertices are in one connected part if a chain of live edges joins them", and if not, then not
    pub one_part : (u v : ℕ) → R.there u ≡ true → R.there v ≡ true → Together R u v ↔ Chain R u v
    -- every live vertex is in exactly one of the parts that are counted and written
    pub part_once : (v : ℕ) → R.there v ≡ true → count_in (λ r. in_part R r v) (parts R) ≡ 1
    -- each of them is named by its smallest vertex, a live one
    pub part_named : (r : ℕ) → has r (parts R) ≡ true → (R.there r ≡ true) × (in_part R r r ≡ true) × ((v : ℕ) → in_part R r v ≡ true → r ≤ v)
    -- "an isolated vertex is a part alone"
    pub part_alone : (v : ℕ) → R.alone v ≡ true → (has v (parts R) ≡ true) × ((w : ℕ) → in_part R v w ≡ true → w ≡ v)
    -- "A part is orientable if its vertices can be marked 0 or 1 so that each edge's turns are even exactly when its ends' marks
    -- agree.": `orientable R r` is the mark in the part's row
    pub part_marked : (r : ℕ) → has r (parts R) ≡ true → (orientable R r ≡ true) ↔ Orientable R (in_part R r)
    -- "A walk is in the part whose corners it meets.": the walk c is counted in one part, that of its first corner, and each corner k
    -- that it meets is in that part and in no other
    pub walk_once : (c : ℕ) → has c (faces R) ≡ true → count_in (λ r. in_part R r (corner_vertex R c)) (parts R) ≡ 1
    pub walk_part : (c k r : ℕ) → has c (faces R) ≡ true → has k (corners_of R c) ≡ true
        → in_part R r (corner_vertex R k) ≡ in_part R r (corner_vertex R c)
    -- "in each part V-E+F is at most 2, even if orientable, at most 1 if not"
    pub part_euler_lem : (r : ℕ) → has r (parts R) ≡ true → PartLaws R r
    -- "The Euler number is V-E+F, signed, for each connected part and for the mesh": the mesh's is the sum of its parts'
    pub mesh_euler_lem : mesh_euler R ≡ total_ℤ (part_euler R) (parts R)
    -- "the face count is exactly that at the start plus what the rules call for"
    pub count : face_number after ≡ face_number t +ℤ called t Es
    -- "and every accepted edit answered it": wherever in the run the edit stands
    pub answered : (front : List Edit) (E : Edit) (back : List Edit) → Es ≡ front ++ E ∷ back → (n : ℕ) → answer (run t front) E ≡ Ok n
        → pos n ≡ face_number t +ℤ called t (front ++ (E ∷ []))
    -- document 02, request a: with the count the edit answered the rule that its places on the table just before call for, and the rule
    -- says how the count came of the one before
    pub ruled : (front : List Edit) (E : Edit) (back : List Edit) → Es ≡ front ++ E ∷ back → (n : ℕ) → answer (run t front) E ≡ Ok n
        → (reply (run t front) E ≡ with_rule (Ok n) (rule_of (run t front) E))
        × ((r : Rule) → rule_of (run t front) E ≡ Some r → Changes (rule_change r) (face_count (rotation (run t front))) n)
    -- so the face count is that at the start plus what the answered rules say
    pub told_count : face_number after ≡ face_number t +ℤ told t Es
    -- document 02, request g: a live edge has the length that its last accepted insertion gave it, or that of the start where the run has none
    pub lengths : (e : ℕ) → e < edges → edge_word after e ≢ 0 → length_word after e ≡ length_given t Es e (length_word t e)
    -- "a ribbon alternates exactly if its turned edges all turn the same way": the ribbon through any step on a live dart
    pub alternation : (s : ℕ) → R.live (s / 2) ≡ true → (alternates after s ≡ true) ↔ SameWay after s
    -- "the calls for the listing, the counts and the letters, where accepted on it, answer exactly these"
    pub listing_call : (out : List ℕ) → Accepted (list_answer after (length out)) (listing R) out (list_out after out)
    pub counts_call : (out : List ℤ) → Accepted (counts_answer after (length out)) (counts_of R) out (counts_out after out)
    pub parts_call : (out : List ℤ) → Accepted (parts_answer after (length out)) (part_rows R) out (parts_out after out)
    pub letters_call : (d k : ℕ) (out : List ℕ) → Accepted (letters_of after d k (length out)) (letters after (2 * d + k)) out (letters_out after d k out)
    pub alternates_call : (d k n : ℕ) → alternates_of after d k ≡ Ok n → n ≡ bit (alternates after (2 * d + k))
    pub plain_call : (n : ℕ) → plain_of after ≡ Ok n → n ≡ bit (plain after)
