-- Every sample of the list holds: document 01, "the P samples: proved together as one statement over a list".
-- Each is computed on the few words that its edits write.
--     samples_hold                every sample of the list holds
--     found, has_found            a fact, with what is found in a sparse table in place of what it says
--     computed, holds_computed    a sample, with what its edits give in place of what it says
use Rattle.std.specs.Prelude.{◌+◌, ◌≡◌, refl, List, [], ◌∷◌, map}
use Rattle.std.proofs.Common.{◌∙◌, ap}
use Rattle.orbits.specs.Count.{count}
use Rattle.table.specs.Layout.{edge_at}
use Rattle.table.specs.laws.Empty.{empty_good}
use Rattle.tracing.specs.Step.{step_type, around, step, corner}
use Rattle.tracing.specs.Walk.{onward, walk, corners}
use Rattle.tracing.specs.Listing.{has, gather, fresh, starts, lone, alones}
use Rattle.tracing.specs.Corner.{well_formed, present, face_among, type_among}
use Rattle.tracing.specs.Sides.{keep, sides_by}
use Rattle.edits.specs.Turns.{turns_in}
use Rattle.surface.specs.Links.{spot, links, joined_by, moved}
use Rattle.tracing.specs.Met.{live_edges}
use Rattle.surface.specs.Labels.{twisted, agrees}
use Rattle.surface.specs.Signed.{euler_of}
use Rattle.weave.specs.Letters.{crossings, letter, crossed, letters_on, neighbours_differ, alternating, every}
use Rattle.samples.specs.Samples.{Fact, F, Euler, Marks, Steps, Plain, Turns, Has, All, Sample, Holds, samples}
use Rattle.samples.proofs.laws.Sparse.{Writes, table_of, lookup, read, put_read, span}
use Rattle.samples.proofs.laws.Few.{faces_few, euler_few, spots_few, own_labels, marks_few, lengths_few, face_from, type_from, meeting_from, sides_from}
use Rattle.samples.proofs.laws.SparseMesh.{plain_by, faces_on, euler_on, marks_on, lengths_on, plain_on, meeting_on, sides_on, faces_read_lem, euler_read, marks_read, lengths_read, plain_read}
use Rattle.samples.proofs.laws.Writing.{splice_on, link_on, written_on}
use Rattle.samples.proofs.laws.Editing.{verdict_on, edited_on, answer_on, rule_on, reply_on, run_on, answers_on, run_on_lem, answers_on_lem}

-- a fact, with what is found in a sparse table in place of what it says
abbrev found : Writes → Fact → Fact
found ws (F n) = F (faces_on ws)
found ws (Euler z) = Euler (euler_on ws)
found ws (Marks l) = Marks (marks_on ws)
found ws (Steps l) = Steps (lengths_on ws)
found ws (Plain b) = Plain (plain_on ws)
found ws (Turns e z) = Turns e (turns_in (read ws (edge_at + e)))

has_found : (ws : Writes) (f : Fact) → found ws f ≡ f → Has (table_of ws) f
has_found ws (F n) p = faces_read_lem ws ∙ cc
has_found ws (Euler z) p = euler_read ws ∙ cc
has_found ws (Marks l) p = marks_read ws ∙ cc
has_found ws (Steps l) p = lengths_read ws ∙ cc
has_found ws (Plain b) p = plain_read ws ∙ cc
has_found ws (Turns e z) p = ap (λ g. turns_in (g (edge_at + e))) (put_read ws) ∙ cc

all_map : {A : Type 0} {P Q : A → Type 0} → ((x : A) → P x → Q x) → (l : List A) → All P l → All Q l
all_map f [] p = tt
all_map f (x ∷ l) p = (f x p.0, all_map f l p.1)

-- a list that stays as it is where f is applied to each
each_same : {A : Type 0} (f : A → A) (l : List A) → map f l ≡ l → All (λ x. f x ≡ x) l
each_same f [] e = tt
each_same f (x ∷ l) e = (cc, each_same f l cc)

-- a sample, with what its edits give in place of what it says
abbrev computed : Sample → Sample
computed s = record { edits = s.edits; answered = answers_on [] s.edits; facts = map (found (run_on [] s.edits)) s.facts }

holds_computed : (s : Sample) → computed s ≡ s → Holds s
unfolding table_of
holds_computed s e =
    let ws = run_on [] s.edits in
    record {
      answered = answers_on_lem [] s.edits empty_good ∙ ap (λ r. r.answered) e;
      facts = rw (run_on_lem [] s.edits empty_good) (all_map (has_found ws) s.facts (each_same (found ws) s.facts (ap (λ r. r.facts) e)));
    }

pub samples_hold : All Holds samples
unfolding run_on answers_on edited_on answer_on reply_on rule_on verdict_on written_on link_on splice_on faces_on euler_on marks_on lengths_on plain_on meeting_on sides_on read lookup span
    faces_few euler_few spots_few own_labels marks_few lengths_few meeting_from face_from type_from sides_from plain_by well_formed present
    face_among type_among keep sides_by
    starts fresh has gather corners walk onward step step_type around corner alones lone count euler_of spot links joined_by moved live_edges
    twisted agrees every alternating neighbours_differ letters_on crossed crossings letter
samples_hold = all_map holds_computed samples (each_same computed samples refl)
