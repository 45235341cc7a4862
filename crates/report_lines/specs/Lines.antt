-- The lines that the job program prints after reading, document 01, "The job program", as bytes.
--     report                                                    all lines, in their order
--     mesh_line, part_line, walk_line, weave_line               the four kinds of lines
--     mesh_text, part_text, walk_fields, step_text              the text of a line from its numbers; of a walk; of a step
--     numbered                                                  what f gives for each, with its index
--     mesh_word, part_word, walk_word, weave_word, kind_word    the words as bytes; "plain" or "mixed"
--     space, newline, side                                      the bytes between fields, after a line, and o or n
use Rattle.std.specs.Prelude.{ℕ, suc, ◌-◌, ◌*◌, ◌/◌, ◌%◌, Bool, true, false, List, [], ◌∷◌, ◌++◌, ltb, ℤ, length}
use Rattle.table.specs.Rotation.{Rotation, rotation}
use Rattle.tracing.specs.Walk.{walk}
use Rattle.tracing.specs.Listing.{gather, faces, face_count}
use Rattle.surface.specs.Labels.{orientable}
use Rattle.surface.specs.Counts.{vertex_count}
use Rattle.surface.specs.Parts.{parts}
use Rattle.surface.specs.Signed.{part_euler, mesh_euler}
use Rattle.weave.specs.Letters.{step_letters, plain}
use Rattle.text.specs.Decimal.{decimal, integer}
use Rattle.tracing.specs.Met.{edge_count}
use Rattle.table.specs.Layout.{lone_at}

-- "One space between fields, a newline after each line."
abbrev pub space : ℕ
space = 32

abbrev pub newline : List ℕ
newline = 10 ∷ []

-- "mesh", "part", "walk", "weave"
abbrev pub mesh_word : List ℕ
mesh_word = 109 ∷ 101 ∷ 115 ∷ 104 ∷ []

abbrev pub part_word : List ℕ
part_word = 112 ∷ 97 ∷ 114 ∷ 116 ∷ []

abbrev pub walk_word : List ℕ
walk_word = 119 ∷ 97 ∷ 108 ∷ 107 ∷ []

abbrev pub weave_word : List ℕ
weave_word = 119 ∷ 101 ∷ 97 ∷ 118 ∷ 101 ∷ []

-- "plain" or "mixed"
abbrev pub kind_word : Bool → List ℕ
kind_word true = 112 ∷ 108 ∷ 97 ∷ 105 ∷ 110 ∷ []
kind_word false = 109 ∷ 105 ∷ 120 ∷ 101 ∷ 100 ∷ []

-- "o or n": orientable or not
abbrev pub side : Bool → ℕ
side true = 111
side false = 110

-- "mesh" V E F parts Euler
unfoldable pub mesh_text : ℕ → ℕ → ℕ → ℕ → ℤ → List ℕ
mesh_text v e f p x =
    mesh_word ++ (space ∷ decimal v) ++ (space ∷ decimal e) ++ (space ∷ decimal f) ++ (space ∷ decimal p) ++ (space ∷ integer x) ++ newline

abbrev pub mesh_line : Rotation → List ℕ
mesh_line R = mesh_text (vertex_count R) (edge_count R) (face_count R) (length (parts R)) (mesh_euler R)

-- "part" smallest vertex, Euler, o or n
unfoldable pub part_text : ℕ → ℤ → Bool → List ℕ
part_text r x b = part_word ++ (space ∷ decimal r) ++ (space ∷ integer x) ++ (space ∷ side b ∷ []) ++ newline

abbrev pub part_line : Rotation → ℕ → List ℕ
part_line R r = part_text r (part_euler R r) (orientable R r)

-- 47 is "/", 58 is ":". "each step as dart/type:letters, one letter per crossing in order of travel and none for an edge without turns"
unfoldable pub step_text : List ℕ → ℕ → List ℕ
step_text t s = (space ∷ decimal (s / 2)) ++ (47 ∷ []) ++ decimal (s % 2) ++ (58 ∷ []) ++ step_letters t s

-- "steps", then each step; 42 is "*": "an isolated vertex as *v". A listed face is named by the corner that its walk starts at.
unfoldable pub walk_fields : List ℕ → ℕ → List ℕ
walk_fields t c =
    elim (ltb c lone_at) [
      | true ↦ let w = walk (rotation t) (2 * c) in (space ∷ decimal (length w)) ++ gather (step_text t) w
      | false ↦ (space ∷ decimal 0) ++ (space ∷ 42 ∷ []) ++ decimal (c - lone_at)
    ]

-- "walk" index from 0, steps, each step
unfoldable pub walk_line : List ℕ → ℕ → ℕ → List ℕ
walk_line t i c = walk_word ++ (space ∷ decimal i) ++ walk_fields t c ++ newline

-- what f gives for each, with its index from n on
unfoldable pub numbered : (ℕ → ℕ → List ℕ) → ℕ → List ℕ → List ℕ
numbered f n [] = []
numbered f n (x ∷ l) = f n x ++ numbered f (suc n) l

-- "weave plain" or "weave mixed"
unfoldable pub weave_line : List ℕ → List ℕ
weave_line t = weave_word ++ (space ∷ kind_word (plain t)) ++ newline

-- the mesh, the parts "upward", the listed walks, the weave
unfoldable pub report : List ℕ → List ℕ
report t = mesh_line (rotation t) ++ gather (part_line (rotation t)) (parts (rotation t)) ++ numbered (walk_line t) 0 (faces (rotation t)) ++ weave_line t
