-- Pictures that differ in the texts of labels alone have one frame.
use Rattle.std.proofs.Common.{◌≡◌, ◌++◌, ◌+◌, ◌*◌, ◌/◌, ◌%◌, ◌∙◌, ℕ, zero, suc, Bool, true, false, not, List, [], ◌∷◌}
use Rattle.std.proofs.Common.{Option, Some, None, flat_map, nat_eq, refl, sym, ap, append_assoc, arith}
use Rattle.std.specs.Prelude.{◌==◌, ◌&&◌, codes, decimal, if◌then◌else◌}
use Rattle.std.specs.List.{list_all}
use Rattle.std.specs.Fmt.{digit_glyph, digits, digits_onto}
use Rattle.std.proofs.lemmas.Bool.Decides.{nat_tests}
use Rattle.spv_module.specs.Operand.{Plain, OfType, Result, Id, Word, Number, Text, Value, Mask, Argument, Mention}
use Rattle.spv_module.specs.Operand.{PlainInst}
use Rattle.spv_module.specs.declared.opcode.TheConstants.{BRANCH, BRANCH_CONDITIONAL, SWITCH}
use Rattle.spv_pictures.specs.Blocks.{Row, Edge, branch_edges, case_edges, conditional_edges, edge_text, edge_to}
use Rattle.spv_pictures.specs.Blocks.{edges_of, goes_from, step_mark, switch_edges, walk_of, word_mark}
use Rattle.spv_pictures.specs.Label.{node_name}
use Rattle.spv_pictures.specs.Reading.{depth_behind, frame_in, is_mark, is_text}
use Rattle.spv_pictures.specs.declared.marks.Finding.{Finding}
use Rattle.spv_pictures.proofs.Labels.{HasNoMark}

-- From depth d to depth e the two texts leave the same frame.
pub record Same (d e : ℕ) (s t : List ℕ) : Type 0 where
  pub before : (u v : List ℕ) → frame_in e u ≡ frame_in e v → frame_in d (s ++ u) ≡ frame_in d (t ++ v)

pub same_nil : (d : ℕ) → Same d d [] []
same_nil d = record { before = λ u v h. h }

pub same-append : (d e f : ℕ) (s t x y : List ℕ) → Same d e s t → Same e f x y → Same d f (s ++ x) (t ++ y)
same-append d e f s t x y h g = record {
  before = λ u v k.
      let a : frame_in d ((s ++ x) ++ u) ≡ frame_in d (s ++ (x ++ u)) = ap (frame_in d) (append_assoc s x u) in
      let b : frame_in d ((t ++ y) ++ v) ≡ frame_in d (t ++ (y ++ v)) = ap (frame_in d) (append_assoc t y v) in
      a ∙ (h.before (x ++ u) (y ++ v) (g.before u v k) ∙ sym b);
}

both : (a b : Bool) → (a && b) ≡ true → (a ≡ true) × (b ≡ true)
both true b h = (refl, h)
both false b h = cc

not_less : (b : ℕ) → not (is_mark b) ≡ true → (b == 60) ≡ false
not_less b h = grind (arith, nat_tests)

not_greater : (b : ℕ) → not (is_mark b) ≡ true → (b == 62) ≡ false
not_greater b h = grind (arith, nat_tests)

-- a text without marks leaves nothing of itself in a label, outside of tags
frame_of_text : (s u : List ℕ) → HasNoMark s → frame_in 1 (s ++ u) ≡ frame_in 1 u
frame_of_text [] u h = refl
frame_of_text (b ∷ s) u h =
    let r = both (not (is_mark b)) (list_all (λ b. not (is_mark b)) s) h.all in
    let x = not_less b r.0 in
    let y = not_greater b r.0 in
    rw (x, y) (frame_of_text s u (record { all = r.1 }))

pub same_texts : (s t : List ℕ) → HasNoMark s → HasNoMark t → Same 1 1 s t
same_texts s t h g = record { before = λ u v k. frame_of_text s u h ∙ (k ∙ sym (frame_of_text t v g)) }

-- how deep a text leads
abbrev pub depth_after : ℕ → List ℕ → ℕ
depth_after d [] = d
depth_after d (b ∷ t) = depth_after (depth_behind d b) t

-- the same text leaves the same
pub same_itself : (d : ℕ) (s : List ℕ) → Same d (depth_after d s) s s
same_itself d [] = same_nil d
same_itself d (b ∷ s) =
    let later = same_itself (depth_behind d b) s in
    record { before = λ u v k. ap (λ z. (if is_text d b then [] else b ∷ []) ++ z) (later.before u v k) }

-- a text behind which no label is open
pub record IsLevel (s : List ℕ) : Type 0 where
  pub level : depth_after 0 s ≡ 0

joined : (d : ℕ) (s t : List ℕ) → depth_after d (s ++ t) ≡ depth_after (depth_after d s) t
joined d [] t = refl
joined d (b ∷ s) t = joined (depth_behind d b) s t

pub level-append : (s t : List ℕ) → IsLevel s → IsLevel t → IsLevel (s ++ t)
level-append s t h g = record { level = joined 0 s t ∙ (ap (λ n. depth_after n t) h.level ∙ g.level) }

unmarked_depth : (d : ℕ) (s : List ℕ) → HasNoMark s → depth_after d s ≡ d
unmarked_depth d [] h = refl
unmarked_depth d (b ∷ s) h =
    let r = both (not (is_mark b)) (list_all (λ b. not (is_mark b)) s) h.all in
    let x = not_less b r.0 in
    let y = not_greater b r.0 in
    rw (x, y) (unmarked_depth d s (record { all = r.1 }))

unmarked_level : (s : List ℕ) → HasNoMark s → IsLevel s
unmarked_level s h = record { level = unmarked_depth 0 s h }

pub same_level : (s : List ℕ) → IsLevel s → Same 0 0 s s
same_level s h = rw h.level at (same_itself 0 s)

-- digits
glyph_unmarked : (d : ℕ) → not (is_mark (digit_glyph false d)) ≡ true
glyph_unmarked d = grind (arith, nat_tests)

join : (a b : Bool) → a ≡ true → b ≡ true → (a && b) ≡ true
join a b h g = rw (h, g) refl

digits_unmarked : (k n : ℕ) (acc : List ℕ) → HasNoMark acc → HasNoMark (digits_onto k 10 false n acc)
digits_unmarked zero n acc h = h
digits_unmarked (suc k) n acc h = by (n / 10 == 0) (digits_unmarked k (n / 10) (digit_glyph false (n % 10) ∷ acc) more)
  where
    more : HasNoMark (digit_glyph false (n % 10) ∷ acc)
    more = record {
      all = join (not (is_mark (digit_glyph false (n % 10)))) (list_all (λ b. not (is_mark b)) acc)
          (glyph_unmarked (n % 10)) h.all;
    }

    by : (b : Bool) → HasNoMark (digits_onto k 10 false (n / 10) (digit_glyph false (n % 10) ∷ acc))
        → HasNoMark (if b then digit_glyph false (n % 10)
        ∷ acc else digits_onto k 10 false (n / 10) (digit_glyph false (n % 10) ∷ acc))
    by true later = more
    by false later = later

pub decimal_unmarked : (n : ℕ) → HasNoMark (decimal n)
unfolding digits
decimal_unmarked n = digits_unmarked 64 n [] (record { all = refl })

pub name_level : (x : Option ℕ) → IsLevel (node_name x)
name_level None = record { level = refl }
name_level (Some x) =
    level-append (codes "\"") (decimal x ++ codes "\"") (record { level = refl })
    (level-append (decimal x) (codes "\"") (unmarked_level (decimal x) (decimal_unmarked x)) (record { level = refl }))

step_level : (b : Bool) → IsLevel (step_mark b)
step_level true = record { level = refl }
step_level false = record { level = refl }

word_level : (w : List ℕ) → HasNoMark w → IsLevel (word_mark w)
word_level [] h = record { level = refl }
word_level (b ∷ w) h =
    level-append (codes " [label=\"") ((b ∷ w) ++ codes "\"]") (record { level = refl })
    (level-append (b ∷ w) (codes "\"]") (unmarked_level (b ∷ w) h) (record { level = refl }))

spaces_level : IsLevel (codes "  ")
spaces_level = record { level = refl }

arrow_level : IsLevel (codes " -> ")
arrow_level = record { level = refl }

end_level : IsLevel (codes ";\n")
end_level = record { level = refl }

-- seven texts in a row
seven : (a b c d e f g : List ℕ) → IsLevel a → IsLevel b → IsLevel c → IsLevel d → IsLevel e → IsLevel f → IsLevel g
    → IsLevel (a ++ (b ++ (c ++ (d ++ (e ++ (f ++ g))))))
seven a b c d e f g ha hb hc hd he hf hg =
    level-append a (b ++ (c ++ (d ++ (e ++ (f ++ g))))) ha
    (level-append b (c ++ (d ++ (e ++ (f ++ g)))) hb
    (level-append c (d ++ (e ++ (f ++ g))) hc
    (level-append d (e ++ (f ++ g)) hd (level-append e (f ++ g) he (level-append f g hf hg)))))

edge_level : (f : Option Finding) (from : Option ℕ) (e : Edge) → HasNoMark e.word → IsLevel (edge_text f from e)
edge_level f from e h =
    seven (codes "  ") (node_name from) (codes " -> ") (node_name (Some e.to)) (word_mark e.word)
    (step_mark (goes_from (walk_of f) from e.to)) (codes ";\n")
    spaces_level (name_level from) arrow_level (name_level (Some e.to)) (word_level e.word h)
    (step_level (goes_from (walk_of f) from e.to)) end_level

-- the edges of an instruction have words without marks
pub record AreUnmarked (es : List Edge) : Type 0 where
  pub words : list_all (λ (e : Edge). list_all (λ b. not (is_mark b)) e.word) es ≡ true

no_edges : AreUnmarked []
no_edges = record { words = refl }

one_edge : (x : ℕ) (word : List ℕ) (es : List Edge) → HasNoMark word → AreUnmarked es
    → AreUnmarked (edge_to x word ∷ es)
one_edge x word es h g =
    record {
      words = join (list_all (λ b. not (is_mark b)) word)
          (list_all (λ (e : Edge). list_all (λ b. not (is_mark b)) e.word) es) h.all g.words;
    }

cases_unmarked : (os : List Plain) → AreUnmarked (case_edges os)
cases_unmarked [] = no_edges
cases_unmarked (OfType x ∷ os) = no_edges
cases_unmarked (Result x ∷ os) = no_edges
cases_unmarked (Id x ∷ os) = no_edges
cases_unmarked (Word x ∷ os) = no_edges
cases_unmarked (Argument x ∷ os) = no_edges
cases_unmarked (Mention x ∷ os) = no_edges
cases_unmarked (Text t ∷ os) = no_edges
cases_unmarked (Value k x ∷ os) = no_edges
cases_unmarked (Mask k x ∷ os) = no_edges
cases_unmarked (Number low high words ∷ []) = no_edges
cases_unmarked (Number low high words ∷ OfType x ∷ os) = no_edges
cases_unmarked (Number low high words ∷ Result x ∷ os) = no_edges
cases_unmarked (Number low high words ∷ Word x ∷ os) = no_edges
cases_unmarked (Number low high words ∷ Argument x ∷ os) = no_edges
cases_unmarked (Number low high words ∷ Mention x ∷ os) = no_edges
cases_unmarked (Number low high words ∷ Text t ∷ os) = no_edges
cases_unmarked (Number low high words ∷ Value k x ∷ os) = no_edges
cases_unmarked (Number low high words ∷ Mask k x ∷ os) = no_edges
cases_unmarked (Number low high words ∷ Number a b c ∷ os) = no_edges
cases_unmarked (Number low high words ∷ Id x ∷ os) =
    one_edge x (decimal (low + 4294967296 * high)) (case_edges os) (decimal_unmarked (low + 4294967296 * high))
    (cases_unmarked os)

branches_unmarked : (os : List Plain) → AreUnmarked (branch_edges os)
branches_unmarked [] = no_edges
branches_unmarked (OfType x ∷ os) = no_edges
branches_unmarked (Result x ∷ os) = no_edges
branches_unmarked (Id x ∷ os) = one_edge x [] [] (record { all = refl }) no_edges
branches_unmarked (Word x ∷ os) = no_edges
branches_unmarked (Argument x ∷ os) = no_edges
branches_unmarked (Mention x ∷ os) = no_edges
branches_unmarked (Number low high words ∷ os) = no_edges
branches_unmarked (Text t ∷ os) = no_edges
branches_unmarked (Value k x ∷ os) = no_edges
branches_unmarked (Mask k x ∷ os) = no_edges

two_unmarked : (x y : ℕ) → AreUnmarked (edge_to x (codes "true") ∷ edge_to y (codes "false") ∷ [])
two_unmarked x y = one_edge x (codes "true") (edge_to y (codes "false") ∷ []) (record { all = refl })
    (one_edge y (codes "false") [] (record { all = refl }) no_edges)

third_unmarked : (c x : ℕ) (os : List Plain) → AreUnmarked (conditional_edges (Id c ∷ Id x ∷ os))
third_unmarked c x [] = no_edges
third_unmarked c x (OfType y ∷ os) = no_edges
third_unmarked c x (Result y ∷ os) = no_edges
third_unmarked c x (Id y ∷ os) = two_unmarked x y
third_unmarked c x (Word y ∷ os) = no_edges
third_unmarked c x (Argument y ∷ os) = no_edges
third_unmarked c x (Mention y ∷ os) = no_edges
third_unmarked c x (Number low high words ∷ os) = no_edges
third_unmarked c x (Text t ∷ os) = no_edges
third_unmarked c x (Value k y ∷ os) = no_edges
third_unmarked c x (Mask k y ∷ os) = no_edges

second_unmarked : (c : ℕ) (os : List Plain) → AreUnmarked (conditional_edges (Id c ∷ os))
second_unmarked c [] = no_edges
second_unmarked c (OfType y ∷ os) = no_edges
second_unmarked c (Result y ∷ os) = no_edges
second_unmarked c (Id y ∷ os) = third_unmarked c y os
second_unmarked c (Word y ∷ os) = no_edges
second_unmarked c (Argument y ∷ os) = no_edges
second_unmarked c (Mention y ∷ os) = no_edges
second_unmarked c (Number low high words ∷ os) = no_edges
second_unmarked c (Text t ∷ os) = no_edges
second_unmarked c (Value k y ∷ os) = no_edges
second_unmarked c (Mask k y ∷ os) = no_edges

conditionals_unmarked : (os : List Plain) → AreUnmarked (conditional_edges os)
conditionals_unmarked [] = no_edges
conditionals_unmarked (OfType x ∷ os) = no_edges
conditionals_unmarked (Result x ∷ os) = no_edges
conditionals_unmarked (Id x ∷ os) = second_unmarked x os
conditionals_unmarked (Word x ∷ os) = no_edges
conditionals_unmarked (Argument x ∷ os) = no_edges
conditionals_unmarked (Mention x ∷ os) = no_edges
conditionals_unmarked (Number low high words ∷ os) = no_edges
conditionals_unmarked (Text t ∷ os) = no_edges
conditionals_unmarked (Value k x ∷ os) = no_edges
conditionals_unmarked (Mask k x ∷ os) = no_edges

default_unmarked : (c : ℕ) (os : List Plain) → AreUnmarked (switch_edges (Id c ∷ os))
default_unmarked c [] = no_edges
default_unmarked c (OfType y ∷ os) = no_edges
default_unmarked c (Result y ∷ os) = no_edges
default_unmarked c (Id y ∷ os) =
    one_edge y (codes "default") (case_edges os) (record { all = refl }) (cases_unmarked os)
default_unmarked c (Word y ∷ os) = no_edges
default_unmarked c (Argument y ∷ os) = no_edges
default_unmarked c (Mention y ∷ os) = no_edges
default_unmarked c (Number low high words ∷ os) = no_edges
default_unmarked c (Text t ∷ os) = no_edges
default_unmarked c (Value k y ∷ os) = no_edges
default_unmarked c (Mask k y ∷ os) = no_edges

switches_unmarked : (os : List Plain) → AreUnmarked (switch_edges os)
switches_unmarked [] = no_edges
switches_unmarked (OfType x ∷ os) = no_edges
switches_unmarked (Result x ∷ os) = no_edges
switches_unmarked (Id x ∷ os) = default_unmarked x os
switches_unmarked (Word x ∷ os) = no_edges
switches_unmarked (Argument x ∷ os) = no_edges
switches_unmarked (Mention x ∷ os) = no_edges
switches_unmarked (Number low high words ∷ os) = no_edges
switches_unmarked (Text t ∷ os) = no_edges
switches_unmarked (Value k x ∷ os) = no_edges
switches_unmarked (Mask k x ∷ os) = no_edges

edges_unmarked : (i : PlainInst) → AreUnmarked (edges_of i)
edges_unmarked i = by (nat_eq i.opcode BRANCH) (nat_eq i.opcode BRANCH_CONDITIONAL) (nat_eq i.opcode SWITCH)
  where
    by : (x y z : Bool) → AreUnmarked (if x then branch_edges i.operands
        else (if y then conditional_edges i.operands else (if z then switch_edges i.operands else [])))
    by true y z = branches_unmarked i.operands
    by false true z = conditionals_unmarked i.operands
    by false false true = switches_unmarked i.operands
    by false false false = no_edges

edges_level : (f : Option Finding) (from : Option ℕ) (es : List Edge) → AreUnmarked es
    → IsLevel (flat_map (edge_text f from) es)
edges_level f from [] h = record { level = refl }
edges_level f from (e ∷ es) h =
    let r = both (list_all (λ b. not (is_mark b)) e.word)
    (list_all (λ (e : Edge). list_all (λ b. not (is_mark b)) e.word) es) h.words in
    level-append (edge_text f from e) (flat_map (edge_text f from) es) (edge_level f from e (record { all = r.0 }))
    (edges_level f from es (record { words = r.1 }))

pub part_edges_level : (f : Option Finding) (from : Option ℕ) (part : List Row)
    → IsLevel (flat_map (λ (r : Row). flat_map (edge_text f from) (edges_of r.inst)) part)
part_edges_level f from [] = record { level = refl }
part_edges_level f from (r ∷ part) =
    level-append (flat_map (edge_text f from) (edges_of r.inst))
    (flat_map (λ (r : Row). flat_map (edge_text f from) (edges_of r.inst)) part)
    (edges_level f from (edges_of r.inst) (edges_unmarked r.inst))
    (part_edges_level f from part)
