-- What words that spell operands make of what comes after them.
use Rattle.std.proofs.Common.{◌≡◌, ◌++◌, ◌+◌, ℕ, List, [], ◌∷◌, length, map, sym}
use Rattle.std.proofs.Common.{length-append}
use Rattle.spv_table.specs.Table.{Table, Item}
use Rattle.spv_module.specs.Operand.{Plain, Context, after}
use Rattle.spv_module.specs.Shape.{Slot, shape_of}
use Rattle.spv_module.specs.Spelling.{Match}
use Rattle.spv_module.specs.Refusal.{ShapeRefuses, Misfit}
use Rattle.spv_module.specs.declared.fault.Rule.{Rule}
use Rattle.spv_module.specs.declared.fault.Rule.TheVariants.{I5}
use Rattle.spv_inst.specs.Flat.{Due, OneOf, due}
use Rattle.spv_inst.specs.inner.Sofar.{Sofar}
use Rattle.spv_inst.proofs.Steps.{at_start, at_operand, at_parts, at_maybe, at_many, at_no_maybe, at_no_many, at_end}
use Rattle.spv_inst.proofs.Steps.{at_refusal}
use Rattle.spv_inst.proofs.Turns.{at_left}
use Rattle.spv_inst.proofs.Joined.{flat_match}
use Rattle.spv_inst.proofs.Fronts.{fails_misfit}
use Rattle.spv_form_evidence.specs.words.Front.{Reaches}

counted : (front ws : List ℕ) → length front + length ws ≡ length (front ++ ws)
counted front ws = sym (length-append front ws)

-- what a decoder keeps
pub sofar_of : (G : Table) (c : Context) (pattern : List Item) (words : List ℕ) (os : List Plain) (front : List ℕ) (ds
    : List Due) (left : List ℕ)
    → Reaches G c pattern words os front ds left → Sofar G c (map due pattern) words os ds left (length front)
sofar_of G c pattern words _ _ _ _ Reaches.begin = at_start G c (map due pattern) words
sofar_of G c pattern words _ _ _ _ (Reaches.operand os front s ds o ws left ss r t) =
    rw (counted front ws) at (at_operand G c (map due pattern) words os s ds (length front) o ws left ss (sofar_of G c
    pattern words os front (OneOf s ∷ ds) (ws ++ left) r) t)
sofar_of G c pattern words _ _ _ _ (Reaches.parts os front s ds left ss r h) =
    at_parts G c (map due pattern) words os s ds (length front) left ss (sofar_of G c pattern words os front (OneOf s
    ∷ ds) left r) h
sofar_of G c pattern words _ _ _ _ (Reaches.maybe os front s ds u left r) = at_maybe G c (map due pattern) words os s
    ds (length front) u left (sofar_of G c pattern words os front _ (u ∷ left) r)
sofar_of G c pattern words _ _ _ _ (Reaches.many os front s ds u left r) = at_many G c (map due pattern) words os s ds
    (length front) u left (sofar_of G c pattern words os front _ (u ∷ left) r)
sofar_of G c pattern words _ _ _ _ (Reaches.no_maybe os front s ds r) = at_no_maybe G c (map due pattern) words os s
    ds (length front) (sofar_of G c pattern words os front _ [] r)
sofar_of G c pattern words _ _ _ _ (Reaches.no_many os front s ds r) = at_no_many G c (map due pattern) words os s ds
    (length front) (sofar_of G c pattern words os front _ [] r)

-- words are left, or refused
pub left_misfit : (G : Table) (c : Context) (pattern : List Item) (words : List ℕ) (os : List Plain) (front : List ℕ)
    (x : ℕ) (left : List ℕ)
    → Reaches G c pattern words os front [] (x ∷ left) → Misfit G c pattern words I5 (length front)
left_misfit G c pattern words os front x left r =
    fails_misfit G c pattern words I5 (length front) (at_left G c (map due pattern) words os (length front) x left
    (sofar_of G c pattern words os front [] (x ∷ left) r))

pub refused_misfit : (G : Table) (c : Context) (pattern : List Item) (words : List ℕ) (os : List Plain) (front : List
    ℕ) (s : Slot) (ds : List Due) (left : List ℕ) (code : Rule) (n : ℕ)
    → Reaches G c pattern words os front (OneOf s ∷ ds) left → ShapeRefuses (shape_of G (after c os) s) left code n
    → Misfit G c pattern words code (length front + n)
refused_misfit G c pattern words os front s ds left code n r h =
    fails_misfit G c pattern words code (length front + n)
    (at_refusal G c (map due pattern) words os s ds left (length front) code n (sofar_of G c pattern words os front
    (OneOf s ∷ ds) left r) h)

-- nothing is due and no word is left
pub all_match : (G : Table) (c : Context) (pattern : List Item) (words : List ℕ) (os : List Plain) (front : List ℕ) →
    Reaches G c pattern words os front [] [] → Match G c pattern os words
all_match G c pattern words os front r =
    flat_match G c pattern os words (at_end G c (map due pattern) words os (length front) (sofar_of G c pattern words
    os front [] [] r))
