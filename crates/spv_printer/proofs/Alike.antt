-- Operands that are shown alike wherever they stand, and numbers of a type that is no float.
use Rattle.std.proofs.Common.{◌≡◌, ◌≢◌, ◌++◌, ◌∙◌, ℕ, List, [], ◌∷◌, Some, Bool, true, false, ◌&&◌, nat_eq, refl, ap}
use Rattle.std.proofs.Common.{arith}
use Rattle.std.specs.Prelude.{decimal, ◌+◌, ◌*◌}
use Rattle.std.proofs.lemmas.Bool.Decides.{nat_tests}
use Rattle.spv_table.specs.Table.{Table, kind_of}
use Rattle.spv_table.specs.declared.form.Leaf as declared
use Rattle.spv_table.specs.declared.form.Leaf.TheVariants as leaf
use Rattle.spv_table.specs.declared.form.Form as forms
use Rattle.spv_table.specs.declared.form.Form.TheVariants.{Leaf, Parts}
use Rattle.spv_table.specs.inner.Form.{form_at}
use Rattle.spv_module.specs.declared.opcode.TheConstants.{SWITCH}
use Rattle.spv_inst.specs.Reading.{enumerants_at}
use Rattle.spv_module.specs.Operand.{Plain, Number, Context, and_then, after, type_in}
use Rattle.spv_module.specs.Shape.{Slot, Shape, AsNumber, AsWord, alone, shape_of}
use Rattle.spv_module.specs.Spelling.{Takes}
use Rattle.spv_inst.proofs.Shapes.{leaf_shape, shape_leaf, shape_parts}
use Rattle.spv_inst.proofs.Takes.{takes_no_parts}
use Rattle.spv_lines.specs.Operand.{shown_operand, is_float, is_float_type, number_type}
use Rattle.spv_printer.specs.inner.Fast.{AreShownAlike, IsShownAlike, is_no_number}
use Rattle.spv_lines.specs.inner.Narrow.{IsNarrow}
use Rattle.spv_printer.proofs.KindForms.{Wide, number_wide}
use Rattle.spv_lines.proofs.NumberTypes.{type_by_context}

pub alike_by : (G : Table) (c : Context) (o : Plain) → is_no_number o ≡ true → IsShownAlike G c o
alike_by G c (Number a b w) e s ws ss t = cc
alike_by G c _ e s ws ss t = refl

-- one operand more
pub alike_snoc : (G : Table) (c : Context) (os : List Plain) (o : Plain) → AreShownAlike G c os
    → IsShownAlike G (after c os) o → AreShownAlike G c (os ++ (o ∷ []))
alike_snoc G c [] o a h = (h, tt)
alike_snoc G c (p ∷ os) o a h = (a.0, alike_snoc G (and_then c p) os o a.1 h)

-- the word of a number of a type of at most 32 bits
pub narrow_takes : (G : Table) (c : Context) (l : declared.Leaf) (kind x : ℕ) → form_at (kind_of G kind) ≡ Leaf l
    → l ≡ leaf.ContextNumber → IsNarrow c.before (type_in c.operands)
    → Takes kind (shape_of G c (alone kind)) (Number x 0 1) (x ∷ []) []
narrow_takes G c l kind x e i n =
    let s = shape_leaf G c (alone kind) l leaf.ContextNumber e i in
    let f : leaf_shape c false (enumerants_at (kind_of G kind)) leaf.ContextNumber ≡ AsNumber
    (Some n.width) = ap AsNumber n.is in
    rw (s, f) (Takes.narrow n.width x n.least)

-- a number in an instruction other than OpSwitch has the type of the instruction
no_word : (k : ℕ) (a b n : ℕ) (sh : Shape) (o : Plain) (ws : List ℕ) (ss : List Slot) → Takes k sh o ws ss → sh ≡ AsWord
    → o ≡ Number a b n → ⊥
no_word k a b n _ _ _ _ (Takes.result_type x) e f = cc
no_word k a b n _ _ _ _ _ e f = cc

other_opcode : (p : Bool) (x : ℕ) → x ≢ SWITCH → (p && nat_eq x SWITCH) ≡ false
other_opcode true x n = grind (arith, nat_tests)
other_opcode false x n = refl

context_leaf : (G : Table) (c : Context) (s : Slot) (l : declared.Leaf) (a b n : ℕ) (ws : List ℕ) (ss : List Slot)
    → c.opcode ≢ SWITCH → form_at (kind_of G s.kind) ≡ Leaf l
    → Takes s.kind (shape_of G c s) (Number a b n) ws ss → Wide c l → l ≡ leaf.ContextNumber
context_leaf G c s l a b n ws ss m e t (Wide.context w f h) = f
context_leaf G c s l a b n ws ss m e t (Wide.switch w f h) =
    let g = shape_leaf G c s l leaf.Integer e f in
    let j = other_opcode s.paired c.opcode m in
    let k : leaf_shape c s.paired (enumerants_at (kind_of G s.kind)) leaf.Integer ≡ AsWord = rw j refl in
    absurd (no_word s.kind a b n (shape_of G c s) (Number a b n) ws ss t (g ∙ k) refl)

-- of a type that is no float it is shown alike
pub narrow_alike : (G : Table) (c : Context) (x : ℕ) → c.opcode ≢ SWITCH → IsNarrow c.before (type_in c.operands)
    → IsShownAlike G c (Number x 0 1)
narrow_alike G c x m n s ws ss t = ap (λ b. shown_operand G b (Number x 0 1)) (step (form_at (kind_of G s.kind)) refl)
  where
    step : (f : forms.Form) → form_at (kind_of G s.kind) ≡ f → is_float G c s ≡ false
    step (Leaf l) e =
        let i = context_leaf G c s l x 0 1 ws ss m e t (number_wide G c s l x 0 1 ws ss e t) in
        let j : number_type c (kind_of G s.kind) ≡ type_in c.operands = type_by_context c (kind_of G s.kind)
        (e ∙ ap Leaf i) in
        ap (is_float_type c.before) j ∙ n.no_float
    step (Parts p) e = absurd (takes_no_parts s.kind (shape_of G c s) (Number x 0 1) ws ss _ t (shape_parts G c s p e))

-- its text
pub number_piece : (G : Table) (x : ℕ) → decimal x ≡ shown_operand G false (Number x 0 1)
number_piece G x = let e : x ≡ x + 4294967296 * 0 = omega arith in ap decimal e
