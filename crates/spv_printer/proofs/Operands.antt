-- What is known of an instruction tells how a number is shown; what an operand has in its line.
use Rattle.std.proofs.Common.{◌≡◌, ◌++◌, ◌∙◌, ◌<◌, ◌+◌, arith, length, take, get_or, append_assoc, append-nil, ℕ, zero}
use Rattle.std.proofs.Common.{suc, List, [], ◌∷◌, Option, Some, None, Bool, true, false, ◌&&◌, ◌||◌, not, is_some}
use Rattle.std.proofs.Common.{option_and_then, refl, sym, ap}
use Rattle.std.specs.List.{list_any}
use Rattle.std.specs.Prelude.{Result as Answer, Ok, Err, OnOk}
use Rattle.spv_table.specs.Table.{Table, kind_of}
use Rattle.spv_inst.specs.declared.definitions.Definitions.{Definitions}
use Rattle.spv_inst.specs.declared.reader.Known.{Known}
use Rattle.spv_table.specs.declared.form.Leaf as declared
use Rattle.spv_table.specs.declared.form.Leaf.TheVariants as leaf
use Rattle.spv_table.specs.declared.form.Form.TheVariants.{Leaf}
use Rattle.spv_inst.specs.inner.Known.{IsNear}
use Rattle.spv_table.specs.inner.Form.{form_at}
use Rattle.spv_module.specs.Operand.{Plain, OfType, Result, Id, Word, Number, Text, Value, Mask, Argument, Mention}
use Rattle.spv_module.specs.Operand.{Context, result_in, type_in}
use Rattle.spv_module.specs.Width.{width_of, type_of, first_id}
use Rattle.spv_module.specs.Shape.{Slot, shape_of}
use Rattle.spv_module.specs.Spelling.{Takes}
use Rattle.spv_lines.specs.Operand.{Form, Shown, shown_operand, is_float, is_float_type, is_result, number_type}
use Rattle.spv_lines.specs.Written.{Piece}
use Rattle.spv_lines.specs.Name.{shown_mask}
use Rattle.spv_inst.specs.Reading.{enumerants_at}
use Rattle.spv_module.specs.declared.operand.Operand.{Operand}
use Rattle.spv_module.specs.declared.operand.Operand.TheVariants as code
use Rattle.spv_module.specs.Module.{plain_operand, plain_operands}
use Rattle.spv_printer.specs.inner.Printer.{is_number}
use Rattle.spv_printer.proofs.Steps.{so_far}
use Rattle.spv_printer.proofs.KindForms.{Wide, number_wide}
use Rattle.spv_lines.proofs.NumberTypes.{type_by_context, type_by_switch}

-- a known width has a type
record Typed (o : Option ℕ) : Type 0 where
  pub id : ℕ
  pub is : o ≡ Some id

typed : (f : ℕ → Option ℕ) (o : Option ℕ) (w : ℕ) → option_and_then f o ≡ Some w → Typed o
typed f None w e = cc
typed f (Some t) w e = record { id = t; is = refl }

pub shown_context : (d : Definitions) (known : Known) (G : Table) (c : Context) (s : Slot) (l : declared.Leaf)
    (x : Bool) (o : Plain) → IsNear d known c → form_at (kind_of G s.kind) ≡ Leaf l → l ≡ leaf.ContextNumber
    → x ≡ is_float_type c.before known.type_id → shown_operand G x o ≡ shown_operand G (is_float G c s) o
shown_context d known G c s l x o m e f g =
    let k : form_at (kind_of G s.kind) ≡ Leaf leaf.ContextNumber = e ∙ ap Leaf f in
    let n : number_type c (kind_of G s.kind) ≡ type_in c.operands = type_by_context c (kind_of G s.kind) k in
    let h : x ≡ is_float G c s = g ∙ ap (is_float_type c.before) (m.type_id ∙ sym n) in
    ap (λ y. shown_operand G y o) h

float_switch : (d : Definitions) (known : Known) (G : Table) (c : Context) (s : Slot) (l : declared.Leaf) (x : ℕ)
    (b : Bool) → IsNear d known c → form_at (kind_of G s.kind) ≡ Leaf l → (l ≡ leaf.ContextNumber → ⊥)
    → Wide c l → known.first ≡ Some x → b ≡ is_float_type c.before (type_of c.before x) → b ≡ is_float G c s
float_switch d known G c s l x b a e f (Wide.context w g h) i p = absurd (f g)
float_switch d known G c s l x b a e f (Wide.switch w g h) i p =
    let k : first_id c.operands ≡ Some x = sym a.first ∙ i in
    let m : form_at (kind_of G s.kind) ≡ Leaf leaf.Integer = e ∙ ap Leaf g in
    let n : number_type c (kind_of G s.kind) ≡ type_of c.before x = type_by_switch c (kind_of G s.kind) m
    ∙ ap (option_and_then (type_of c.before)) k in
    p ∙ ap (is_float_type c.before) (sym n)

no_switch : (d : Definitions) (known : Known) (c : Context) (l : declared.Leaf) → IsNear d known c
    → (l ≡ leaf.ContextNumber → ⊥) → Wide c l → known.first ≡ None → ⊥
no_switch d known c l a f (Wide.context w g h) i = f g
no_switch d known c l a f (Wide.switch w g h) i =
    let t = typed (width_of c.before) (option_and_then (type_of c.before) (first_id c.operands)) w h in
    let u = typed (type_of c.before) (first_id c.operands) t.id t.is in
    let j : None ≡ Some u.id = sym i ∙ (a.first ∙ u.is) in
    cc

wide_number : (G : Table) (c : Context) (s : Slot) (l : declared.Leaf) (o : Plain) (a b n : ℕ) (ws : List ℕ)
    (ss : List Slot) → o ≡ Number a b n → form_at (kind_of G s.kind) ≡ Leaf l
    → Takes s.kind (shape_of G c s) o ws ss → Wide c l
wide_number G c s l o a b n ws ss i e t = number_wide G c s l a b n ws ss e (rw i at t)

pub shown_switch : (d : Definitions) (known : Known) (G : Table) (c : Context) (s : Slot) (l : declared.Leaf) (x : Bool)
    (id : ℕ) (o : Plain) (a b n : ℕ) (ws : List ℕ) (ss : List Slot) → o ≡ Number a b n
    → IsNear d known c → form_at (kind_of G s.kind) ≡ Leaf l → (l ≡ leaf.ContextNumber → ⊥)
    → Takes s.kind (shape_of G c s) o ws ss
    → known.first ≡ Some id → x ≡ is_float_type c.before (type_of c.before id)
    → shown_operand G x o ≡ shown_operand G (is_float G c s) o
shown_switch d known G c s l x id o a b n ws ss i m e f t g h =
    ap (λ y. shown_operand G y o) (float_switch d known G c s l id x m e f
    (wide_number G c s l o a b n ws ss i e t) g h)

pub shown_no_switch : (d : Definitions) (known : Known) (G : Table) (c : Context) (s : Slot) (l : declared.Leaf)
    (x : Bool) (o : Plain) (a b n : ℕ) (ws : List ℕ) (ss : List Slot) → o ≡ Number a b n
    → IsNear d known c → form_at (kind_of G s.kind) ≡ Leaf l → (l ≡ leaf.ContextNumber → ⊥)
    → Takes s.kind (shape_of G c s) o ws ss
    → known.first ≡ None → shown_operand G x o ≡ shown_operand G (is_float G c s) o
shown_no_switch d known G c s l x o a b n ws ss i m e f t g =
    absurd (no_switch d known c l m f (wide_number G c s l o a b n ws ss i e t) g)

-- a result that stands in front has no piece, and all else a space and its text
in_front : (c : Context) (o : Plain)
    → is_result c o ≡ (is_some (result_in (o ∷ [])) && not (is_some (result_in c.operands)))
in_front c (OfType x) = refl
in_front c _ = refl

front_piece : (form : Form) (G : Table) (r : Option ℕ) (c : Context) (s : Slot) (o : Plain) (p : List ℕ)
    → Piece form G r c s o p → is_result c o ≡ true → p ≡ []
front_piece form G r c s _ _ (Piece.result x n e) h = refl
front_piece form G r c s _ _ (Piece.other o t n e) h = let z : true ≡ false = sym h ∙ n in cc

front_is : (c : Context) (x : ℕ) → result_in c.operands ≡ None → is_result c (Result x) ≡ true
front_is c x e = rw e refl

other_piece : (G : Table) (r : Option ℕ) (c : Context) (s : Slot) (o : Plain) (p : List ℕ) → Piece (Shown G) G r c s o p
    → is_result c o ≡ false → p ≡ 32 ∷ shown_operand G (is_float G c s) o
other_piece G r c s _ _ (Piece.result x n e) h = let z : true ≡ false = sym (front_is c x n) ∙ h in cc
other_piece G r c s _ _ (Piece.other o t n e) h = ap (λ z. 32 ∷ z) e

-- whether there is a result after one operand more
result_more : (os : List Plain) (o : Plain)
    → is_some (result_in (os ++ (o ∷ []))) ≡ (is_some (result_in os) || is_some (result_in (o ∷ [])))
result_more (OfType x ∷ os) o = result_more os o
result_more (Id x ∷ os) o = result_more os o
result_more (Word x ∷ os) o = result_more os o
result_more (Argument x ∷ os) o = result_more os o
result_more (Mention x ∷ os) o = result_more os o
result_more (Number a b n ∷ os) o = result_more os o
result_more (Text t ∷ os) o = result_more os o
result_more (Value k x ∷ os) o = result_more os o
result_more (Mask k x ∷ os) o = result_more os o
result_more _ o = refl

-- one operand that is a number
pub some_number : (items : List Operand) (i : ℕ) (o x : Operand) → i < length items → o ≡ get_or items i x
    → is_number o ≡ true → list_any is_number items ≡ true
some_number [] i o x h e n = absurd (omega arith)
some_number (p ∷ ps) zero o x h e n = let m : is_number p ≡ true = rw e at n in rw m refl
some_number (p ∷ ps) (suc k) o x h e n = either_true (is_number p) (some_number ps k o x (omega arith) e n)
  where
    either_true : (b : Bool) {c : Bool} → c ≡ true → (b || c) ≡ true
    either_true true e = refl
    either_true false e = e

-- whether there is a result now, where the operand stands in front or not
pub one_of : (a b : Bool) → (b && not a) ≡ true → true ≡ (a || b)
one_of true true h = refl
one_of true false h = refl
one_of false true h = refl
one_of false false h = cc

pub kept_by : (a b : Bool) → (b && not a) ≡ false → a ≡ (a || b)
kept_by true b h = refl
kept_by false true h = cc
kept_by false false h = refl

-- the piece of the result, which is none
pub front_added : (G : Table) (r : Option ℕ) (c : Context) (s : Slot) (o : Plain) (p old new : List ℕ) (b : Bool)
    → b ≡ is_some (result_in c.operands) → Piece (Shown G) G r c s o p → (is_some (result_in (o ∷ [])) && not b) ≡ true
    → new ≡ old → new ≡ old ++ p
front_added G r c s o p old new b e q h n =
    let f : (is_some (result_in (o ∷ [])) && not (is_some (result_in c.operands))) ≡ true = rw e at h in
    let z = front_piece (Shown G) G r c s o p q (in_front c o ∙ f) in
    n ∙ (sym (append-nil old) ∙ ap (λ z. old ++ z) (sym z))

-- the piece of another operand
pub other_added : (G : Table) (r : Option ℕ) (c : Context) (s : Slot) (o : Plain) (p old new : List ℕ) (b hex : Bool)
    → b ≡ is_some (result_in c.operands) → Piece (Shown G) G r c s o p → (is_some (result_in (o ∷ [])) && not b) ≡ false
    → shown_operand G hex o ≡ shown_operand G (is_float G c s) o → new ≡ old ++ (32 ∷ shown_operand G hex o)
    → new ≡ old ++ p
other_added G r c s o p old new b hex e q h g n =
    let f : (is_some (result_in (o ∷ [])) && not (is_some (result_in c.operands))) ≡ false = rw e at h in
    let z = other_piece G r c s o p q (in_front c o ∙ f) in
    n ∙ ap (λ z. old ++ z) (ap (λ z. 32 ∷ z) g ∙ sym z)

pub result_after : (items : List Operand) (i : ℕ) (o x : Operand) (b : Bool) → i < length items → o ≡ get_or items i x
    → b ≡ is_some (result_in (plain_operands (take i items)))
    → (b || is_some (result_in (plain_operand o ∷ []))) ≡ is_some (result_in (plain_operands (take (i + 1) items)))
result_after items i o x b h e f =
    let a : is_some (result_in (plain_operands (take i items) ++ (plain_operand o ∷ []))) ≡
    (is_some (result_in (plain_operands (take i items))) || is_some (result_in (plain_operand o ∷ []))) =
    result_more (plain_operands (take i items)) (plain_operand o) in
    ap (λ b. b || is_some (result_in (plain_operand o ∷ []))) f
    ∙ (sym a ∙ ap (λ os. is_some (result_in os)) (sym (so_far items i o x h e)))

pub mask_written : {T E : Type 0} (r : Answer T E) (G : Table) (hex : Bool) (o : Operand) (k x : ℕ) (out old : List ℕ)
    → o ≡ code.Mask k x → OnOk r (out ≡ old ++ shown_mask (enumerants_at (kind_of G k)) x)
    → OnOk r (out ≡ old ++ shown_operand G hex (plain_operand o))
mask_written r G hex o k x out old e h = rw e h

-- a space, and what is added behind it
pub behind_space : {T E : Type 0} (r : Answer T E) (old mid out a : List ℕ) → mid ≡ old ++ (32 ∷ [])
    → OnOk r (out ≡ mid ++ a) → OnOk r (out ≡ old ++ (32 ∷ a))
behind_space (Ok _) old mid out a e h = h ∙ (ap (λ z. z ++ a) e ∙ append_assoc old (32 ∷ []) a)
behind_space (Err _) old mid out a e h = tt
