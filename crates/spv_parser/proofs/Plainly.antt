-- Operands of one number each, at the front of a line's operands.
use Rattle.std.proofs.Common.{◌≡◌, ◌≢◌, ◌++◌, ◌∙◌, ◌<◌, ◌^◌, ℕ, List, [], ◌∷◌, Option, Some, None, false, map, refl}
use Rattle.std.proofs.Common.{sym, ap}
use Rattle.std.specs.Prelude.{decimal}
use Rattle.spv_table.specs.Table.{Table, kind_of}
use Rattle.spv_table.specs.declared.form.Leaf as declared
use Rattle.spv_table.specs.declared.form.Leaf.TheVariants as leaf
use Rattle.spv_table.specs.declared.form.Form.TheVariants.{Leaf}
use Rattle.spv_table.specs.inner.Form.{form_at}
use Rattle.spv_module.specs.Operand.{Plain, OfType, Result, Id, Word, Number, Context, result_in, type_in}
use Rattle.spv_module.specs.Shape.{Slot, alone, AsNumber, AsResult, shape_of}
use Rattle.spv_inst.specs.Flat.{OneOf}
use Rattle.spv_inst.specs.inner.Pending.{opened_kinds}
use Rattle.spv_inst.specs.inner.Written.{operand_words}
use Rattle.spv_inst.proofs.Shapes.{shape_leaf}
use Rattle.spv_lines.specs.Line.{before_space, from_space}
use Rattle.spv_lines.specs.Operand.{id_text, is_float, is_float_type}
use Rattle.spv_lines.specs.Refusal.{IsBreak}
use Rattle.spv_lines.specs.inner.Answer.{IsTaken}
use Rattle.spv_lines.proofs.Taking.{type_taken, id_taken, word_taken, narrow_taken}
use Rattle.spv_parser.specs.declared.operands.Known.{Known}
use Rattle.spv_lines.specs.inner.Narrow.{IsNarrow}
use Rattle.spv_parser.specs.inner.Kept.{IsOfOperands}
use Rattle.spv_parser.specs.inner.Reading.{HasToken, IsPlainStep}
use Rattle.spv_lines.proofs.NumberTypes.{type_by_context}
use Rattle.spv_parser.proofs.Taken.{token_step, front_step, front_not}

-- a number behind a space, and one behind a space and `%`
pub token_behind : (t u token rest : List ℕ) → t ≡ 32 ∷ u → before_space u ≡ token → from_space u ≡ rest
    → HasToken t token rest
token_behind t u token rest e f g = record { behind = u; all = e; front = f; back = g }

pub marked_behind : (t u v token rest : List ℕ) → t ≡ 32 ∷ u → u ≡ 37 ∷ v → before_space v ≡ token → from_space v ≡ rest
    → HasToken t (37 ∷ token) rest
marked_behind t u v token rest e i f g =
    record { behind = 37 ∷ v; all = e ∙ ap (λ z. 32 ∷ z) i; front = ap (λ z. 37 ∷ z) f; back = g }

cell_step : (G : Table) (r : Option ℕ) (c : Context) (s : Slot) (t token rest : List ℕ) (o : Plain) (l : declared.Leaf)
    (known : Known) (x : ℕ) → form_at (kind_of G s.kind) ≡ Leaf l → l ≢ leaf.Result → HasToken t token rest
    → IsTaken G (is_float G c s) s.kind (shape_of G c s) token o → x ∷ [] ≡ operand_words o → opened_kinds G o ≡ []
    → IsOfOperands known c.opcode (c.operands ++ (o ∷ [])) → IsPlainStep G r c s t rest known x
cell_step G r c s t token rest o l known x e n h k w q i = λ old ds.
    let f = front_not G c s l e n in
    let d : ds ≡ map OneOf (map alone (opened_kinds G o)) ++ ds = rw q refl in
    let m = token_step G r c s h.behind token rest o l known old (old ++ (x ∷ [])) ds ds e (sym f) (sym h.front)
    (sym h.back) k (ap (λ z. old ++ z) w) d i in
    rw h.all m

pub type_stepped : (G : Table) (r : Option ℕ) (c : Context) (kind : ℕ) (t rest : List ℕ) (known : Known) (x : ℕ)
    → form_at (kind_of G kind) ≡ Leaf leaf.ResultType → (x < 2 ^ 32) × HasToken t (id_text x) rest
    → IsOfOperands known c.opcode (c.operands ++ (OfType x ∷ [])) → IsPlainStep G r c (alone kind) t rest known x
type_stepped G r c kind t rest known x e h i =
    let s = alone kind in
    let k : IsTaken G (is_float G c s) s.kind (shape_of G c s) (id_text x) (OfType x) = rw
    (shape_leaf G c s leaf.ResultType leaf.ResultType e refl)
    (type_taken G (is_float G c s) s.kind x (id_text x) (h.0, refl)) in
    cell_step G r c s t (id_text x) rest (OfType x) leaf.ResultType known x e (λ f. cc) h.1 k refl refl i

pub id_stepped : (G : Table) (r : Option ℕ) (c : Context) (kind : ℕ) (t rest : List ℕ) (known : Known) (x : ℕ)
    → form_at (kind_of G kind) ≡ Leaf leaf.Id → (x < 2 ^ 32) × HasToken t (id_text x) rest
    → IsOfOperands known c.opcode (c.operands ++ (Id x ∷ [])) → IsPlainStep G r c (alone kind) t rest known x
id_stepped G r c kind t rest known x e h i =
    let s = alone kind in
    let k : IsTaken G (is_float G c s) s.kind (shape_of G c s) (id_text x) (Id x) = rw
    (shape_leaf G c s leaf.Id leaf.Id e refl) (id_taken G (is_float G c s) s.kind x (id_text x) (h.0, refl)) in
    cell_step G r c s t (id_text x) rest (Id x) leaf.Id known x e (λ f. cc) h.1 k refl refl i

pub word_stepped : (G : Table) (r : Option ℕ) (c : Context) (kind : ℕ) (t rest : List ℕ) (known : Known) (x : ℕ)
    → form_at (kind_of G kind) ≡ Leaf leaf.Word → (x < 2 ^ 32) × HasToken t (decimal x) rest
    → IsOfOperands known c.opcode (c.operands ++ (Word x ∷ [])) → IsPlainStep G r c (alone kind) t rest known x
word_stepped G r c kind t rest known x e h i =
    let s = alone kind in
    let k : IsTaken G (is_float G c s) s.kind (shape_of G c s) (decimal x) (Word x) = rw
    (shape_leaf G c s leaf.Word leaf.Word e refl)
    (word_taken G (is_float G c s) s.kind x (decimal x) (h.0, refl)) in
    cell_step G r c s t (decimal x) rest (Word x) leaf.Word known x e (λ f. cc) h.1 k refl refl i

pub integer_stepped : (G : Table) (r : Option ℕ) (c : Context) (kind : ℕ) (t rest : List ℕ) (known : Known) (x : ℕ)
    → form_at (kind_of G kind) ≡ Leaf leaf.Integer → (x < 2 ^ 32) × HasToken t (decimal x) rest
    → IsOfOperands known c.opcode (c.operands ++ (Word x ∷ [])) → IsPlainStep G r c (alone kind) t rest known x
integer_stepped G r c kind t rest known x e h i =
    let s = alone kind in
    let k : IsTaken G (is_float G c s) s.kind (shape_of G c s) (decimal x) (Word x) = rw
    (shape_leaf G c s leaf.Integer leaf.Integer e refl)
    (word_taken G (is_float G c s) s.kind x (decimal x) (h.0, refl)) in
    cell_step G r c s t (decimal x) rest (Word x) leaf.Integer known x e (λ f. cc) h.1 k refl refl i

-- a number of a type of at most 32 bits that is no float
pub number_stepped : (G : Table) (r : Option ℕ) (c : Context) (kind : ℕ) (t rest : List ℕ) (known : Known) (x : ℕ)
    → form_at (kind_of G kind) ≡ Leaf leaf.ContextNumber → IsNarrow c.before (type_in c.operands)
    → (x < 2 ^ 32) × HasToken t (decimal x) rest
    → IsOfOperands known c.opcode (c.operands ++ (Number x 0 1 ∷ [])) → IsPlainStep G r c (alone kind) t rest known x
number_stepped G r c kind t rest known x e n h i =
    let s = alone kind in
    let o = Number x 0 1 in
    let f : is_float G c s ≡ false = ap (is_float_type c.before) (type_by_context c (kind_of G kind) e) ∙ n.no_float in
    let g : shape_of G c s ≡ AsNumber (Some n.width) = shape_leaf G c s leaf.ContextNumber leaf.ContextNumber e refl
    ∙ ap AsNumber n.is in
    let k : IsTaken G (is_float G c s) s.kind (shape_of G c s) (decimal x) o = rw (f, g)
    (narrow_taken G kind n.width x (decimal x) n.least (h.0, refl)) in
    cell_step G r c s t (decimal x) rest o leaf.ContextNumber known x e (λ f. cc) h.1 k refl refl i

pub result_stepped : (G : Table) (c : Context) (kind : ℕ) (t : List ℕ) (known : Known) (x : ℕ)
    → form_at (kind_of G kind) ≡ Leaf leaf.Result → x < 2 ^ 32 → result_in c.operands ≡ None → IsBreak t
    → IsOfOperands known c.opcode (c.operands ++ (Result x ∷ [])) → IsPlainStep G (Some x) c (alone kind) t t known x
result_stepped G c kind t known x e l n b i = λ old ds.
    let s = alone kind in
    let f : shape_of G c s ≡ AsResult = shape_leaf G c s leaf.Result leaf.Result e refl in
    front_step G x c s t known old (old ++ (x ∷ [])) ds ds l f n b refl refl i
