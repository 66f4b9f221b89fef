-- Operands that are read without the stack of pending operands, with their parameters.
use Rattle.std.proofs.Common.{◌≡◌, ◌++◌, ◌∙◌, inl, inr, ℕ, suc, Bool, List, [], ◌∷◌, Option, Some, None, true, length}
use Rattle.std.proofs.Common.{map, refl, sym, arith}
use Rattle.std.specs.Prelude.{◌==◌}
use Rattle.std.proofs.lemmas.Bool.Decides.{nat_tests}
use Rattle.spv_table.specs.Table.{Table, kind_of}
use Rattle.spv_table.specs.declared.table.Item as declared_item
use Rattle.spv_table.specs.declared.form.Leaf as declared
use Rattle.spv_table.specs.declared.form.Leaf.TheVariants as leaf
use Rattle.spv_table.specs.declared.form.Form.TheVariants.{Leaf}
use Rattle.spv_table.specs.inner.Form.{form_at}
use Rattle.spv_module.specs.Operand.{Plain, PlainInst, Text, Context}
use Rattle.spv_module.specs.Shape.{Slot, alone, shape_of}
use Rattle.spv_inst.specs.Flat.{Due, OneOf, due}
use Rattle.spv_inst.specs.inner.Pending.{Opens, LeadsTo, due_first, items_of, opened_kinds, settled}
use Rattle.spv_inst.specs.inner.Written.{HasText, operand_words}
use Rattle.spv_inst.proofs.Shapes.{shape_leaf}
use Rattle.spv_inst.proofs.Opened.{due_joined}
use Rattle.spv_lines.specs.Operand.{IsRead, is_float}
use Rattle.spv_lines.specs.Written.{Piece}
use Rattle.spv_lines.specs.Line.{before_space, from_space}
use Rattle.spv_parser.specs.declared.operands.Known.{Known}
use Rattle.spv_parser.specs.inner.Kept.{IsOfOperands}
use Rattle.spv_parser.specs.inner.Reading.{HasQuoted, IsPlainStep, SoFar, context_of}
use Rattle.spv_lines.specs.inner.Answer.{IsTaken}
use Rattle.spv_parser.specs.inner.Fast.{IsFreeStep}
use Rattle.spv_parser.proofs.Taken.{token_step, text_step, front_not}
use Rattle.spv_parser.proofs.Walks.{IsMore, so_far_more}

-- a value or a mask
pub named_step : (G : Table) (r : Option ℕ) (c : Context) (kind : ℕ) (l : declared.Leaf) (t u token rest : List ℕ)
    (o : Plain) (ks : List ℕ) (known : Known) (old new : List ℕ) → form_at (kind_of G kind) ≡ Leaf l
    → (l ≡ leaf.Result → ⊥) → t ≡ 32 ∷ u
    → token ≡ before_space u → rest ≡ from_space u
    → ((c : Context) (hex : Bool) → IsTaken G hex kind (shape_of G c (alone kind)) token o) → opened_kinds G o ≡ ks
    → new ≡ old ++ operand_words o → IsOfOperands known c.opcode (c.operands ++ (o ∷ []))
    → IsFreeStep G r c (alone kind) t rest known ks old new
named_step G r c kind l t u token rest o ks known old new e n a f g k j w i = λ ds.
    let s = alone kind in
    let d : map OneOf (map alone ks) ++ ds ≡ map OneOf (map alone (opened_kinds G o)) ++ ds = rw j refl in
    let m = token_step G r c s u token rest o l known old new ds (map OneOf (map alone ks) ++ ds) e
    (sym (front_not G c s l e n)) f g (k c (is_float G c s)) w d i in
    rw a m

-- a text
pub quotation_step : (G : Table) (r : Option ℕ) (c : Context) (kind : ℕ) (t u text rest : List ℕ) (known : Known)
    (old new : List ℕ) → form_at (kind_of G kind) ≡ Leaf leaf.Text → t ≡ 32 ∷ u → HasQuoted u text rest
    → HasText (Text text)
    → new ≡ old ++ operand_words (Text text) → IsOfOperands known c.opcode (c.operands ++ (Text text ∷ []))
    → IsFreeStep G r c (alone kind) t rest known [] old new
quotation_step G r c kind t u text rest known old new e a q h n i = λ ds.
    let s = alone kind in
    rw a (text_step G r c s u text rest known old new ds ds (shape_leaf G c s leaf.Text leaf.Text e refl) q h n refl i)

-- an operand of one word without parameters
pub plain_freed : (G : Table) (r : Option ℕ) (c : Context) (s : Slot) (t rest : List ℕ) (known : Known) (x : ℕ)
    (old new : List ℕ) → new ≡ old ++ (x ∷ []) → IsPlainStep G r c s t rest known x
    → IsFreeStep G r c s t rest known [] old new
plain_freed G r c s t rest known x old new e h = λ ds. rw e (h old ds)

more_there : (G : Table) (r : Option ℕ) (c : Context) (s : Slot) (o : Plain) (p t rest : List ℕ)
    → Piece (IsRead G) G r c s o p → t ≡ p ++ rest → IsMore true r c t
more_there G r c s _ _ t rest (Piece.result x n e) f = inr (λ g. let h : Some x ≡ None = sym e ∙ (g ∙ n) in cc)
more_there G r c s _ _ t rest (Piece.other o a n e) f = inl (λ g. let h : [] ≡ 32 ∷ (a ++ rest) = sym g ∙ f in cc)

pub so_far_cell : (G : Table) (r : Option ℕ) (before : List PlainInst) (opcode : ℕ) (pattern ds : List Due)
    (ks js all : List ℕ) (items : List declared_item.Item) (line t rest words new : List ℕ) (known next : Known)
    (s : Slot)
    → (a : SoFar G r before opcode pattern line known ds t words) → settled true ds ≡ OneOf s ∷ due_first js items
    → IsFreeStep G r (context_of before opcode a.operands) s t rest next ks words new → all ≡ ks ++ js
    → SoFar G r before opcode pattern line next (due_first all items) rest new
so_far_cell G r before opcode pattern ds ks js all items line t rest words new known next s a e h j =
    let c = context_of before opcode a.operands in
    let es = due_first js items in
    let k = h es in
    let n = more_there G r c s k.operand k.stands.piece t rest k.stands.written k.stands.all in
    let l : LeadsTo G (settled true ds) s es = record { slot = s; rest = es; first = e; opened = Opens.leaf } in
    let m = so_far_more G r before opcode pattern ds es
    (map OneOf (map alone ks) ++ es) line t rest words new known next s true a n l k in
    rw (due_joined ks js all (map due (items_of items)) j) m

-- no parameter is due where it stops
pub none_by : {A : Type 0} (b : Bool) (ks : List A) → b ≡ (length ks == 0) → b ≡ true → ks ≡ []
none_by b [] e f = refl
none_by b (k ∷ ks) e f = absurd (some_not b (length ks) e f)
  where
    some_not : (b : Bool) (n : ℕ) → b ≡ (suc n == 0) → b ≡ true → ⊥
    some_not b n e f = grind (arith, nat_tests)

pub so_far_kept : (G : Table) (r : Option ℕ) (before : List PlainInst) (opcode : ℕ) (pattern : List Due) (ks : List ℕ)
    (items : List declared_item.Item) (line t words new : List ℕ) (known : Known)
    → SoFar G r before opcode pattern line known (due_first ks items) t words
    → ks ≡ [] → new ≡ words → SoFar G r before opcode pattern line known (map due (items_of items)) t new
so_far_kept G r before opcode pattern ks items line t words new known a e f =
    let b : SoFar G r before opcode pattern line known (due_first [] items) t words = rw e at a in
    rw f b
