-- The fast way through the operands of a line.
use Rattle.std.proofs.Common.{◌≡◌, ◌++◌, ◌∙◌, ◌<◌, ◌^◌, ◌||◌, ℕ, Bool, List, [], ◌∷◌, Option, Some, None, true, false}
use Rattle.std.proofs.Common.{not, length, map, nat_eq, refl, sym, ap, arith}
use Rattle.std.specs.Option.{option_or}
use Rattle.std.specs.Prelude.{◌==◌, decimal}
use Rattle.spv_table.specs.Table.{Table, kind_of}
use Rattle.spv_table.specs.declared.table.Item as declared_item
use Rattle.spv_table.specs.declared.form.Leaf as declared
use Rattle.spv_table.specs.declared.form.Leaf.TheVariants as leaf
use Rattle.spv_table.specs.declared.form.Form.TheVariants.{Leaf}
use Rattle.spv_table.specs.inner.Form.{form_at}
use Rattle.spv_module.specs.declared.opcode.TheConstants.{TYPE_FLOAT, TYPE_INT}
use Rattle.spv_module.specs.Operand.{Plain, PlainInst, OfType, Result, Id, Word, Number, Text, Context, result_in}
use Rattle.spv_module.specs.Operand.{type_in}
use Rattle.spv_module.specs.Width.{first_id, width_in, declared_width}
use Rattle.spv_module.specs.Shape.{Slot, alone, shape_of}
use Rattle.spv_inst.specs.Flat.{Due, OneOf}
use Rattle.spv_inst.specs.inner.Pending.{due_first, opened_kinds, settled}
use Rattle.spv_inst.specs.inner.Written.{HasText, operand_words}
use Rattle.spv_lines.specs.Line.{before_space, from_space}
use Rattle.spv_lines.specs.Operand.{id_text}
use Rattle.spv_lines.specs.Refusal.{IsBreak}
use Rattle.spv_lines.specs.inner.Answer.{IsTaken}
use Rattle.spv_parser.specs.declared.operands.Known.{Known}
use Rattle.spv_parser.specs.declared.operands.Line.{Line}
use Rattle.spv_parser.specs.inner.Kept.{IsOfOperands, count_of}
use Rattle.spv_parser.specs.inner.Reading.{AreRead, HasQuoted, HasToken, context_of}
use Rattle.spv_parser.specs.inner.Fast.{BeginsWith, FastSoFar, Has, IsFastStep, IsFreeStep}
use Rattle.spv_lines.specs.inner.Narrow.{IsNarrow}
use Rattle.spv_lines.proofs.OneMore.{result_snoc, type_snoc}
use Rattle.spv_parser.proofs.Begins.{of_more}
use Rattle.spv_parser.proofs.Celled.{named_step, none_by, plain_freed, quotation_step, so_far_cell}
use Rattle.spv_parser.proofs.Plainly.{id_stepped, integer_stepped, number_stepped, result_stepped, type_stepped}
use Rattle.spv_parser.proofs.Plainly.{word_stepped}
use Rattle.spv_parser.proofs.Walks.{so_far_done, so_far_first, so_far_nearer, so_far_plain}

abbrev pub known_of : ℕ → List Plain → Known
known_of opcode os = record {
  opcode = opcode;
  result = result_in os;
  type_id = type_in os;
  first = first_id os;
  width = width_in os;
  count = count_of os;
}

own : (opcode : ℕ) (os : List Plain) → IsOfOperands (known_of opcode os) opcode os
own opcode os = record { opcode = refl; result = refl; type_id = refl; first = refl; width = refl; count = refl }

or_none : (a : Option ℕ) → option_or a None ≡ a
or_none None = refl
or_none (Some x) = refl

-- an operand that is neither a result nor a result type
fast_step : (G : Table) (line : Line) (c : Context) (s : Slot) (t rest ks old new : List ℕ) (o : Plain)
    → Has line c.operands → result_in (o ∷ []) ≡ None → type_in (o ∷ []) ≡ None
    → IsFreeStep G line.result c s t rest (known_of c.opcode (c.operands ++ (o ∷ []))) ks old new
    → IsFastStep G line c s t rest ks old new
fast_step G line c s t rest ks old new o h e f k = record {
  next = known_of c.opcode (c.operands ++ (o ∷ []));
  result = sym (result_snoc c.operands o) ∙
      (ap (option_or (result_in c.operands)) e ∙ (or_none (result_in c.operands) ∙ h.result));
  type_id = sym (type_snoc c.operands o) ∙
      (ap (option_or (type_in c.operands)) f ∙ (or_none (type_in c.operands) ∙ h.type_id));
  step = k;
}

pub fast_id : (G : Table) (line : Line) (c : Context) (kind : ℕ) (t rest : List ℕ) (x : ℕ) (old new : List ℕ)
    → form_at (kind_of G kind) ≡ Leaf leaf.Id → Has line c.operands → (x < 2 ^ 32) × HasToken t (id_text x) rest
    → new ≡ old ++ (x ∷ [])
    → IsFastStep G line c (alone kind) t rest [] old new
fast_id G line c kind t rest x old new e b h w =
    let n = known_of c.opcode (c.operands ++ (Id x ∷ [])) in
    fast_step G line c (alone kind) t rest [] old new (Id x) b refl refl
    (plain_freed G line.result c (alone kind) t rest n x old new w
    (id_stepped G line.result c kind t rest n x e h (own c.opcode (c.operands ++ (Id x ∷ [])))))

pub fast_word : (G : Table) (line : Line) (c : Context) (kind : ℕ) (t rest : List ℕ) (x : ℕ) (old new : List ℕ)
    → form_at (kind_of G kind) ≡ Leaf leaf.Word → Has line c.operands → (x < 2 ^ 32) × HasToken t (decimal x) rest
    → new ≡ old ++ (x ∷ [])
    → IsFastStep G line c (alone kind) t rest [] old new
fast_word G line c kind t rest x old new e b h w =
    let n = known_of c.opcode (c.operands ++ (Word x ∷ [])) in
    fast_step G line c (alone kind) t rest [] old new (Word x) b refl refl
    (plain_freed G line.result c (alone kind) t rest n x old new w
    (word_stepped G line.result c kind t rest n x e h (own c.opcode (c.operands ++ (Word x ∷ [])))))

pub fast_integer : (G : Table) (line : Line) (c : Context) (kind : ℕ) (t rest : List ℕ) (x : ℕ) (old new : List ℕ)
    → form_at (kind_of G kind) ≡ Leaf leaf.Integer → Has line c.operands → (x < 2 ^ 32) × HasToken t (decimal x) rest
    → new ≡ old ++ (x ∷ []) → IsFastStep G line c (alone kind) t rest [] old new
fast_integer G line c kind t rest x old new e b h w =
    let n = known_of c.opcode (c.operands ++ (Word x ∷ [])) in
    fast_step G line c (alone kind) t rest [] old new (Word x) b refl refl
    (plain_freed G line.result c (alone kind) t rest n x old new w
    (integer_stepped G line.result c kind t rest n x e h (own c.opcode (c.operands ++ (Word x ∷ [])))))

pub fast_number : (G : Table) (line : Line) (c : Context) (kind : ℕ) (t rest : List ℕ) (x : ℕ) (old new : List ℕ)
    → form_at (kind_of G kind) ≡ Leaf leaf.ContextNumber → Has line c.operands → IsNarrow c.before line.type_id
    → (x < 2 ^ 32) × HasToken t (decimal x) rest
    → new ≡ old ++ (x ∷ []) → IsFastStep G line c (alone kind) t rest [] old new
fast_number G line c kind t rest x old new e b i h w =
    let o = Number x 0 1 in
    let n = known_of c.opcode (c.operands ++ (o ∷ [])) in
    let j : IsNarrow c.before (type_in c.operands) = rw b.type_id i in
    fast_step G line c (alone kind) t rest [] old new o b refl refl
    (plain_freed G line.result c (alone kind) t rest n x old new w
    (number_stepped G line.result c kind t rest n x e j h (own c.opcode (c.operands ++ (o ∷ [])))))

pub fast_named : (G : Table) (line : Line) (c : Context) (kind : ℕ) (l : declared.Leaf) (t u token rest : List ℕ)
    (o : Plain) (ks old new : List ℕ) → form_at (kind_of G kind) ≡ Leaf l → (l ≡ leaf.Result → ⊥) → Has line c.operands
    → t ≡ 32 ∷ u
    → token ≡ before_space u → rest ≡ from_space u
    → ((c : Context) (hex : Bool) → IsTaken G hex kind (shape_of G c (alone kind)) token o) → opened_kinds G o ≡ ks
    → (result_in (o ∷ []) ≡ None) × (type_in (o ∷ []) ≡ None)
    → new ≡ old ++ operand_words o → IsFastStep G line c (alone kind) t rest ks old new
fast_named G line c kind l t u token rest o ks old new e m b a f g h k i w =
    let n = known_of c.opcode (c.operands ++ (o ∷ [])) in
    fast_step G line c (alone kind) t rest ks old new o b i.0 i.1
    (named_step G line.result c kind l t u token rest o ks n old new e m a f g h k w
    (own c.opcode (c.operands ++ (o ∷ []))))

pub fast_text : (G : Table) (line : Line) (c : Context) (kind : ℕ) (t u text rest old new : List ℕ)
    → form_at (kind_of G kind) ≡ Leaf leaf.Text → Has line c.operands → t ≡ 32 ∷ u → HasQuoted u text rest
    → HasText (Text text)
    → new ≡ old ++ operand_words (Text text) → IsFastStep G line c (alone kind) t rest [] old new
fast_text G line c kind t u text rest old new e b a q h w =
    let n = known_of c.opcode (c.operands ++ (Text text ∷ [])) in
    fast_step G line c (alone kind) t rest [] old new (Text text) b refl refl
    (quotation_step G line.result c kind t u text rest n old new e a q h w
    (own c.opcode (c.operands ++ (Text text ∷ []))))

-- no operand is read yet
pub start_none : (G : Table) (line : Line) (before : List PlainInst) (opcode : ℕ) (pattern : List Due)
    (text words : List ℕ) → line.opcode ≡ opcode → line.result ≡ None → line.type_id ≡ None → line.width ≡ None
    → words ≡ [] → IsBreak text
    → FastSoFar G line before opcode pattern text pattern text words
start_none G line before opcode pattern text words o r t w e b = record {
  known = known_of opcode [];
  opcode = o;
  result = sym r;
  type_id = sym t;
  width = w;
  so_far = so_far_first G line.result before opcode pattern pattern text words (known_of opcode []) refl e b
      (own opcode []);
}

-- a result is read
pub start_result : (G : Table) (line : Line) (before : List PlainInst) (opcode : ℕ) (pattern ds : List Due)
    (text old new : List ℕ) (x : ℕ) → line ≡ record { opcode = opcode; result = Some x; type_id = None; width = None }
    → old ≡ [] → IsBreak text
    → BeginsWith G leaf.Result pattern ds → x < 2 ^ 32 → new ≡ old ++ (x ∷ [])
    → FastSoFar G line before opcode pattern text ds text new
start_result G line before opcode pattern ds text old new x i n b f l w =
    let r : Option ℕ = Some x in
    let none = known_of opcode [] in
    let one = known_of opcode (Result x ∷ []) in
    let a = so_far_first G r before opcode pattern pattern text old none refl n b (own opcode []) in
    let c = context_of before opcode a.operands in
    let s = result_stepped G c f.kind text one x f.form l (sym a.known.result) b
    (of_more none one opcode a.operands (Result x) refl refl refl refl refl refl a.known) in
    let d = so_far_plain G r before opcode pattern pattern ds text text text old (old ++ (x ∷ [])) none one
    (alone f.kind) a f.first (s old ds) in
    rw (i, w) (record { known = one; opcode = refl; result = refl; type_id = refl; width = refl; so_far = d })

-- a result type and a result are read
pub start_typed : (G : Table) (line : Line) (before : List PlainInst) (opcode : ℕ) (pattern es ds : List Due)
    (text rest old new : List ℕ) (t x : ℕ)
    → line ≡ record { opcode = opcode; result = Some x; type_id = Some t; width = None } → old ≡ [] → IsBreak text
    → BeginsWith G leaf.ResultType pattern es → BeginsWith G leaf.Result es ds
    → (t < 2 ^ 32) × HasToken text (id_text t) rest → x < 2 ^ 32 → new ≡ (old ++ (t ∷ [])) ++ (x ∷ [])
    → FastSoFar G line before opcode pattern text ds rest new
start_typed G line before opcode pattern es ds text rest old new t x i n b f g cell l w =
    let r : Option ℕ = Some x in
    let none = known_of opcode [] in
    let one = known_of opcode (OfType t ∷ []) in
    let two = known_of opcode (OfType t ∷ Result x ∷ []) in
    let a = so_far_first G r before opcode pattern pattern text old none refl n b (own opcode []) in
    let c = context_of before opcode a.operands in
    let s = type_stepped G r c f.kind text rest one t f.form cell
    (of_more none one opcode a.operands (OfType t) refl refl refl refl refl refl a.known) in
    let d = so_far_plain G r before opcode pattern pattern es text text rest old (old ++ (t ∷ [])) none one
    (alone f.kind) a f.first (s old es) in
    let v = result_stepped G (context_of before opcode d.operands) g.kind rest two x g.form l
    (sym d.known.result) d.broken (of_more one two opcode d.operands
    (Result x) refl refl refl refl refl refl d.known) in
    let e = so_far_plain G r before opcode pattern es ds text rest rest (old ++ (t ∷ []))
    ((old ++ (t ∷ [])) ++ (x ∷ [])) one two (alone g.kind) d g.first (v (old ++ (t ∷ [])) ds) in
    rw (i, w) (record { known = two; opcode = refl; result = refl; type_id = refl; width = refl; so_far = e })

pub fast_has : (G : Table) (line : Line) (before : List PlainInst) (opcode : ℕ) (pattern : List Due) (text : List ℕ)
    (ds : List Due) (t words : List ℕ) (a : FastSoFar G line before opcode pattern text ds t words)
    → Has line a.so_far.operands
fast_has G line before opcode pattern text ds t words a =
    record { result = sym a.so_far.known.result ∙ a.result; type_id = sym a.so_far.known.type_id ∙ a.type_id }

-- the line gets shorter
pub fast_nearer : (G : Table) (line : Line) (before : List PlainInst) (opcode : ℕ) (pattern ds : List Due)
    (text t rest words old new ks : List ℕ) (s : Slot) (a : FastSoFar G line before opcode pattern text ds t words)
    → IsFastStep G line (context_of before opcode a.so_far.operands) s t rest ks old new → length rest < length t
fast_nearer G line before opcode pattern ds text t rest words old new ks s a h =
    let k = so_far_nearer G line.result (context_of before opcode a.so_far.operands) s t rest old new a.known h.next []
    (map OneOf (map alone ks) ++ []) a.so_far.known (h.step []) in
    let k' = rw (a.result, h.result) at k in
    omega (arith, k')

is_more : (b : Bool) (t : List ℕ) (n : ℕ) → b ≡ (length t == 0) → n < length t → not b ≡ true
is_more true t n e h =
    let z = none_by true t e refl in
    let h' : n < 0 = rw z at h in
    absurd (omega (arith, h'))
is_more false t n e h = refl

pub fast_more : (G : Table) (line : Line) (before : List PlainInst) (opcode : ℕ) (pattern ds : List Due)
    (ks js all : List ℕ) (items : List declared_item.Item) (text t rest words new : List ℕ) (s : Slot) (b : Bool)
    (a : FastSoFar G line before opcode pattern text ds t words)
    → b ≡ (length t == 0) → settled (not b) ds ≡ OneOf s ∷ due_first js items
    → IsFastStep G line (context_of before opcode a.so_far.operands) s t rest ks words new → all ≡ ks ++ js
    → FastSoFar G line before opcode pattern text (due_first all items) rest new
fast_more G line before opcode pattern ds ks js all items text t rest words new s b a m e h j =
    let q = is_more b t (length rest) m (fast_nearer G line before opcode pattern ds text t rest words words new ks s a
    h) in
    let e' : settled true ds ≡ OneOf s ∷ due_first js items = rw q at e in
    record {
      known = h.next;
      opcode = a.opcode;
      result = h.result;
      type_id = h.type_id;
      width = a.width;
      so_far = so_far_cell G line.result before opcode pattern ds ks js all items text t rest words new a.known h.next s
          a.so_far e' h.step j;
    }

no_width : (opcode : ℕ) (os : List Plain) → (nat_eq opcode TYPE_INT || nat_eq opcode TYPE_FLOAT) ≡ false
    → None ≡ declared_width (record { opcode = opcode; operands = os })
no_width opcode os e = rw e refl

pub fast_done : (G : Table) (line : Line) (before : List PlainInst) (opcode : ℕ) (pattern ds : List Due)
    (text t words new : List ℕ) (b : Bool) → FastSoFar G line before opcode pattern text ds t words
    → (nat_eq opcode TYPE_INT || nat_eq opcode TYPE_FLOAT) ≡ false → b ≡ (length t == 0)
    → settled (not b) ds ≡ [] → new ≡ words → not (not b) ≡ true
    → AreRead G line.result before opcode pattern text new line
fast_done G line before opcode pattern ds text t words new true a o m f n k =
    rw n (so_far_done G line.result before opcode pattern ds text t words a.known false line a.so_far
    (none_by true t m refl, sym a.result ∙ a.so_far.known.result) f refl
    (λ os h. record {
      opcode = a.opcode;
      result = sym a.result ∙ h.result;
      type_id = sym a.type_id ∙ h.type_id;
      width = a.width ∙ no_width opcode os o;
    }))
fast_done G line before opcode pattern ds text t words new false a o m f n k = cc
