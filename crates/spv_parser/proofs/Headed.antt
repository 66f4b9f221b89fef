-- A line's name and what stands in front of it; the lines of the header.
use Rattle.std.proofs.Common.{◌≡◌, ◌≢◌, ◌++◌, ◌∙◌, ◌⊎◌, inl, inr, ◌<◌, ◌≤◌, ◌+◌, ◌-◌, ◌^◌, ℕ, zero, suc, List, [], ◌∷◌}
use Rattle.std.proofs.Common.{Option, Some, None, Bool, true, false, nat_eq, length, take, drop, get_or, map}
use Rattle.std.proofs.Common.{option_map, refl, sym, ap, arith}
use Rattle.std.specs.Prelude.{decimal, codes, slice_get, Result as Answer, Ok, Err}
use Rattle.std.specs.List.{list_any}
use Rattle.spv_table.specs.declared.table.Entry.{Entry}
use Rattle.spv_table.specs.Table.{Table, Item, entry_of}
use Rattle.spv_table.specs.Lookups.{opcode_named}
use Rattle.spv_table.specs.declared.table.Enumerant.{Enumerant}
use Rattle.spv_table.specs.Table.{kind_of}
use Rattle.spv_table.specs.declared.form.Leaf as declared
use Rattle.spv_table.specs.declared.form.Leaf.TheVariants as leaf
use Rattle.spv_table.specs.declared.form.Form.TheVariants.{Leaf, Parts}
use Rattle.spv_table.specs.inner.Form.{form_at}
use Rattle.spv_module.specs.declared.opcode.TheConstants.{SWITCH}
use Rattle.spv_module.specs.Width.{switch_width}
use Rattle.spv_module.specs.Shape.{alone, AsResult, AsNumber, AsWord, shape_of}
use Rattle.spv_inst.specs.Reading.{enumerants_at}
use Rattle.spv_inst.proofs.Shapes.{leaf_shape, shape_leaf, shape_parts}
use Rattle.spv_module.specs.Operand.{Context}
use Rattle.spv_lines.specs.declared.asm_error.AsmCode.{AsmCode}
use Rattle.spv_lines.specs.declared.asm_error.AsmCode.TheVariants.{S1, S3, S4}
use Rattle.spv_lines.specs.Digits.{is_number, IsLarge}
use Rattle.spv_lines.specs.Name.{Names, by_number}
use Rattle.spv_lines.specs.Operand.{id_text}
use Rattle.spv_lines.specs.Line.{IsInstName}
use Rattle.spv_lines.specs.Text.{lines_of}
use Rattle.spv_lines.specs.Fault.{IsResult, ResultFails, is_result_shape, must_have_result, may_have_result, HeaderLine}
use Rattle.spv_lines.specs.Fault.{number_of, IsHeaderLine, IsLargeGenerator, line_at, HeaderFails}
use Rattle.spv_lines.proofs.Numbers.{decimal_number, not_large}
use Rattle.spv_lines.proofs.Tokens.{first_same}
use Rattle.spv_lines.proofs.Whole.{no_entry, no_result, one_result}
use Rattle.spv_lines.specs.declared.misread.Misread.{Misread}
use Rattle.spv_lines.specs.declared.misread.Misread.TheVariants.{IllFormed, TooLarge}
use Rattle.spv_lines.specs.inner.Answer.{IsNamed, IsBehind, IsBelow}
use Rattle.std.proofs.lemmas.List.{append_cancel_left}
use Rattle.spv_parser.specs.inner.Heading.{IsOpcodeText, IsFront}
use Rattle.spv_parser.specs.inner.Lines.{IsNoNumber}

-- names of instructions
pub opcode_by_name : (lookup : List ℕ → Option ℕ) (t : List ℕ) (x : ℕ) → x < 65536 → IsNamed lookup t (Some x)
    → IsOpcodeText lookup t (Some x)
opcode_by_name lookup t x h n = (h, Names.named t n)

names_so : (lookup : List ℕ → Option ℕ) (x : ℕ) (t u : List ℕ) → t ≡ u → Names lookup x u → Names lookup x t
names_so lookup x t u e h = rw e h

pub opcode_by_number : (lookup : List ℕ → Option ℕ) (t : List ℕ) (x : ℕ) → x < 65536 → IsBehind 35 t (Ok x)
    → IsOpcodeText lookup t (Some x)
opcode_by_number lookup t x h b = (h, names_so lookup x t (by_number x) b.1 Names.numbered)

only_hash : (lookup : List ℕ → Option ℕ) (x : ℕ) (t : List ℕ) → Names lookup x t → IsNamed lookup t None
    → t ≡ by_number x
only_hash lookup x _ (Names.named t i) d = absurd (d x i)
only_hash lookup x _ Names.numbered d = refl

pub opcode_too_large : (lookup : List ℕ → Option ℕ) (t : List ℕ) (x : ℕ) → 65536 ≤ x → IsNamed lookup t None
    → IsBehind 35 t (Ok x) → IsOpcodeText lookup t None
opcode_too_large lookup t x h d b = λ y l n.
    let e : by_number y ≡ by_number x = sym (only_hash lookup y t n d) ∙ b.1 in
    let m = b.0 in
    let i = Rattle.std.proofs.lemmas.Fmt.decimal_injective y x (omega arith) (omega arith)
    (first_same 35 35 (decimal y) (decimal x) e).second in
    omega arith

pub opcode_none : (lookup : List ℕ → Option ℕ) (t : List ℕ) (why : Misread) → IsNamed lookup t None
    → IsBehind 35 t (Err why) → IsOpcodeText lookup t None
opcode_none lookup t IllFormed d b = λ y l n. b (decimal y) (only_hash lookup y t n d) (decimal_number y (omega arith))
opcode_none lookup t TooLarge d b = λ y l n.
    let e : by_number y ≡ 35 ∷ b.0 = sym (only_hash lookup y t n d) ∙ b.1 in
    not_large (2 ^ 32) y b.0 (omega arith) (omega arith) b.2 (first_same 35 35 (decimal y) b.0 e).second

pub name_found : (G : Table) (t : List ℕ) (x : ℕ) (e : Entry) → IsOpcodeText (opcode_named G.entries) t (Some x)
    → entry_of G x ≡ Some e → IsInstName G t x e
name_found G t x e h k = record { named = h.1; known = k; range = h.0 }

names_one : (lookup : List ℕ → Option ℕ) (x y : ℕ) (t : List ℕ) → x < 65536 → y < 65536 → Names lookup x t
    → Names lookup y t → x ≡ y
names_one lookup x y t h g n m =
    Rattle.spv_lines.proofs.Tokens.names_same lookup x y t t (omega arith) (omega arith) n m refl

pub name_no_entry : (G : Table) (t : List ℕ) (x : ℕ) → IsOpcodeText (opcode_named G.entries) t (Some x)
    → entry_of G x ≡ None → (opcode : ℕ) (entry : Entry) → IsInstName G t opcode entry → ⊥
name_no_entry G t x h k opcode entry n =
    no_entry G x opcode entry k (names_one (opcode_named G.entries) opcode x t n.range h.0 n.named h.1) n.known

pub name_none : (G : Table) (t : List ℕ) → IsOpcodeText (opcode_named G.entries) t None → (opcode : ℕ) (entry : Entry)
    → IsInstName G t opcode entry → ⊥
name_none G t h opcode entry n = h opcode n.range n.named

-- what stands in front
pub front_none : (G : Table) (c : Context) (is : List Item) → list_any (must_have_result G c) is ≡ false
    → IsFront G c is None (Ok None)
front_none G c is e = (IsResult.none, λ code f. no_result G c is None code refl e f)

result_so : (t : List ℕ) (x : ℕ) → x < 2 ^ 32 → t ≡ id_text x → IsResult (Some t) (Some x)
result_so t x h e = rw e (IsResult.some x (omega arith))

pub front_some : (G : Table) (c : Context) (is : List Item) (t : List ℕ) (x : ℕ)
    → list_any (may_have_result G c) is ≡ true → IsBehind 37 t (Ok x) → IsFront G c is (Some t) (Ok (Some x))
front_some G c is t x e b = let l = b.0 in
    (result_so t x b.0 b.1, λ code g. one_result G c is (Some t) x code (ap Some b.1) (omega arith) e g)

pub front_ill : (G : Table) (c : Context) (is : List Item) (t : List ℕ) → IsBehind 37 t (Err IllFormed)
    → IsFront G c is (Some t) (Err S3)
front_ill G c is t b = ResultFails.ill_formed t (λ ds f l. b ds f l.number)

large_so : (G : Table) (c : Context) (is : List Item) (t ds : List ℕ) → t ≡ 37 ∷ ds
    → list_any (may_have_result G c) is ≡ true → IsLarge (2 ^ 32) ds → ResultFails G c is (Some t) S4
large_so G c is t ds e f l = rw e (ResultFails.large ds f l)

pub front_large : (G : Table) (c : Context) (is : List Item) (t : List ℕ) → list_any (may_have_result G c) is ≡ true
    → IsBehind 37 t (Err TooLarge) → IsFront G c is (Some t) (Err S4)
front_large G c is t e b = large_so G c is t b.0 b.1 e b.2

-- whether a kind is that of a result
if_result : (b : Bool) (w : Option ℕ)
    → is_result_shape (Rattle.std.specs.Prelude.if◌then◌else◌ b (AsNumber w) AsWord) ≡ false
if_result true w = refl
if_result false w = refl

leaf_no_result : (d : Context) (p : Bool) (es : List Enumerant) (l : declared.Leaf) → l ≢ leaf.Result
    → is_result_shape (leaf_shape d p es l) ≡ false
leaf_no_result d p es leaf.ResultType n = refl
leaf_no_result d p es leaf.Result n = absurd (n refl)
leaf_no_result d p es leaf.Id n = refl
leaf_no_result d p es leaf.Integer n =
    if_result (Rattle.std.proofs.Common.◌&&◌ p (nat_eq d.opcode SWITCH)) (switch_width d)
leaf_no_result d p es leaf.Word n = refl
leaf_no_result d p es leaf.ContextNumber n = refl
leaf_no_result d p es leaf.Text n = refl
leaf_no_result d p es leaf.Value n = refl
leaf_no_result d p es leaf.Mask n = refl
leaf_no_result d p es leaf.Nothing n = refl

pub kind_result : (G : Table) (c : Context) (k : ℕ) (l : declared.Leaf) → Leaf l ≡ form_at (kind_of G k)
    → l ≡ leaf.Result → true ≡ is_result_shape (shape_of G c (alone k))
kind_result G c k l e f =
    let i : shape_of G c (alone k) ≡ AsResult = shape_leaf G c (alone k) leaf.Result leaf.Result
    (sym e ∙ ap Leaf f) refl in rw i refl

pub kind_other : (G : Table) (c : Context) (k : ℕ) (l : declared.Leaf) → Leaf l ≡ form_at (kind_of G k)
    → l ≢ leaf.Result → false ≡ is_result_shape (shape_of G c (alone k))
kind_other G c k l e n = let i = shape_leaf G c (alone k) l l (sym e) refl in
    rw i (sym (leaf_no_result c false (enumerants_at (kind_of G k)) l n))

pub kind_parts : (G : Table) (c : Context) (k : ℕ) (p : Bool) → Parts p ≡ form_at (kind_of G k)
    → false ≡ is_result_shape (shape_of G c (alone k))
kind_parts G c k p e = let i = shape_parts G c (alone k) p (sym e) in rw i refl

-- header lines
abbrev magic_line : List ℕ
magic_line = codes "; SPIR-V"

abbrev version_line : List ℕ
version_line = codes "; Version: 1.6"

abbrev pub generator_text : List ℕ
generator_text = codes "; Generator: "

abbrev pub bound_text : List ℕ
bound_text = codes "; Bound: "

abbrev schema_line : List ℕ
schema_line = codes "; Schema: 0"

some_same : (a b : List ℕ) → Some a ≡ Some b → a ≡ b
some_same a b e = cc

pub magic_fails : (ls : List (List ℕ)) → (slice_get ls 0 ≡ Some (codes "; SPIR-V") → ⊥) → HeaderFails ls S1 1
magic_fails ls n = record {
  line = HeaderLine.Magic;
  number = refl;
  before = before;
  wrong = n;
  code_is = inr (refl, λ h. h);
}
  where
    before : (p : HeaderLine) → number_of p < 1 → IsHeaderLine p (line_at ls p)
    before HeaderLine.Magic h = absurd (omega arith)
    before HeaderLine.Version h = absurd (omega arith)
    before HeaderLine.Generator h = absurd (omega arith)
    before HeaderLine.Bound h = absurd (omega arith)
    before HeaderLine.Schema h = absurd (omega arith)

version_at : (l : List (List ℕ)) → (slice_get l 0 ≡ Some (codes "; Version: 1.6") → ⊥)
    → HeaderFails (codes "; SPIR-V" ∷ l) S1 2
version_at l n = record {
  line = HeaderLine.Version;
  number = refl;
  before = before;
  wrong = n;
  code_is = inr (refl, λ h. h);
}
  where
    before : (p : HeaderLine) → number_of p < 2 → IsHeaderLine p (line_at (codes "; SPIR-V" ∷ l) p)
    before HeaderLine.Magic h = refl
    before HeaderLine.Version h = absurd (omega arith)
    before HeaderLine.Generator h = absurd (omega arith)
    before HeaderLine.Bound h = absurd (omega arith)
    before HeaderLine.Schema h = absurd (omega arith)

pub version_fails : (ls l : List (List ℕ)) → ls ≡ codes "; SPIR-V" ∷ l
    → (slice_get l 0 ≡ Some (codes "; Version: 1.6") → ⊥) → HeaderFails ls S1 2
version_fails ls l e n = rw e (version_at l n)

generator_at : (l : List (List ℕ)) (code : AsmCode) → (IsHeaderLine HeaderLine.Generator (slice_get l 0) → ⊥)
    → ((code ≡ S4) × IsLargeGenerator HeaderLine.Generator (slice_get l 0))
    ⊎ ((code ≡ S1) × (¬ (IsLargeGenerator HeaderLine.Generator (slice_get l 0))))
    → HeaderFails (codes "; SPIR-V" ∷ codes "; Version: 1.6" ∷ l) code 3
generator_at l code n c = record { line = HeaderLine.Generator; number = refl; before = before; wrong = n; code_is = c }
  where
    before : (p : HeaderLine) → number_of p < 3
        → IsHeaderLine p (line_at (codes "; SPIR-V" ∷ codes "; Version: 1.6" ∷ l) p)
    before HeaderLine.Magic h = refl
    before HeaderLine.Version h = refl
    before HeaderLine.Generator h = absurd (omega arith)
    before HeaderLine.Bound h = absurd (omega arith)
    before HeaderLine.Schema h = absurd (omega arith)

pub generator_ill : (ls : List (List ℕ)) (t : List ℕ) → ls ≡ codes "; SPIR-V" ∷ codes "; Version: 1.6" ∷ lines_of t
    → IsNoNumber t (codes "; Generator: ") IllFormed → HeaderFails ls S1 3
generator_ill ls t e n =
    rw e (generator_at (lines_of t) S1 (λ h. let k = h.1 in n (decimal h.0) h.2 (decimal_number h.0 (omega arith)))
    (inr (refl, λ g. n g.0 g.2 g.1.number)))

pub generator_large : (ls : List (List ℕ)) (t : List ℕ) → ls ≡ codes "; SPIR-V" ∷ codes "; Version: 1.6" ∷ lines_of t
    → IsNoNumber t (codes "; Generator: ") TooLarge → HeaderFails ls S4 3
generator_large ls t e n = rw e (generator_at (lines_of t) S4
    (λ h. let k = h.1 in not_large (2 ^ 32) h.0 n.0 k (omega arith) n.2
    (append_cancel_left generator_text (decimal h.0) n.0
    (some_same (generator_text ++ decimal h.0) (generator_text ++ n.0) (sym h.2 ∙ n.1))))
    (inl (refl, (n.0, n.2, n.1))))

bound_at : (l : List (List ℕ)) (g : ℕ) → g < 2 ^ 32 → (IsHeaderLine HeaderLine.Bound (slice_get l 0) → ⊥)
    → HeaderFails (codes "; SPIR-V" ∷ codes "; Version: 1.6" ∷ (codes "; Generator: " ++ decimal g) ∷ l) S1 4
bound_at l g q n = record {
  line = HeaderLine.Bound;
  number = refl;
  before = before;
  wrong = n;
  code_is = inr (refl, λ h. h);
}
  where
    before : (p : HeaderLine) → number_of p < 4
        → IsHeaderLine p (line_at (codes "; SPIR-V" ∷ codes "; Version: 1.6" ∷ (codes "; Generator: " ++ decimal g) ∷ l)
        p)
    before HeaderLine.Magic h = refl
    before HeaderLine.Version h = refl
    before HeaderLine.Generator h = (g, q, refl)
    before HeaderLine.Bound h = absurd (omega arith)
    before HeaderLine.Schema h = absurd (omega arith)

pub bound_ill : (ls : List (List ℕ)) (t : List ℕ) (g : ℕ) (why : Misread) → g < 2 ^ 32
    → ls ≡ codes "; SPIR-V" ∷ codes "; Version: 1.6" ∷ (codes "; Generator: " ++ decimal g) ∷ lines_of t
    → IsNoNumber t (codes "; Bound: ") why → HeaderFails ls S1 4
bound_ill ls t g IllFormed q e n =
    rw e (bound_at (lines_of t) g q (λ h. let k = h.2 in n (decimal h.0) h.3 (decimal_number h.0 (omega arith))))
bound_ill ls t g TooLarge q e n = rw e (bound_at (lines_of t) g q (λ h.
    let k = h.2 in not_large (2 ^ 32) h.0 n.0 (omega arith) (omega arith) n.2
    (append_cancel_left bound_text (decimal h.0) n.0
    (some_same (bound_text ++ decimal h.0) (bound_text ++ n.0) (sym h.3 ∙ n.1)))))

pub bound_out : (ls l m : List (List ℕ)) (g b : ℕ) → g < 2 ^ 32 → b < 2 ^ 32
    → ls ≡ codes "; SPIR-V" ∷ codes "; Version: 1.6" ∷ (codes "; Generator: " ++ decimal g) ∷ l
    → l ≡ (codes "; Bound: " ++ decimal b) ∷ m
    → (1 ≤ b → b ≤ 4194303 → ⊥) → HeaderFails ls S1 4
bound_out ls l m g b q w e f n = rw e (bound_at l g q (wrong (slice_get l 0) (rw f refl)))
  where
    wrong : (o : Option (List ℕ)) → o ≡ Some (bound_text ++ decimal b) → IsHeaderLine HeaderLine.Bound o → ⊥
    wrong o i h =
        let x = h.1 in
        let y = h.2 in
        let k = append_cancel_left bound_text (decimal h.0) (decimal b)
        (some_same (bound_text ++ decimal h.0) (bound_text ++ decimal b) (sym h.3 ∙ i)) in
        let z = Rattle.std.proofs.lemmas.Fmt.decimal_injective h.0 b (omega arith) (omega arith) k in
        n (omega arith) (omega arith)

schema_at : (l : List (List ℕ)) (g b : ℕ) → g < 2 ^ 32 → 1 ≤ b → b ≤ 4194303
    → (slice_get l 0 ≡ Some (codes "; Schema: 0") → ⊥)
    → HeaderFails (codes "; SPIR-V" ∷ codes "; Version: 1.6" ∷ (codes "; Generator: " ++ decimal g)
    ∷ (codes "; Bound: " ++ decimal b) ∷ l) S1 5
schema_at l g b q x y n =
    record { line = HeaderLine.Schema; number = refl; before = before; wrong = n; code_is = inr (refl, λ h. h) }
  where
    before : (p : HeaderLine) → number_of p < 5
        → IsHeaderLine p (line_at (codes "; SPIR-V" ∷ codes "; Version: 1.6" ∷ (codes "; Generator: " ++ decimal g)
        ∷ (codes "; Bound: " ++ decimal b) ∷ l) p)
    before HeaderLine.Magic h = refl
    before HeaderLine.Version h = refl
    before HeaderLine.Generator h = (g, q, refl)
    before HeaderLine.Bound h = (b, x, y, refl)
    before HeaderLine.Schema h = absurd (omega arith)

pub schema_fails : (ls l : List (List ℕ)) (g b : ℕ) → g < 2 ^ 32 → 1 ≤ b → b ≤ 4194303
    → ls ≡ codes "; SPIR-V" ∷ codes "; Version: 1.6" ∷ (codes "; Generator: " ++ decimal g)
    ∷ (codes "; Bound: " ++ decimal b) ∷ l
    → (slice_get l 0 ≡ Some (codes "; Schema: 0") → ⊥) → HeaderFails ls S1 5
schema_fails ls l g b q x y e n = rw e (schema_at l g b q x y n)

-- a line that begins with a front, and no number of 32 bits behind it
pub no_number : (t line front digits : List ℕ) (rest : List (List ℕ)) (why : Misread) → lines_of t ≡ line ∷ rest
    → line ≡ front ++ digits → IsBelow (2 ^ 32) digits (Err why) → IsNoNumber t front why
no_number t line front digits rest TooLarge e f b = let k : slice_get (lines_of t) 0 ≡ Some line = rw e refl in
    (digits, k ∙ ap Some f, b)
no_number t line front digits rest IllFormed e f b = λ ds g n.
    let k : slice_get (lines_of t) 0 ≡ Some line = rw e refl in
    let h : front ++ digits ≡ front ++ ds = some_same (front ++ digits) (front ++ ds) (sym (k ∙ ap Some f) ∙ g) in
    let i = append_cancel_left front digits ds h in
    let j : is_number digits ≡ true = rw i n in
    not_both (is_number digits) j b
  where
    not_both : (x : Bool) → x ≡ true → x ≡ false → ⊥
    not_both x e f = cc

-- what stands in front, as the code has it
pub front_so : {X : Type 0} (f : X → List ℕ) (G : Table) (c : Context) (is : List Item) (o : Option X)
    (p : Option (List ℕ)) (r : Answer (Option ℕ) AsmCode) → option_map f o ≡ p → IsFront G c is p r
    → IsFront G c is (option_map f o) r
front_so f G c is o p r e h = rw e h

pub front_missing : (G : Table) (c : Context) (is : List Item) → list_any (must_have_result G c) is ≡ true
    → IsFront G c is None (Err S3)
front_missing G c is e = ResultFails.missing e

pub front_too_many : (G : Table) (c : Context) (is : List Item) (t : List ℕ) → list_any (may_have_result G c) is ≡ false
    → IsFront G c is (Some t) (Err S3)
front_too_many G c is t e = ResultFails.too_many t e

-- a line that does not begin with a front
pub no_front : (t line front : List ℕ) (rest : List (List ℕ)) → lines_of t ≡ line ∷ rest
    → ((ds : List ℕ) → line ≢ front ++ ds) → IsNoNumber t front IllFormed
no_front t line front rest e n = λ ds g k.
    let h : slice_get (lines_of t) 0 ≡ Some line = rw e refl in
    n ds (some_same line (front ++ ds) (sym h ∙ g))
