-- Every text is read, or fails.
use Rattle.std.proofs.Common.{◌≡◌, ◌≢◌, ◌++◌, ◌∙◌, ◌⊎◌, inl, inr, ◌<◌, ◌≤◌, ◌+◌, ◌^◌, ℕ, zero, suc, List, [], ◌∷◌}
use Rattle.std.proofs.Common.{Option, Some, None, Bool, true, false, nat_eq, length, map, option_map, refl, sym, ap}
use Rattle.std.proofs.Common.{arith, length-append}
use Rattle.std.specs.Prelude.{decimal, codes, slice_get}
use Rattle.std.specs.List.{list_any}
use Rattle.std.proofs.lemmas.List.{append_cancel_left}
use Rattle.spv_words.specs.declared.words.Header.{Header}
use Rattle.spv_table.specs.declared.table.Entry.{Entry}
use Rattle.spv_table.specs.Table.{Table, Item, entry_of, pattern_of, IsWhole}
use Rattle.spv_table.specs.Lookups.{opcode_named}
use Rattle.spv_module.specs.Operand.{Plain, PlainInst, Context, start, result_in}
use Rattle.spv_inst.specs.Flat.{due}
use Rattle.spv_module.specs.Instruction.{first_word}
use Rattle.spv_words.specs.Header.{greatest_length}
use Rattle.spv_inst.specs.Limits.{HeaderFits, greatest_count}
use Rattle.spv_lines.specs.declared.asm_error.AsmCode.{AsmCode}
use Rattle.spv_lines.specs.declared.asm_error.AsmCode.TheVariants.{S1, S2, S3, S4, S5}
use Rattle.spv_lines.specs.Digits.{is_number, IsLarge}
use Rattle.spv_lines.specs.Name.{IsNameOf, Names, by_number}
use Rattle.spv_lines.specs.Operand.{IsRead, id_text}
use Rattle.spv_lines.specs.Written.{Written}
use Rattle.spv_lines.specs.Line.{Parts, Halves, parts_of, parts_behind, from_space, begins_percent, cut_at_equals}
use Rattle.spv_lines.specs.Line.{IsInstName, IsReadLine}
use Rattle.spv_lines.specs.Text.{header_lines, lines_of, ReadLines, IsReadText}
use Rattle.spv_lines.specs.Refusal.{IsBreak, at_end, at_space}
use Rattle.spv_lines.specs.Fault.{IsResult, ResultFails, LineFails, LinesFail, must_have_result, may_have_result}
use Rattle.spv_lines.specs.Fault.{HeaderLine, number_of, IsHeaderLine, IsLargeGenerator, line_at, HeaderFails}
use Rattle.spv_lines.specs.Fault.{IsFailure}
use Rattle.spv_lines.proofs.Tokens.{first_same}
use Rattle.spv_lines.proofs.Numbers.{decimal_number, not_large}
use Rattle.spv_lines.proofs.Failing.{is_result_id}
use Rattle.spv_lines.proofs.Marked.{Marked, marked, Decimals, decimals, below_or_not, same_or_not, lists_same_or_not}
use Rattle.spv_lines.proofs.Marked.{true_or_false}
use Rattle.spv_lines.proofs.Naming.{Named, named}
use Rattle.spv_lines.proofs.Walking.{Outcome, read_or_fail}

-- the name of an instruction
pub data InstNamed (G : Table) (t : List ℕ) : Type 0 where
  found : (opcode : ℕ) (entry : Entry) → IsInstName G t opcode entry → InstNamed G t
  none : ((opcode : ℕ) (entry : Entry) → ¬ (IsInstName G t opcode entry)) → InstNamed G t

pub only_name : (lookup : List ℕ → Option ℕ) (x y : ℕ) (t : List ℕ) → Names lookup y t → IsNameOf lookup x t → y ≡ x
only_name lookup x y _ (Names.named t i) j = let u = i.found in let v = j.found in cc
only_name lookup x y _ Names.numbered j = let q = j.plain in let g : false ≡ true = q in cc

pub only_number : (lookup : List ℕ → Option ℕ) (y : ℕ) (t : List ℕ) → Names lookup y t
    → ((x : ℕ) → IsNameOf lookup x t → ⊥) → t ≡ by_number y
only_number lookup y _ (Names.named t i) d = absurd (d y i)
only_number lookup y _ Names.numbered d = refl

names_at : (lookup : List ℕ → Option ℕ) (x : ℕ) (t u : List ℕ) → t ≡ u → Names lookup x u → Names lookup x t
names_at lookup x t u e h = rw e h

pub no_entry : (G : Table) (x y : ℕ) (e : Entry) → entry_of G x ≡ None → y ≡ x → entry_of G y ≡ Some e → ⊥
no_entry G x y e h f g = let g' : entry_of G x ≡ Some e = rw f at g in cc

inst_named : (G : Table) (t : List ℕ) → InstNamed G t
inst_named G t = step (named (opcode_named G.entries) t)
  where
    by_name : (x : ℕ) → IsNameOf (opcode_named G.entries) x t → (x < 65536) ⊎ (65536 ≤ x) → (o : Option Entry)
        → entry_of G x ≡ o → InstNamed G t
    by_name x n (inl l) (Some e) f = InstNamed.found x e (record { named = Names.named t n; known = f; range = l })
    by_name x n (inl l) None f =
        InstNamed.none (λ y e h. no_entry G x y e f (only_name (opcode_named G.entries) x y t h.named n) h.known)
    by_name x n (inr l) o f =
        InstNamed.none (λ y e h. let i = only_name (opcode_named G.entries) x y t h.named n in let k = h.range in
        omega arith)

    numbered : (x : ℕ) → x < 65536 → t ≡ by_number x → ((y : ℕ) → IsNameOf (opcode_named G.entries) y t → ⊥)
        → (o : Option Entry) → entry_of G x ≡ o → InstNamed G t
    numbered x l e d (Some f) g =
        InstNamed.found x f (record {
          named = names_at (opcode_named G.entries) x t (by_number x) e Names.numbered;
          known = g;
          range = l;
        })
    numbered x l e d None g = InstNamed.none (λ y f h.
        let i = only_number (opcode_named G.entries) y t h.named d in
        let j : by_number x ≡ by_number y = sym e ∙ i in
        let k = h.range in
        let m = Rattle.std.proofs.lemmas.Fmt.decimal_injective y x (omega arith) (omega arith)
        (sym (first_same 35 35 (decimal x) (decimal y) j).second) in
        no_entry G x y f g m h.known)

    by_mark : ((y : ℕ) → IsNameOf (opcode_named G.entries) y t → ⊥) → Marked 35 65536 t → InstNamed G t
    by_mark d (Marked.fits x l e) = numbered x l e d (entry_of G x) refl
    by_mark d (Marked.large ds e l) = InstNamed.none (λ y f h.
        let i = only_number (opcode_named G.entries) y t h.named d in
        let j : 35 ∷ decimal y ≡ 35 ∷ ds = sym i ∙ e in
        let k = h.range in
        not_large 65536 y ds k (omega arith) l (first_same 35 35 (decimal y) ds j).second)
    by_mark d (Marked.none n) = InstNamed.none (λ y f h.
        let i = only_number (opcode_named G.entries) y t h.named d in
        let k = h.range in
        n (decimal y) i (decimal_number y (omega arith)))

    step : Named (opcode_named G.entries) t → InstNamed G t
    step (Named.found x n) = by_name x n (below_or_not x 65536) (entry_of G x) refl
    step (Named.none d) = by_mark d (marked 35 65536 t (omega arith))

-- the result in front
data Front (G : Table) (c : Context) (is : List Item) (p : Option (List ℕ)) : Type 0 where
  right : (r : Option ℕ) → IsResult p r → ((wrong : AsmCode) → ¬ (ResultFails G c is p wrong)) → Front G c is p
  wrong : (code : AsmCode) → ResultFails G c is p code → Front G c is p

pub no_result : (G : Table) (c : Context) (is : List Item) (p : Option (List ℕ)) (code : AsmCode) → p ≡ None
    → list_any (must_have_result G c) is ≡ false → ResultFails G c is p code → ⊥
no_result G c is _ _ e f (ResultFails.missing m) = cc
no_result G c is _ _ e f (ResultFails.too_many t m) = cc
no_result G c is _ _ e f (ResultFails.ill_formed t m) = cc
no_result G c is _ _ e f (ResultFails.large ds m l) = cc

pub one_result : (G : Table) (c : Context) (is : List Item) (p : Option (List ℕ)) (x : ℕ) (code : AsmCode)
    → p ≡ Some (id_text x) → x < 4294967296 → list_any (may_have_result G c) is ≡ true → ResultFails G c is p code → ⊥
one_result G c is _ x _ e h f (ResultFails.missing m) = cc
one_result G c is _ x _ e h f (ResultFails.too_many t m) = cc
one_result G c is _ x _ e h f (ResultFails.ill_formed t m) =
    m (decimal x) (some_same t (id_text x) e) (record { number = decimal_number x (omega arith); large = omega arith })
  where
    some_same : (a b : List ℕ) → Some a ≡ Some b → a ≡ b
    some_same a b e = cc
one_result G c is _ x _ e h f (ResultFails.large ds m l) =
    not_large (2 ^ 32) x ds (omega arith) (omega arith) l
    (sym (first_same 37 37 ds (decimal x) (some_same (37 ∷ ds) (id_text x) e)).second)
  where
    some_same : (a b : List ℕ) → Some a ≡ Some b → a ≡ b
    some_same a b e = cc

front : (G : Table) (c : Context) (is : List Item) (p : Option (List ℕ)) → Front G c is p
front G c is None = step (true_or_false (list_any (must_have_result G c) is))
  where
    step : (list_any (must_have_result G c) is ≡ true) ⊎ (list_any (must_have_result G c) is ≡ false)
        → Front G c is None
    step (inl e) = Front.wrong S3 (ResultFails.missing e)
    step (inr e) = Front.right None IsResult.none (λ code f. no_result G c is None code refl e f)
front G c is (Some t) = step (true_or_false (list_any (may_have_result G c) is)) (marked 37 (2 ^ 32) t (omega arith))
  where
    is_one : (x : ℕ) → x < 4294967296 → t ≡ id_text x → IsResult (Some t) (Some x)
    is_one x h e = rw e (IsResult.some x h)

    is_large : (ds : List ℕ) → t ≡ 37 ∷ ds → list_any (may_have_result G c) is ≡ true → IsLarge (2 ^ 32) ds
        → ResultFails G c is (Some t) S4
    is_large ds e f l = rw e (ResultFails.large ds f l)

    step : (list_any (may_have_result G c) is ≡ true) ⊎ (list_any (may_have_result G c) is ≡ false)
        → Marked 37 (2 ^ 32) t → Front G c is (Some t)
    step (inr e) m = Front.wrong S3 (ResultFails.too_many t e)
    step (inl e) (Marked.fits x l f) =
        Front.right (Some x) (is_one x (omega arith) f)
        (λ code g. one_result G c is (Some t) x code (ap Some f) (omega arith) e g)
    step (inl e) (Marked.large ds f l) = Front.wrong S4 (is_large ds f e l)
    step (inl e) (Marked.none n) = Front.wrong S3 (ResultFails.ill_formed t (λ ds f l. n ds f l.number))

-- operands begin with a space
from_break : (t : List ℕ) → IsBreak (from_space t)
from_break [] = at_end
from_break (b ∷ t) = step (nat_eq b 32) refl (from_break t)
  where
    is_space : (b : ℕ) → nat_eq b 32 ≡ true → b ≡ 32
    is_space b e = grind (arith, Rattle.std.proofs.lemmas.Bool.Decides.nat_tests)

    step : (x : Bool) → nat_eq b 32 ≡ x → IsBreak (from_space t)
        → IsBreak (Rattle.std.specs.Prelude.if◌then◌else◌ x (b ∷ t) (from_space t))
    step true e h = rw (is_space b e) (at_space t)
    step false e h = h

pub parts_break : (line : List ℕ) (P : Parts) → parts_of line ≡ Some P → IsBreak P.operands
parts_break line P e = step (begins_percent line) refl
  where
    some_parts : (Q : Parts) → Some Q ≡ Some P → Q ≡ P
    some_parts Q f = cc

    cut : (o : Option Halves) → option_map (λ h. parts_behind (Some h.front) h.back) o ≡ Some P → IsBreak P.operands
    cut None f = cc
    cut (Some h) f = let g = some_parts (parts_behind (Some h.front) h.back) f in rw (← g) (from_break h.back)

    step : (x : Bool) → begins_percent line ≡ x → IsBreak P.operands
    step true f = let e' : option_map (λ h. parts_behind (Some h.front) h.back)
        (cut_at_equals line) ≡ Some P = rw f at e in cut (cut_at_equals line) e'
    step false f = let e' : Some (parts_behind None line) ≡ Some P = rw f at e in
        let g = some_parts (parts_behind None line) e' in rw (← g) (from_break line)

-- a line is read, or fails
data LineOutcome (G : Table) (before : List PlainInst) (written : ℕ) (line : List ℕ) : Type 0 where
  read : (i : PlainInst) (further : List ℕ) → IsReadLine G before i further line → length further + 1 ≤ greatest_count
      → written + (length further + 1) ≤ greatest_length → LineOutcome G before written line
  failed : (code : AsmCode) → LineFails G before written line code → LineOutcome G before written line

fits_or_long : (G : Table) (before : List PlainInst) (written : ℕ) (line : List ℕ) (i : PlainInst) (further : List ℕ)
    → IsReadLine G before i further line → LineOutcome G before written line
fits_or_long G before written line i further a =
    step (below_or_not greatest_count (length further + 1))
    (below_or_not greatest_length (written + (length further + 1)))
  where
    step : (greatest_count < length further + 1) ⊎ (length further + 1 ≤ greatest_count)
        → (greatest_length < written + (length further + 1)) ⊎ (written + (length further + 1) ≤ greatest_length)
        → LineOutcome G before written line
    step (inl l) k = LineOutcome.failed S5 (LineFails.long i further a (inl l))
    step (inr l) (inl k) = LineOutcome.failed S5 (LineFails.long i further a (inr k))
    step (inr l) (inr k) = LineOutcome.read i further a l k

inst : ℕ → List Plain → PlainInst
inst opcode os = record { opcode = opcode; operands = os }

line_or_fail : (G : Table) → IsWhole G → (before : List PlainInst) (written : ℕ) (line : List ℕ)
    → LineOutcome G before written line
line_or_fail G w before written line = step (parts_of line) refl
  where
    operands_read : (P : Parts) → parts_of line ≡ Some P → (opcode : ℕ) (entry : Entry)
        → IsInstName G P.name opcode entry → (r : Option ℕ) → IsResult P.result r
        → ((wrong : AsmCode) → ¬ (ResultFails G (start before opcode) (pattern_of entry) P.result wrong))
        → Outcome G r (start before opcode) (map due (pattern_of entry)) P.operands
        → LineOutcome G before written line
    operands_read P e opcode entry n r f g (Outcome.written os us m v k) =
        let h = is_result_id P.result r f in
        let m' : Written (IsRead G) G (result_in os) (start before opcode)
        (map due (pattern_of entry)) os us P.operands = rw k at m in
        fits_or_long G before written line (record { opcode = opcode; operands = os }) us (record {
          parts = P;
          entry = entry;
          divided = e;
          name = n;
          result = h.first ∙ ap (option_map id_text) k;
          written = m';
          small = v;
        })
    operands_read P e opcode entry n r f g (Outcome.failed code h) =
        LineOutcome.failed code (LineFails.operands P opcode entry r code e n g f h)

    in_front : (P : Parts) → parts_of line ≡ Some P → (opcode : ℕ) (entry : Entry) → IsInstName G P.name opcode entry
        → Front G (start before opcode) (pattern_of entry) P.result → LineOutcome G before written line
    in_front P e opcode entry n (Front.right r f g) =
        operands_read P e opcode entry n r f g
        (read_or_fail G r w (is_result_id P.result r f).second (start before opcode)
        (map due (pattern_of entry)) P.operands (parts_break line P e))
    in_front P e opcode entry n (Front.wrong code f) =
        LineOutcome.failed code (LineFails.result P opcode entry code e n f)

    by_name : (P : Parts) → parts_of line ≡ Some P → InstNamed G P.name → LineOutcome G before written line
    by_name P e (InstNamed.found opcode entry n) =
        in_front P e opcode entry n (front G (start before opcode) (pattern_of entry) P.result)
    by_name P e (InstNamed.none n) = LineOutcome.failed S2 (LineFails.name P e n)

    step : (o : Option Parts) → parts_of line ≡ o → LineOutcome G before written line
    step None e = LineOutcome.failed S2 (LineFails.undivided e)
    step (Some P) e = by_name P e (inst_named G P.name)

-- lines are read, or one fails
data LinesOutcome (G : Table) (before : List PlainInst) (written : ℕ) (lines : List (List ℕ)) : Type 0 where
  read : (is : List PlainInst) (words : List ℕ) → ReadLines G before is lines words
      → written + length words ≤ greatest_length → LinesOutcome G before written lines
  failed : (code : AsmCode) (n : ℕ) → LinesFail G before written lines code n → LinesOutcome G before written lines

more_lines : (G : Table) (before : List PlainInst) (written : ℕ) (line : List ℕ) (lines : List (List ℕ)) (i : PlainInst)
    (further : List ℕ) → IsReadLine G before i further line → length further + 1 ≤ greatest_count
    → written + (length further + 1) ≤ greatest_length
    → LinesOutcome G (before ++ (i ∷ [])) (written + (length further + 1)) lines
    → LinesOutcome G before written (line ∷ lines)
more_lines G before written line lines i further a h g (LinesOutcome.read is words m k) =
    let q = length-append (first_word i.opcode further ∷ further) words in
    LinesOutcome.read (i ∷ is) ((first_word i.opcode further ∷ further) ++ words)
    (ReadLines.more before i is further line words lines a h m) (omega arith)
more_lines G before written line lines i further a h g (LinesOutcome.failed code n f) =
    LinesOutcome.failed code (suc n) (LinesFail.later before written line lines code n i further a h g f)

line_and_more : (G : Table) (before : List PlainInst) (written : ℕ) (line : List ℕ) (lines : List (List ℕ))
    → LineOutcome G before written line
    → ((c : List PlainInst) (v : ℕ) → v ≤ greatest_length → LinesOutcome G c v lines)
    → LinesOutcome G before written (line ∷ lines)
line_and_more G before written line lines (LineOutcome.read i further a h g) next =
    more_lines G before written line lines i further a h g
    (next (before ++ (i ∷ [])) (written + (length further + 1)) g)
line_and_more G before written line lines (LineOutcome.failed code f) next =
    LinesOutcome.failed code 0 (LinesFail.here before written line lines code f)

lines_or_fail : (G : Table) → IsWhole G → (before : List PlainInst) (written : ℕ) (lines : List (List ℕ))
    → written ≤ greatest_length → LinesOutcome G before written lines
lines_or_fail G w before written [] h = LinesOutcome.read [] [] (ReadLines.end before) (omega arith)
lines_or_fail G w before written (line ∷ lines) h =
    line_and_more G before written line lines (line_or_fail G w before written line)
    (λ c v g. lines_or_fail G w c v lines g)

-- what stands behind a beginning
data Stripped (m l : List ℕ) : Type 0 where
  found : (ds : List ℕ) → l ≡ m ++ ds → Stripped m l
  none : ((ds : List ℕ) → l ≡ m ++ ds → ⊥) → Stripped m l

strip_more : (x y : ℕ) (m l : List ℕ) → (y ≡ x) ⊎ (y ≢ x) → Stripped m l → Stripped (x ∷ m) (y ∷ l)
strip_more x y m l (inl e) (Stripped.found ds f) = Stripped.found ds cc
strip_more x y m l (inl e) (Stripped.none n) = Stripped.none (λ ds f. n ds (first_same y x l (m ++ ds) f).second)
strip_more x y m l (inr n) s = Stripped.none (λ ds f. n (first_same y x l (m ++ ds) f).first)

strip : (m l : List ℕ) → Stripped m l
strip [] l = Stripped.found l refl
strip (x ∷ m) [] = Stripped.none (λ ds e. cc)
strip (x ∷ m) (y ∷ l) = strip_more x y m l (same_or_not y x) (strip m l)

some_same : (a b : List ℕ) → Some a ≡ Some b → a ≡ b
some_same a b e = cc

none_some : (b : List ℕ) → None ≡ Some b → ⊥
none_some b e = cc

text_or_not : (t : List ℕ) (o : Option (List ℕ)) → (o ≡ Some t) ⊎ (o ≡ Some t → ⊥)
text_or_not t None = inr (none_some t)
text_or_not t (Some u) = step (lists_same_or_not u t)
  where
    step : (u ≡ t) ⊎ (u ≢ t) → (Some u ≡ Some t) ⊎ (Some u ≡ Some t → ⊥)
    step (inl e) = inl (ap Some e)
    step (inr n) = inr (λ e. n (some_same u t e))

abbrev generator_text : List ℕ
generator_text = codes "; Generator: "

abbrev bound_text : List ℕ
bound_text = codes "; Bound: "

generator_or_not : (o : Option (List ℕ))
    → IsHeaderLine HeaderLine.Generator o ⊎ (IsHeaderLine HeaderLine.Generator o → ⊥)
generator_or_not None = inr (λ h. none_some (generator_text ++ decimal h.0) h.2)
generator_or_not (Some l) = step (strip generator_text l)
  where
    again : (ds : List ℕ) → l ≡ generator_text ++ ds → Decimals (2 ^ 32) ds
        → IsHeaderLine HeaderLine.Generator (Some l) ⊎ (IsHeaderLine HeaderLine.Generator (Some l) → ⊥)
    again ds e (Decimals.fits x h f) = inl (x, h, ap Some (e ∙ ap (λ z. generator_text ++ z) f))
    again ds e (Decimals.large n) =
        inr (λ h. let k = h.1 in
        not_large (2 ^ 32) h.0 ds k (omega arith) n
        (sym (append_cancel_left generator_text ds (decimal h.0)
        (sym e ∙ some_same l (generator_text ++ decimal h.0) h.2))))
    again ds e (Decimals.none n) =
        inr (λ h. let k = h.1 in
        let g = append_cancel_left generator_text ds (decimal h.0)
        (sym e ∙ some_same l (generator_text ++ decimal h.0) h.2) in
        n (ap is_number g ∙ decimal_number h.0 (omega arith)))

    step : Stripped generator_text l
        → IsHeaderLine HeaderLine.Generator (Some l) ⊎ (IsHeaderLine HeaderLine.Generator (Some l) → ⊥)
    step (Stripped.found ds e) = again ds e (decimals (2 ^ 32) ds (omega arith))
    step (Stripped.none n) = inr (λ h. n (decimal h.0) (some_same l (generator_text ++ decimal h.0) h.2))

bound_or_not : (o : Option (List ℕ)) → IsHeaderLine HeaderLine.Bound o ⊎ (IsHeaderLine HeaderLine.Bound o → ⊥)
bound_or_not None = inr (λ h. none_some (bound_text ++ decimal h.0) h.3)
bound_or_not (Some l) = step (strip bound_text l)
  where
    digits_of : (ds : List ℕ) → l ≡ bound_text ++ ds → (h : IsHeaderLine HeaderLine.Bound (Some l)) → ds ≡ decimal h.0
    digits_of ds e h = append_cancel_left bound_text ds (decimal h.0)
        (sym e ∙ some_same l (bound_text ++ decimal h.0) h.3)

    again : (ds : List ℕ) → l ≡ bound_text ++ ds → Decimals 4194304 ds
        → IsHeaderLine HeaderLine.Bound (Some l) ⊎ (IsHeaderLine HeaderLine.Bound (Some l) → ⊥)
    again ds e (Decimals.fits zero h f) =
        inr (λ g. let k = g.1 in let m = g.2 in
        let i = Rattle.std.proofs.lemmas.Fmt.decimal_injective 0 g.0 (omega arith) (omega arith)
        (sym f ∙ digits_of ds e g) in omega arith)
    again ds e (Decimals.fits (suc x) h f) =
        inl (suc x, omega arith, omega arith, ap Some (e ∙ ap (λ z. bound_text ++ z) f))
    again ds e (Decimals.large n) =
        inr (λ g. let k = g.2 in not_large 4194304 g.0 ds (omega arith) (omega arith) n (sym (digits_of ds e g)))
    again ds e (Decimals.none n) =
        inr (λ g. let k = g.2 in n (ap is_number (digits_of ds e g) ∙ decimal_number g.0 (omega arith)))

    step : Stripped bound_text l → IsHeaderLine HeaderLine.Bound (Some l) ⊎ (IsHeaderLine HeaderLine.Bound (Some l) → ⊥)
    step (Stripped.found ds e) = again ds e (decimals 4194304 ds (omega arith))
    step (Stripped.none n) = inr (λ h. n (decimal h.0) (some_same l (bound_text ++ decimal h.0) h.3))

header_line_or_not : (p : HeaderLine) (o : Option (List ℕ)) → IsHeaderLine p o ⊎ (IsHeaderLine p o → ⊥)
header_line_or_not HeaderLine.Magic o = text_or_not (codes "; SPIR-V") o
header_line_or_not HeaderLine.Version o = text_or_not (codes "; Version: 1.6") o
header_line_or_not HeaderLine.Generator o = generator_or_not o
header_line_or_not HeaderLine.Bound o = bound_or_not o
header_line_or_not HeaderLine.Schema o = text_or_not (codes "; Schema: 0") o

large_or_not : (p : HeaderLine) (o : Option (List ℕ)) → IsLargeGenerator p o ⊎ (IsLargeGenerator p o → ⊥)
large_or_not HeaderLine.Magic o = inr (λ h. h)
large_or_not HeaderLine.Version o = inr (λ h. h)
large_or_not HeaderLine.Generator None = inr (λ h. none_some (generator_text ++ h.0) h.2)
large_or_not HeaderLine.Generator (Some l) = step (strip generator_text l)
  where
    again : (ds : List ℕ) → l ≡ generator_text ++ ds → Decimals (2 ^ 32) ds
        → IsLargeGenerator HeaderLine.Generator (Some l) ⊎ (IsLargeGenerator HeaderLine.Generator (Some l) → ⊥)
    again ds e (Decimals.fits x h f) =
        inr (λ g. let i = append_cancel_left generator_text ds g.0 (sym e ∙ some_same l (generator_text ++ g.0) g.2) in
        not_large (2 ^ 32) x g.0 h (omega arith) g.1 (sym f ∙ i))
    again ds e (Decimals.large n) = inl (ds, n, ap Some e)
    again ds e (Decimals.none n) =
        inr (λ g. let i = append_cancel_left generator_text ds g.0 (sym e ∙ some_same l (generator_text ++ g.0) g.2) in
        let k = g.1.number in n (ap is_number i ∙ k))

    step : Stripped generator_text l
        → IsLargeGenerator HeaderLine.Generator (Some l) ⊎ (IsLargeGenerator HeaderLine.Generator (Some l) → ⊥)
    step (Stripped.found ds e) = again ds e (decimals (2 ^ 32) ds (omega arith))
    step (Stripped.none n) = inr (λ g. n g.0 (some_same l (generator_text ++ g.0) g.2))
large_or_not HeaderLine.Bound o = inr (λ h. h)
large_or_not HeaderLine.Schema o = inr (λ h. h)

-- the header is there, or one of its lines is wrong
data HeaderOutcome (ls : List (List ℕ)) : Type 0 where
  right : (h : Header) (rest : List (List ℕ)) → HeaderFits h → h.generator < 2 ^ 32 → ls ≡ header_lines h ++ rest
      → HeaderOutcome ls
  wrong : (code : AsmCode) (n : ℕ) → HeaderFails ls code n → HeaderOutcome ls

at_line : (ls : List (List ℕ)) (p : HeaderLine)
    → ((other : HeaderLine) → number_of other < number_of p → IsHeaderLine other (line_at ls other))
    → (IsHeaderLine p (line_at ls p) → ⊥) → HeaderOutcome ls
at_line ls p before bad = step (large_or_not p (line_at ls p))
  where
    step : IsLargeGenerator p (line_at ls p) ⊎ (IsLargeGenerator p (line_at ls p) → ⊥) → HeaderOutcome ls
    step (inl h) = HeaderOutcome.wrong S4 (number_of p)
        (record { line = p; number = refl; before = before; wrong = bad; code_is = inl (refl, h) })
    step (inr n) = HeaderOutcome.wrong S1 (number_of p)
        (record { line = p; number = refl; before = before; wrong = bad; code_is = inr (refl, n) })

pub five : (ls : List (List ℕ)) (a b c d e : List ℕ) → slice_get ls 0 ≡ Some a → slice_get ls 1 ≡ Some b
    → slice_get ls 2 ≡ Some c → slice_get ls 3 ≡ Some d → slice_get ls 4 ≡ Some e
    → (rest : List (List ℕ)) × (ls ≡ a ∷ b ∷ c ∷ d ∷ e ∷ rest)
five [] a b c d e f g h i j = cc
five (x ∷ []) a b c d e f g h i j = cc
five (x ∷ y ∷ []) a b c d e f g h i j = cc
five (x ∷ y ∷ z ∷ []) a b c d e f g h i j = cc
five (x ∷ y ∷ z ∷ u ∷ []) a b c d e f g h i j = cc
five (x ∷ y ∷ z ∷ u ∷ v ∷ ls) a b c d e f g h i j = (ls, cc)

header_or_fail : (ls : List (List ℕ)) → HeaderOutcome ls
header_or_fail ls = first (header_line_or_not HeaderLine.Magic (line_at ls HeaderLine.Magic))
  where
    fifth : IsHeaderLine HeaderLine.Magic (line_at ls HeaderLine.Magic)
        → IsHeaderLine HeaderLine.Version (line_at ls HeaderLine.Version)
        → IsHeaderLine HeaderLine.Generator (line_at ls HeaderLine.Generator)
        → IsHeaderLine HeaderLine.Bound (line_at ls HeaderLine.Bound)
        → IsHeaderLine HeaderLine.Schema (line_at ls HeaderLine.Schema)
        ⊎ (IsHeaderLine HeaderLine.Schema (line_at ls HeaderLine.Schema) → ⊥) → HeaderOutcome ls
    fifth a b c d (inl e) =
        let r = five ls (codes "; SPIR-V") (codes "; Version: 1.6") (generator_text ++ decimal c.0)
        (bound_text ++ decimal d.0) (codes "; Schema: 0") a b c.2 d.3 e in
        HeaderOutcome.right (record { version = 67072; generator = c.0; bound = d.0; schema = 0 }) r.0
        (record { version = refl; bound_least = d.1; bound_most = d.2; schema = refl }) c.1 r.1
    fifth a b c d (inr n) = at_line ls HeaderLine.Schema before n
      where
        before : (p : HeaderLine) → number_of p < 5 → IsHeaderLine p (line_at ls p)
        before HeaderLine.Magic h = a
        before HeaderLine.Version h = b
        before HeaderLine.Generator h = c
        before HeaderLine.Bound h = d
        before HeaderLine.Schema h = absurd (omega arith)

    fourth : IsHeaderLine HeaderLine.Magic (line_at ls HeaderLine.Magic)
        → IsHeaderLine HeaderLine.Version (line_at ls HeaderLine.Version)
        → IsHeaderLine HeaderLine.Generator (line_at ls HeaderLine.Generator)
        → IsHeaderLine HeaderLine.Bound (line_at ls HeaderLine.Bound)
        ⊎ (IsHeaderLine HeaderLine.Bound (line_at ls HeaderLine.Bound) → ⊥) → HeaderOutcome ls
    fourth a b c (inl d) = fifth a b c d (header_line_or_not HeaderLine.Schema (line_at ls HeaderLine.Schema))
    fourth a b c (inr n) = at_line ls HeaderLine.Bound before n
      where
        before : (p : HeaderLine) → number_of p < 4 → IsHeaderLine p (line_at ls p)
        before HeaderLine.Magic h = a
        before HeaderLine.Version h = b
        before HeaderLine.Generator h = c
        before HeaderLine.Bound h = absurd (omega arith)
        before HeaderLine.Schema h = absurd (omega arith)

    third : IsHeaderLine HeaderLine.Magic (line_at ls HeaderLine.Magic)
        → IsHeaderLine HeaderLine.Version (line_at ls HeaderLine.Version)
        → IsHeaderLine HeaderLine.Generator (line_at ls HeaderLine.Generator)
        ⊎ (IsHeaderLine HeaderLine.Generator (line_at ls HeaderLine.Generator) → ⊥) → HeaderOutcome ls
    third a b (inl c) = fourth a b c (header_line_or_not HeaderLine.Bound (line_at ls HeaderLine.Bound))
    third a b (inr n) = at_line ls HeaderLine.Generator before n
      where
        before : (p : HeaderLine) → number_of p < 3 → IsHeaderLine p (line_at ls p)
        before HeaderLine.Magic h = a
        before HeaderLine.Version h = b
        before HeaderLine.Generator h = absurd (omega arith)
        before HeaderLine.Bound h = absurd (omega arith)
        before HeaderLine.Schema h = absurd (omega arith)

    second : IsHeaderLine HeaderLine.Magic (line_at ls HeaderLine.Magic)
        → IsHeaderLine HeaderLine.Version (line_at ls HeaderLine.Version)
        ⊎ (IsHeaderLine HeaderLine.Version (line_at ls HeaderLine.Version) → ⊥) → HeaderOutcome ls
    second a (inl b) = third a b (header_line_or_not HeaderLine.Generator (line_at ls HeaderLine.Generator))
    second a (inr n) = at_line ls HeaderLine.Version before n
      where
        before : (p : HeaderLine) → number_of p < 2 → IsHeaderLine p (line_at ls p)
        before HeaderLine.Magic h = a
        before HeaderLine.Version h = absurd (omega arith)
        before HeaderLine.Generator h = absurd (omega arith)
        before HeaderLine.Bound h = absurd (omega arith)
        before HeaderLine.Schema h = absurd (omega arith)

    first : IsHeaderLine HeaderLine.Magic (line_at ls HeaderLine.Magic)
        ⊎ (IsHeaderLine HeaderLine.Magic (line_at ls HeaderLine.Magic) → ⊥) → HeaderOutcome ls
    first (inl a) = second a (header_line_or_not HeaderLine.Version (line_at ls HeaderLine.Version))
    first (inr n) = at_line ls HeaderLine.Magic before n
      where
        before : (p : HeaderLine) → number_of p < 1 → IsHeaderLine p (line_at ls p)
        before HeaderLine.Magic h = absurd (omega arith)
        before HeaderLine.Version h = absurd (omega arith)
        before HeaderLine.Generator h = absurd (omega arith)
        before HeaderLine.Bound h = absurd (omega arith)
        before HeaderLine.Schema h = absurd (omega arith)

pub every_text : (G : Table) (t : List ℕ) → IsWhole G
    → ((h : Header) × (is : List PlainInst) × (ws : List ℕ) × IsReadText G h is ws t)
    ⊎ ((a : AsmCode) × (n : ℕ) × IsFailure G t a n)
every_text G t w = step (header_or_fail (lines_of t))
  where
    behind : (h : Header) (rest : List (List ℕ)) → HeaderFits h → h.generator < 2 ^ 32
        → lines_of t ≡ header_lines h ++ rest → LinesOutcome G [] 5 rest
        → ((h : Header) × (is : List PlainInst) × (ws : List ℕ) × IsReadText G h is ws t)
        ⊎ ((a : AsmCode) × (n : ℕ) × IsFailure G t a n)
    behind h rest f g e (LinesOutcome.read is ws m k) =
        inl (h, is, ws, record { lines = rest; header = f; generator = g; read = m; short = k; all = e })
    behind h rest f g e (LinesOutcome.failed code n m) = inr (code, 6 + n, IsFailure.line h rest code n f g e m)

    step : HeaderOutcome (lines_of t)
        → ((h : Header) × (is : List PlainInst) × (ws : List ℕ) × IsReadText G h is ws t)
        ⊎ ((a : AsmCode) × (n : ℕ) × IsFailure G t a n)
    step (HeaderOutcome.right h rest f g e) = behind h rest f g e (lines_or_fail G w [] 5 rest (omega arith))
    step (HeaderOutcome.wrong code n f) = inr (code, n, IsFailure.header code n f)
