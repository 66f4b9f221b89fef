-- A text that is read does not fail, and one that fails does so at one line, with one code.
use Rattle.std.proofs.Common.{◌≡◌, ◌++◌, ◌∙◌, ◌⊎◌, inl, inr, ◌<◌, ◌≤◌, ◌+◌, ◌^◌, ℕ, suc, List, [], ◌∷◌, Option, Some}
use Rattle.std.proofs.Common.{None, true, false, length, map, option_map, refl, sym, ap, arith, length-append}
use Rattle.std.specs.Prelude.{decimal}
use Rattle.std.specs.List.{list_any}
use Rattle.spv_words.specs.declared.words.Header.{Header}
use Rattle.spv_table.specs.declared.table.Entry.{Entry}
use Rattle.spv_table.specs.Table.{Table, Item, pattern_of}
use Rattle.spv_module.specs.Operand.{Plain, PlainInst, Context, start, result_in}
use Rattle.spv_inst.specs.Flat.{due}
use Rattle.spv_inst.specs.inner.Flat.{Matches}
use Rattle.spv_module.specs.Instruction.{first_word}
use Rattle.spv_words.specs.Header.{greatest_length}
use Rattle.spv_inst.specs.Limits.{HeaderFits, greatest_count}
use Rattle.spv_inst.proofs.Flat.{spelled_once}
use Rattle.spv_lines.specs.declared.asm_error.AsmCode.{AsmCode}
use Rattle.spv_lines.specs.declared.asm_error.AsmCode.TheVariants.{S1, S4, S5}
use Rattle.spv_lines.specs.Operand.{IsRead, id_text}
use Rattle.spv_lines.specs.Line.{parts_of, IsInstName, IsReadLine}
use Rattle.spv_lines.specs.Text.{header_lines, lines_of, ReadLines, IsReadText}
use Rattle.spv_lines.specs.Refusal.{OperandsFail}
use Rattle.spv_lines.specs.Fault.{IsResult, ResultFails, LineFails, LinesFail, may_have_result, HeaderLine, number_of}
use Rattle.spv_lines.specs.Fault.{IsHeaderLine, IsLargeGenerator, line_at, HeaderFails, IsFailure}
use Rattle.spv_lines.specs.Tidy.{IsTidy}
use Rattle.spv_lines.proofs.Tame.{Both}
use Rattle.spv_lines.proofs.Tokens.{first_same}
use Rattle.spv_lines.proofs.Once.{forget}
use Rattle.spv_lines.proofs.Numbers.{decimal_number, not_large}
use Rattle.spv_lines.proofs.Reading.{result_small, ids_tell, parts_same, inst_name_same, line_same, header_same}
use Rattle.spv_lines.proofs.Faults.{operands_fail_same, read_not_failed}
use Rattle.spv_lines.proofs.Results.{has_result, due_by, no_results, none_by}

-- what stands in front is a result, and does not fail for its own sake
front_right : (p : Option (List ℕ)) (r : Option ℕ) (G : Table) (c : Context) (is : List Item) (a : AsmCode)
    → ((x : ℕ) → r ≡ Some x → x < 4294967296) → p ≡ option_map id_text r
    → (list_any (Rattle.spv_lines.specs.Fault.must_have_result G c) is ≡ true → r ≡ None → ⊥)
    → (list_any (may_have_result G c) is ≡ false → r ≡ None) → ResultFails G c is p a → ⊥
front_right _ None G c is _ small e must may (ResultFails.missing m) = must m refl
front_right _ (Some x) G c is _ small e must may (ResultFails.missing m) = cc
front_right _ None G c is _ small e must may (ResultFails.too_many t n) = cc
front_right _ (Some x) G c is _ small e must may (ResultFails.too_many t n) = let z = may n in cc
front_right _ None G c is _ small e must may (ResultFails.ill_formed t n) = cc
front_right _ (Some x) G c is _ small e must may (ResultFails.ill_formed t n) =
    let f : t ≡ id_text x = some_same t (id_text x) e in
    let l = small x refl in
    n (decimal x) f (record { number = decimal_number x (omega arith); large = omega arith })
  where
    some_same : (a b : List ℕ) → Some a ≡ Some b → a ≡ b
    some_same a b e = cc
front_right _ None G c is _ small e must may (ResultFails.large ds n l) = cc
front_right _ (Some x) G c is _ small e must may (ResultFails.large ds n l) =
    let f : 37 ∷ ds ≡ id_text x = some_same (37 ∷ ds) (id_text x) e in
    let k = small x refl in
    not_large (2 ^ 32) x ds (omega arith) (omega arith) l (sym (first_same 37 37 ds (decimal x) f).second)
  where
    some_same : (a b : List ℕ) → Some a ≡ Some b → a ≡ b
    some_same a b e = cc

result_moved : (G : Table) (before : List PlainInst) (p q : ℕ) (a b : Entry) (x y : Option (List ℕ)) (code : AsmCode)
    → p ≡ q → a ≡ b → x ≡ y
    → ResultFails G (start before q) (pattern_of b) y code → ResultFails G (start before p) (pattern_of a) x code
result_moved G before p q a b x y code e f g m = rw (e, f, g) m

operands_moved : (G : Table) (before : List PlainInst) (p q : ℕ) (a b : Entry) (r z : Option ℕ) (t u : List ℕ)
    (code : AsmCode) → p ≡ q → a ≡ b → r ≡ z → t ≡ u
    → OperandsFail G z (start before q) (map due (pattern_of b)) u code
    → OperandsFail G r (start before p) (map due (pattern_of a)) t code
operands_moved G before p q a b r z t u code e f g h m = rw (e, f, g, h) m

pub is_result_id : (p : Option (List ℕ)) (r : Option ℕ) → IsResult p r
    → Both (p ≡ option_map id_text r) ((x : ℕ) → r ≡ Some x → x < 4294967296)
is_result_id _ _ IsResult.none = record { first = refl; second = λ x e. cc }
is_result_id _ _ (IsResult.some y h) = record { first = refl; second = λ x e. let z : y ≡ x = cc in omega arith }

read_result : (G : Table) (before : List PlainInst) (i : PlainInst) (further l : List ℕ)
    → IsReadLine G before i further l → (x : ℕ) → result_in i.operands ≡ Some x → x < 4294967296
read_result G before i further l a x e =
    result_small G (start before i.opcode) (map due (pattern_of a.entry)) i.operands further x
    (forget (IsRead G) G (result_in i.operands) (start before i.opcode)
    (map due (pattern_of a.entry)) i.operands further a.parts.operands a.written) a.small e

result_right : (G : Table) (tidy : IsTidy G) (before : List PlainInst) (i : PlainInst) (further l : List ℕ)
    (code : AsmCode) (a : IsReadLine G before i further l)
    → ResultFails G (start before i.opcode) (pattern_of a.entry) a.parts.result code → ⊥
result_right G tidy before i further l code a f =
    let c = start before i.opcode in
    let m = forget (IsRead G) G (result_in i.operands) c
    (map due (pattern_of a.entry)) i.operands further a.parts.operands a.written in
    front_right a.parts.result (result_in i.operands) G c (pattern_of a.entry) code
    (read_result G before i further l a) a.result
    (λ e. has_result G c (map due (pattern_of a.entry)) i.operands further m (due_by G c (pattern_of a.entry) e))
    (λ e. no_results G tidy c (map due (pattern_of a.entry)) i.operands further m (none_by G c (pattern_of a.entry) e))
    f

pub further_once : (G : Table) (before : List PlainInst) (i j : PlainInst) (us vs l m : List ℕ)
    → IsReadLine G before i us l → IsReadLine G before j vs m → l ≡ m → us ≡ vs
further_once G before i j us vs l m a b e =
    let f = line_same G before i j us vs l m a b e in
    let p = parts_same l m a.parts b.parts e a.divided b.divided in
    let n = inst_name_same G a.parts.name b.parts.name i.opcode j.opcode a.entry b.entry a.name b.name
    (ap (λ z. z.name) p) in
    let x = forget (IsRead G) G (result_in i.operands) (start before i.opcode)
    (map due (pattern_of a.entry)) i.operands us a.parts.operands a.written in
    let y = forget (IsRead G) G (result_in j.operands) (start before j.opcode)
    (map due (pattern_of b.entry)) j.operands vs b.parts.operands b.written in
    let y' = matches_moved G before i.opcode j.opcode a.entry b.entry j.operands vs n.first n.second y in
    spelled_once G (start before i.opcode) (map due (pattern_of a.entry)) i.operands j.operands us vs x y'
    (ap (λ z. z.operands) f)
  where
    matches_moved : (G : Table) (before : List PlainInst) (p q : ℕ) (a b : Entry) (os : List Plain) (us : List ℕ)
        → p ≡ q → a ≡ b
        → Matches G (start before q) (map due (pattern_of b)) os us
        → Matches G (start before p) (map due (pattern_of a)) os us
    matches_moved G before p q a b os us e f m = rw (e, f) m

-- a line that is read, and is not too long, does not fail
pub line_right : (G : Table) (tidy : IsTidy G) (before : List PlainInst) (written : ℕ) (i : PlainInst)
    (further l m : List ℕ) (code : AsmCode) → IsReadLine G before i further l
    → length further + 1 ≤ greatest_count → written + (length further + 1) ≤ greatest_length
    → LineFails G before written m code → l ≡ m → ⊥
line_right G tidy before written i further l m _ a h g (LineFails.undivided n) e = let d = a.divided in
    let d' : parts_of m ≡ Some a.parts = rw e at d in cc
line_right G tidy before written i further l m _ a h g (LineFails.name q d n) e =
    let p = parts_same l m a.parts q e a.divided d in
    let x = a.name in
    let x' : IsInstName G q.name i.opcode a.entry = rw p at x in
    n i.opcode a.entry x'
line_right G tidy before written i further l m _ a h g (LineFails.result q o b code d n f) e =
    let p = parts_same l m a.parts q e a.divided d in
    let x = inst_name_same G a.parts.name q.name i.opcode o a.entry b a.name n (ap (λ z. z.name) p) in
    result_right G tidy before i further l code a
    (result_moved G before i.opcode o a.entry b a.parts.result q.result code x.first x.second
    (ap (λ z. z.result) p) f)
line_right G tidy before written i further l m _ a h g (LineFails.operands q o b r code d n k w f) e =
    let p = parts_same l m a.parts q e a.divided d in
    let x = inst_name_same G a.parts.name q.name i.opcode o a.entry b a.name n (ap (λ z. z.name) p) in
    let y = is_result_id q.result r w in
    let z : option_map id_text (result_in i.operands) ≡ option_map id_text r = sym a.result
    ∙ (ap (λ z. z.result) p ∙ y.first) in
    let v = ids_tell (result_in i.operands) r (read_result G before i further l a) y.second z in
    let f' = operands_moved G before i.opcode o a.entry b
    (result_in i.operands) r a.parts.operands q.operands code x.first x.second v (ap (λ z. z.operands) p) f in
    read_not_failed G (result_in i.operands) (start before i.opcode)
    (map due (pattern_of a.entry)) a.parts.operands a.parts.operands code i.operands further f' a.written a.small
    refl refl
line_right G tidy before written i further l m _ a h g (LineFails.long j us b w) e =
    let f = further_once G before i j further us l m a b e in
    let n : length further ≡ length us = ap length f in
    elim w [ inl k ↦ omega arith | inr k ↦ omega arith ]

result_same : (G : Table) (c : Context) (is : List Item) (p q : Option (List ℕ)) (a b : AsmCode)
    → ResultFails G c is p a → ResultFails G c is q b → p ≡ q → a ≡ b
result_same G c is _ _ _ _ (ResultFails.missing m) (ResultFails.missing n) e = refl
result_same G c is _ _ _ _ (ResultFails.missing m) (ResultFails.too_many u n) e = refl
result_same G c is _ _ _ _ (ResultFails.missing m) (ResultFails.ill_formed u n) e = refl
result_same G c is _ _ _ _ (ResultFails.missing m) (ResultFails.large ds n l) e = cc
result_same G c is _ _ _ _ (ResultFails.too_many t m) (ResultFails.missing n) e = refl
result_same G c is _ _ _ _ (ResultFails.too_many t m) (ResultFails.too_many u n) e = refl
result_same G c is _ _ _ _ (ResultFails.too_many t m) (ResultFails.ill_formed u n) e = refl
result_same G c is _ _ _ _ (ResultFails.too_many t m) (ResultFails.large ds n l) e = cc
result_same G c is _ _ _ _ (ResultFails.ill_formed t m) (ResultFails.missing n) e = refl
result_same G c is _ _ _ _ (ResultFails.ill_formed t m) (ResultFails.too_many u n) e = refl
result_same G c is _ _ _ _ (ResultFails.ill_formed t m) (ResultFails.ill_formed u n) e = refl
result_same G c is _ _ _ _ (ResultFails.ill_formed t m) (ResultFails.large ds n l) e = let k = l.number in
    absurd (m ds (some_same t (37 ∷ ds) e) (record { number = k; large = omega arith }))
  where
    some_same : (a b : List ℕ) → Some a ≡ Some b → a ≡ b
    some_same a b e = cc
result_same G c is _ _ _ _ (ResultFails.large ds m l) (ResultFails.missing n) e = cc
result_same G c is _ _ _ _ (ResultFails.large ds m l) (ResultFails.too_many u n) e = cc
result_same G c is _ _ _ _ (ResultFails.large ds m l) (ResultFails.ill_formed u n) e = let k = l.number in
    absurd (n ds (some_same u (37 ∷ ds) (sym e)) (record { number = k; large = omega arith }))
  where
    some_same : (a b : List ℕ) → Some a ≡ Some b → a ≡ b
    some_same a b e = cc
result_same G c is _ _ _ _ (ResultFails.large ds m l) (ResultFails.large es n k) e = refl

abbrev Long : ℕ → List ℕ → Type 0
Long written further = (greatest_count < length further + 1) ⊎ (greatest_length < written + (length further + 1))

-- a line that is read but for its length fails in no other way
long_alone : (G : Table) (tidy : IsTidy G) (before : List PlainInst) (written : ℕ) (i : PlainInst)
    (further l m : List ℕ) (code : AsmCode) → IsReadLine G before i further l → LineFails G before written m code
    → l ≡ m → code ≡ S5
long_alone G tidy before written i further l m _ a (LineFails.undivided n) e = let d = a.divided in
    let d' : parts_of m ≡ Some a.parts = rw e at d in cc
long_alone G tidy before written i further l m _ a (LineFails.name q d n) e =
    let p = parts_same l m a.parts q e a.divided d in
    let x = a.name in
    let x' : IsInstName G q.name i.opcode a.entry = rw p at x in
    absurd (n i.opcode a.entry x')
long_alone G tidy before written i further l m _ a (LineFails.result q o b code d n f) e =
    let p = parts_same l m a.parts q e a.divided d in
    let x = inst_name_same G a.parts.name q.name i.opcode o a.entry b a.name n (ap (λ z. z.name) p) in
    absurd (result_right G tidy before i further l code a
    (result_moved G before i.opcode o a.entry b a.parts.result q.result code x.first x.second
    (ap (λ z. z.result) p) f))
long_alone G tidy before written i further l m _ a (LineFails.operands q o b r code d n k w f) e =
    let p = parts_same l m a.parts q e a.divided d in
    let x = inst_name_same G a.parts.name q.name i.opcode o a.entry b a.name n (ap (λ z. z.name) p) in
    let y = is_result_id q.result r w in
    let z : option_map id_text (result_in i.operands) ≡ option_map id_text r = sym a.result
    ∙ (ap (λ z. z.result) p ∙ y.first) in
    let v = ids_tell (result_in i.operands) r (read_result G before i further l a) y.second z in
    let f' = operands_moved G before i.opcode o a.entry b
    (result_in i.operands) r a.parts.operands q.operands code x.first x.second v (ap (λ z. z.operands) p) f in
    absurd (read_not_failed G (result_in i.operands) (start before i.opcode)
    (map due (pattern_of a.entry)) a.parts.operands a.parts.operands code i.operands further f' a.written a.small
    refl refl)
long_alone G tidy before written i further l m _ a (LineFails.long j us b w) e = refl

pub line_fails_same : (G : Table) (tidy : IsTidy G) (before : List PlainInst) (written : ℕ) (l m : List ℕ)
    (a b : AsmCode) → LineFails G before written l a → LineFails G before written m b → l ≡ m → a ≡ b
line_fails_same G tidy before written l m _ _ (LineFails.long i us h w) f e =
    sym (long_alone G tidy before written i us l m _ h f e)
line_fails_same G tidy before written l m _ _ f (LineFails.long j vs h w) e =
    long_alone G tidy before written j vs m l _ h f (sym e)
line_fails_same G tidy before written l m _ _ (LineFails.undivided n) (LineFails.undivided k) e = refl
line_fails_same G tidy before written l m _ _ (LineFails.undivided n) (LineFails.name q d k) e = refl
line_fails_same G tidy before written l m _ _ (LineFails.undivided n) (LineFails.result q o y b d k f) e =
    let n' : parts_of m ≡ None = rw e at n in cc
line_fails_same G tidy before written l m _ _ (LineFails.undivided n) (LineFails.operands q o y r b d k w z f) e =
    let n' : parts_of m ≡ None = rw e at n in cc
line_fails_same G tidy before written l m _ _ (LineFails.name p c n) (LineFails.undivided k) e = refl
line_fails_same G tidy before written l m _ _ (LineFails.name p c n) (LineFails.name q d k) e = refl
line_fails_same G tidy before written l m _ _ (LineFails.name p c n) (LineFails.result q o y b d k f) e =
    let s = parts_same l m p q e c d in
    let k' : IsInstName G p.name o y = rw s k in
    absurd (n o y k')
line_fails_same G tidy before written l m _ _ (LineFails.name p c n) (LineFails.operands q o y r b d k w z f) e =
    let s = parts_same l m p q e c d in
    let k' : IsInstName G p.name o y = rw s k in
    absurd (n o y k')
line_fails_same G tidy before written l m _ _ (LineFails.result p o x a c n g) (LineFails.undivided k) e =
    let c' : parts_of m ≡ Some p = rw e at c in cc
line_fails_same G tidy before written l m _ _ (LineFails.result p o x a c n g) (LineFails.name q d k) e =
    let s = parts_same l m p q e c d in
    let n' : IsInstName G q.name o x = rw s at n in
    absurd (k o x n')
line_fails_same G tidy before written l m _ _ (LineFails.result p o x a c n g) (LineFails.result q u y b d k f) e =
    let s = parts_same l m p q e c d in
    let i = inst_name_same G p.name q.name o u x y n k (ap (λ z. z.name) s) in
    let f' = result_moved G before o u x y p.result q.result b i.first i.second (ap (λ z. z.result) s) f in
    result_same G (start before o) (pattern_of x) p.result p.result a b g f' refl
line_fails_same G tidy before written l m _ _ (LineFails.result p o x a c n g)
    (LineFails.operands q u y r b d k w z f) e =
    let s = parts_same l m p q e c d in
    let i = inst_name_same G q.name p.name u o y x k n (ap (λ z. z.name) (sym s)) in
    absurd (w a (result_moved G before u o y x q.result p.result a i.first i.second (ap (λ z. z.result) (sym s)) g))
line_fails_same G tidy before written l m _ _ (LineFails.operands p o x r a c n w z g) (LineFails.undivided k) e =
    let c' : parts_of m ≡ Some p = rw e at c in cc
line_fails_same G tidy before written l m _ _ (LineFails.operands p o x r a c n w z g) (LineFails.name q d k) e =
    let s = parts_same l m p q e c d in
    let n' : IsInstName G q.name o x = rw s at n in
    absurd (k o x n')
line_fails_same G tidy before written l m _ _ (LineFails.operands p o x r a c n w z g)
    (LineFails.result q u y b d k f) e =
    let s = parts_same l m p q e c d in
    let i = inst_name_same G p.name q.name o u x y n k (ap (λ z. z.name) s) in
    absurd (w b (result_moved G before o u x y p.result q.result b i.first i.second (ap (λ z. z.result) s) f))
line_fails_same G tidy before written l m _ _ (LineFails.operands p o x r a c n w z g)
    (LineFails.operands q u y v b d k w' z' f) e =
    let s = parts_same l m p q e c d in
    let i = inst_name_same G p.name q.name o u x y n k (ap (λ z. z.name) s) in
    let h = is_result_id p.result r z in
    let h' = is_result_id q.result v z' in
    let j = ids_tell r v h.second h'.second (sym h.first ∙ (ap (λ z. z.result) s ∙ h'.first)) in
    let f' = operands_moved G before o u x y r v p.operands q.operands b i.first i.second j
    (ap (λ z. z.operands) s) f in
    operands_fail_same G r (start before o) (map due (pattern_of x)) p.operands p.operands a b g f' refl

fail_moved : (G : Table) (before : List PlainInst) (i j : PlainInst) (us vs : List ℕ) (written : ℕ) (ls : List (List ℕ))
    (a : AsmCode) (n : ℕ) → i ≡ j → us ≡ vs
    → LinesFail G (before ++ (j ∷ [])) (written + (length vs + 1)) ls a n
    → LinesFail G (before ++ (i ∷ [])) (written + (length us + 1)) ls a n
fail_moved G before i j us vs written ls a n e f m = rw (e, f) m

-- lines that are read, and have not too many words, do not fail
pub lines_right : (G : Table) (tidy : IsTidy G) (before is : List PlainInst) (written : ℕ) (ls ms : List (List ℕ))
    (ws : List ℕ) (a : AsmCode) (n : ℕ) → ReadLines G before is ls ws
    → written + length ws ≤ greatest_length → LinesFail G before written ms a n → ls ≡ ms → ⊥
lines_right G tidy _ _ written _ _ _ _ _ (ReadLines.end before) h (LinesFail.here _ _ l ls a f) e = cc
lines_right G tidy _ _ written _ _ _ _ _ (ReadLines.end before) h (LinesFail.later _ _ l ls a n j vs b c d f) e = cc
lines_right G tidy _ _ written _ _ _ _ _ (ReadLines.more before i is us l ws ls a c m) h
    (LinesFail.here _ _ k ks x f) e =
    let p : l ≡ k = cc in
    let q = length-append (first_word i.opcode us ∷ us) ws in
    line_right G tidy before written i us l k x a c (omega arith) f p
lines_right G tidy _ _ written _ _ _ _ _ (ReadLines.more before i is us l ws ls a c m) h
    (LinesFail.later _ _ k ks x n j vs b d g f) e =
    let p : l ≡ k = cc in
    let r : ls ≡ ks = cc in
    let q = length-append (first_word i.opcode us ∷ us) ws in
    let y = line_same G before i j us vs l k a b p in
    let z = further_once G before i j us vs l k a b p in
    lines_right G tidy (before ++ (i ∷ [])) is (written + (length us + 1)) ls ks ws x n m (omega arith)
    (fail_moved G before i j us vs written ks x n y z f) r

pub record SameFault (a b : AsmCode) (n m : ℕ) : Type 0 where
  pub code : a ≡ b
  pub place : n ≡ m

pub lines_fail_same : (G : Table) (tidy : IsTidy G) (before : List PlainInst) (written : ℕ) (ls ms : List (List ℕ))
    (a b : AsmCode) (n m : ℕ) → LinesFail G before written ls a n → LinesFail G before written ms b m → ls ≡ ms
    → SameFault a b n m
lines_fail_same G tidy _ _ _ _ _ _ _ _ (LinesFail.here before written l ls a f) (LinesFail.here _ _ k ks b g) e =
    let p : l ≡ k = cc in
    record { code = line_fails_same G tidy before written l k a b f g p; place = refl }
lines_fail_same G tidy _ _ _ _ _ _ _ _ (LinesFail.here before written l ls a f)
    (LinesFail.later _ _ k ks b m j vs h c d g) e =
    let p : k ≡ l = cc in
    absurd (line_right G tidy before written j vs k l a h c d f p)
lines_fail_same G tidy _ _ _ _ _ _ _ _ (LinesFail.later before written l ls a n i us h c d f)
    (LinesFail.here _ _ k ks b g) e =
    let p : l ≡ k = cc in
    absurd (line_right G tidy before written i us l k b h c d g p)
lines_fail_same G tidy _ _ _ _ _ _ _ _ (LinesFail.later before written l ls a n i us h c d f)
    (LinesFail.later _ _ k ks b m j vs x y z g) e =
    let p : l ≡ k = cc in
    let q : ls ≡ ks = cc in
    let s = line_same G before i j us vs l k h x p in
    let t = further_once G before i j us vs l k h x p in
    let r = lines_fail_same G tidy (before ++ (i ∷ [])) (written + (length us + 1)) ls ks a b n m f
    (fail_moved G before i j us vs written ks b m s t g) q in
    record { code = r.code; place = ap suc r.place }

-- the lines of a header that fits
header_right : (h : Header) (ls : List (List ℕ)) (p : HeaderLine) → HeaderFits h → h.generator < 2 ^ 32
    → IsHeaderLine p (line_at (header_lines h ++ ls) p)
header_right h ls HeaderLine.Magic f g = refl
header_right h ls HeaderLine.Version f g = refl
header_right h ls HeaderLine.Generator f g = (h.generator, g, refl)
header_right h ls HeaderLine.Bound f g = (h.bound, f.bound_least, f.bound_most, refl)
header_right h ls HeaderLine.Schema f g = refl

header_not_failed : (h : Header) (ls ms : List (List ℕ)) (a : AsmCode) (n : ℕ) → HeaderFits h → h.generator < 2 ^ 32
    → ms ≡ header_lines h ++ ls → HeaderFails ms a n → ⊥
header_not_failed h ls ms a n f g e x = x.wrong (rw e (header_right h ls x.line f g))

abbrev numbered : ℕ → HeaderLine
numbered (suc (suc (suc (suc (suc n))))) = HeaderLine.Schema
numbered (suc (suc (suc (suc n)))) = HeaderLine.Bound
numbered (suc (suc (suc n))) = HeaderLine.Generator
numbered (suc (suc n)) = HeaderLine.Version
numbered n = HeaderLine.Magic

number_back : (p : HeaderLine) → numbered (number_of p) ≡ p
number_back HeaderLine.Magic = refl
number_back HeaderLine.Version = refl
number_back HeaderLine.Generator = refl
number_back HeaderLine.Bound = refl
number_back HeaderLine.Schema = refl

number_tells : (p q : HeaderLine) → number_of p ≡ number_of q → p ≡ q
number_tells p q e = sym (number_back p) ∙ (ap numbered e ∙ number_back q)

three_ways : (a b : ℕ) → (a < b) ⊎ ((a ≡ b) ⊎ (b < a))
three_ways a b = grind (arith, Rattle.std.proofs.lemmas.Bool.Decides.nat_tests)

code_same : (p : HeaderLine) (o : Option (List ℕ)) (a b : AsmCode)
    → ((a ≡ S4) × IsLargeGenerator p o) ⊎ ((a ≡ S1) × (¬ (IsLargeGenerator p o)))
    → ((b ≡ S4) × IsLargeGenerator p o) ⊎ ((b ≡ S1) × (¬ (IsLargeGenerator p o))) → a ≡ b
code_same p o a b (inl x) (inl y) = x.0 ∙ sym y.0
code_same p o a b (inl x) (inr y) = absurd (y.1 x.1)
code_same p o a b (inr x) (inl y) = absurd (x.1 y.1)
code_same p o a b (inr x) (inr y) = x.0 ∙ sym y.0

header_fails_same : (ls : List (List ℕ)) (a b : AsmCode) (n m : ℕ) → HeaderFails ls a n → HeaderFails ls b m
    → SameFault a b n m
header_fails_same ls a b n m x y = split (three_ways (number_of x.line) (number_of y.line))
  where
    split : (number_of x.line < number_of y.line)
        ⊎ ((number_of x.line ≡ number_of y.line) ⊎ (number_of y.line < number_of x.line)) → SameFault a b n m
    split (inl l) = let k = y.number in absurd (x.wrong (y.before x.line (omega arith)))
    split (inr (inl e)) =
        let p = number_tells x.line y.line e in
        let c = y.code_is in
        let d : ((b ≡ S4) × IsLargeGenerator x.line (line_at ls x.line))
        ⊎ ((b ≡ S1) × (¬ (IsLargeGenerator x.line (line_at ls x.line)))) = rw p c in
        record { code = code_same x.line (line_at ls x.line) a b x.code_is d; place = sym x.number ∙ (e ∙ y.number) }
    split (inr (inr l)) = let k = x.number in absurd (y.wrong (x.before y.line (omega arith)))

pub failure_same : (G : Table) (t : List ℕ) (a b : AsmCode) (n m : ℕ) → IsTidy G → IsFailure G t a n → IsFailure G t b m
    → (a ≡ b) × (n ≡ m)
failure_same G t _ _ _ _ tidy (IsFailure.header a n x) (IsFailure.header b m y) =
    let r = header_fails_same (lines_of t) a b n m x y in (r.code, r.place)
failure_same G t _ _ _ _ tidy (IsFailure.header a n x) (IsFailure.line h ls b m f g e y) =
    absurd (header_not_failed h ls (lines_of t) a n f g e x)
failure_same G t _ _ _ _ tidy (IsFailure.line h ls a n f g e x) (IsFailure.header b m y) =
    absurd (header_not_failed h ls (lines_of t) b m f g e y)
failure_same G t _ _ _ _ tidy (IsFailure.line h ls a n f g e x) (IsFailure.line k ms b m f' g' e' y) =
    let s = header_same h k ls ms f f' g g' (sym e ∙ e') in
    let r = lines_fail_same G tidy [] 5 ls ms a b n m x y s.second in
    let p = r.place in
    (r.code, omega arith)

pub read_or_failed : (G : Table) (h : Header) (is : List PlainInst) (ws t : List ℕ) (a : AsmCode) (n : ℕ) → IsTidy G
    → IsReadText G h is ws t → IsFailure G t a n → ⊥
read_or_failed G h is ws t _ _ tidy x (IsFailure.header a n y) =
    header_not_failed h x.lines (lines_of t) a n x.header x.generator x.all y
read_or_failed G h is ws t _ _ tidy x (IsFailure.line k ms a n f g e y) =
    let s = header_same h k x.lines ms x.header f x.generator g (sym x.all ∙ e) in
    lines_right G tidy [] is 5 x.lines ms ws a n x.read x.short y s.second
