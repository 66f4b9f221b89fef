-- A text that fails does so for one reason.
use Rattle.std.proofs.Common.{◌≡◌, ◌++◌, ◌∙◌, ◌⊎◌, inl, inr, ◌≤◌, ◌+◌, ℕ, suc, List, [], ◌∷◌, Option, Some, None, true}
use Rattle.std.proofs.Common.{false, length, map, refl, sym, ap, arith}
use Rattle.std.specs.Prelude.{unwrap_or}
use Rattle.std.specs.List.{list_any}
use Rattle.spv_table.specs.declared.table.Entry.{Entry}
use Rattle.spv_table.specs.Table.{Table, Item, pattern_of}
use Rattle.spv_module.specs.Operand.{Plain, PlainInst, Context, and_then, start}
use Rattle.spv_module.specs.Shape.{Slot, Shape, AsParts, shape_of}
use Rattle.spv_module.specs.Refusal.{IsLeaf}
use Rattle.spv_inst.specs.Flat.{Due, OneOf, ManyOf, due}
use Rattle.spv_inst.proofs.Flat.{same_bases}
use Rattle.spv_inst.proofs.Takes.{takes_back, takes_no_parts}
use Rattle.spv_lines.specs.declared.asm_error.AsmCode.{AsmCode}
use Rattle.spv_lines.specs.declared.asm_error.AsmCode.TheVariants.{S1, S2, S3, S4, S5, S6}
use Rattle.spv_lines.specs.Text.{lines_of}
use Rattle.spv_lines.specs.Line.{parts_of, IsInstName, from_space}
use Rattle.spv_lines.specs.Refusal.{StandsInLine, SlotRefuses, OperandsFail}
use Rattle.spv_lines.specs.Fault.{ResultFails, LineFails, LinesFail, HeaderLine, number_of, line_at, IsFailure}
use Rattle.spv_lines.specs.Fault.{may_have_result}
use Rattle.spv_lines.specs.Tidy.{IsTidy}
use Rattle.spv_lines.proofs.Failing.{is_result_id, further_once, line_right, line_fails_same, failure_same}
use Rattle.spv_lines.proofs.Large.{stands_not_large}
use Rattle.spv_lines.proofs.Pieces.{piece_same}
use Rattle.spv_lines.proofs.Reading.{ids_tell, parts_same, inst_name_same, line_same, header_same}
use Rattle.spv_parser.specs.declared.text_reason.Wanted.{Wanted}
use Rattle.spv_parser.specs.declared.text_reason.Wanted.TheVariants as wanted
use Rattle.spv_parser.specs.Reason.{Stop, Reason, behind_space, word_behind, wanted_at, operands_stop, wanted_in_front}
use Rattle.spv_parser.specs.Reason.{line_stop, lines_reason, header_reason, reason_of, FailsFor}
use Rattle.spv_parser.specs.inner.Stopping.{StopsAt, LacksResult, LinesFailFor}

abbrev stop_with : List ℕ → Wanted → Stop
stop_with t w = record { rest = t; wanted = w }

-- what stands at the front stands there once
record SameFront (o q : Plain) (ss ts : List Slot) (t u : List ℕ) : Type 0 where
  pub operand : o ≡ q
  pub slots : ss ≡ ts
  pub rest : t ≡ u

stands_once : (G : Table) (r : Option ℕ) (c : Context) (s : Slot) (o q : Plain) (ss ts : List Slot) (t u v w : List ℕ)
    → StandsInLine G r c s o ss t v → StandsInLine G r c s q ts u w → t ≡ u → SameFront o q ss ts v w
stands_once G r c s o q ss ts t u v w a b e =
    let f : a.piece ++ v ≡ b.piece ++ w = sym a.all ∙ (e ∙ b.all) in
    let z = piece_same G r c s (shape_of G c s) o q a.words b.words ss ts a.piece b.piece v w a.takes b.takes a.small
    b.small a.written b.written a.broken b.broken f in
    let k = takes_back s.kind (shape_of G c s) o q a.words b.words ss ts a.takes b.takes z.operand in
    record { operand = z.operand; slots = k.slots; rest = z.rest }

stands_refuses : (G : Table) (r : Option ℕ) (c : Context) (s : Slot) (o : Plain) (ss : List Slot) (t u v : List ℕ)
    (a : AsmCode) → StandsInLine G r c s o ss t v → SlotRefuses G r c s u a → t ≡ u → ⊥
stands_refuses G r c s o ss t u v _ h (SlotRefuses.large l) e = stands_not_large G r c s o ss t v h (rw e l)
stands_refuses G r c s o ss t u v _ h (SlotRefuses.wrong n m) e = let h' : StandsInLine G r c s o ss u v = rw e at h in
    n o ss v h'

leaf_parts : (sh : Shape) (ss : List Slot) → IsLeaf sh → sh ≡ AsParts ss → ⊥
leaf_parts sh ss l e = let m : IsLeaf (AsParts ss) = rw e at l in m

moved : (G : Table) (r : Option ℕ) (c : Context) (o p : Plain) (ss ts : List Slot) (ds : List Due) (t : List ℕ)
    (a : AsmCode) (x : Stop) → o ≡ p → ss ≡ ts
    → StopsAt G r (and_then c p) (map OneOf ts ++ ds) t a x → StopsAt G r (and_then c o) (map OneOf ss ++ ds) t a x
moved G r c o p ss ts ds t a x e f m = rw (e, f) m

bases_moved : (G : Table) (r : Option ℕ) (c : Context) (ss ts : List Slot) (ds : List Due) (t : List ℕ) (a : AsmCode)
    (x : Stop) → ss ≡ ts → StopsAt G r c (map OneOf ts ++ ds) t a x → StopsAt G r c (map OneOf ss ++ ds) t a x
bases_moved G r c ss ts ds t a x f m = rw f m

some_nothing : (b : ℕ) (t : List ℕ) → b ∷ t ≡ [] → ⊥
some_nothing b t e = cc

stop_same : (G : Table) (r : Option ℕ) (c : Context) (ds : List Due) (t u : List ℕ) (a b : AsmCode)
    (m : OperandsFail G r c ds t a) (n : OperandsFail G r c ds u b) → t ≡ u
    → operands_stop G r c ds t a m ≡ operands_stop G r c ds u b n
stop_same G r _ _ _ _ _ _ (OperandsFail.left c x t) (OperandsFail.left _ y u) e =
    ap (λ z. stop_with (word_behind z) wanted.End) e
stop_same G r _ _ _ _ _ _ (OperandsFail.left c x t) (OperandsFail.unused _ p) e = absurd (some_nothing x t e)
stop_same G r _ _ _ _ _ _ (OperandsFail.unused c p) (OperandsFail.left _ y u) e = absurd (some_nothing y u (sym e))
stop_same G r _ _ _ _ _ _ (OperandsFail.unused c p) (OperandsFail.unused _ q) e = refl
stop_same G r _ _ _ _ _ _ (OperandsFail.refused c s ds t a l f) (OperandsFail.refused _ _ _ u b m g) e =
    ap (λ z. stop_with (behind_space z) (wanted_at G c s)) e
stop_same G r _ _ _ _ _ _ (OperandsFail.refused c s ds t a l f) (OperandsFail.after _ _ _ q ts u w b h g) e =
    absurd (stands_refuses G r c s q ts u t w a h f (sym e))
stop_same G r _ _ _ _ _ _ (OperandsFail.refused c s ds t a l f) (OperandsFail.parts _ _ _ ts u b h g) e =
    absurd (leaf_parts (shape_of G c s) ts l h)
stop_same G r _ _ _ _ _ _ (OperandsFail.after c s ds o ss t v a h f) (OperandsFail.refused _ _ _ u b m g) e =
    absurd (stands_refuses G r c s o ss t u v b h g e)
stop_same G r _ _ _ _ _ _ (OperandsFail.after c s ds o ss t v a h f) (OperandsFail.after _ _ _ q ts u w b k g) e =
    let z = stands_once G r c s o q ss ts t u v w h k e in
    let n = moved G r c o q ss ts ds w b (operands_stop G r (and_then c q) (map OneOf ts ++ ds) w b g) z.operand z.slots
    (record { failure = g; tells = refl }) in
    stop_same G r (and_then c o) (map OneOf ss ++ ds) v w a b f n.failure z.rest ∙ n.tells
stop_same G r _ _ _ _ _ _ (OperandsFail.after c s ds o ss t v a h f) (OperandsFail.parts _ _ _ ts u b k g) e =
    absurd (takes_no_parts s.kind (shape_of G c s) o h.words ss ts h.takes k)
stop_same G r _ _ _ _ _ _ (OperandsFail.parts c s ds ss t a h f) (OperandsFail.refused _ _ _ u b m g) e =
    absurd (leaf_parts (shape_of G c s) ss m h)
stop_same G r _ _ _ _ _ _ (OperandsFail.parts c s ds ss t a h f) (OperandsFail.after _ _ _ q ts u w b k g) e =
    absurd (takes_no_parts s.kind (shape_of G c s) q k.words ts ss k.takes h)
stop_same G r _ _ _ _ _ _ (OperandsFail.parts c s ds ss t a h f) (OperandsFail.parts _ _ _ ts u b k g) e =
    let n = bases_moved G r c ss ts ds u b (operands_stop G r c (map OneOf ts ++ ds) u b g)
    (same_bases (shape_of G c s) ss ts h k) (record { failure = g; tells = refl }) in
    stop_same G r c (map OneOf ss ++ ds) t u a b f n.failure e ∙ n.tells
stop_same G r _ _ _ _ _ _ (OperandsFail.no_maybe c s ds a n f) (OperandsFail.no_maybe _ _ _ b m g) e =
    stop_same G r c ds [] [] a b f g e
stop_same G r _ _ _ _ _ _ (OperandsFail.no_maybe c s ds a n f) (OperandsFail.maybe _ _ _ u b m g) e =
    absurd (elim m [ inl k ↦ k (sym e) | inr k ↦ n k ])
stop_same G r _ _ _ _ _ _ (OperandsFail.maybe c s ds t a n f) (OperandsFail.no_maybe _ _ _ b m g) e =
    absurd (elim n [ inl k ↦ k e | inr k ↦ m k ])
stop_same G r _ _ _ _ _ _ (OperandsFail.maybe c s ds t a n f) (OperandsFail.maybe _ _ _ u b m g) e =
    stop_same G r c (OneOf s ∷ ds) t u a b f g e
stop_same G r _ _ _ _ _ _ (OperandsFail.no_many c s ds a n f) (OperandsFail.no_many _ _ _ b m g) e =
    stop_same G r c ds [] [] a b f g e
stop_same G r _ _ _ _ _ _ (OperandsFail.no_many c s ds a n f) (OperandsFail.many _ _ _ u b m g) e =
    absurd (elim m [ inl k ↦ k (sym e) | inr k ↦ n k ])
stop_same G r _ _ _ _ _ _ (OperandsFail.many c s ds t a n f) (OperandsFail.no_many _ _ _ b m g) e =
    absurd (elim n [ inl k ↦ k e | inr k ↦ m k ])
stop_same G r _ _ _ _ _ _ (OperandsFail.many c s ds t a n f) (OperandsFail.many _ _ _ u b m g) e =
    stop_same G r c (OneOf s ∷ ManyOf s ∷ ds) t u a b f g e

-- the codes of operands and results
abbrev IsCode : AsmCode → Type 0
IsCode a = (a ≡ S3) ⊎ (a ≡ S4)

refuse_code : (G : Table) (r : Option ℕ) (c : Context) (s : Slot) (t : List ℕ) (a : AsmCode) → SlotRefuses G r c s t a
    → IsCode a
refuse_code G r c s t _ (SlotRefuses.large l) = inr refl
refuse_code G r c s t _ (SlotRefuses.wrong n m) = inl refl

operands_code : (G : Table) (r : Option ℕ) (c : Context) (ds : List Due) (t : List ℕ) (a : AsmCode)
    → OperandsFail G r c ds t a → IsCode a
operands_code G r _ _ _ _ (OperandsFail.left c x t) = inl refl
operands_code G r _ _ _ _ (OperandsFail.unused c p) = inl refl
operands_code G r _ _ _ _ (OperandsFail.refused c s ds t a l f) = refuse_code G r c s t a f
operands_code G r _ _ _ _ (OperandsFail.after c s ds o ss t v a h f) =
    operands_code G r (and_then c o) (map OneOf ss ++ ds) v a f
operands_code G r _ _ _ _ (OperandsFail.parts c s ds ss t a h f) = operands_code G r c (map OneOf ss ++ ds) t a f
operands_code G r _ _ _ _ (OperandsFail.no_maybe c s ds a n f) = operands_code G r c ds [] a f
operands_code G r _ _ _ _ (OperandsFail.maybe c s ds t a n f) = operands_code G r c (OneOf s ∷ ds) t a f
operands_code G r _ _ _ _ (OperandsFail.no_many c s ds a n f) = operands_code G r c ds [] a f
operands_code G r _ _ _ _ (OperandsFail.many c s ds t a n f) = operands_code G r c (OneOf s ∷ ManyOf s ∷ ds) t a f

result_code : (G : Table) (c : Context) (is : List Item) (p : Option (List ℕ)) (a : AsmCode) → ResultFails G c is p a
    → IsCode a
result_code G c is _ _ (ResultFails.missing m) = inl refl
result_code G c is _ _ (ResultFails.too_many t m) = inl refl
result_code G c is _ _ (ResultFails.ill_formed t m) = inl refl
result_code G c is _ _ (ResultFails.large ds m l) = inr refl

no_five : (a : AsmCode) → IsCode a → S5 ≡ a → ⊥
no_five a (inl e) f = let z : S5 ≡ S3 = f ∙ e in cc
no_five a (inr e) f = let z : S5 ≡ S4 = f ∙ e in cc

code_no_six : (a : AsmCode) → IsCode a → a ≡ S6 → ⊥
code_no_six a (inl e) f = let z : S6 ≡ S3 = sym f ∙ e in cc
code_no_six a (inr e) f = let z : S6 ≡ S4 = sym f ∙ e in cc

line_no_six : (G : Table) (before : List PlainInst) (written : ℕ) (line : List ℕ) (a : AsmCode)
    → LineFails G before written line a → a ≡ S6 → ⊥
line_no_six G before written line _ (LineFails.undivided n) e = cc
line_no_six G before written line _ (LineFails.name p c n) e = cc
line_no_six G before written line _ (LineFails.result p o x a c n f) e =
    code_no_six a (result_code G (start before o) (pattern_of x) p.result a f) e
line_no_six G before written line _ (LineFails.operands p o x r a c n w z f) e =
    code_no_six a (operands_code G r (start before o) (map due (pattern_of x)) p.operands a f) e
line_no_six G before written line _ (LineFails.long i us h w) e = cc

lines_no_six : (G : Table) (before : List PlainInst) (written : ℕ) (ls : List (List ℕ)) (a : AsmCode) (n : ℕ)
    → LinesFail G before written ls a n → a ≡ S6 → ⊥
lines_no_six G _ _ _ _ _ (LinesFail.here before written l ls a f) e = line_no_six G before written l a f e
lines_no_six G _ _ _ _ _ (LinesFail.later before written l ls a n i us h c d f) e = lines_no_six G _ _ ls a n f e

pub no_six : (G : Table) (t : List ℕ) (a : AsmCode) (n : ℕ) → IsFailure G t a n → a ≡ S6 → ⊥
no_six G t _ _ (IsFailure.header a n h) e =
    elim h.code_is [ inl k ↦ (let z : S6 ≡ S4 = sym e ∙ k.0 in cc) | inr k ↦ (let z : S6 ≡ S1 = sym e ∙ k.0 in cc) ]
no_six G t _ _ (IsFailure.line h ls a n f g w m) e = lines_no_six G [] 5 ls a n m e

-- what stands in front
some_same : (a b : List ℕ) → Some a ≡ Some b → a ≡ b
some_same a b e = cc

none_some : (a : List ℕ) → None ≡ Some a → ⊥
none_some a e = cc

two_ways : (x y : Rattle.std.proofs.Common.Bool) → x ≡ true → x ≡ false → ⊥
two_ways x y e f = cc

front_same : (G : Table) (c : Context) (is : List Item) (p q : Option (List ℕ)) (a b : AsmCode)
    (m : ResultFails G c is p a) (n : ResultFails G c is q b) → p ≡ q
    → wanted_in_front G c is p a m ≡ wanted_in_front G c is q b n
front_same G c is _ _ _ _ (ResultFails.missing m) (ResultFails.missing n) e = refl
front_same G c is _ _ _ _ (ResultFails.missing m) (ResultFails.too_many u n) e = absurd (none_some u e)
front_same G c is _ _ _ _ (ResultFails.missing m) (ResultFails.ill_formed u n) e = absurd (none_some u e)
front_same G c is _ _ _ _ (ResultFails.missing m) (ResultFails.large ds n l) e = absurd (none_some (37 ∷ ds) e)
front_same G c is _ _ _ _ (ResultFails.too_many t m) (ResultFails.missing n) e = absurd (none_some t (sym e))
front_same G c is _ _ _ _ (ResultFails.too_many t m) (ResultFails.too_many u n) e = refl
front_same G c is _ _ _ _ (ResultFails.too_many t m) (ResultFails.ill_formed u n) e = rw m refl
front_same G c is _ _ _ _ (ResultFails.too_many t m) (ResultFails.large ds n l) e =
    absurd (two_ways (list_any (may_have_result G c) is) true n m)
front_same G c is _ _ _ _ (ResultFails.ill_formed t m) (ResultFails.missing n) e = absurd (none_some t (sym e))
front_same G c is _ _ _ _ (ResultFails.ill_formed t m) (ResultFails.too_many u n) e = rw n refl
front_same G c is _ _ _ _ (ResultFails.ill_formed t m) (ResultFails.ill_formed u n) e = refl
front_same G c is _ _ _ _ (ResultFails.ill_formed t m) (ResultFails.large ds n l) e = rw n refl
front_same G c is _ _ _ _ (ResultFails.large ds m l) (ResultFails.missing n) e = absurd (none_some (37 ∷ ds) (sym e))
front_same G c is _ _ _ _ (ResultFails.large ds m l) (ResultFails.too_many u n) e =
    absurd (two_ways (list_any (may_have_result G c) is) true m n)
front_same G c is _ _ _ _ (ResultFails.large ds m l) (ResultFails.ill_formed u n) e = rw m refl
front_same G c is _ _ _ _ (ResultFails.large ds m l) (ResultFails.large es n k) e = refl

front_moved : (G : Table) (before : List PlainInst) (p q : ℕ) (a b : Entry) (x y : Option (List ℕ)) (code : AsmCode)
    (w : Wanted) → p ≡ q → a ≡ b → x ≡ y
    → LacksResult G (start before q) (pattern_of b) y code w → LacksResult G (start before p) (pattern_of a) x code w
front_moved G before p q a b x y code w e f g m = rw (e, f, g) m

result_moved : (G : Table) (before : List PlainInst) (p q : ℕ) (a b : Entry) (x y : Option (List ℕ)) (code : AsmCode)
    → p ≡ q → a ≡ b → x ≡ y
    → ResultFails G (start before q) (pattern_of b) y code → ResultFails G (start before p) (pattern_of a) x code
result_moved G before p q a b x y code e f g m = rw (e, f, g) m

stops_moved : (G : Table) (before : List PlainInst) (p q : ℕ) (a b : Entry) (r z : Option ℕ) (t u : List ℕ)
    (code : AsmCode) (x : Stop) → p ≡ q → a ≡ b → r ≡ z → t ≡ u
    → StopsAt G z (start before q) (map due (pattern_of b)) u code x
    → StopsAt G r (start before p) (map due (pattern_of a)) t code x
stops_moved G before p q a b r z t u code x e f g h m = rw (e, f, g, h) m

-- a line
no_parts : (l k : List ℕ) (P : Rattle.spv_lines.specs.Line.Parts) → parts_of l ≡ None → parts_of k ≡ Some P → l ≡ k → ⊥
no_parts l k P n d e = let n' : parts_of k ≡ None = rw e at n in cc

long_only : (G : Table) (tidy : IsTidy G) (before : List PlainInst) (written : ℕ) (l k : List ℕ) (b : AsmCode)
    (m : LineFails G before written l S5) (n : LineFails G before written k b) → l ≡ k
    → line_stop G before written k b n ≡ stop_with l wanted.Shorter
long_only G tidy before written l k _ m (LineFails.undivided h) e =
    let z = line_fails_same G tidy before written l k S5 S2 m (LineFails.undivided h) e in cc
long_only G tidy before written l k _ m (LineFails.name q d h) e =
    let z = line_fails_same G tidy before written l k S5 S2 m (LineFails.name q d h) e in cc
long_only G tidy before written l k _ m (LineFails.result q o y b d h f) e =
    let z = line_fails_same G tidy before written l k S5 b m (LineFails.result q o y b d h f) e in
    absurd (no_five b (result_code G (start before o) (pattern_of y) q.result b f) z)
long_only G tidy before written l k _ m (LineFails.operands q o y r b d h w v f) e =
    let z = line_fails_same G tidy before written l k S5 b m (LineFails.operands q o y r b d h w v f) e in
    absurd (no_five b (operands_code G r (start before o) (map due (pattern_of y)) q.operands b f) z)
long_only G tidy before written l k _ m (LineFails.long j vs h w) e = ap (λ z. stop_with z wanted.Shorter) (sym e)

line_stop_same : (G : Table) (tidy : IsTidy G) (before : List PlainInst) (written : ℕ) (l k : List ℕ) (a b : AsmCode)
    (m : LineFails G before written l a) (n : LineFails G before written k b) → l ≡ k
    → line_stop G before written l a m ≡ line_stop G before written k b n
line_stop_same G tidy before written l k _ b (LineFails.long i us h w) n e =
    sym (long_only G tidy before written l k b (LineFails.long i us h w) n e)
line_stop_same G tidy before written l k a _ m (LineFails.long i us h w) e =
    long_only G tidy before written k l a (LineFails.long i us h w) m (sym e)
    ∙ ap (λ z. stop_with z wanted.Shorter) refl
line_stop_same G tidy before written l k _ _ (LineFails.undivided n) (LineFails.undivided h) e =
    ap (λ z. stop_with (word_behind (from_space z)) wanted.Equals) e
line_stop_same G tidy before written l k _ _ (LineFails.undivided n) (LineFails.name q d h) e =
    absurd (no_parts l k q n d e)
line_stop_same G tidy before written l k _ _ (LineFails.undivided n) (LineFails.result q o y b d h f) e =
    absurd (no_parts l k q n d e)
line_stop_same G tidy before written l k _ _ (LineFails.undivided n) (LineFails.operands q o y r b d h w z f) e =
    absurd (no_parts l k q n d e)
line_stop_same G tidy before written l k _ _ (LineFails.name p c n) (LineFails.undivided h) e =
    absurd (no_parts k l p h c (sym e))
line_stop_same G tidy before written l k _ _ (LineFails.name p c n) (LineFails.name q d h) e =
    ap (λ z. stop_with (z.name ++ z.operands) wanted.Name) (parts_same l k p q e c d)
line_stop_same G tidy before written l k _ _ (LineFails.name p c n) (LineFails.result q o y b d h f) e =
    let s = parts_same l k p q e c d in
    let h' : IsInstName G p.name o y = rw s h in
    absurd (n o y h')
line_stop_same G tidy before written l k _ _ (LineFails.name p c n) (LineFails.operands q o y r b d h w z f) e =
    let s = parts_same l k p q e c d in
    let h' : IsInstName G p.name o y = rw s h in
    absurd (n o y h')
line_stop_same G tidy before written l k _ _ (LineFails.result p o x a c n g) (LineFails.undivided h) e =
    absurd (no_parts k l p h c (sym e))
line_stop_same G tidy before written l k _ _ (LineFails.result p o x a c n g) (LineFails.name q d h) e =
    let s = parts_same l k p q e c d in
    let n' : IsInstName G q.name o x = rw s at n in
    absurd (h o x n')
line_stop_same G tidy before written l k _ _ (LineFails.result p o x a c n g) (LineFails.result q u y b d h f) e =
    let s = parts_same l k p q e c d in
    let i = inst_name_same G p.name q.name o u x y n h (ap (λ z. z.name) s) in
    let v = front_moved G before o u x y p.result q.result b
    (wanted_in_front G (start before u) (pattern_of y) q.result b f) i.first i.second (ap (λ z. z.result) s)
    (record { failure = f; tells = refl }) in
    let w = front_same G (start before o) (pattern_of x) p.result p.result a b g v.failure refl ∙ v.tells in
    ap (λ z. stop_with z (wanted_in_front G (start before o) (pattern_of x) p.result a g)) e ∙ ap (λ z. stop_with k z) w
line_stop_same G tidy before written l k _ _ (LineFails.result p o x a c n g)
    (LineFails.operands q u y r b d h w z f) e =
    let s = parts_same l k p q e c d in
    let i = inst_name_same G q.name p.name u o y x h n (ap (λ z. z.name) (sym s)) in
    absurd (w a (result_moved G before u o y x q.result p.result a i.first i.second (ap (λ z. z.result) (sym s)) g))
line_stop_same G tidy before written l k _ _ (LineFails.operands p o x r a c n w z g) (LineFails.undivided h) e =
    absurd (no_parts k l p h c (sym e))
line_stop_same G tidy before written l k _ _ (LineFails.operands p o x r a c n w z g) (LineFails.name q d h) e =
    let s = parts_same l k p q e c d in
    let n' : IsInstName G q.name o x = rw s at n in
    absurd (h o x n')
line_stop_same G tidy before written l k _ _ (LineFails.operands p o x r a c n w z g)
    (LineFails.result q u y b d h f) e =
    let s = parts_same l k p q e c d in
    let i = inst_name_same G p.name q.name o u x y n h (ap (λ z. z.name) s) in
    absurd (w b (result_moved G before o u x y p.result q.result b i.first i.second (ap (λ z. z.result) s) f))
line_stop_same G tidy before written l k _ _ (LineFails.operands p o x r a c n w z g)
    (LineFails.operands q u y v b d h w' z' f) e =
    let s = parts_same l k p q e c d in
    let i = inst_name_same G p.name q.name o u x y n h (ap (λ z. z.name) s) in
    let j = is_result_id p.result r z in
    let j' = is_result_id q.result v z' in
    let t = ids_tell r v j.second j'.second (sym j.first ∙ (ap (λ z. z.result) s ∙ j'.first)) in
    let f' = stops_moved G before o u x y r v p.operands q.operands b
    (operands_stop G v (start before u) (map due (pattern_of y)) q.operands b f) i.first i.second t
    (ap (λ z. z.operands) s) (record { failure = f; tells = refl }) in
    stop_same G r (start before o) (map due (pattern_of x)) p.operands p.operands a b g f'.failure refl ∙ f'.tells

-- lines
fail_moved : (G : Table) (before : List PlainInst) (i j : PlainInst) (us vs : List ℕ) (written : ℕ) (ls : List (List ℕ))
    (a : AsmCode) (n : ℕ) (x : Reason) → i ≡ j → us ≡ vs
    → LinesFailFor G (before ++ (j ∷ [])) (written + (length vs + 1)) ls a n x
    → LinesFailFor G (before ++ (i ∷ [])) (written + (length us + 1)) ls a n x
fail_moved G before i j us vs written ls a n x e f m = rw (e, f) m

first_line : (l k : List ℕ) (ls ks : List (List ℕ)) → l ∷ ls ≡ k ∷ ks → (l ≡ k) × (ls ≡ ks)
first_line l k ls ks e = (cc, cc)

abbrev pub reason_at : List ℕ → Stop → Reason
reason_at line stop = record { line = line; stop = stop }

lines_reason_same : (G : Table) (tidy : IsTidy G) (before : List PlainInst) (written : ℕ) (ls ms : List (List ℕ))
    (a b : AsmCode) (n m : ℕ) (x : LinesFail G before written ls a n) (y : LinesFail G before written ms b m) → ls ≡ ms
    → lines_reason G before written ls a n x ≡ lines_reason G before written ms b m y
lines_reason_same G tidy _ _ _ _ _ _ _ _ (LinesFail.here before written l ls a f) (LinesFail.here _ _ k ks b g) e =
    let p = first_line l k ls ks e in
    let s = line_stop_same G tidy before written l k a b f g p.0 in
    same l k (line_stop G before written l a f) (line_stop G before written k b g) p.0 s
  where
    same : (l k : List ℕ) (x y : Stop) → l ≡ k → x ≡ y → reason_at l x ≡ reason_at k y
    same l k x y e f = rw (e, f) refl
lines_reason_same G tidy _ _ _ _ _ _ _ _ (LinesFail.here before written l ls a f)
    (LinesFail.later _ _ k ks b m j vs h c d g) e =
    let p = first_line l k ls ks e in
    absurd (line_right G tidy before written j vs k l a h c d f (sym p.0))
lines_reason_same G tidy _ _ _ _ _ _ _ _ (LinesFail.later before written l ls a n i us h c d f)
    (LinesFail.here _ _ k ks b g) e =
    let p = first_line l k ls ks e in
    absurd (line_right G tidy before written i us l k b h c d g p.0)
lines_reason_same G tidy _ _ _ _ _ _ _ _ (LinesFail.later before written l ls a n i us h c d f)
    (LinesFail.later _ _ k ks b m j vs x y z g) e =
    let p = first_line l k ls ks e in
    let s = line_same G before i j us vs l k h x p.0 in
    let t = further_once G before i j us vs l k h x p.0 in
    let r = fail_moved G before i j us vs written ks b m
    (lines_reason G (before ++ (j ∷ [])) (written + (length vs + 1)) ks b m g) s t
    (record { failure = g; tells = refl }) in
    lines_reason_same G tidy (before ++ (i ∷ [])) (written + (length us + 1)) ls ks a b n m f r.failure p.1 ∙ r.tells

-- lines of the header
abbrev numbered : ℕ → HeaderLine
numbered (suc (suc (suc (suc (suc n))))) = HeaderLine.Schema
numbered (suc (suc (suc (suc n)))) = HeaderLine.Bound
numbered (suc (suc (suc n))) = HeaderLine.Generator
numbered (suc (suc n)) = HeaderLine.Version
numbered n = HeaderLine.Magic

number_back : (p : HeaderLine) → numbered (number_of p) ≡ p
number_back HeaderLine.Magic = refl
number_back HeaderLine.Version = refl
number_back HeaderLine.Generator = refl
number_back HeaderLine.Bound = refl
number_back HeaderLine.Schema = refl

number_most : (p : HeaderLine) → number_of p ≤ 5
number_most HeaderLine.Magic = omega arith
number_most HeaderLine.Version = omega arith
number_most HeaderLine.Generator = omega arith
number_most HeaderLine.Bound = omega arith
number_most HeaderLine.Schema = omega arith

number_tells : (p q : HeaderLine) → number_of p ≡ number_of q → p ≡ q
number_tells p q e = sym (number_back p) ∙ (ap numbered e ∙ number_back q)

reason_same : (G : Table) (t : List ℕ) (a b : AsmCode) (n m : ℕ) (tidy : IsTidy G) (x : IsFailure G t a n)
    (y : IsFailure G t b m) → n ≡ m → reason_of G t a n x ≡ reason_of G t b m y
reason_same G t _ _ _ _ tidy (IsFailure.header a n x) (IsFailure.header b m y) e =
    let p = number_tells x.line y.line (x.number ∙ (e ∙ sym y.number)) in
    ap (λ l. header_reason l (unwrap_or (line_at (lines_of t) l) [])) p
reason_same G t _ _ _ _ tidy (IsFailure.header a n x) (IsFailure.line h ls b m f g e y) w =
    let l = number_most x.line in let k = x.number in absurd (omega arith)
reason_same G t _ _ _ _ tidy (IsFailure.line h ls a n f g e x) (IsFailure.header b m y) w =
    let l = number_most y.line in let k = y.number in absurd (omega arith)
reason_same G t _ _ _ _ tidy (IsFailure.line h ls a n f g e x) (IsFailure.line k ms b m f' g' e' y) w =
    let s = header_same h k ls ms f f' g g' (sym e ∙ e') in
    lines_reason_same G tidy [] 5 ls ms a b n m x y s.second

pub one_reason : (G : Table) (t : List ℕ) (a b : AsmCode) (n m : ℕ) (x y : Reason) → IsTidy G → FailsFor G t a n x
    → FailsFor G t b m y → (a ≡ b) × (n ≡ m) × (x ≡ y)
one_reason G t a b n m x y tidy f g =
    let s = failure_same G t a b n m tidy f.failure g.failure in
    (s.0, s.1, sym f.tells ∙ (reason_same G t a b n m tidy f.failure g.failure s.1 ∙ g.tells))
