-- The lines of a module, one after another.
use Rattle.std.proofs.Common.{◌≡◌, ◌++◌, ◌∙◌, ◌<◌, ◌≤◌, ◌+◌, ℕ, List, [], ◌∷◌, map, length, take, drop, get_or, refl}
use Rattle.std.proofs.Common.{sym, ap, append_assoc, append-nil}
use Rattle.std.specs.Prelude.{Result as Answer, Ok, Err, OnOk, is_ok, if◌then◌else◌}
use Rattle.std.proofs.lemmas.List.{drop_more, take_more}
use Rattle.std.proofs.Math.ListN.{drop_of_length-le}
use Rattle.spv_table.specs.Table.{Table}
use Rattle.spv_module.specs.declared.module.Inst.{Inst}
use Rattle.spv_module.specs.Operand.{PlainInst, start}
use Rattle.spv_module.specs.Module.{plain_inst}
use Rattle.spv_lines.specs.Line.{IsShownLine}
use Rattle.spv_lines.specs.Text.{ShownLines, ended}

-- Before the instruction of that number: the text so far, and the lines that are left.
pub record LinesAt (G : Table) (insts : List Inst) (lines : List (List ℕ)) (old out : List ℕ) (i : ℕ) : Type 0 where
  pub left : List (List ℕ)
  pub shown : ShownLines G (map plain_inst (take i insts)) (map plain_inst (drop i insts)) left
  pub all : old ++ ended lines ≡ out ++ ended left

pub lines_first : (G : Table) (insts : List Inst) (lines : List (List ℕ)) (old : List ℕ)
    → ShownLines G [] (map plain_inst insts) lines → LinesAt G insts lines old old 0
lines_first G insts lines old s = record { left = lines; shown = s; all = refl }

pub record NextLine (G : Table) (before : List PlainInst) (i : PlainInst) (is : List PlainInst)
    (left : List (List ℕ)) : Type 0 where
  pub further : List ℕ
  pub line : List ℕ
  pub later : List (List ℕ)
  pub is_line : IsShownLine G before i further line
  pub rest : ShownLines G (before ++ (i ∷ [])) is later
  pub all : left ≡ line ∷ later

pub next_line : (G : Table) (before : List PlainInst) (i : PlainInst) (is js : List PlainInst) (left : List (List ℕ))
    → ShownLines G before js left → js ≡ i ∷ is → NextLine G before i is left
next_line G _ i is _ _ (ShownLines.end before) e = cc
next_line G _ i is _ _ (ShownLines.more before j js us l ls s m) e =
    let f : j ≡ i = cc in
    let g : js ≡ is = cc in
    record { further = us; line = l; later = ls; is_line = rw f at s; rest = rw (f, g) at m; all = refl }

map_snoc : (xs : List Inst) (o : Inst) → map plain_inst (xs ++ (o ∷ [])) ≡ map plain_inst xs ++ (plain_inst o ∷ [])
map_snoc [] o = refl
map_snoc (x ∷ xs) o = ap (λ zs. plain_inst x ∷ zs) (map_snoc xs o)

pub insts_more : (insts : List Inst) (i : ℕ) (o x : Inst) → i < length insts → o ≡ get_or insts i x
    → map plain_inst (take (i + 1) insts) ≡ map plain_inst (take i insts) ++ (plain_inst o ∷ [])
insts_more insts i o x h e = let f = take_more insts i x h in rw (f, ← e) (map_snoc (take i insts) o)

insts_left : (insts : List Inst) (i : ℕ) (o x : Inst) → i < length insts → o ≡ get_or insts i x
    → map plain_inst (drop i insts) ≡ plain_inst o ∷ map plain_inst (drop (i + 1) insts)
insts_left insts i o x h e = let f = drop_more insts i x h in rw (f, ← e) refl

pub lines_step : (G : Table) (insts : List Inst) (lines : List (List ℕ)) (old out more : List ℕ) (i : ℕ) (o x : Inst)
    → LinesAt G insts lines old out i → i < length insts → o ≡ get_or insts i x
    → ((further line : List ℕ) → IsShownLine G (map plain_inst (take i insts)) (plain_inst o) further line
    → more ≡ out ++ (line ++ (10 ∷ []))) → LinesAt G insts lines old more (i + 1)
lines_step G insts lines old out more i o x a h e f =
    let n = next_line G (map plain_inst (take i insts)) (plain_inst o) (map plain_inst (drop (i + 1) insts))
    (map plain_inst (drop i insts)) a.left a.shown (insts_left insts i o x h e) in
    let m = f n.further n.line n.is_line in
    let s : ShownLines G (map plain_inst (take (i + 1) insts)) (map plain_inst (drop (i + 1) insts)) n.later = rw
    (insts_more insts i o x h e) n.rest in
    let p : ended a.left ≡ n.line ++ (10 ∷ ended n.later) = ap ended n.all in
    let q : more ++ ended n.later ≡ out ++ (n.line ++ (10 ∷ ended n.later)) = ap (λ z. z ++ ended n.later) m
    ∙ simp append_assoc in
    record { left = n.later; shown = s; all = a.all ∙ (ap (λ z. out ++ z) p ∙ sym q) }

none_left : (G : Table) (before is : List PlainInst) (left : List (List ℕ)) → ShownLines G before is left → is ≡ []
    → left ≡ []
none_left G _ _ _ (ShownLines.end before) e = refl
none_left G _ _ _ (ShownLines.more before j js us l ls s m) e = cc

pub lines_done : (G : Table) (insts : List Inst) (lines : List (List ℕ)) (old out : List ℕ) (i : ℕ)
    → LinesAt G insts lines old out i → length insts ≤ i → out ≡ old ++ ended lines
lines_done G insts lines old out i a h =
    let f : map plain_inst (drop i insts) ≡ [] = rw (drop_of_length-le insts h) refl in
    let n = none_left G (map plain_inst (take i insts)) (map plain_inst (drop i insts)) a.left a.shown f in
    sym (a.all ∙ (ap (λ z. out ++ ended z) n ∙ append-nil out))

pub ended-append : (a b : List (List ℕ)) → ended (a ++ b) ≡ ended a ++ ended b
ended-append [] b = refl
ended-append (l ∷ a) b = ap (λ z. l ++ (10 ∷ z)) (ended-append a b) ∙ sym (append_assoc l (10 ∷ ended a) (ended b))

pub whole_text : (heads lines : List (List ℕ)) (head out start : List ℕ) → start ≡ [] → head ≡ start ++ ended heads
    → out ≡ head ++ ended lines → out ≡ ended (heads ++ lines)
whole_text heads lines head out start e f g =
    let h : head ≡ ended heads = rw e at f in
    g ∙ (ap (λ z. z ++ ended lines) h ∙ sym (ended-append heads lines))

-- after a text is added at the end
pub on_pushed : {T E : Type 0} (r : Answer T E) (P : Type 0) (out old t : List ℕ)
    → out ≡ (if is_ok r then old ++ t else old) → (out ≡ old ++ t → P) → OnOk r P
on_pushed (Ok _) P out old t e f = f e
on_pushed (Err _) P out old t e f = tt

-- a line that is ended, and what follows of a call that may fail
pub line_ended : (old mid new line : List ℕ) → mid ≡ old ++ line → new ≡ mid ++ (10 ∷ [])
    → new ≡ old ++ (line ++ (10 ∷ []))
line_ended old mid new line e f = f ∙ (ap (λ z. z ++ (10 ∷ [])) e ∙ append_assoc old line (10 ∷ []))

pub whatever : {T E : Type 0} (r : Answer T E) (P : Type 0) → P → OnOk r P
whatever (Ok _) P p = p
whatever (Err _) P p = tt
