-- What is left of a line where its reading stops is an end of the line.
use Rattle.std.proofs.Common.{◌≡◌, ◌++◌, ◌∙◌, ◌+◌, ℕ, List, [], ◌∷◌, Option, Some, None, Bool, true, false, nat_eq}
use Rattle.std.proofs.Common.{length, option_map, refl, sym, ap, arith, append_assoc, length-append}
use Rattle.std.specs.Prelude.{if◌then◌else◌}
use Rattle.spv_table.specs.Table.{Table}
use Rattle.spv_module.specs.Operand.{PlainInst, Context}
use Rattle.spv_inst.specs.Flat.{Due}
use Rattle.spv_lines.specs.declared.asm_error.AsmCode.{AsmCode}
use Rattle.spv_lines.specs.Line.{Parts, Halves, parts_of, parts_behind, cut_at_equals, begins_equals, behind_equals}
use Rattle.spv_lines.specs.Line.{begins_percent, before_space, from_space}
use Rattle.spv_lines.specs.Refusal.{OperandsFail}
use Rattle.spv_lines.specs.Fault.{LineFails, LinesFail, IsFailure}
use Rattle.spv_parser.specs.Reason.{Reason, behind_space, word_behind, operands_stop, line_stop, lines_reason}
use Rattle.spv_parser.specs.Reason.{reason_of, FailsFor, column_of}
use Rattle.spv_parser.proofs.Taken.{spaced}

pub record IsEnd (rest line : List ℕ) : Type 0 where
  pub front : List ℕ
  pub all : line ≡ front ++ rest

all_end : (t : List ℕ) → IsEnd t t
all_end t = record { front = []; all = refl }

end_end : (t u v : List ℕ) → IsEnd t u → IsEnd u v → IsEnd t v
end_end t u v a b = record {
  front = b.front ++ a.front;
  all = b.all
      ∙ (ap (λ z. b.front ++ z) a.all ∙ sym (append_assoc b.front a.front t));
}

behind_end : (t : List ℕ) → IsEnd (behind_space t) t
behind_end [] = all_end []
behind_end (b ∷ t) = step (nat_eq b 32)
  where
    step : (x : Bool) → IsEnd (if x then t else b ∷ t) (b ∷ t)
    step true = record { front = b ∷ []; all = refl }
    step false = all_end (b ∷ t)

word_end : (t : List ℕ) → IsEnd (word_behind t) t
word_end t = step (nat_eq (length (before_space (behind_space t))) 0)
  where
    step : (x : Bool) → IsEnd (if x then t else behind_space t) t
    step true = all_end t
    step false = behind_end t

nothing_end : (t : List ℕ) → IsEnd [] t
nothing_end t = record { front = t; all = sym (Rattle.std.proofs.Common.append-nil t) }

operands_end : (G : Table) (r : Option ℕ) (c : Context) (ds : List Due) (t : List ℕ) (code : AsmCode)
    (m : OperandsFail G r c ds t code) → IsEnd (operands_stop G r c ds t code m).rest t
operands_end G r _ _ _ _ (OperandsFail.left c b t) = word_end (b ∷ t)
operands_end G r _ _ _ _ (OperandsFail.unused c n) = all_end []
operands_end G r _ _ _ _ (OperandsFail.refused c s ds t code l f) = behind_end t
operands_end G r _ _ _ _ (OperandsFail.after c s ds o ss t rest code h m) =
    end_end (operands_stop G r _ _ rest code m).rest rest t (operands_end G r _ _ rest code m)
    (record { front = h.piece; all = h.all })
operands_end G r _ _ _ _ (OperandsFail.parts c s ds ss t code e m) = operands_end G r c _ t code m
operands_end G r _ _ _ _ (OperandsFail.no_maybe c s ds code n m) = operands_end G r c ds [] code m
operands_end G r _ _ _ _ (OperandsFail.maybe c s ds t code n m) = operands_end G r c _ t code m
operands_end G r _ _ _ _ (OperandsFail.no_many c s ds code n m) = operands_end G r c ds [] code m
operands_end G r _ _ _ _ (OperandsFail.many c s ds t code n m) = operands_end G r c _ t code m

-- the parts of a line
from_end : (t : List ℕ) → IsEnd (from_space t) t
from_end t = record { front = before_space t; all = (spaced t).all }

equals_end : (t : List ℕ) → IsEnd (behind_equals t) t
equals_end [] = all_end []
equals_end (a ∷ []) = nothing_end (a ∷ [])
equals_end (a ∷ b ∷ []) = nothing_end (a ∷ b ∷ [])
equals_end (a ∷ b ∷ c ∷ t) = record { front = a ∷ b ∷ c ∷ []; all = refl }

cut_end : (t : List ℕ) (h : Halves) → cut_at_equals t ≡ Some h → IsEnd h.back t
cut_end [] h e = cc
cut_end (b ∷ t) h e = step (cut_end t) (begins_equals (b ∷ t)) (cut_at_equals t) refl e
  where
    here : Some (record { front = []; back = behind_equals (b ∷ t) }) ≡ Some h → behind_equals (b ∷ t) ≡ h.back
    here e = cc

    later : (k : Halves) → Some (record { front = b ∷ k.front; back = k.back }) ≡ Some h → k.back ≡ h.back
    later k e = cc

    step : ((k : Halves) → cut_at_equals t ≡ Some k → IsEnd k.back t) → (x : Bool) (o : Option Halves)
        → cut_at_equals t ≡ o
        → (if x then Some (record { front = []; back = behind_equals (b ∷ t) }) else option_map
        (λ k. record { front = b ∷ k.front; back = k.back }) o) ≡ Some h → IsEnd h.back (b ∷ t)
    step i true o f e = rw (← here e) (equals_end (b ∷ t))
    step i false None f e = cc
    step i false (Some k) f e =
        rw (← later k e) (end_end k.back t (b ∷ t) (i k f) (record { front = b ∷ []; all = refl }))

parts_end : (line : List ℕ) (P : Parts) → parts_of line ≡ Some P
    → (back : List ℕ) × IsEnd back line × (P.name ≡ before_space back) × (P.operands ≡ from_space back)
parts_end line P e = step (begins_percent line) (cut_at_equals line) refl e
  where
    one : (r : Option (List ℕ)) (t : List ℕ) → Some (parts_behind r t) ≡ Some P
        → (P.name ≡ before_space t) × (P.operands ≡ from_space t)
    one r t e = (cc, cc)

    step : (x : Bool) (o : Option Halves) → cut_at_equals line ≡ o
        → (if x then option_map (λ h. parts_behind (Some h.front) h.back) o else Some (parts_behind None line)) ≡ Some P
        → (back : List ℕ) × IsEnd back line × (P.name ≡ before_space back) × (P.operands ≡ from_space back)
    step true None f e = cc
    step true (Some h) f e = let k = one (Some h.front) h.back e in (h.back, cut_end line h f, k.0, k.1)
    step false o f e = let k = one None line e in (line, all_end line, k.0, k.1)

end_so : (a b line : List ℕ) → a ≡ b → IsEnd b line → IsEnd a line
end_so a b line e h = rw e h

name_end : (line : List ℕ) (P : Parts) → parts_of line ≡ Some P → IsEnd (P.name ++ P.operands) line
name_end line P e =
    let k = parts_end line P e in
    let f : P.name ++ P.operands ≡ k.0 = ap (λ z. z ++ P.operands) k.2
    ∙ (ap (λ z. before_space k.0 ++ z) k.3 ∙ sym (spaced k.0).all) in
    end_so (P.name ++ P.operands) k.0 line f k.1

operand_end : (line : List ℕ) (P : Parts) → parts_of line ≡ Some P → IsEnd P.operands line
operand_end line P e = let k = parts_end line P e in
    end_so P.operands (from_space k.0) line k.3 (end_end (from_space k.0) k.0 line (from_end k.0) k.1)

line_end : (G : Table) (before : List PlainInst) (written : ℕ) (line : List ℕ) (code : AsmCode)
    (m : LineFails G before written line code) → IsEnd (line_stop G before written line code m).rest line
line_end G before written line _ (LineFails.undivided e) =
    end_end (word_behind (from_space line)) (from_space line) line (word_end (from_space line)) (from_end line)
line_end G before written line _ (LineFails.name P e n) = name_end line P e
line_end G before written line _ (LineFails.result P opcode entry code e n f) = all_end line
line_end G before written line _ (LineFails.operands P opcode entry r code e n w h f) =
    end_end (operands_stop G r _ _ P.operands code f).rest P.operands line (operands_end G r _ _ P.operands code f)
    (operand_end line P e)
line_end G before written line _ (LineFails.long i further h l) = all_end line

abbrev Ends : Reason → Type 0
Ends why = IsEnd why.stop.rest why.line

lines_end : (G : Table) (before : List PlainInst) (written : ℕ) (lines : List (List ℕ)) (code : AsmCode) (n : ℕ)
    (m : LinesFail G before written lines code n) → Ends (lines_reason G before written lines code n m)
lines_end G _ _ _ _ _ (LinesFail.here before written line lines code m) = line_end G before written line code m
lines_end G _ _ _ _ _ (LinesFail.later before written line lines code n i further h k l m) =
    lines_end G _ _ lines code n m

failure_end : (G : Table) (t : List ℕ) (code : AsmCode) (n : ℕ) (m : IsFailure G t code n)
    → Ends (reason_of G t code n m)
failure_end G t _ _ (IsFailure.header code n h) = all_end _
failure_end G t _ _ (IsFailure.line h lines code n f g e m) = lines_end G [] 5 lines code n m

pub reason_end : (G : Table) (t : List ℕ) (code : AsmCode) (n : ℕ) (why : Reason) → FailsFor G t code n why
    → IsEnd why.stop.rest why.line
reason_end G t code n why f = rw (← f.tells) (failure_end G t code n f.failure)

-- the octets before the column
pub column_counts : (G : Table) (t : List ℕ) (code : AsmCode) (n : ℕ) (why : Reason) → FailsFor G t code n why
    → (front : List ℕ) × (why.line ≡ front ++ why.stop.rest) × (column_of why ≡ length front + 1)
column_counts G t code n why f =
    let e = reason_end G t code n why f in
    let l = ap length e.all ∙ length-append e.front why.stop.rest in
    (e.front, e.all, omega arith)
