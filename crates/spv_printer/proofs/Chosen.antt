-- The lines of some instructions of a module.
use Rattle.std.proofs.Common.{◌≡◌, ◌++◌, ◌<◌, ◌≤◌, ◌+◌, ◌-◌, ℕ, zero, suc, List, [], ◌∷◌, map, length, take, drop}
use Rattle.std.proofs.Common.{get_or, refl, sym, ap, arith, append_assoc, append-nil}
use Rattle.std.proofs.lemmas.List.{length-take-le, take-append-drop, take_more}
use Rattle.std.proofs.Math.Seq.{take-append-add}
use Rattle.spv_table.specs.Table.{Table}
use Rattle.spv_module.specs.declared.module.Inst.{Inst}
use Rattle.spv_module.specs.Operand.{PlainInst}
use Rattle.spv_module.specs.Module.{plain_inst}
use Rattle.spv_lines.specs.Line.{IsShownLine}
use Rattle.spv_lines.specs.Text.{ShownLines, ended, inst_line}
use Rattle.spv_inst.specs.declared.definitions.Definitions.{Definitions}
use Rattle.spv_inst.specs.inner.Known.{Knows}
use Rattle.spv_printer.proofs.Texts.{ended-append, insts_more, next_line}

-- The line of a number is the shown one of an instruction after those before it.
pub record ShownAt (G : Table) (before : List PlainInst) (i : PlainInst) (line : List ℕ) : Type 0 where
  pub further : List ℕ
  pub shown : IsShownLine G before i further line

pub shown_at : (G : Table) (before : List PlainInst) (insts : List Inst) (lines : List (List ℕ)) (n : ℕ) (o x : Inst)
    → ShownLines G before (map plain_inst insts) lines
    → n < length insts → o ≡ get_or insts n x
    → ShownAt G (before ++ map plain_inst (take n insts)) (plain_inst o) (inst_line lines n)
shown_at G before [] lines n o x s h e = absurd (omega arith)
shown_at G before (i ∷ is) lines zero o x s h e =
    let n = next_line G before (plain_inst i) (map plain_inst is) (plain_inst i ∷ map plain_inst is) lines s refl in
    rw (n.all, e, append-nil before) (record { further = n.further; shown = n.is_line })
shown_at G before (i ∷ is) lines (suc k) o x s h e =
    let n = next_line G before (plain_inst i) (map plain_inst is) (plain_inst i ∷ map plain_inst is) lines s refl in
    let r = shown_at G (before ++ (plain_inst i ∷ [])) is n.later k o x n.rest (omega arith) e in
    rw n.all (rw (append_assoc before (plain_inst i ∷ []) (map plain_inst (take k is))) at r)

none_of : (G : Table) (before is : List PlainInst) (lines : List (List ℕ)) (n : ℕ) → ShownLines G before is lines
    → is ≡ [] → inst_line lines n ≡ []
none_of G _ _ _ n (ShownLines.end before) e = refl
none_of G _ _ _ n (ShownLines.more before j js us l ls s m) e = cc

-- past the last instruction there is none
pub none_past : (G : Table) (before : List PlainInst) (insts : List Inst) (lines : List (List ℕ)) (n : ℕ)
    → ShownLines G before (map plain_inst insts) lines → length insts ≤ n → inst_line lines n ≡ []
none_past G before [] lines n s h = none_of G before [] lines n s refl
none_past G before (i ∷ is) lines zero s h = absurd (omega arith)
none_past G before (i ∷ is) lines (suc k) s h =
    let n = next_line G before (plain_inst i) (map plain_inst is) (plain_inst i ∷ map plain_inst is) lines s refl in
    rw n.all (none_past G (before ++ (plain_inst i ∷ [])) is n.later k n.rest (omega arith))

map_both : (xs ys : List Inst) → map plain_inst (xs ++ ys) ≡ map plain_inst xs ++ map plain_inst ys
map_both [] ys = refl
map_both (x ∷ xs) ys = ap (λ zs. plain_inst x ∷ zs) (map_both xs ys)

-- the instructions up to a place, and from there up to another
pub up_to : (insts : List Inst) (from at : ℕ) → from ≤ at → at < length insts
    → map plain_inst (take from insts) ++ map plain_inst (take (at - from) (drop from insts)) ≡ map plain_inst
    (take at insts)
up_to insts from at h k =
    let l : length (take from insts) ≡ from = length-take-le from insts (omega arith) in
    let t = take-append-add (take from insts) (drop from insts) (at - from) in
    let u : take (from + (at - from)) insts ≡ take from insts
    ++ take (at - from) (drop from insts) = rw (l, take-append-drop from insts) at t in
    let e : from + (at - from) ≡ at = omega arith in
    let v : take at insts ≡ take from insts ++ take (at - from) (drop from insts) = rw e at u in
    rw v (sym (map_both (take from insts) (take (at - from) (drop from insts))))

-- one instruction more is known
pub knows_more : (d : Definitions) (before : List PlainInst) (insts : List Inst) (i : ℕ) (o : Inst) → i < length insts
    → o ≡ get_or insts i o
    → Knows d ((before ++ map plain_inst (take i insts)) ++ (plain_inst o ∷ []))
    → Knows d (before ++ map plain_inst (take (i + 1) insts))
knows_more d before insts i o h e k =
    let f = insts_more insts i o o h e in
    let a = append_assoc before (map plain_inst (take i insts)) (plain_inst o ∷ []) in
    rw f (rw a at k)

map_lines : (lines : List (List ℕ)) (xs : List ℕ) (n : ℕ)
    → map (inst_line lines) (xs ++ (n ∷ [])) ≡ map (inst_line lines) xs ++ (inst_line lines n ∷ [])
map_lines lines [] n = refl
map_lines lines (x ∷ xs) n = ap (λ zs. inst_line lines x ∷ zs) (map_lines lines xs n)

-- the line of one number more
pub chosen_step : (lines : List (List ℕ)) (numbers : List ℕ) (i d : ℕ) (old new : List ℕ) → i < length numbers
    → old ≡ ended (map (inst_line lines) (take i numbers))
    → new ≡ old ++ (inst_line lines (get_or numbers i d) ++ (10 ∷ []))
    → new ≡ ended (map (inst_line lines) (take (i + 1) numbers))
chosen_step lines numbers i d old new h o a =
    let t : take (i + 1) numbers ≡ take i numbers ++ (get_or numbers i d ∷ []) = take_more numbers i d h in
    let m = map_lines lines (take i numbers) (get_or numbers i d) in
    let s = ended-append (map (inst_line lines) (take i numbers)) (inst_line lines (get_or numbers i d) ∷ []) in
    rw (t, m, s, ← o) a
