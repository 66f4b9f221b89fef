-- One operand at the front of the words left.
use Rattle.std.proofs.Common.{◌≡◌, ◌<◌, ◌≤◌, ◌+◌, ◌-◌, ℕ, List, [], ◌∷◌, Bool, true, false, Ok, Err, length, map, take}
use Rattle.std.proofs.Common.{slice_index, refl, ◌∙◌, arith}
use Rattle.std.specs.Prelude.{Result, IfOk, IfErr, nat_eq}
use Rattle.std.proofs.lemmas.Bool.{ne_eqb}
use Rattle.spv_table.specs.Table.{Table}
use Rattle.spv_module.specs.declared.opcode.TheConstants.{SWITCH}
use Rattle.spv_module.specs.declared.fault.Rule.TheVariants.{I4, I12}
use Rattle.spv_module.specs.declared.operand.Operand.{Operand}
use Rattle.spv_inst.specs.declared.reader.Taken.{Taken}
use Rattle.spv_inst.specs.declared.reader.Refusal.{Refusal}
use Rattle.spv_module.specs.Operand.{Context}
use Rattle.spv_module.specs.Width.{switch_width}
use Rattle.spv_module.specs.Shape.{Slot, Shape, AsNumber, AsWord, AsNothing, alone, integer_shape, shape_of}
use Rattle.spv_module.specs.Spelling.{Takes}
use Rattle.spv_module.specs.Refusal.{ShapeRefuses, IsLeaf}
use Rattle.spv_module.specs.Module.{plain_operand}
use Rattle.spv_inst.specs.inner.Reading.{between, parameter_kinds, TakesFront, RefusesFront}
use Rattle.spv_inst.proofs.Between.{front, nothing, take_one}
use Rattle.spv_inst.proofs.Turns.{refuses_within, length-between}

-- an operand of one word
pub one_taken : (G : Table) (c : Context) (s : Slot) (sh : Shape) (o p : Operand) (ws : List ℕ) (n x at end : ℕ)
    → shape_of G c s ≡ sh → o ≡ p → n ≡ 1 → at < end → end ≤ length ws → x ≡ slice_index ws at
    → Takes s.kind sh (plain_operand p) (x ∷ []) (map alone (parameter_kinds G (plain_operand p)))
    → TakesFront G c s o n (between ws at end)
one_taken G c s sh o p ws n x at end e f g h l i t = rw (e, f, g, take_one ws at end x h l i) t

-- an operand of one word, answered by a call
pub answer_one : (G : Table) (c : Context) (s : Slot) (sh : Shape) (r : Result Taken Refusal) (ws : List ℕ)
    (x at end : ℕ)
    → shape_of G c s ≡ sh → at < end → end ≤ length ws → x ≡ slice_index ws at
    → IfOk r (λ t. Takes s.kind sh (plain_operand t.operand) (x ∷ [])
    (map alone (parameter_kinds G (plain_operand t.operand))))
    → IfOk r (λ t. t.words ≡ 1)
    → IfOk r (λ t. TakesFront G c s t.operand t.words (between ws at end))
answer_one G c s sh (Ok t) ws x at end e h l i k w =
    one_taken G c s sh t.operand t.operand ws t.words x at end e refl w h l i k
answer_one G c s sh (Err _) ws x at end e h l i k w = tt

-- an operand without parameters, answered by a call
pub answer_front : (G : Table) (c : Context) (s : Slot) (sh : Shape) (r : Result Taken Refusal) (us : List ℕ)
    → shape_of G c s ≡ sh
    → IfOk r (λ t. (k : ℕ) → Takes k sh (plain_operand t.operand) (take t.words us) [])
    → IfOk r (λ t. (G : Table) → parameter_kinds G (plain_operand t.operand) ≡ [])
    → IfOk r (λ t. TakesFront G c s t.operand t.words us)
answer_front G c s sh (Ok t) us e k p = rw (e, p G) (k s.kind)
answer_front G c s sh (Err _) us e k p = tt

-- a refusal, answered by a call
pub refusal_front : (G : Table) (c : Context) (s : Slot) (sh : Shape) (r : Result Taken Refusal) (us : List ℕ)
    → shape_of G c s ≡ sh → IfErr r (λ e. ShapeRefuses sh us e.rule e.word)
    → IfErr r (λ e. RefusesFront G c s e.rule e.word us)
refusal_front G c s sh (Ok _) us e k = tt
refusal_front G c s sh (Err _) us e k = rw e k

-- a refusal that does not read past the first word
pub refusal_one : (G : Table) (c : Context) (s : Slot) (sh : Shape) (r : Result Taken Refusal) (ws : List ℕ)
    (x at end : ℕ)
    → shape_of G c s ≡ sh → at < end → end ≤ length ws → x ≡ slice_index ws at
    → ((us : List ℕ) → IfErr r (λ e. ShapeRefuses sh (x ∷ us) e.rule e.word))
    → IfErr r (λ e. RefusesFront G c s e.rule e.word (between ws at end))
refusal_one G c s sh r ws x at end e h l i k =
    refusal_front G c s sh r (between ws at end) e (rw (front ws at end h l, ← i) (k (between ws (at + 1) end)))

-- no word is left
pub missing_front : (G : Table) (c : Context) (s : Slot) (ws : List ℕ) (at end : ℕ) → IsLeaf (shape_of G c s) → end ≤ at
    → RefusesFront G c s I4 0 (between ws at end)
missing_front G c s ws at end h l = rw (nothing ws at end l) (ShapeRefuses.missing (shape_of G c s) h)

-- a kind that nothing spells
pub nothing_front : (G : Table) (c : Context) (s : Slot) (ws : List ℕ) (at end : ℕ) → shape_of G c s ≡ AsNothing
    → at < end → end ≤ length ws → RefusesFront G c s I12 0 (between ws at end)
nothing_front G c s ws at end e h l =
    rw (e, front ws at end h l) (ShapeRefuses.no_form (slice_index ws at) (between ws (at + 1) end))

-- a LiteralInteger in a pair of OpSwitch
pub integer_number : (c : Context) (paired : Bool) (opcode : ℕ) → paired ≡ true → opcode ≡ SWITCH → opcode ≡ c.opcode
    → integer_shape c paired ≡ AsNumber (switch_width c)
integer_number c paired opcode e f g = let h : c.opcode ≡ SWITCH = cc in rw (e, h) refl

-- and elsewhere
pub integer_unpaired : (c : Context) (paired : Bool) → paired ≡ false → integer_shape c paired ≡ AsWord
integer_unpaired c paired e = rw e refl

pub integer_other : (c : Context) (paired : Bool) (opcode : ℕ) → paired ≡ true → (opcode ≡ SWITCH → ⊥)
    → opcode ≡ c.opcode → integer_shape c paired ≡ AsWord
integer_other c paired opcode e f g =
    let h : nat_eq c.opcode SWITCH ≡ false = ne_eqb c.opcode SWITCH (λ z. f (g ∙ z)) in
    rw (e, h) refl

-- a refusal tells a word of those left, or the one after them
pub within_front : (sh : Shape) (r : Result Taken Refusal) (ws : List ℕ) (at end : ℕ) → end ≤ length ws
    → IfErr r (λ e. ShapeRefuses sh (between ws at end) e.rule e.word) → IfErr r (λ e. e.word ≤ end - at)
within_front sh (Ok _) ws at end h k = tt
within_front sh (Err e) ws at end h k =
    let n = refuses_within sh (between ws at end) e.rule e.word k in
    let l = length-between ws at end h in
    omega arith

pub within_one : (sh : Shape) (r : Result Taken Refusal) (x at end : ℕ) → at < end
    → ((us : List ℕ) → IfErr r (λ e. ShapeRefuses sh (x ∷ us) e.rule e.word)) → IfErr r (λ e. e.word ≤ end - at)
within_one sh (Ok _) x at end h k = tt
within_one sh (Err e) x at end h k =
    let n = refuses_within sh (x ∷ []) e.rule e.word (k []) in
    omega arith
