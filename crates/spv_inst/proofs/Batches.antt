-- The instructions of a batch, after one more, and where they are moved.
use Rattle.std.proofs.Common.{◌≡◌, ◌++◌, ◌∙◌, ◌≤◌, ◌<◌, ◌+◌, ◌-◌, ℕ, zero, suc, List, [], ◌∷◌, map, length, take, drop}
use Rattle.std.proofs.Common.{get_or, refl, sym, ap, arith, append_assoc}
use Rattle.std.proofs.lemmas.List.{take-append-drop, drop-append-le, take-append-le, length-drop, length-take-le}
use Rattle.std.proofs.lemmas.List.{take_more, take_all}
use Rattle.spv_inst.specs.declared.batch.Head.{Head}
use Rattle.spv_module.specs.declared.operand.Operand.{Operand}
use Rattle.spv_module.specs.declared.module.Inst.{Inst}
use Rattle.spv_module.specs.Module.{plain_operands, plain_inst}
use Rattle.spv_module.specs.Operand.{PlainInst}
use Rattle.spv_inst.specs.inner.Batch.{head_inst, AreWithin}
use Rattle.spv_inst.proofs.Decoding.{plain-insts-push}

within_more : (m n : ℕ) (hs : List Head) → m ≤ n → AreWithin m hs → AreWithin n hs
within_more m n [] h a = tt
within_more m n (x ∷ hs) h a = let b = a.0 in (omega arith, within_more m n hs h a.1)

within_push : (n : ℕ) (hs : List Head) (x : Head) → AreWithin n hs → x.first + x.count ≤ n
    → AreWithin n (hs ++ (x ∷ []))
within_push n [] x a h = (h, tt)
within_push n (y ∷ hs) x a h = (a.0, within_push n hs x a.1 h)

-- the operands of a head at a place
pub within_at : (n : ℕ) (hs : List Head) (i : ℕ) (x y : Head) → AreWithin n hs → i < length hs → x ≡ get_or hs i y
    → x.first + x.count ≤ n
within_at n [] i x y a h e = absurd (omega arith)
within_at n (z ∷ hs) zero x y a h e = rw e a.0
within_at n (z ∷ hs) (suc i) x y a h e = within_at n hs i x y a.1 (omega arith) e

part_kept : (xs ys : List Operand) (f k : ℕ) → f + k ≤ length xs → take k (drop f (xs ++ ys)) ≡ take k (drop f xs)
part_kept xs ys f k h =
    let l = length-drop f xs in
    let n : f ≤ length xs = omega arith in
    let m : k ≤ length (drop f xs) = omega arith in
    rw (drop-append-le f xs ys n) (take-append-le k (drop f xs) ys m)

-- more operands at the end change no instruction before
kept_insts : (xs ys : List Operand) (hs : List Head) → AreWithin (length xs) hs
    → map (head_inst (xs ++ ys)) hs ≡ map (head_inst xs) hs
kept_insts xs ys [] a = refl
kept_insts xs ys (h ∷ hs) a =
    let e = part_kept xs ys h.first h.count a.0 in
    let f = kept_insts xs ys hs a.1 in
    rw (e, f) refl

map_push : (os : List Operand) (hs : List Head) (x : Head)
    → map (head_inst os) (hs ++ (x ∷ [])) ≡ map (head_inst os) hs ++ (head_inst os x ∷ [])
map_push os [] x = refl
map_push os (h ∷ hs) x = ap (λ zs. head_inst os h ∷ zs) (map_push os hs x)

abbrev pub inst_with : ℕ → List Operand → PlainInst
inst_with opcode os = record { opcode = opcode; operands = plain_operands os }

-- an instruction that is ended
pub closed : (os : List Operand) (hs gs : List Head) (opcode first count : ℕ) → first ≤ length os → AreWithin first hs
    → count ≡ length os - first
    → gs ≡ hs ++ (record { opcode = opcode; first = first; count = count } ∷ [])
    → map (head_inst os) gs ≡ map (head_inst (take first os)) hs ++ (inst_with opcode (drop first os) ∷ [])
closed os hs gs opcode first count h a n e =
    let l : length (take first os) ≡ first = length-take-le first os h in
    let k : map (head_inst (take first os ++ drop first os)) hs ≡ map (head_inst (take first os)) hs = kept_insts
    (take first os) (drop first os) hs (rw l a) in
    let k' : map (head_inst os) hs ≡ map (head_inst (take first os)) hs = rw take-append-drop at k in
    let d = length-drop first os in
    let t : take count (drop first os) ≡ drop first os = take_all count (drop first os) (omega arith) in
    let i : head_inst os (record { opcode = opcode; first = first; count = count }) ≡ inst_with opcode
    (drop first os) = ap (inst_with opcode) t in
    rw e (map_push os hs (record { opcode = opcode; first = first; count = count })
    ∙ (ap (λ zs. zs ++ (head_inst os (record { opcode = opcode; first = first; count = count }) ∷ [])) k'
    ∙ ap (λ x. map (head_inst (take first os)) hs ++ (x ∷ [])) i))

pub closed_within : (n : ℕ) (hs gs : List Head) (opcode first count : ℕ) → first ≤ n → AreWithin first hs
    → count ≡ n - first
    → gs ≡ hs ++ (record { opcode = opcode; first = first; count = count } ∷ []) → AreWithin n gs
closed_within n hs gs opcode first count h a k e = rw e (within_push n hs _ (within_more first n hs h a) (omega arith))

-- an instruction that is moved
pub moved_next : (os : List Operand) (hs : List Head) (is js ks : List Inst) (i : ℕ) (x y : Head) (new : Inst)
    → map plain_inst js ≡ map plain_inst is ++ map (head_inst os) (take i hs) → i < length hs → x ≡ get_or hs i y
    → plain_inst new ≡ head_inst os x → ks ≡ js ++ (new ∷ [])
    → map plain_inst ks ≡ map plain_inst is ++ map (head_inst os) (take (i + 1) hs)
moved_next os hs is js ks i x y new m h e n k =
    let t : take (i + 1) hs ≡ take i hs ++ (x ∷ []) = rw (← e) at (take_more hs i y h) in
    rw (t, map_push os (take i hs) x, ← n, plain-insts-push js ks new k, m)
    (append_assoc (map plain_inst is) (map (head_inst os) (take i hs)) (plain_inst new ∷ []))

-- the instructions so far, after one more
pub batch_next : (os os' : List Operand) (hs : List Head) (ms ended all : List PlainInst) (first : ℕ) (i : PlainInst)
    → take first os' ≡ os
    → ended ≡ map (head_inst (take first os')) hs ++ (i ∷ []) → all ≡ ms ++ ended
    → all ≡ (ms ++ map (head_inst os) hs) ++ (i ∷ [])
batch_next os os' hs ms ended all first i t e f =
    let e' : ended ≡ map (head_inst os) hs ++ (i ∷ []) = rw t at e in
    f ∙ (ap (λ zs. ms ++ zs) e' ∙ sym (append_assoc ms (map (head_inst os) hs) (i ∷ [])))
