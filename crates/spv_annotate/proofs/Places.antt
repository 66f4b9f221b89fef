-- Steps through the instructions of a module.
use Rattle.std.proofs.Common.{◌≡◌, ◌<◌, ◌≤◌, ◌+◌, ◌++◌, ◌∙◌, ℕ, zero, suc, List, [], ◌∷◌, Some, None, Bool, cond}
use Rattle.std.proofs.Common.{length, drop, take, map, refl, sym, ap, arith}
use Rattle.std.specs.Prelude.{slice_get, sum_by, unwrap_or}
use Rattle.std.specs.List.{position_from}
use Rattle.std.proofs.lemmas.List.Sums.{sum_by-append, sum_by-take-le}
use Rattle.spv_module.specs.Operand.{PlainInst}
use Rattle.spv_module.specs.declared.module.Inst.{Inst}
use Rattle.spv_module.specs.Module.{plain_inst}
use Rattle.spv_layout.specs.Place.{IsShort, first_word_of, word_count}
use Rattle.std.proofs.Common.{get_or}
use Rattle.spv_layout.proofs.Misfits.{inst_there}
use Rattle.spv_lines.proofs.Steps.{drop_step}
use Rattle.spv_annotate.specs.Module.{inst_at}
use Rattle.spv_annotate.proofs.Small.{plain_length}

-- the first place from one on where a test passes
pub position_step : {A : Type 0} (p : A → Bool) (xs : List A) (k m : ℕ) (x : A) → slice_get xs k ≡ Some x → m ≡ k + 1
    → position_from p k (drop k xs) ≡ cond (p x) (Some k) (position_from p m (drop m xs))
position_step p xs k m x e f =
    ap (position_from p k) (drop_step xs k x e) ∙ ap (λ j. cond (p x) (Some k) (position_from p j (drop j xs))) (sym f)

-- none is left behind the end
pub position_end : {A : Type 0} (p : A → Bool) (xs : List A) (k : ℕ) → k ≡ length xs
    → position_from p k (drop k xs) ≡ None
position_end {A} p xs k e = ap (λ ys. position_from p k ys) (ap (λ j. drop j xs) e ∙ all xs)
  where
    all : (ys : List A) → drop (length ys) ys ≡ []
    all [] = refl
    all (y ∷ ys) = all ys

-- the instruction of a number that is one
pub there : (is : List PlainInst) (n : ℕ) → n < length is → slice_get is n ≡ Some (inst_at is n)
there [] n l = absurd (omega arith)
there (i ∷ is) zero l = refl
there (i ∷ is) (suc n) l = there is n (omega arith)

pub take_step : {A : Type 0} (xs : List A) (k : ℕ) (x : A) → slice_get xs k ≡ Some x
    → take (k + 1) xs ≡ take k xs ++ (x ∷ [])
take_step [] k x e = absurd cc
take_step (y ∷ xs) zero x e = let s : y ≡ x = cc in ap (λ z. z ∷ []) s
take_step (y ∷ xs) (suc k) x e =
    let n : suc k + 1 ≡ suc (k + 1) = omega arith in rw n (ap (λ z. y ∷ z) (take_step xs k x e))

-- the first word of the next instruction
pub word_step : (is : List PlainInst) (n : ℕ) → n < length is
    → first_word_of is (n + 1) ≡ first_word_of is n + word_count (inst_at is n)
word_step is n l =
    let t = ap (sum_by word_count) (take_step is n (inst_at is n) (there is n l)) in
    let s = sum_by-append word_count (take n is) (inst_at is n ∷ []) in
    omega (arith, t, s)

-- what the code reads
pub inst_read : (insts : List Inst) (n : ℕ) (i : Inst) → n < length insts → i ≡ get_or insts n i
    → inst_at (map plain_inst insts) n ≡ plain_inst i
inst_read insts n i l e = ap (λ o. unwrap_or o (record { opcode = 0; operands = [] })) (inst_there insts n i l e)

-- there are few instructions
count_words : (is : List PlainInst) → length is ≤ sum_by word_count is
count_words [] = omega arith
count_words (i ∷ is) = let h = count_words is in let e = sum_by-append word_count (i ∷ []) is in omega (arith, h, e)

pub few_short : (is : List PlainInst) → IsShort is → length is ≤ 4194304
few_short is s = let h = count_words is in omega (arith, s, h)

-- and their words are within the module
pub word_bound : (is : List PlainInst) (n : ℕ) → n < length is → IsShort is
    → first_word_of is n + word_count (inst_at is n) ≤ 4194304
word_bound is n l s =
    let w = word_step is n l in
    let b = sum_by-take-le word_count is (n + 1) in
    omega (arith, w, b, s)

-- what the code reads in a slice
pub read_slice : (xs ys : List Inst) (n : ℕ) (i : Inst) → xs ≡ ys → n < length xs → i ≡ get_or xs n i
    → inst_at (map plain_inst ys) n ≡ plain_inst i
read_slice xs ys n i e l f = ap (λ zs. inst_at (map plain_inst zs) n) (sym e) ∙ inst_read xs n i l f

pub slice_length : (xs ys : List Inst) → xs ≡ ys → length (map plain_inst ys) ≡ length xs
slice_length xs ys e = plain_length ys ∙ ap length (sym e)

pub slice_within : (xs ys : List Inst) (n : ℕ) → xs ≡ ys → n < length xs → n < length (map plain_inst ys)
slice_within xs ys n e l = let s = slice_length xs ys e in omega arith
