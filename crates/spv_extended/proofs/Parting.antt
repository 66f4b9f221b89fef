-- A list of operands of which each OpExtInst has a part.
use Rattle.std.proofs.Common.{◌≡◌, ◌<◌, ◌+◌, ℕ, zero, suc, Bool, true, false, List, [], ◌∷◌, ◌++◌, map, length, take, drop, get_or, set, nat_eq, if◌then◌else◌, refl, sym, ap, ◌∙◌, arith, length-append, append_assoc, eq-eqb, ne_eqb, zero-add}
use Rattle.std.specs.Prelude.{Result, Ok, Err, OnOk}
use Rattle.std.proofs.lemmas.List.{take_at, drop_at, take-map, drop_more, length-map, take_more, take_more_set, drop-set-lt, map-append, drop-drop}
use Rattle.spv_module.specs.declared.module.Inst.{Inst}
use Rattle.spv_module.specs.declared.operand.Operand.{Operand}
use Rattle.spv_module.specs.Operand.{Plain, PlainInst}
use Rattle.spv_module.specs.Module.{plain_inst, plain_operand, plain_operands}
use Rattle.spv_module.specs.declared.opcode.TheConstants.{EXT_INST}
use Rattle.spv_extended.specs.declared.set.Set.{Set}
use Rattle.spv_extended.specs.Opened.{opened, opened_operands, opened_inst}
use Rattle.spv_extended.specs.inner.Parts.{operands_in, all_opened, given}
use Rattle.spv_extended.specs.Sets.{set_in}
use Rattle.spv_extended.proofs.Once.{opened_same, same_count}

-- the opened operands are as many as there were
pub same_room : (sets : ℕ → Set) (is : List PlainInst) → length (all_opened sets is) ≡ operands_in is
same_room sets [] = refl
same_room sets (i ∷ is) =
    length-append (if nat_eq i.opcode EXT_INST then opened_operands sets i.operands else []) (all_opened sets is)
    ∙ (ap (λ n. n + length (all_opened sets is)) (by (nat_eq i.opcode EXT_INST)) ∙ ap (λ n. (if nat_eq i.opcode EXT_INST then length i.operands else 0) + n) (same_room sets is))
  where
    by : (b : Bool) → length (if b then opened_operands sets i.operands else []) ≡ (if b then length i.operands else 0)
    by true = same_count sets i.operands
    by false = refl

-- each gets its own back, opened
given_step : (sets : ℕ → Set) (i : PlainInst) (is : List PlainInst) (b : Bool) → given (all_opened sets is) is ≡ map (opened_inst sets) is
    → (if b then record { opcode = i.opcode; operands = take (length i.operands) ((if b then opened_operands sets i.operands else []) ++ all_opened sets is) } ∷ given (drop (length i.operands) ((if b then opened_operands sets i.operands else []) ++ all_opened sets is)) is
    else i ∷ given ((if b then opened_operands sets i.operands else []) ++ all_opened sets is) is) ≡ (if b then record { opcode = i.opcode; operands = opened_operands sets i.operands } else i) ∷ map (opened_inst sets) is
given_step sets i is true later =
    let n = length i.operands in
    let os = opened_operands sets i.operands in
    let rest = all_opened sets is in
    let t : take n (os ++ rest) ≡ os = take_at os rest n (same_count sets i.operands) in
    let d : drop n (os ++ rest) ≡ rest = drop_at os rest n (same_count sets i.operands) in
    ap (λ ps. let j : PlainInst = record { opcode = i.opcode; operands = ps } in j ∷ given (drop n (os ++ rest)) is) t
    ∙ (ap (λ ps. let j : PlainInst = record { opcode = i.opcode; operands = os } in j ∷ given ps is) d
    ∙ ap (λ js. let j : PlainInst = record { opcode = i.opcode; operands = os } in j ∷ js) later)
given_step sets i is false later = ap (λ js. i ∷ js) later

pub given_opened : (sets : ℕ → Set) (is : List PlainInst) → given (all_opened sets is) is ≡ map (opened_inst sets) is
given_opened sets [] = refl
given_opened sets (i ∷ is) = given_step sets i is (nat_eq i.opcode EXT_INST) (given_opened sets is)

-- where there are no operands nothing is opened
none_in : (sets : ℕ → Set) (n : ℕ) (os : List Plain) (b : Bool) → (if b then length os else 0) ≡ 0
    → (let i : PlainInst = record { opcode = n; operands = os } in let j : PlainInst = record { opcode = n; operands = opened_operands sets os } in if b then j else i) ≡ (let i : PlainInst = record { opcode = n; operands = os } in i)
none_in sets n [] true e = refl
none_in sets n (o ∷ os) true e = absurd (omega arith)
none_in sets n os false e = refl

pub none_opened : (sets : ℕ → Set) (is : List PlainInst) → operands_in is ≡ 0 → map (opened_inst sets) is ≡ is
none_opened sets [] e = refl
none_opened sets (i ∷ is) e =
    let here : (if nat_eq i.opcode EXT_INST then length i.operands else 0) ≡ 0 = omega arith in
    let later : operands_in is ≡ 0 = omega arith in
    ap (λ j. j ∷ map (opened_inst sets) is) (none_in sets i.opcode i.operands (nat_eq i.opcode EXT_INST) here) ∙ ap (λ js. i ∷ js) (none_opened sets is later)

-- one instruction more, of which it is told whether it is an OpExtInst
next : (xs : List Inst) (k : ℕ) (x : Inst) → k < length xs → x ≡ get_or xs k x → drop k xs ≡ x ∷ drop (k + 1) xs
next xs k x h is = drop_more xs k x h ∙ ap (λ z. z ∷ drop (k + 1) xs) (sym is)

pub room_more : (xs : List Inst) (k : ℕ) (x : Inst) → k < length xs → x ≡ get_or xs k x → x.opcode ≡ EXT_INST
    → operands_in (map plain_inst (drop k xs)) ≡ length x.operands + operands_in (map plain_inst (drop (k + 1) xs))
room_more xs k x h is e =
    ap (λ zs. operands_in (map plain_inst zs)) (next xs k x h is)
    ∙ (ap (λ b. (if b then length (plain_operands x.operands) else 0) + operands_in (map plain_inst (drop (k + 1) xs))) (eq-eqb x.opcode EXT_INST e)
    ∙ ap (λ n. n + operands_in (map plain_inst (drop (k + 1) xs))) (length-map x.operands plain_operand))

pub room_same : (xs : List Inst) (k : ℕ) (x : Inst) → k < length xs → x ≡ get_or xs k x → (x.opcode ≡ EXT_INST → ⊥)
    → operands_in (map plain_inst (drop k xs)) ≡ operands_in (map plain_inst (drop (k + 1) xs))
room_same xs k x h is e =
    ap (λ zs. operands_in (map plain_inst zs)) (next xs k x h is)
    ∙ (ap (λ b. (if b then length (plain_operands x.operands) else 0) + operands_in (map plain_inst (drop (k + 1) xs))) (ne_eqb x.opcode EXT_INST e)
    ∙ zero-add (operands_in (map plain_inst (drop (k + 1) xs))))

pub all_more : (sets : ℕ → Set) (xs : List Inst) (k : ℕ) (x : Inst) → k < length xs → x ≡ get_or xs k x → x.opcode ≡ EXT_INST
    → all_opened sets (map plain_inst (drop k xs)) ≡ opened_operands sets (plain_operands x.operands) ++ all_opened sets (map plain_inst (drop (k + 1) xs))
all_more sets xs k x h is e =
    ap (λ zs. all_opened sets (map plain_inst zs)) (next xs k x h is)
    ∙ ap (λ b. (if b then opened_operands sets (plain_operands x.operands) else []) ++ all_opened sets (map plain_inst (drop (k + 1) xs))) (eq-eqb x.opcode EXT_INST e)

pub all_same : (sets : ℕ → Set) (xs : List Inst) (k : ℕ) (x : Inst) → k < length xs → x ≡ get_or xs k x → (x.opcode ≡ EXT_INST → ⊥)
    → all_opened sets (map plain_inst (drop k xs)) ≡ all_opened sets (map plain_inst (drop (k + 1) xs))
all_same sets xs k x h is e =
    ap (λ zs. all_opened sets (map plain_inst zs)) (next xs k x h is)
    ∙ ap (λ b. (if b then opened_operands sets (plain_operands x.operands) else []) ++ all_opened sets (map plain_inst (drop (k + 1) xs))) (ne_eqb x.opcode EXT_INST e)

-- a list that was gathered, with one instruction more
pub gathered_more : (sets : ℕ → Set) (xs : List Inst) (k : ℕ) (x : Inst) (old new all : List Plain) → k < length xs → x ≡ get_or xs k x → x.opcode ≡ EXT_INST
    → new ≡ old ++ opened_operands sets (plain_operands x.operands) → old ++ all_opened sets (map plain_inst (drop k xs)) ≡ all → new ++ all_opened sets (map plain_inst (drop (k + 1) xs)) ≡ all
gathered_more sets xs k x old new all h is e g before =
    let rest = all_opened sets (map plain_inst (drop (k + 1) xs)) in
    let own = opened_operands sets (plain_operands x.operands) in
    ap (λ ps. ps ++ rest) g ∙ (append_assoc old own rest ∙ (ap (λ ps. old ++ ps) (sym (all_more sets xs k x h is e)) ∙ before))

pub gathered_same : (sets : ℕ → Set) (xs : List Inst) (k : ℕ) (x : Inst) (old all : List Plain) → k < length xs → x ≡ get_or xs k x → (x.opcode ≡ EXT_INST → ⊥)
    → old ++ all_opened sets (map plain_inst (drop k xs)) ≡ all → old ++ all_opened sets (map plain_inst (drop (k + 1) xs)) ≡ all
gathered_same sets xs k x old all h is e before = ap (λ ps. old ++ ps) (sym (all_same sets xs k x h is e)) ∙ before

drop_map : (n : ℕ) (os : List Operand) → drop n (plain_operands os) ≡ plain_operands (drop n os)
drop_map zero os = refl
drop_map (suc n) [] = refl
drop_map (suc n) (o ∷ os) = drop_map n os

given_ext : (os : List Plain) (i : PlainInst) (is : List PlainInst) (n : ℕ) → i.opcode ≡ EXT_INST → length i.operands ≡ n
    → given os (i ∷ is) ≡ (let j : PlainInst = record { opcode = i.opcode; operands = take n os } in j) ∷ given (drop n os) is
given_ext os i is n e l =
    ap (λ b. let j : PlainInst = record { opcode = i.opcode; operands = take (length i.operands) os } in if b then j ∷ given (drop (length i.operands) os) is else i ∷ given os is) (eq-eqb i.opcode EXT_INST e)
    ∙ ap (λ m. let j : PlainInst = record { opcode = i.opcode; operands = take m os } in j ∷ given (drop m os) is) l

given_other : (os : List Plain) (i : PlainInst) (is : List PlainInst) → (i.opcode ≡ EXT_INST → ⊥) → given os (i ∷ is) ≡ i ∷ given os is
given_other os i is e =
    ap (λ b. let j : PlainInst = record { opcode = i.opcode; operands = take (length i.operands) os } in if b then j ∷ given (drop (length i.operands) os) is else i ∷ given os is) (ne_eqb i.opcode EXT_INST e)

given_next : (os : List Operand) (xs : List Inst) (k first count : ℕ) (x y : Inst) → k < length xs → x ≡ get_or xs k x → x.opcode ≡ EXT_INST → y.opcode ≡ x.opcode → y.operands ≡ take count (drop first os)
    → count ≡ length x.operands → given (plain_operands (drop first os)) (map plain_inst (drop k xs)) ≡ plain_inst y ∷ given (plain_operands (drop (first + count) os)) (map plain_inst (drop (k + 1) xs))
given_next os xs k first count x y h is e o p c =
    let rest = map plain_inst (drop (k + 1) xs) in
    let left = plain_operands (drop first os) in
    let l : length (plain_operands x.operands) ≡ count = length-map x.operands plain_operand ∙ sym c in
    let t : take count left ≡ plain_operands y.operands = take-map plain_operand count (drop first os) ∙ ap plain_operands (sym p) in
    let d : drop count left ≡ plain_operands (drop (first + count) os) = drop_map count (drop first os) ∙ ap plain_operands (drop-drop count first os) in
    ap (λ zs. given left (map plain_inst zs)) (next xs k x h is)
    ∙ (given_ext left (plain_inst x) rest count e l
    ∙ (ap (λ ps. (let j : PlainInst = record { opcode = x.opcode; operands = ps } in j) ∷ given (drop count left) rest) t
    ∙ (ap (λ n. (let j : PlainInst = record { opcode = n; operands = plain_operands y.operands } in j) ∷ given (drop count left) rest) (sym o)
    ∙ ap (λ ps. plain_inst y ∷ given ps rest) d)))

-- one instruction more has its part
pub handed_more : (os : List Operand) (xs : List Inst) (k first count : ℕ) (x y : Inst) (all : List PlainInst) → k < length xs → x ≡ get_or xs k x → x.opcode ≡ EXT_INST → y.opcode ≡ x.opcode
    → y.operands ≡ take count (drop first os) → count ≡ length x.operands → map plain_inst (take k xs) ++ given (plain_operands (drop first os)) (map plain_inst (drop k xs)) ≡ all
    → map plain_inst (take (k + 1) (set xs k y)) ++ given (plain_operands (drop (first + count) os)) (map plain_inst (drop (k + 1) (set xs k y))) ≡ all
handed_more os xs k first count x y all h is e o p c before =
    let given_rest = λ (zs : List Inst). given (plain_operands (drop (first + count) os)) (map plain_inst zs) in
    ap (λ zs. map plain_inst zs ++ given_rest (drop (k + 1) (set xs k y))) (take_more_set xs k y h)
    ∙ (ap (λ zs. map plain_inst (take k xs ++ (y ∷ [])) ++ given_rest zs) (drop-set-lt (k + 1) xs k y (omega arith))
    ∙ (ap (λ is. is ++ given_rest (drop (k + 1) xs)) (map-append plain_inst (take k xs) (y ∷ []))
    ∙ (append_assoc (map plain_inst (take k xs)) (plain_inst y ∷ []) (given_rest (drop (k + 1) xs))
    ∙ (ap (λ is. map plain_inst (take k xs) ++ is) (sym (given_next os xs k first count x y h is e o p c)) ∙ before))))

pub handed_same : (os : List Operand) (xs : List Inst) (k first : ℕ) (x : Inst) (all : List PlainInst) → k < length xs → x ≡ get_or xs k x → (x.opcode ≡ EXT_INST → ⊥)
    → map plain_inst (take k xs) ++ given (plain_operands (drop first os)) (map plain_inst (drop k xs)) ≡ all → map plain_inst (take (k + 1) xs) ++ given (plain_operands (drop first os)) (map plain_inst (drop (k + 1) xs)) ≡ all
handed_same os xs k first x all h is e before =
    let left = plain_operands (drop first os) in
    let rest = map plain_inst (drop (k + 1) xs) in
    ap (λ zs. map plain_inst zs ++ given left rest) (take_more xs k x h ∙ ap (λ z. take k xs ++ (z ∷ [])) (sym is))
    ∙ (ap (λ is. is ++ given left rest) (map-append plain_inst (take k xs) (x ∷ []))
    ∙ (append_assoc (map plain_inst (take k xs)) (plain_inst x ∷ []) (given left rest)
    ∙ (ap (λ is. map plain_inst (take k xs) ++ is) (sym (ap (λ zs. given left (map plain_inst zs)) (next xs k x h is) ∙ given_other left (plain_inst x) rest e)) ∙ before)))

-- a list of opened operands has as many as there were
pub room_for : (sets : ℕ → Set) (xs : List Inst) (os : List Operand) → plain_operands os ≡ all_opened sets (map plain_inst xs) → length os ≡ operands_in (map plain_inst xs)
room_for sets xs os e = sym (length-map os plain_operand) ∙ (ap length e ∙ same_room sets (map plain_inst xs))

-- what was given from it is the module, opened
pub given_all : (sets : ℕ → Set) (xs : List Inst) (os : List Operand) (new : List PlainInst) → ((x : ℕ) → sets x ≡ set_in (map plain_inst xs) x) → plain_operands os ≡ all_opened sets (map plain_inst xs)
    → new ≡ given (plain_operands os) (map plain_inst xs) → new ≡ opened (map plain_inst xs)
given_all sets xs os new finds all e =
    let is = map plain_inst xs in
    e ∙ (ap (λ ps. given ps is) all ∙ (given_opened sets is ∙ opened_same sets (set_in is) is finds))

pub on_ok : {T E : Type 0} (r : Result T E) (P Q : Type 0) → (P → Q) → OnOk r P → OnOk r Q
on_ok (Ok x) P Q f h = f h
on_ok (Err e) P Q f h = h
