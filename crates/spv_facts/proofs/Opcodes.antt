-- What an opcode tells of a function or a block is what its class tells.
use Rattle.std.proofs.Common.{◌≡◌, ℕ, List, [], ◌∷◌, refl, sym, subst, ap, ◌∙◌, Bool, true, false, not, ◌&&◌, ◌||◌}
use Rattle.std.proofs.Common.{nat_eq, nat_le, if◌then◌else◌, Some, None, ◌⊎◌, inl, inr, arith}
use Rattle.std.proofs.lemmas.Bool.{leb-true, eqb-true}
use Rattle.spv_module.specs.declared.opcode.TheConstants as opcode
use Rattle.spv_layout.specs.declared.class.Class.{Class}
use Rattle.spv_layout.specs.declared.class.Class.TheVariants.{Function, FunctionEnd, Label, Branch, BranchConditional}
use Rattle.spv_layout.specs.declared.class.Class.TheVariants.{Switch, Return, Outside}
use Rattle.spv_layout.specs.Class.{is_among}
use Rattle.spv_layout.specs.Row.{PlainRow, row_in}
use Rattle.spv_layout.specs.Rows.{rows, class_in, class_of}
use Rattle.spv_layout.specs.Place.{terminators}
use Rattle.spv_layout.proofs.Derivatives.{both_hold}
use Rattle.spv_facts.specs.declared.fact.Place.{Place}
use Rattle.spv_facts.specs.Place.{entered, is_terminator, left_by, nowhere}

-- The opcodes of some classes are those of a test.

abbrev is_for : (ℕ → Bool) → List Class → PlainRow → Bool
is_for test cs r = not (is_among r.class cs) || (nat_eq r.from r.to && test r.from)

abbrev are_for : (ℕ → Bool) → List Class → List PlainRow → Bool
are_for test cs [] = true
are_for test cs (r ∷ rs) = is_for test cs r && are_for test cs rs

implied : (a b : Bool) → (not a || b) ≡ true → a ≡ true → b ≡ true
implied true b h e = h
implied false b h e = cc

by_row : (b : Bool) (test : ℕ → Bool) (cs : List Class) (r : PlainRow) (rs : List PlainRow) (n : ℕ)
    → (nat_le r.from n && nat_le n r.to) ≡ b → is_for test cs r ≡ true
    → (is_among (class_in (row_in rs n)) cs ≡ true → test n ≡ true)
    → is_among (class_in (if b then Some r else row_in rs n)) cs ≡ true → test n ≡ true
by_row true test cs r rs n e h rest a =
    let w = both_hold (nat_le r.from n) (nat_le n r.to) e in
    let low = leb-true r.from n w.0 in
    let high = leb-true n r.to w.1 in
    let t = both_hold (nat_eq r.from r.to) (test r.from)
    (implied (is_among r.class cs) (nat_eq r.from r.to && test r.from) h a) in
    let one = eqb-true r.from r.to t.0 in
    let same : r.from ≡ n = omega (arith, low, high, one) in
    subst (λ (k : ℕ). test k ≡ true) same t.1
by_row false test cs r rs n e h rest a = rest a

by_rows : (test : ℕ → Bool) (cs : List Class) (rs : List PlainRow) (n : ℕ) → is_among Outside cs ≡ false
    → are_for test cs rs ≡ true → is_among (class_in (row_in rs n)) cs ≡ true → test n ≡ true
by_rows test cs [] n o h a = cc
by_rows test cs (r ∷ rs) n o h a =
    let p = both_hold (is_for test cs r) (are_for test cs rs) h in
    by_row (nat_le r.from n && nat_le n r.to) test cs r rs n refl p.0 (by_rows test cs rs n o p.1) a

same_bool : (a b : Bool) → (a ≡ true → b ≡ true) → (b ≡ true → a ≡ true) → a ≡ b
same_bool true b f g = sym (f refl)
same_bool false true f g = g refl
same_bool false false f g = refl

-- an opcode that has a class is one that the test passes, and no other
of_one : (n k : ℕ) (cs : List Class) → is_among (class_of k) cs ≡ true → nat_eq n k ≡ true
    → is_among (class_of n) cs ≡ true
of_one n k cs h e = subst (λ (m : ℕ). is_among (class_of m) cs ≡ true) (sym (eqb-true n k e)) h

abbrev is_function : ℕ → Bool
is_function n = nat_eq n opcode.FUNCTION

abbrev is_end : ℕ → Bool
is_end n = nat_eq n opcode.FUNCTION_END

abbrev is_label : ℕ → Bool
is_label n = nat_eq n opcode.LABEL

function_rows : are_for is_function (Function ∷ []) rows ≡ true
unfolding rows
function_rows = refl

end_rows : are_for is_end (FunctionEnd ∷ []) rows ≡ true
unfolding rows
end_rows = refl

label_rows : are_for is_label (Label ∷ []) rows ≡ true
unfolding rows
label_rows = refl

terminator_rows : are_for is_terminator terminators rows ≡ true
unfolding rows
terminator_rows = refl

function_class : is_among (class_of opcode.FUNCTION) (Function ∷ []) ≡ true
unfolding rows
function_class = refl

end_class : is_among (class_of opcode.FUNCTION_END) (FunctionEnd ∷ []) ≡ true
unfolding rows
end_class = refl

label_class : is_among (class_of opcode.LABEL) (Label ∷ []) ≡ true
unfolding rows
label_class = refl

branch_class : is_among (class_of opcode.BRANCH) terminators ≡ true
unfolding rows
branch_class = refl

conditional_class : is_among (class_of opcode.BRANCH_CONDITIONAL) terminators ≡ true
unfolding rows
conditional_class = refl

switch_class : is_among (class_of opcode.SWITCH) terminators ≡ true
unfolding rows
switch_class = refl

return_class : is_among (class_of opcode.RETURN) terminators ≡ true
unfolding rows
return_class = refl

value_class : is_among (class_of opcode.RETURN_VALUE) terminators ≡ true
unfolding rows
value_class = refl

unreachable_class : is_among (class_of opcode.UNREACHABLE) terminators ≡ true
unfolding rows
unreachable_class = refl

one_of : (a b : Bool) → (a || b) ≡ true → (a ≡ true) ⊎ (b ≡ true)
one_of true b h = inl refl
one_of false b h = inr h

terminates : (n : ℕ) → is_terminator n ≡ true → is_among (class_of n) terminators ≡ true
terminates n h = elim (one_of _ _ h) [
  | inl e ↦ of_one n opcode.BRANCH terminators branch_class e
  | inr h ↦ elim (one_of _ _ h) [
    | inl e ↦ of_one n opcode.BRANCH_CONDITIONAL terminators conditional_class e
    | inr h ↦ elim (one_of _ _ h) [
      | inl e ↦ of_one n opcode.SWITCH terminators switch_class e
      | inr h ↦ elim (one_of _ _ h) [
        | inl e ↦ of_one n opcode.RETURN terminators return_class e
        | inr h ↦ elim (one_of _ _ h) [
          | inl e ↦ of_one n opcode.RETURN_VALUE terminators value_class e
          | inr e ↦ of_one n opcode.UNREACHABLE terminators unreachable_class e
        ]
      ]
    ]
  ]
]

function_same : (n : ℕ) → is_function n ≡ is_among (class_of n) (Function ∷ [])
function_same n = same_bool _ _ (of_one n opcode.FUNCTION (Function ∷ []) function_class)
    (by_rows is_function (Function ∷ []) rows n refl function_rows)

end_same : (n : ℕ) → is_end n ≡ is_among (class_of n) (FunctionEnd ∷ [])
end_same n = same_bool _ _ (of_one n opcode.FUNCTION_END (FunctionEnd ∷ []) end_class)
    (by_rows is_end (FunctionEnd ∷ []) rows n refl end_rows)

label_same : (n : ℕ) → is_label n ≡ is_among (class_of n) (Label ∷ [])
label_same n = same_bool _ _ (of_one n opcode.LABEL (Label ∷ []) label_class)
    (by_rows is_label (Label ∷ []) rows n refl label_rows)

terminator_same : (n : ℕ) → is_terminator n ≡ is_among (class_of n) terminators
terminator_same n = same_bool _ _ (terminates n) (by_rows is_terminator terminators rows n refl terminator_rows)

-- A place goes on by classes.

-- where an instruction of a class stands, and what it leaves open
abbrev pub entered_by : Class → ℕ → Place → Place
entered_by Function n p = record { function = Some n; block = None }
entered_by FunctionEnd n p = record { function = p.function; block = None }
entered_by Label n p = record { function = p.function; block = Some n }
entered_by c n p = p

abbrev pub left_of : Class → Place → Place
left_of FunctionEnd p = nowhere
left_of Branch p = record { function = p.function; block = None }
left_of BranchConditional p = record { function = p.function; block = None }
left_of Switch p = record { function = p.function; block = None }
left_of Return p = record { function = p.function; block = None }
left_of c p = p

abbrev entered_where : Bool → Bool → Bool → ℕ → Place → Place
entered_where f e l n p = if f then record { function = Some n; block = None }
    else (if e then record { function = p.function; block = None }
    else (if l then record { function = p.function; block = Some n } else p))

abbrev left_where : Bool → Bool → Place → Place
left_where e t p = if e then nowhere else (if t then record { function = p.function; block = None } else p)

entered_class : (c : Class) (n : ℕ) (p : Place)
    → entered_where (is_among c (Function ∷ [])) (is_among c (FunctionEnd ∷ []))
    (is_among c (Label ∷ [])) n p ≡ entered_by c n p
entered_class Function n p = refl
entered_class FunctionEnd n p = refl
entered_class Label n p = refl
entered_class c n p = refl

left_class : (c : Class) (p : Place)
    → left_where (is_among c (FunctionEnd ∷ [])) (is_among c terminators) p ≡ left_of c p
left_class FunctionEnd p = refl
left_class Branch p = refl
left_class BranchConditional p = refl
left_class Switch p = refl
left_class Return p = refl
left_class c p = refl

pub entered_same : (n o : ℕ) (p : Place) → entered n o p ≡ entered_by (class_of o) n p
entered_same n o p =
    ap (λ b. entered_where b (is_end o) (is_label o) n p) (function_same o)
    ∙ (ap (λ b. entered_where (is_among (class_of o) (Function ∷ [])) b (is_label o) n p) (end_same o)
    ∙ (ap (λ b. entered_where (is_among (class_of o) (Function ∷ [])) (is_among (class_of o) (FunctionEnd ∷ [])) b n p)
    (label_same o)
    ∙ entered_class (class_of o) n p))

pub left_same : (o : ℕ) (p : Place) → left_by o p ≡ left_of (class_of o) p
left_same o p =
    ap (λ b. left_where b (is_terminator o) p) (end_same o)
    ∙ (ap (λ b. left_where (is_among (class_of o) (FunctionEnd ∷ [])) b p) (terminator_same o)
    ∙ left_class (class_of o) p)
