-- Lists of instructions that are alike but for what stands behind the numbers of extended instructions.
use Rattle.std.proofs.Common.{◌≡◌, ◌∙◌, ℕ, zero, suc, List, [], ◌∷◌, Option, Some, None, Bool, true, false, nat_eq}
use Rattle.std.proofs.Common.{if◌then◌else◌, map, length, refl, sym, ap, subst}
use Rattle.std.specs.Prelude.{slice_get}
use Rattle.std.proofs.lemmas.Bool.{eqb-true}
use Rattle.std.proofs.lemmas.Option.{none-some, same_Some}
use Rattle.spv_module.specs.Operand.{Plain, OfType, Result, Id, Word, PlainInst, result_in, type_in}
use Rattle.spv_module.specs.Width.{definition_of, has_result, or_else}
use Rattle.spv_module.specs.declared.opcode.TheConstants.{EXT_INST}
use Rattle.spv_extended.specs.declared.set.Set.{Set}
use Rattle.spv_extended.specs.Opened.{opened_inst, opened_operands}
use Rattle.spv_ids.specs.Definition.{IsDefinedAt}
use Rattle.spv_type_forms.specs.Parts.{after_result}

-- Two instructions are the same, unless they are OpExtInsts, which have the same head.
pub record Looks (i j : PlainInst) : Type 0 where
  pub opcode : i.opcode ≡ j.opcode
  pub other : (i.opcode ≡ EXT_INST → ⊥) → i ≡ j
  pub result : result_in i.operands ≡ result_in j.operands
  pub type : type_in i.operands ≡ type_in j.operands
  pub members : after_result i.operands ≡ after_result j.operands

pub looks_back : (i j : PlainInst) → Looks i j → Looks j i
looks_back i j l = record {
  opcode = sym l.opcode;
  other = λ never. sym (l.other (λ e. never (sym l.opcode ∙ e)));
  result = sym l.result;
  type = sym l.type;
  members = sym l.members;
}

pub looks_same : (i : PlainInst) → Looks i i
looks_same i = record { opcode = refl; other = λ never. refl; result = refl; type = refl; members = refl }

pub data Alike : List PlainInst → List PlainInst → Type 0 where
  none : Alike [] []
  more : (i j : PlainInst) (is js : List PlainInst) → Looks i j → Alike is js → Alike (i ∷ is) (j ∷ js)

pub back : (is js : List PlainInst) → Alike is js → Alike js is
back _ _ Alike.none = Alike.none
back _ _ (Alike.more i j is js l a) = Alike.more j i js is (looks_back i j l) (back is js a)

-- A list is alike to what it becomes by opening.

same_result : (sets : ℕ → Set) (os : List Plain) → result_in os ≡ result_in (opened_operands sets os)
same_result sets (OfType t ∷ Result x ∷ Id set ∷ Word number ∷ os) = refl
same_result sets os = refl

same_type : (sets : ℕ → Set) (os : List Plain) → type_in os ≡ type_in (opened_operands sets os)
same_type sets (OfType t ∷ Result x ∷ Id set ∷ Word number ∷ os) = refl
same_type sets os = refl

same_members : (sets : ℕ → Set) (os : List Plain) → after_result os ≡ after_result (opened_operands sets os)
same_members sets (OfType t ∷ Result x ∷ Id set ∷ Word number ∷ os) = refl
same_members sets os = refl

pub looks_opened : (sets : ℕ → Set) (i : PlainInst) → Looks i (opened_inst sets i)
looks_opened sets i = by (nat_eq i.opcode EXT_INST) refl
  where
    by : (b : Bool) → nat_eq i.opcode EXT_INST ≡ b
        → Looks i (if b then record { opcode = i.opcode; operands = opened_operands sets i.operands } else i)
    by true e = record {
      opcode = refl;
      other = λ never. absurd (never (eqb-true i.opcode EXT_INST e));
      result = same_result sets i.operands;
      type = same_type sets i.operands;
      members = same_members sets i.operands;
    }
    by false e = looks_same i

pub alike_opened : (sets : ℕ → Set) (is : List PlainInst) → Alike is (map (opened_inst sets) is)
alike_opened sets [] = Alike.none
alike_opened sets (i ∷ is) =
    Alike.more i (opened_inst sets i) is (map (opened_inst sets) is) (looks_opened sets i) (alike_opened sets is)

-- Instruction by instruction.

pub record Other (js : List PlainInst) (n : ℕ) (i : PlainInst) : Type 0 where
  pub inst : PlainInst
  pub there : slice_get js n ≡ Some inst
  pub looks : Looks i inst

pub other_at : (is js : List PlainInst) → Alike is js → (n : ℕ) (i : PlainInst) → slice_get is n ≡ Some i → Other js n i
other_at _ _ Alike.none n i e = absurd (none-some i e)
other_at _ _ (Alike.more i j is js l a) zero k e =
    record { inst = j; there = refl; looks = subst (λ x. Looks x j) (same_Some i k e) l }
other_at _ _ (Alike.more i j is js l a) (suc n) k e = let o = other_at is js a n k e in
    record { inst = o.inst; there = o.there; looks = o.looks }

-- one that is no OpExtInst stands in both
pub same_at : (is js : List PlainInst) → Alike is js → (n : ℕ) (i : PlainInst) → slice_get is n ≡ Some i
    → (i.opcode ≡ EXT_INST → ⊥) → slice_get js n ≡ Some i
same_at is js a n i e never = let o = other_at is js a n i e in o.there ∙ ap Some (sym (o.looks.other never))

pub same_map : (A : Type 0) (p : PlainInst → A) → ((i j : PlainInst) → Looks i j → p i ≡ p j) → (is js : List PlainInst)
    → Alike is js → map p is ≡ map p js
same_map A p h _ _ Alike.none = refl
same_map A p h _ _ (Alike.more i j is js l a) =
    ap (λ x. x ∷ map p is) (h i j l) ∙ ap (λ xs. p j ∷ xs) (same_map A p h is js a)

pub same_length : (is js : List PlainInst) → Alike is js → length is ≡ length js
same_length _ _ Alike.none = refl
same_length _ _ (Alike.more i j is js l a) = ap suc (same_length is js a)

-- Definitions.

pub defined : (is js : List PlainInst) → Alike is js → (x n : ℕ) → IsDefinedAt is x n → IsDefinedAt js x n
defined is js a x n d = let o = other_at is js a n d.inst d.there in
    record { inst = o.inst; there = o.there; result = sym o.looks.result ∙ d.result }

-- the definitions of an id are alike
pub data AlikeOption : Option PlainInst → Option PlainInst → Type 0 where
  neither : AlikeOption None None
  some : (i j : PlainInst) → Looks i j → AlikeOption (Some i) (Some j)

pub definitions : (is js : List PlainInst) → Alike is js → (x : ℕ)
    → AlikeOption (definition_of is x) (definition_of js x)
definitions _ _ Alike.none x = AlikeOption.neither
definitions _ _ (Alike.more i j is js l a) x = or (definition_of is x) (definition_of js x) (definitions is js a x)
  where
    here : (b : Bool) → AlikeOption (if b then Some i else None) (if b then Some j else None)
    here true = AlikeOption.some i j l
    here false = AlikeOption.neither

    both : AlikeOption (if has_result (result_in i.operands) x then Some i else None)
        (if has_result (result_in j.operands) x then Some j else None)
    both = subst (λ r. AlikeOption (if has_result (result_in i.operands) x then Some i else None)
        (if has_result r x then Some j else None)) l.result (here (has_result (result_in i.operands) x))

    or : (o p : Option PlainInst) → AlikeOption o p
        → AlikeOption (or_else o (if has_result (result_in i.operands) x then Some i else None))
        (or_else p (if has_result (result_in j.operands) x then Some j else None))
    or _ _ AlikeOption.neither = both
    or _ _ (AlikeOption.some k m h) = AlikeOption.some k m h

-- What every OpExtInst tells in the same way is told the same by alike instructions.
pub told_same : (A : Type 0) (p : PlainInst → A) (x : A) → ((k : PlainInst) → k.opcode ≡ EXT_INST → p k ≡ x)
    → (i j : PlainInst) → Looks i j → p i ≡ p j
told_same A p x h i j l = by (nat_eq i.opcode EXT_INST) refl
  where
    by : (b : Bool) → nat_eq i.opcode EXT_INST ≡ b → p i ≡ p j
    by true e = let call = eqb-true i.opcode EXT_INST e in h i call ∙ sym (h j (sym l.opcode ∙ call))
    by false e = ap p (l.other (λ call. let f : nat_eq i.opcode EXT_INST ≡ true = rw call refl in
        let g : true ≡ false = sym f ∙ e in cc))
