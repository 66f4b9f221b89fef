-- What opening keeps, and that it is done once.
use Rattle.std.proofs.Common.{◌≡◌, ◌+◌, ℕ, suc, Bool, true, false, List, [], ◌∷◌, None, map, length, nat_eq, if◌then◌else◌, refl, sym, ap, ◌∙◌, arith}
use Rattle.std.specs.Prelude.{sum_by}
use Rattle.std.proofs.lemmas.Bool.Decides.{nat_tests}
use Rattle.std.proofs.lemmas.List.Sums.{sum_by-cons}
use Rattle.std.proofs.Math.Path.{fun_ext}
use Rattle.spv_module.specs.Operand.{Plain, OfType, Result, Id, Word, Argument, Mention, PlainInst}
use Rattle.spv_module.specs.declared.opcode.TheConstants.{EXT_INST, EXT_INST_IMPORT}
use Rattle.spv_extended.specs.declared.set.Set.{Set}
use Rattle.spv_extended.specs.declared.set.Set.TheVariants.{OpenClStd, OpenClDebugInfo, DebugInfo, Other}
use Rattle.spv_extended.specs.declared.signature.Signature.{Signature}
use Rattle.spv_extended.specs.Facts.{signature_of, is_literal}
use Rattle.spv_extended.specs.Sets.{set_in, import_in, imported_by, or_later}
use Rattle.spv_extended.specs.Opened.{opened, opened_id, opened_operand, opened_from, opened_operands, opened_inst}

count_from : (set : Set) (s : Signature) (place : ℕ) (os : List Plain) → length (opened_from set s place os) ≡ length os
count_from set s place [] = refl
count_from set s place (o ∷ os) = ap suc (count_from set s (suc place) os)

pub same_count : (sets : ℕ → Set) (os : List Plain) → length (opened_operands sets os) ≡ length os
same_count sets (OfType t ∷ Result x ∷ Id set ∷ Word number ∷ os) =
    ap (λ n. suc (suc (suc (suc n)))) (count_from (sets set) (signature_of (sets set) number) 0 os)
same_count sets os = refl

pub same_opcode : (sets : ℕ → Set) (i : PlainInst) → (opened_inst sets i).opcode ≡ i.opcode
same_opcode sets i = by (nat_eq i.opcode EXT_INST)
  where
    by : (b : Bool) → (if b then record { opcode = i.opcode; operands = opened_operands sets i.operands } else i).opcode ≡ i.opcode
    by true = refl
    by false = refl

pub same_length : (sets : ℕ → Set) (i : PlainInst) → length (opened_inst sets i).operands ≡ length i.operands
same_length sets i = by (nat_eq i.opcode EXT_INST)
  where
    by : (b : Bool) → length (if b then record { opcode = i.opcode; operands = opened_operands sets i.operands } else i).operands ≡ length i.operands
    by true = same_count sets i.operands
    by false = refl

-- a sum over operands where ids that are looked at count as other ids do
sum_from : (measure : Plain → ℕ) → ((x : ℕ) → measure (Argument x) ≡ measure (Id x)) → ((x : ℕ) → measure (Mention x) ≡ measure (Id x))
    → (set : Set) (s : Signature) (place : ℕ) (os : List Plain) → sum_by measure (opened_from set s place os) ≡ sum_by measure os
sum_from measure a m set s place [] = refl
sum_from measure a m set s place (o ∷ os) =
    sum_by-cons measure (if is_literal s place then o else opened_operand set o) (opened_from set s (suc place) os)
    ∙ ap (λ n. n + sum_by measure (opened_from set s (suc place) os)) (told (is_literal s place)) ∙ ap (λ n. measure o + n) (sum_from measure a m set s (suc place) os)
    ∙ sym (sum_by-cons measure o os)
  where
    of_id : (set : Set) (x : ℕ) → measure (opened_id set x) ≡ measure (Id x)
    of_id OpenClStd x = a x
    of_id OpenClDebugInfo x = m x
    of_id DebugInfo x = m x
    of_id Other x = m x

    one : (p : Plain) → measure (opened_operand set p) ≡ measure p
    one (Id x) = of_id set x
    one p = refl

    told : (b : Bool) → measure (if b then o else opened_operand set o) ≡ measure o
    told true = refl
    told false = one o

sum_operands : (measure : Plain → ℕ) → ((x : ℕ) → measure (Argument x) ≡ measure (Id x)) → ((x : ℕ) → measure (Mention x) ≡ measure (Id x))
    → (sets : ℕ → Set) (os : List Plain) → sum_by measure (opened_operands sets os) ≡ sum_by measure os
sum_operands measure a m sets (OfType t ∷ Result x ∷ Id set ∷ Word number ∷ os) =
    let ps = opened_from (sets set) (signature_of (sets set) number) 0 os in
    let e = sum_from measure a m (sets set) (signature_of (sets set) number) 0 os in
    more (OfType t) (Result x ∷ Id set ∷ Word number ∷ ps) (Result x ∷ Id set ∷ Word number ∷ os)
    (more (Result x) (Id set ∷ Word number ∷ ps) (Id set ∷ Word number ∷ os) (more (Id set) (Word number ∷ ps) (Word number ∷ os) (more (Word number) ps os e)))
  where
    more : (o : Plain) (ps qs : List Plain) → sum_by measure ps ≡ sum_by measure qs → sum_by measure (o ∷ ps) ≡ sum_by measure (o ∷ qs)
    more o ps qs e = sum_by-cons measure o ps ∙ ap (λ n. measure o + n) e ∙ sym (sum_by-cons measure o qs)
sum_operands measure a m sets os = refl

pub same_sum : (measure : Plain → ℕ) → ((x : ℕ) → measure (Argument x) ≡ measure (Id x)) → ((x : ℕ) → measure (Mention x) ≡ measure (Id x))
    → (sets : ℕ → Set) (i : PlainInst) → sum_by measure (opened_inst sets i).operands ≡ sum_by measure i.operands
same_sum measure a m sets i = by (nat_eq i.opcode EXT_INST)
  where
    by : (b : Bool) → sum_by measure (if b then record { opcode = i.opcode; operands = opened_operands sets i.operands } else i).operands ≡ sum_by measure i.operands
    by true = sum_operands measure a m sets i.operands
    by false = refl

pub same_all : (A : Type 0) (p : PlainInst → A) (f : PlainInst → PlainInst) → ((i : PlainInst) → p (f i) ≡ p i) → (is : List PlainInst) → map p (map f is) ≡ map p is
same_all A p f h [] = refl
same_all A p f h (i ∷ is) = ap (λ a. a ∷ map p (map f is)) (h i) ∙ ap (λ bs. p i ∷ bs) (same_all A p f h is)

-- an id that was opened is no id any more
id_again : (set : Set) (x : ℕ) (to : Set) → opened_operand to (opened_id set x) ≡ opened_id set x
id_again OpenClStd x to = refl
id_again OpenClDebugInfo x to = refl
id_again DebugInfo x to = refl
id_again Other x to = refl

operand_again : (set : Set) (o : Plain) → opened_operand set (opened_operand set o) ≡ opened_operand set o
operand_again set (Id x) = id_again set x set
operand_again set o = refl

place_again : (set : Set) (o : Plain) (b : Bool) → (if b then (if b then o else opened_operand set o) else opened_operand set (if b then o else opened_operand set o)) ≡ (if b then o else opened_operand set o)
place_again set o true = refl
place_again set o false = operand_again set o

from_again : (set : Set) (s : Signature) (place : ℕ) (os : List Plain) → opened_from set s place (opened_from set s place os) ≡ opened_from set s place os
from_again set s place [] = refl
from_again set s place (o ∷ os) =
    ap (λ p. p ∷ opened_from set s (suc place) (opened_from set s (suc place) os)) (place_again set o (is_literal s place))
    ∙ ap (λ ps. (if is_literal s place then o else opened_operand set o) ∷ ps) (from_again set s (suc place) os)

operands_again : (sets : ℕ → Set) (os : List Plain) → opened_operands sets (opened_operands sets os) ≡ opened_operands sets os
operands_again sets (OfType t ∷ Result x ∷ Id set ∷ Word number ∷ os) =
    ap (λ ps. OfType t ∷ Result x ∷ Id set ∷ Word number ∷ ps) (from_again (sets set) (signature_of (sets set) number) 0 os)
operands_again sets os = refl

inst_again : (sets : ℕ → Set) (n : ℕ) (os : List Plain) → opened_inst sets (opened_inst sets (record { opcode = n; operands = os })) ≡ opened_inst sets (record { opcode = n; operands = os })
inst_again sets n os = by (nat_eq n EXT_INST) refl
  where
    by : (b : Bool) → nat_eq n EXT_INST ≡ b → opened_inst sets (if b then record { opcode = n; operands = opened_operands sets os } else record { opcode = n; operands = os })
        ≡ (if b then record { opcode = n; operands = opened_operands sets os } else record { opcode = n; operands = os })
    by true e =
        ap (λ c. let i : PlainInst = record { opcode = n; operands = opened_operands sets os } in let j : PlainInst = record { opcode = n; operands = opened_operands sets (opened_operands sets os) } in if c then j else i) e
        ∙ ap (λ ps. let j : PlainInst = record { opcode = n; operands = ps } in j) (operands_again sets os)
    by false e = ap (λ c. let i : PlainInst = record { opcode = n; operands = os } in let j : PlainInst = record { opcode = n; operands = opened_operands sets os } in if c then j else i) e

-- an OpExtInst is no import
same_import : (sets : ℕ → Set) (n : ℕ) (os : List Plain) → imported_by (opened_inst sets (record { opcode = n; operands = os })) ≡ imported_by (record { opcode = n; operands = os })
same_import sets n os = by (nat_eq n EXT_INST) refl
  where
    by : (b : Bool) → nat_eq n EXT_INST ≡ b → imported_by (if b then record { opcode = n; operands = opened_operands sets os } else record { opcode = n; operands = os }) ≡ imported_by (record { opcode = n; operands = os })
    by true e =
        let no : nat_eq n EXT_INST_IMPORT ≡ false = grind (arith, nat_tests) in
        ap (λ c. if c then import_in (opened_operands sets os) else None) no ∙ sym (ap (λ c. if c then import_in os else None) no)
    by false e = refl

pub same_sets : (sets : ℕ → Set) (is : List PlainInst) (x : ℕ) → set_in (map (opened_inst sets) is) x ≡ set_in is x
same_sets sets [] x = refl
same_sets sets (i ∷ is) x =
    ap (λ o. or_later x o (set_in (map (opened_inst sets) is) x)) (same_import sets i.opcode i.operands) ∙ ap (or_later x (imported_by i)) (same_sets sets is x)

all_again : (sets : ℕ → Set) (is : List PlainInst) → map (opened_inst sets) (map (opened_inst sets) is) ≡ map (opened_inst sets) is
all_again sets [] = refl
all_again sets (i ∷ is) =
    ap (λ j. j ∷ map (opened_inst sets) (map (opened_inst sets) is)) (inst_again sets i.opcode i.operands) ∙ ap (λ js. opened_inst sets i ∷ js) (all_again sets is)

pub opened_same : (f g : ℕ → Set) (is : List PlainInst) → ((x : ℕ) → f x ≡ g x) → map (opened_inst f) is ≡ map (opened_inst g) is
opened_same f g is h = ap (λ (k : ℕ → Set). map (opened_inst k) is) (fun_ext h)

pub opened_again : (is : List PlainInst) → opened (opened is) ≡ opened is
opened_again is =
    opened_same (set_in (map (opened_inst (set_in is)) is)) (set_in is) (map (opened_inst (set_in is)) is) (same_sets (set_in is) is) ∙ all_again (set_in is) is
