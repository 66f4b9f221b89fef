-- The labels among the operands of an instruction, and what they are the results of.
use Rattle.std.proofs.Common.{◌≡◌, ◌≤◌, ◌<◌, ◌∙◌, ℕ, List, Bool, true, Option, Some, None, length, map, get_or, refl}
use Rattle.std.proofs.Common.{sym, ap, subst, arith}
use Rattle.std.specs.Prelude.{slice_get, option_and_then, option_map, MatchOption, IfSome}
use Rattle.std.proofs.lemmas.Bool.{eqb-true}
use Rattle.std.proofs.lemmas.Option.{slice_get-map, slice_get_within, slice_get_past, slice_get_read, slice_get-get_or}
use Rattle.spv_module.specs.declared.opcode.TheConstants as opcode
use Rattle.spv_table.specs.Table.{Table}
use Rattle.spv_module.specs.declared.module.Inst.{Inst}
use Rattle.spv_module.specs.Operand.{PlainInst}
use Rattle.spv_module.specs.Module.{plain_inst}
use Rattle.spv_layout.specs.declared.form.Role.{Role}
use Rattle.spv_layout.specs.declared.form.Role.TheVariants.{Label}
use Rattle.spv_layout.specs.Shape.{IsUse, IsRole, id_of}
use Rattle.spv_layout.specs.Place.{IsOfBlock}
use Rattle.spv_layout.proofs.Shapes.{use_same}
use Rattle.spv_ids.specs.Definition.{IsDefinedAt, IsUsedAt}
use Rattle.spv_ids.specs.Outcome.{IsOnly, IsDefinitionOf, definition_in}
use Rattle.spv_flow.specs.declared.branches.code.Code.{Code}
use Rattle.spv_flow.specs.branches.inner.Code.{insts_of, IsCode}
use Rattle.spv_flow.specs.branches.Target.{is_label, IsOp, IsLabelOf, IsParentAt}

-- a role that is a label is that of a use as a label
pub label_some : (G : Table) (i : PlainInst) (n : ℕ) (o : Option ℕ) → o ≡ option_and_then id_of (slice_get i.operands n)
    → IsRole G i n (Some Label) → MatchOption o ((x : ℕ) → ¬ (IsUse G i n x Label)) (λ x. IsUse G i n x Label)
label_some G i n o e (x, u) =
    let f : o ≡ Some x = e ∙ ap (option_and_then id_of) u.operand_at ∙ u.id in
    rw f u

pub label_other : (G : Table) (i : PlainInst) (n : ℕ) (r : Role) (x : ℕ) → IsRole G i n (Some r) → (r ≡ Label → ⊥)
    → ¬ (IsUse G i n x Label)
label_other G i n r x (y, u) apart w = apart (use_same G i n y x r Label u w).role

-- an instruction of a slice
pub inst_at : (insts : List Inst) (n : ℕ) (i : Inst) → n < length insts → i ≡ get_or insts n i
    → slice_get (map plain_inst insts) n ≡ Some (plain_inst i)
inst_at insts n i lt e =
    slice_get-map plain_inst insts n ∙ ap (option_map plain_inst) (slice_get_read insts (length insts) n i refl lt e)

pub inst_get : (insts : List Inst) (n : ℕ) (d : Inst) → n < length insts
    → slice_get (map plain_inst insts) n ≡ Some (plain_inst (get_or insts n d))
inst_get insts n d lt = slice_get-map plain_inst insts n ∙ ap (option_map plain_inst) (slice_get-get_or insts n d lt)

-- the label of an instruction's block is no later
pub block_within : (is : List PlainInst) (n count : ℕ) (o : Option ℕ) → n < count
    → MatchOption o ((b : ℕ) → ¬ (IsOfBlock is n b)) (λ b. IsOfBlock is n b) → IfSome o (λ b. b < count)
block_within is n count None lt m = tt
block_within is n count (Some b) lt m = let u = m.begun.up_to in omega arith

pub same_inst : (is : List PlainInst) (n : ℕ) (i j : PlainInst) → slice_get is n ≡ Some i → slice_get is n ≡ Some j
    → i ≡ j
same_inst is n i j g h = cc

-- a use of an instruction that is known
pub use_in : (G : Table) (is : List PlainInst) (n k x : ℕ) (r : Role) (i : PlainInst) → slice_get is n ≡ Some i
    → IsUsedAt G is n k x r → IsUse G i k x r
use_in G is n k x r i there u =
    subst (λ (j : PlainInst). IsUse G j k x r) (same_inst is n u.inst i u.there there) u.used

pub use_at : (G : Table) (is : List PlainInst) (n k x : ℕ) (r : Role) (i : PlainInst) → slice_get is n ≡ Some i
    → IsUse G i k x r → IsUsedAt G is n k x r
use_at G is n k x r i there u = record { inst = i; there = there; used = u }

pub one_id : (G : Table) (is : List PlainInst) (n k x y : ℕ) (q r : Role) → IsUsedAt G is n k x q
    → IsUsedAt G is n k y r → x ≡ y
one_id G is n k x y q r u w = (use_same G u.inst k x y q r u.used (use_in G is n k y r u.inst u.there w)).id

-- an operand that is used is there
pub use_within : (G : Table) (i : PlainInst) (k x : ℕ) (r : Role) → IsUse G i k x r → k < length i.operands
use_within G i k x r u = slice_get_within i.operands k u.operand u.operand_at

-- what an opcode tells
pub op_tells : (is : List PlainInst) (n : ℕ) (i : PlainInst) (test : ℕ → Bool) → slice_get is n ≡ Some i
    → IsOp is n test → test i.opcode ≡ true
op_tells is n i test there o = rw there at o

pub op_holds : (is : List PlainInst) (n : ℕ) (i : PlainInst) (test : ℕ → Bool) → slice_get is n ≡ Some i
    → test i.opcode ≡ true → IsOp is n test
op_holds is n i test there t = rw there t

-- the one definition of an id
pub only : (G : Table) (c : Code) (x m : ℕ) → IsCode G c → definition_in c.ids.now x ≡ Some m → IsOnly (insts_of c) x m
only G c x m is e =
    let P : Option ℕ → Type 0 = λ o. IsDefinitionOf (insts_of c) x o in
    subst P e (is.each x)

pub none_defined : (G : Table) (c : Code) (x m : ℕ) → IsCode G c → definition_in c.ids.now x ≡ None
    → ¬ (IsDefinedAt (insts_of c) x m)
none_defined G c x m is e d =
    let P : Option ℕ → Type 0 = λ o. IsDefinitionOf (insts_of c) x o in
    subst P e (is.each x) m d

either : (o : Option ℕ) (P : Option ℕ → Type 0) (Q : Type 0) → (P None → Q) → ((m : ℕ) → P (Some m) → Q) → P o → Q
either None P Q f g h = f h
either (Some m) P Q f g h = g m h

-- an id has one definition at most
pub one_place : (G : Table) (c : Code) (x m n : ℕ) → IsCode G c → IsDefinedAt (insts_of c) x m
    → IsDefinedAt (insts_of c) x n → m ≡ n
one_place G c x m n is d e =
    either (definition_in c.ids.now x) (λ o. IsDefinitionOf (insts_of c) x o) (m ≡ n) (λ none. absurd (none m d))
    (λ k one. one.only m d ∙ sym (one.only n e)) (is.each x)

pub label_here : (G : Table) (c : Code) (x m : ℕ) (i : Inst) → IsCode G c → definition_in c.ids.now x ≡ Some m
    → slice_get (insts_of c) m ≡ Some (plain_inst i) → i.opcode ≡ opcode.LABEL → IsLabelOf (insts_of c) x m
label_here G c x m i is e there op =
    record {
      defined = (only G c x m is e).there;
      label = op_holds (insts_of c) m (plain_inst i) is_label there (ap is_label op);
    }

pub label_not : (G : Table) (c : Code) (x m n : ℕ) (i : Inst) → IsCode G c → definition_in c.ids.now x ≡ Some m
    → slice_get (insts_of c) m ≡ Some (plain_inst i) → (i.opcode ≡ opcode.LABEL → ⊥) → ¬ (IsLabelOf (insts_of c) x n)
label_not G c x m n i is e there op l =
    let same : n ≡ m = (only G c x m is e).only n l.defined in
    let o : IsOp (insts_of c) m is_label = subst (λ (k : ℕ). IsOp (insts_of c) k is_label) same l.label in
    op (eqb-true i.opcode opcode.LABEL (op_tells (insts_of c) m (plain_inst i) is_label there o))

pub label_past : (G : Table) (c : Code) (x m n : ℕ) → IsCode G c → definition_in c.ids.now x ≡ Some m
    → length c.insts.now ≤ m → ¬ (IsLabelOf (insts_of c) x n)
label_past G c x m n is e past l =
    let d = (only G c x m is e).there in
    let g = slice_get_within (insts_of c) m d.inst d.there in
    let k : slice_get (insts_of c) m ≡ None = slice_get-map plain_inst c.insts.now m
    ∙ ap (option_map plain_inst) (slice_get_past c.insts.now m past) in
    let h = d.there in
    cc

-- a label has one place
pub one_label : (G : Table) (c : Code) (x m n : ℕ) → IsCode G c → IsLabelOf (insts_of c) x m
    → IsLabelOf (insts_of c) x n → m ≡ n
one_label G c x m n is l k = one_place G c x m n is l.defined k.defined

-- an operand names one parent
pub one_parent : (G : Table) (c : Code) (at k x p q : ℕ) → IsCode G c → IsUsedAt G (insts_of c) at k x Label
    → IsLabelOf (insts_of c) x p → IsParentAt G (insts_of c) at k q → q ≡ p
one_parent G c at k x p q is used label parent =
    let e : parent.id ≡ x = one_id G (insts_of c) at k parent.id x Label Label parent.used used in
    one_label G c x q p is (subst (λ (y : ℕ). IsLabelOf (insts_of c) y q) e parent.label) label
