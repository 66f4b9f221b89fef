-- The uses of an instruction, operand by operand.
use Rattle.std.proofs.Common.{◌≡◌, ◌<◌, ◌∙◌, ℕ, List, Option, Some, None, refl, length, map, sym, ap, subst, arith}
use Rattle.std.proofs.Common.{get_or}
use Rattle.std.specs.Prelude.{slice_get, option_and_then, MatchOption}
use Rattle.std.proofs.lemmas.List.{length-map}
use Rattle.std.proofs.lemmas.Option.{slice_get_within}
use Rattle.spv_table.specs.Table.{Table}
use Rattle.spv_module.specs.Operand.{Plain, PlainInst}
use Rattle.spv_module.specs.Operand as operand
use Rattle.spv_module.specs.declared.module.Inst.{Inst}
use Rattle.spv_module.specs.Module.{plain_inst}
use Rattle.spv_layout.specs.declared.form.Role.{Role}
use Rattle.spv_layout.specs.Shape.{IsUse, IsRole, id_of}
use Rattle.spv_layout.proofs.Shapes.{use_same}
use Rattle.spv_ids.specs.Definition.{IsMentionedAt}
use Rattle.spv_layout.proofs.Misfits.{inst_there}
use Rattle.spv_type_rules.specs.roles.inner.Known.{asked_id}
use Rattle.spv_type_rules.proofs.lemmas.roles.Casting.{use_operand}
use Rattle.spv_form_evidence.specs.ids.inner.Uses.{HasUse, IsNamedAt, HasNamed, mention_in}

pub use_here : (G : Table) (i : PlainInst) (k id : ℕ) (role : Role)
    → option_and_then id_of (slice_get i.operands k) ≡ Some id → IsRole G i k (Some role) → IsUse G i k id role
use_here G i k id role e u =
    let f : option_and_then id_of (slice_get i.operands k) ≡ Some u.0 = ap (λ o. option_and_then id_of o) u.1.operand_at
    ∙ u.1.id in
    let same : u.0 ≡ id = let g : Some u.0 ≡ Some id = sym f ∙ e in cc in
    subst (λ y. IsUse G i k y role) same u.1

pub no_use_here : (G : Table) (i : PlainInst) (k x : ℕ) (r : Role)
    → option_and_then id_of (slice_get i.operands k) ≡ None → ¬ (IsUse G i k x r)
no_use_here G i k x r e u =
    let f : option_and_then id_of (slice_get i.operands k) ≡ Some x = ap (λ o. option_and_then id_of o) u.operand_at
    ∙ u.id in
    let wrong : None ≡ Some x = sym e ∙ f in
    cc

pub no_use_of : (G : Table) (i : PlainInst) (k x : ℕ) (r : Role) (o : Plain) → slice_get i.operands k ≡ Some o
    → asked_id o ≡ None → ¬ (IsUse G i k x r)
no_use_of G i k x r o at e u = let f = use_operand G i k x r o u at in let wrong : None ≡ Some x = sym e ∙ f in cc

pub used_within : (G : Table) (i : PlainInst) (k x : ℕ) (r : Role) → IsUse G i k x r → k < length i.operands
used_within G i k x r u = slice_get_within i.operands k u.operand u.operand_at

-- a use of which it does not hold, and no use
pub not_such : (G : Table) (i : PlainInst) (P : ℕ → Role → Type 0) (k x : ℕ) (r : Role) → IsUse G i k x r → ¬ (P x r)
    → ¬ (HasUse G i P k)
not_such G i P k x r u n h =
    let s = use_same G i k h.id x h.role r h.used u in
    n (subst (λ y. P y r) s.id (subst (λ q. P h.id q) s.role h.holds))

pub same_inst : (is : List PlainInst) (n : ℕ) (i j : PlainInst) → slice_get is n ≡ Some i → slice_get is n ≡ Some j
    → i ≡ j
same_inst is n i j h g = cc

-- an instruction of a slice, which is the list
pub there : (insts : List Inst) (is : List PlainInst) (n : ℕ) (i : Inst) → map plain_inst insts ≡ is → n < length is
    → i ≡ get_or insts n i → slice_get is n ≡ Some (plain_inst i)
there insts is n i v w e =
    let l = length-map insts plain_inst in
    let a = ap length v in
    rw (← v) (inst_there insts n i (omega arith) e)

-- Ids that operands use or mention.

mention_is : (o : Option Plain) (x : ℕ) → mention_in o ≡ Some x → o ≡ Some (operand.Mention x)
mention_is (Some (operand.Mention y)) x h = let e : y ≡ x = cc in rw e refl
mention_is _ x h = cc

pub named_or_none : (G : Table) (i : PlainInst) (k : ℕ) (o : Option ℕ) → ((x : ℕ) (r : Role) → ¬ (IsUse G i k x r))
    → o ≡ mention_in (slice_get i.operands k)
    → MatchOption o ((x : ℕ) → ¬ (IsNamedAt G i k x)) (λ x. IsNamedAt G i k x)
named_or_none G i k None u e = no_name where
  no_name : (x : ℕ) → ¬ (IsNamedAt G i k x)
  no_name x (IsNamedAt.as_use q w) = u x q w
  no_name x (IsNamedAt.as_mention m) = let wrong : None ≡ Some x = e ∙ ap mention_in m in cc
named_or_none G i k (Some x) u e = IsNamedAt.as_mention (mention_is (slice_get i.operands k) x (sym e))

pub named_there : (G : Table) (i : PlainInst) (k x : ℕ) → IsNamedAt G i k x
    → (o : Plain) × (slice_get i.operands k ≡ Some o)
named_there G i k x (IsNamedAt.as_use q u) = (u.operand, u.operand_at)
named_there G i k x (IsNamedAt.as_mention m) = (operand.Mention x, m)

-- an operand is one id
pub named_told : (G : Table) (i : PlainInst) (k x : ℕ) → IsNamedAt G i k x → (o : Plain)
    → slice_get i.operands k ≡ Some o → id_of o ≡ Some x
named_told G i k x (IsNamedAt.as_use q u) o h =
    let e : u.operand ≡ o = (let p : Some u.operand ≡ Some o = sym u.operand_at ∙ h in cc) in
    subst (λ p. id_of p ≡ Some x) e u.id
named_told G i k x (IsNamedAt.as_mention m) o h =
    let e : operand.Mention x ≡ o = (let q : Some (operand.Mention x) ≡ Some o = sym m ∙ h in cc) in rw (← e) refl

named_same : (G : Table) (i : PlainInst) (k x y : ℕ) → IsNamedAt G i k x → IsNamedAt G i k y → x ≡ y
named_same G i k x y a b =
    let o = named_there G i k x a in
    let p = named_told G i k x a o.0 o.1 in
    let q = named_told G i k y b o.0 o.1 in
    let e : Some x ≡ Some y = sym p ∙ q in
    cc

-- one of which it does not hold
pub not_named : (G : Table) (i : PlainInst) (P : ℕ → Type 0) (k x : ℕ) → IsNamedAt G i k x → ¬ (P x)
    → ¬ (HasNamed G i P k)
not_named G i P k x u n h = n (subst P (named_same G i k h.id x h.named u) h.holds)

pub named_within : (G : Table) (i : PlainInst) (k x : ℕ) → IsNamedAt G i k x → k < length i.operands
named_within G i k x u = let o = named_there G i k x u in slice_get_within i.operands k o.0 o.1

-- a mention by an instruction of a list
pub mention_here : (G : Table) (is : List PlainInst) (n : ℕ) (i : PlainInst) (k x : ℕ) → slice_get is n ≡ Some i
    → IsMentionedAt is n k x → IsNamedAt G i k x
mention_here G is n i k x t m =
    IsNamedAt.as_mention (subst (λ j. slice_get j.operands k ≡ Some (operand.Mention x))
    (same_inst is n m.inst i m.there t) m.named)

-- an operand that is no mention
pub no_mention_of : (is : List PlainInst) (n k x : ℕ) (i : PlainInst) (o : Plain) → slice_get is n ≡ Some i
    → slice_get i.operands k ≡ Some o → mention_in (Some o) ≡ None → ¬ (IsMentionedAt is n k x)
no_mention_of is n k x i o t at e m =
    let v : slice_get i.operands k ≡ Some (operand.Mention x) = subst
    (λ j. slice_get j.operands k ≡ Some (operand.Mention x)) (same_inst is n m.inst i m.there t) m.named in
    let wrong : None ≡ Some x = sym e ∙ ap mention_in (sym at ∙ v) in
    cc
