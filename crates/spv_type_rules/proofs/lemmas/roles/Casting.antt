-- Uses of an instruction and of a module, and whether they are in their roles.
use Rattle.std.proofs.Common.{◌≡◌, ◌<◌, ◌≤◌, ◌+◌, ◌↔◌, ◌⊎◌, inl, inr, ⊎_elim, ℕ, zero, suc, List, [], ◌∷◌, Some, None}
use Rattle.std.proofs.Common.{Bool, true, false, length, refl, sym, ap, ◌∙◌, subst, arith, MatchBool}
use Rattle.std.specs.Prelude.{slice_get, IsTrue, option_map}
use Rattle.std.proofs.lemmas.Bool.{cases_lt}
use Rattle.std.proofs.lemmas.List.{length-map}
use Rattle.std.proofs.lemmas.Option.{slice_get_within, slice_get-map}
use Rattle.spv_table.specs.Table.{Table}
use Rattle.spv_module.specs.Operand.{Plain, PlainInst}
use Rattle.spv_module.specs.Operand as operand
use Rattle.spv_module.specs.declared.operand.Operand.{Operand}
use Rattle.spv_module.specs.Module.{plain_operand, plain_operands}
use Rattle.spv_module.specs.declared.fault.Rule.{Rule}
use Rattle.spv_module.specs.declared.fault.Rule.TheVariants.{Y1}
use Rattle.spv_layout.specs.declared.form.Role.{Role}
use Rattle.spv_layout.specs.declared.form.Form.{Form}
use Rattle.spv_layout.specs.declared.form.Form.TheVariants as form
use Rattle.spv_layout.specs.First.{IsFirst, IsUnbroken, rank_of}
use Rattle.spv_layout.specs.Stage.{of_roles}
use Rattle.spv_layout.specs.Shape.{is_of, AreOf, role_of, id_of, IsUse, IsRole}
use Rattle.spv_layout.proofs.Shapes.{use_same}
use Rattle.spv_type_rules.specs.roles.Role.{Plays}
use Rattle.spv_type_rules.specs.roles.Broken.{Broken}
use Rattle.spv_type_rules.specs.roles.inner.Known.{asked_id, IsInRole, IsMiscast, AreInRoleBefore, HasMiscast}
use Rattle.spv_type_rules.specs.roles.inner.Known.{AreInRoleUpTo, uses_nothing}
use Rattle.spv_type_rules.specs.roles.Outcome.{AreInRole}

form_at : (G : Table) (fs : List Form) (os : List Plain) (n : ℕ) (f : Form) (o : Plain) → AreOf G fs os
    → slice_get fs n ≡ Some f → slice_get os n ≡ Some o → is_of G f o ≡ true
form_at G _ _ n f o AreOf.none h g = cc
form_at G _ _ zero f o (AreOf.more f' o' fs os k r) h g = let a : f' ≡ f = cc in let b : o' ≡ o = cc in rw (← a, ← b) k
form_at G _ _ (suc n) f o (AreOf.more f' o' fs os k r) h g = form_at G fs os n f o r h g

-- a use is no result, and nothing that is named alone
used_by : (G : Table) (f : Form) (o : Plain) (r : Role) (x : ℕ) → is_of G f o ≡ true → role_of f o ≡ Some r
    → id_of o ≡ Some x → asked_id o ≡ Some x
used_by G f (operand.OfType y) r x a b e = e
used_by G f (operand.Id y) r x a b e = e
used_by G form.OfType (operand.Result y) r x a b e = cc
used_by G form.Result (operand.Result y) r x a b e = cc
used_by G form.Word (operand.Result y) r x a b e = cc
used_by G form.Number (operand.Result y) r x a b e = cc
used_by G form.Text (operand.Result y) r x a b e = cc
used_by G (form.Id q) (operand.Result y) r x a b e = cc
used_by G form.Unseen (operand.Result y) r x a b e = cc
used_by G (form.Kind k) (operand.Result y) r x a b e = cc
used_by G form.Other (operand.Result y) r x a b e = cc
used_by G f (operand.Word y) r x a b e = cc
used_by G f (operand.Argument y) r x a b e = e
used_by G form.OfType (operand.Mention y) r x a b e = cc
used_by G form.Result (operand.Mention y) r x a b e = cc
used_by G form.Word (operand.Mention y) r x a b e = cc
used_by G form.Number (operand.Mention y) r x a b e = cc
used_by G form.Text (operand.Mention y) r x a b e = cc
used_by G (form.Id q) (operand.Mention y) r x a b e = cc
used_by G form.Unseen (operand.Mention y) r x a b e = cc
used_by G (form.Kind k) (operand.Mention y) r x a b e = cc
used_by G form.Other (operand.Mention y) r x a b e = cc
used_by G f (operand.Number l h w) r x a b e = cc
used_by G f (operand.Text t) r x a b e = cc
used_by G f (operand.Value k y) r x a b e = cc
used_by G f (operand.Mask k y) r x a b e = cc

pub use_operand : (G : Table) (i : PlainInst) (k x : ℕ) (r : Role) (o : Plain) → IsUse G i k x r
    → slice_get i.operands k ≡ Some o → asked_id o ≡ Some x
use_operand G i k x r o u at =
    let same : u.operand ≡ o = let e : Some u.operand ≡ Some o = sym u.operand_at ∙ at in cc in
    let a = form_at G u.forms i.operands k u.form u.operand u.has.each u.form_at u.operand_at in
    subst (λ p. asked_id p ≡ Some x) same (used_by G u.form u.operand r x a u.role u.id)

-- What is asked of one operand.

pub no_operand : (G : Table) (is : List PlainInst) (i : PlainInst) (k : ℕ) (o : Plain) → slice_get i.operands k ≡ Some o
    → asked_id o ≡ None → IsInRole G is i k
no_operand G is i k o at e = λ x r u. let f = use_operand G i k x r o u at in let wrong : None ≡ Some x = sym e ∙ f in
    cc

pub no_use : (G : Table) (is : List PlainInst) (i : PlainInst) (k : ℕ) → IsRole G i k None → IsInRole G is i k
no_use G is i k never = λ x r u. absurd (never x r u)

pub one_role : (G : Table) (is : List PlainInst) (i : PlainInst) (k id : ℕ) (role : Role) (o : Plain) (b : Bool)
    → slice_get i.operands k ≡ Some o → asked_id o ≡ Some id
    → IsRole G i k (Some role) → (IsTrue b ↔ Plays is role id) → MatchBool b (IsInRole G is i k) (IsMiscast G is i k)
one_role G is i k id role o true at e u p = λ x r v.
    let s = use_same G i k x id r role v (the_use G i k id role o at e u) in
    rw (s.id, s.role) (p.0 refl)
  where
    the_use : (G : Table) (i : PlainInst) (k id : ℕ) (role : Role) (o : Plain) → slice_get i.operands k ≡ Some o
        → asked_id o ≡ Some id → IsRole G i k (Some role) → IsUse G i k id role
    the_use G i k id role o at e u =
        let f = use_operand G i k u.0 role o u.1 at in
        let same : u.0 ≡ id = let g : Some u.0 ≡ Some id = sym f ∙ e in cc in
        subst (λ y. IsUse G i k y role) same u.1
one_role G is i k id role o false at e u p =
    let f = use_operand G i k u.0 role o u.1 at in
    let same : u.0 ≡ id = let g : Some u.0 ≡ Some id = sym f ∙ e in cc in
    record {
      id = id;
      role = role;
      used = subst (λ y. IsUse G i k y role) same u.1;
      not = λ q.
          let wrong : false ≡ true = p.1 q in cc;
    }

-- One operand more, and one instruction more.

pub none_before : (G : Table) (is : List PlainInst) (i : PlainInst) → AreInRoleBefore G is i 0
none_before G is i = record { each = λ k l. absurd (omega arith) }

pub one_before : (G : Table) (is : List PlainInst) (i : PlainInst) (n : ℕ) → IsInRole G is i n
    → AreInRoleBefore G is i n → AreInRoleBefore G is i (n + 1)
one_before G is i n h a = record {
  each = λ k l.
      ⊎_elim
      (λ (b : k < n). a.each k b)
      (λ (b : n ≤ k). let e : k ≡ n = omega arith in subst (λ m. IsInRole G is i m) (sym e) h)
      (cases_lt k n);
}

pub none_up_to : (G : Table) (is : List PlainInst) → AreInRoleUpTo G is 0
none_up_to G is = record { each = λ n k x r l. absurd (omega arith) }

used_within : (G : Table) (i : PlainInst) (k x : ℕ) (r : Role) → IsUse G i k x r → k < length i.operands
used_within G i k x r u = slice_get_within i.operands k u.operand u.operand_at

same_inst : (is : List PlainInst) (n : ℕ) (i j : PlainInst) → slice_get is n ≡ Some i → slice_get is n ≡ Some j → j ≡ i
same_inst is n i j a b = let k : Some j ≡ Some i = sym b ∙ a in cc

pub one_up_to : (G : Table) (is : List PlainInst) (n to : ℕ) (i : PlainInst) → slice_get is n ≡ Some i
    → to ≡ length i.operands → AreInRoleBefore G is i to
    → AreInRoleUpTo G is n → AreInRoleUpTo G is (n + 1)
one_up_to G is n to i at len a h = record {
  each = λ m k x r l u.
      ⊎_elim
      (λ (b : m < n). h.each m k x r b u)
      (λ (b : n ≤ m).
      let e : m ≡ n = omega arith in
      let there : slice_get is n ≡ Some u.inst = rw (← e) u.there in
      let same : u.inst ≡ i = same_inst is n i u.inst at there in
      let v : IsUse G i k x r = subst (λ j. IsUse G j k x r) same u.used in
      a.each k (let w = used_within G i k x r v in omega arith) x r v)
      (cases_lt m n);
}

-- What is answered of the module.

unbroken_at : (G : Table) (is : List PlainInst) → AreInRole G is → (r : Rule) (n : ℕ) → Broken G is r n → ⊥
unbroken_at G is a _ _ (Broken.miscast n k x r u never) = never (a.each n k x r u)

pub unbroken : (G : Table) (is : List PlainInst) → AreInRole G is → IsUnbroken (Broken G is) of_roles
unbroken G is a = λ r n s b. unbroken_at G is a r n b

pub all_in_role : (G : Table) (is : List PlainInst) (to : ℕ) → to ≡ length is → AreInRoleUpTo G is to → AreInRole G is
all_in_role G is to e a =
    record { each = λ n k x r u. a.each n k x r (let l = slice_get_within is n u.inst u.there in omega arith) u }

later : (G : Table) (is : List PlainInst) (n : ℕ) → AreInRoleUpTo G is n → (q : Rule) (m : ℕ) → Broken G is q m
    → (n < m) ⊎ ((n ≡ m) × (rank_of Y1 ≤ rank_of q))
later G is n h _ _ (Broken.miscast m k x r u never) =
    ⊎_elim
    (λ (b : m < n). absurd (never (h.each m k x r b u)))
    (λ (b : n ≤ m).
    ⊎_elim
    (λ (l : n < m). inl l)
    (λ (l : m ≤ n). let e : n ≡ m = omega arith in let f : 20 ≤ 20 = omega arith in inr (e, f))
    (cases_lt n m))
    (cases_lt m n)

pub first_miscast : (G : Table) (is : List PlainInst) (n : ℕ) (i : PlainInst) → slice_get is n ≡ Some i
    → HasMiscast G is i → AreInRoleUpTo G is n → IsFirst (Broken G is) of_roles Y1 n
first_miscast G is n i at m h = record {
  of_stage = refl;
  broken = Broken.miscast n m.place m.miscast.id m.miscast.role
      (record { inst = i; there = at; used = m.miscast.used }) m.miscast.not;
  least = λ q k s b. later G is n h q k b;
}

-- an operand of an instruction, without where it lies
pub operand_at : (os : List Operand) (k : ℕ) (o : Operand) → slice_get os k ≡ Some o
    → slice_get (plain_operands os) k ≡ Some (plain_operand o)
operand_at os k o e = slice_get-map plain_operand os k ∙ ap (option_map plain_operand) e

-- An instruction without operands, and one with an operand alone that is no use.

none_used : (G : Table) (is : List PlainInst) (i : PlainInst) → AreInRoleBefore G is i 0
none_used G is i = record { each = λ k l. absurd (omega arith) }

one_unused : (G : Table) (is : List PlainInst) (i : PlainInst) (o : Plain) → i.operands ≡ o ∷ [] → asked_id o ≡ None
    → AreInRoleBefore G is i 1
one_unused G is i o e u =
    record { each = λ k l. let z : k ≡ 0 = omega arith in rw z (no_operand G is i 0 o (rw e refl) u) }

plain_nothing : (G : Table) (is : List PlainInst) (i : PlainInst) (ps : List Plain) → i.operands ≡ ps
    → uses_nothing ps ≡ true → AreInRoleBefore G is i (length ps)
plain_nothing G is i [] e u = none_used G is i
plain_nothing G is i (operand.Result x ∷ []) e u = one_unused G is i (operand.Result x) e refl
plain_nothing G is i ps e u = cc

pub nothing_used : (G : Table) (is : List PlainInst) (i : PlainInst) (os : List Operand)
    → i.operands ≡ plain_operands os → uses_nothing (plain_operands os) ≡ true → AreInRoleBefore G is i (length os)
nothing_used G is i os e u =
    subst (λ n. AreInRoleBefore G is i n) (length-map os plain_operand) (plain_nothing G is i (plain_operands os) e u)
