-- The ids that instructions announce.
use Rattle.std.proofs.Common.{◌≡◌, ◌+◌, ◌∙◌, ℕ, List, Bool, true, false, cond, Option, Some, None, refl, sym, subst}
use Rattle.std.proofs.Common.{arith, nat_eq}
use Rattle.std.specs.Prelude.{slice_get}
use Rattle.std.proofs.lemmas.Bool.Decides.{nat_tests}
use Rattle.spv_module.specs.Operand.{Plain, PlainInst, Id}
use Rattle.spv_module.specs.declared.opcode.TheConstants as opcode
use Rattle.spv_ids.specs.Order.{Announces}
use Rattle.spv_ids.specs.inner.Test.{id_in, announced_id}
use Rattle.spv_form_evidence.specs.declared.ids.kept.Kept.{Kept}
use Rattle.spv_form_evidence.specs.ids.inner.Known.{kept, Puts}
use Rattle.spv_form_evidence.specs.ids.inner.Order.{IsAnnouncedBefore, AreAnnounced}
use Rattle.spv_form_evidence.proofs.lemmas.ids.Using.{same_inst}
use Rattle.spv_form_evidence.proofs.lemmas.ids.Keeping.{below_or, kept_on, kept_put}

eq_tells : (a b : ℕ) → nat_eq a b ≡ true → a ≡ b
eq_tells a b h = grind (arith, nat_tests)

eq_yes : (a b : ℕ) → a ≡ b → nat_eq a b ≡ true
eq_yes a b h = grind (arith, nat_tests)

id_is : (o : Option Plain) (x : ℕ) → id_in o ≡ Some x → o ≡ Some (Id x)
id_is (Some (Id y)) x h = let e : y ≡ x = cc in rw e refl
id_is _ x h = cc

-- the id that an instruction names, and that it announces no other
named : (i : PlainInst) (b : Bool) (x : ℕ) → nat_eq i.opcode opcode.TYPE_FORWARD_POINTER ≡ b
    → cond b (id_in (slice_get i.operands 0)) None ≡ Some x
    → (i.opcode ≡ opcode.TYPE_FORWARD_POINTER) × (slice_get i.operands 0 ≡ Some (Id x))
named i true x h g = (eq_tells i.opcode opcode.TYPE_FORWARD_POINTER h, id_is (slice_get i.operands 0) x g)
named i false x h g = cc

announces : (is : List PlainInst) (n x : ℕ) (i : PlainInst) → slice_get is n ≡ Some i → announced_id i ≡ Some x
    → Announces is n x
announces is n x i h g = let t = named i (nat_eq i.opcode opcode.TYPE_FORWARD_POINTER) x refl g in
    record { inst = i; there = h; opcode = t.0; named = t.1 }

announced_by : (is : List PlainInst) (n x : ℕ) (i : PlainInst) → slice_get is n ≡ Some i → Announces is n x
    → announced_id i ≡ Some x
announced_by is n x i h a =
    let e : a.inst ≡ i = same_inst is n a.inst i a.there h in
    let o = rw e at a.opcode in
    let m = rw e at a.named in
    rw (eq_yes i.opcode opcode.TYPE_FORWARD_POINTER o, m) refl

-- One instruction more.

announced_other : (is : List PlainInst) (n x : ℕ) (o : Option ℕ) → ¬ (Announces is n x) → IsAnnouncedBefore is n x o
    → IsAnnouncedBefore is (n + 1) x o
announced_other is n x None h f = λ k l a. below_or ⊥ k n l (λ b. f k b a) (λ e. h (subst (λ m. Announces is m x) e a))
announced_other is n x (Some m) h f = let b = f.below in record { below = omega arith; there = f.there }

pub announced_put : (bound : ℕ) (is : List PlainInst) (n id : ℕ) (i : PlainInst) (l m : Kept) → slice_get is n ≡ Some i
    → announced_id i ≡ Some id → Puts l m id n → AreAnnounced bound is n l
    → AreAnnounced bound is (n + 1) m
announced_put bound is n id i l m t r p a =
    kept_put bound (IsAnnouncedBefore is n) (IsAnnouncedBefore is (n + 1)) l m id n p a
    (λ x e p. announced_other is n x (kept l x)
    (λ d. let q = announced_by is n x i t d in let s : Some x ≡ Some id = sym q ∙ r in e cc) p)
    (record { below = omega arith; there = announces is n id i t r })

pub announced_nothing : (bound : ℕ) (is : List PlainInst) (n : ℕ) (i : PlainInst) (l : Kept) → slice_get is n ≡ Some i
    → announced_id i ≡ None → AreAnnounced bound is n l → AreAnnounced bound is (n + 1) l
announced_nothing bound is n i l t r a =
    kept_on bound (IsAnnouncedBefore is n) (IsAnnouncedBefore is (n + 1)) l a
    (λ x b p. announced_other is n x (kept l x)
    (λ d. let q = announced_by is n x i t d in let s : Some x ≡ None = sym q ∙ r in cc) p)
