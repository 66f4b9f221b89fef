-- What is kept of definitions, one instruction on.
use Rattle.std.proofs.Common.{◌≡◌, ◌∙◌, ◌<◌, ◌≤◌, ◌+◌, ◌⊎◌, ℕ, List, refl, sym, ap, inl, inr, Option, Some, None, Bool}
use Rattle.std.proofs.Common.{cond, true, false, arith}
use Rattle.std.specs.Prelude.{slice_get, nat_eq}
use Rattle.std.proofs.lemmas.Bool.{cases_eq}
use Rattle.std.proofs.lemmas.Bool.Decides.{nat_tests}
use Rattle.spv_module.specs.Operand.{Plain, PlainInst, OfType, Id, result_in}
use Rattle.spv_module.specs.Operand as operand
use Rattle.spv_module.specs.declared.opcode.TheConstants as opcode
use Rattle.spv_ids.specs.declared.notes.Notes.{Notes}
use Rattle.spv_ids.specs.Definition.{IsDefinedAt}
use Rattle.spv_ids.specs.Order.{Announces}
use Rattle.spv_ids.specs.Broken.{IsOutOfRange}
use Rattle.spv_ids.specs.inner.Notes.{kept}
use Rattle.spv_ids.specs.inner.Known.{IsOneBefore, AreFirst, IsBadResult, IsAsLocal, IsMostLocal, IsLaterOne, AreLater}
use Rattle.spv_ids.specs.inner.Known.{IsAnnouncedBefore, AreAnnounced}
use Rattle.spv_ids.proofs.Defining.{below_or, same_inst, defined_moved, defined_here, not_defined}
use Rattle.spv_ids.specs.inner.Test.{id_in, announced_id}
use Rattle.spv_ids.proofs.Bools.{eq_tells, eq_yes}
use Rattle.spv_ids.proofs.Homes.{as_local_self, as_local_after}

test_same : (y x : ℕ) → y ≡ x → nat_eq y x ≡ true
test_same y x e = grind (arith, nat_tests)

test_other : (y x : ℕ) → (y ≡ x → ⊥) → nat_eq y x ≡ false
test_other y x h = grind (arith, nat_tests)

-- what is kept of the id itself, and of another
put_same : (d e : Notes) (y n x : ℕ) → ((z : ℕ) → kept e z ≡ cond (nat_eq y z) (Some n) (kept d z)) → y ≡ x
    → kept e x ≡ Some n
put_same d e y n x u h = u x ∙ ap (λ b. cond b (Some n) (kept d x)) (test_same y x h)

put_other : (d e : Notes) (y n x : ℕ) → ((z : ℕ) → kept e z ≡ cond (nat_eq y z) (Some n) (kept d z)) → (y ≡ x → ⊥)
    → kept e x ≡ kept d x
put_other d e y n x u h = u x ∙ ap (λ b. cond b (Some n) (kept d x)) (test_other y x h)

-- The first definitions.

pub first_none : (bound : ℕ) (is : List PlainInst) (d : Notes) → ((x : ℕ) → kept d x ≡ None) → AreFirst bound is 0 d
first_none bound is d h =
    record { one = λ x. rw (h x) (λ k l. absurd (omega arith)); range = λ m x l. absurd (omega arith) }

one_other : (is : List PlainInst) (n x : ℕ) (o : Option ℕ) → ¬ (IsDefinedAt is x n) → IsOneBefore is n x o
    → IsOneBefore is (n + 1) x o
one_other is n x None h f =
    λ k l d. elim (below_or k n (omega arith)) [ inl b ↦ f k b d | inr e ↦ h (defined_moved is x k n e d) ]
one_other is n x (Some m) h f =
    let b = f.below in
    record {
      below = omega arith;
      there = f.there;
      only = λ k l d. elim (below_or k n (omega arith)) [
        | inl g ↦ f.only k g d
        | inr e ↦
            absurd (h (defined_moved is x k n e d))
      ];
    }

one_here : (is : List PlainInst) (n x : ℕ) → IsDefinedAt is x n → IsOneBefore is n x None
    → IsOneBefore is (n + 1) x (Some n)
one_here is n x d f = record {
  below = omega arith;
  there = d;
  only = λ k l g. elim (below_or k n (omega arith)) [ inl b ↦ absurd (f k b g) | inr e ↦ e ];
}

range_more : (bound : ℕ) (is : List PlainInst) (n : ℕ) → ((x : ℕ) → IsDefinedAt is x n → ¬ (IsOutOfRange bound x))
    → ((m x : ℕ) → m < n → IsDefinedAt is x m → ¬ (IsOutOfRange bound x))
    → (m x : ℕ) → m < n + 1 → IsDefinedAt is x m → ¬ (IsOutOfRange bound x)
range_more bound is n h f m x l d =
    elim (below_or m n (omega arith)) [ inl b ↦ f m x b d | inr e ↦ h x (defined_moved is x m n e d) ]

pub first_no_result : (bound : ℕ) (is : List PlainInst) (n : ℕ) (i : PlainInst) (d : Notes) → slice_get is n ≡ Some i
    → None ≡ result_in i.operands → AreFirst bound is n d → AreFirst bound is (n + 1) d
first_no_result bound is n i d h g f = record {
  one = λ x. one_other is n x (kept d x) (not_defined is n x i None h g (λ e. cc)) (f.one x);
  range = range_more bound is n (λ x e. absurd (not_defined is n x i None h g (λ q. cc) e)) f.range;
}

one_by : (is : List PlainInst) (n y x : ℕ) (i : PlainInst) (d e : Notes) → slice_get is n ≡ Some i
    → Some y ≡ result_in i.operands → kept d y ≡ None
    → ((z : ℕ) → kept e z ≡ cond (nat_eq y z) (Some n) (kept d z)) → IsOneBefore is n x (kept d x)
    → (y ≡ x) ⊎ (y ≡ x → ⊥) → IsOneBefore is (n + 1) x (kept e x)
one_by is n y x i d e h g k u f (inl s) =
    let k' : kept d x ≡ None = rw s at k in
    let f' = rw k' at f in
    let g' : Some x ≡ result_in i.operands = rw s at g in
    rw (put_same d e y n x u s) (one_here is n x (defined_here is n x i h g') f')
one_by is n y x i d e h g k u f (inr s) =
    rw (put_other d e y n x u s) (one_other is n x (kept d x) (not_defined is n x i (Some y) h g (λ q. s cc)) f)

pub first_result : (bound : ℕ) (is : List PlainInst) (n y : ℕ) (i : PlainInst) (d e : Notes) → slice_get is n ≡ Some i
    → Some y ≡ result_in i.operands → (IsOutOfRange bound y → ⊥) → kept d y ≡ None
    → ((z : ℕ) → kept e z ≡ cond (nat_eq y z) (Some n) (kept d z)) → AreFirst bound is n d → AreFirst bound is (n + 1) e
first_result bound is n y i d e h g r k u f = record {
  one = λ x. one_by is n y x i d e h g k u (f.one x) (cases_eq y x);
  range = range_more bound is n (λ x q o. elim
      (cases_eq y x) [ inl s ↦ r (rw s o) | inr s ↦ not_defined is n x i (Some y) h g (λ z. s cc) q ]) f.range;
}

pub bad_range : (bound : ℕ) (is : List PlainInst) (n y : ℕ) (i : PlainInst) → slice_get is n ≡ Some i
    → Some y ≡ result_in i.operands → IsOutOfRange bound y → IsBadResult bound is n
bad_range bound is n y i h g o = record { id = y; there = defined_here is n y i h g; bad = inl o }

again_by : (is : List PlainInst) (n y : ℕ) (o : Option ℕ) → IsOneBefore is n y o → (o ≡ None → ⊥)
    → (m : ℕ) × (m < n) × IsDefinedAt is y m
again_by is n y None f h = absurd (h refl)
again_by is n y (Some m) f h = (m, f.below, f.there)

pub bad_again : (bound : ℕ) (is : List PlainInst) (n y : ℕ) (i : PlainInst) (d : Notes) → slice_get is n ≡ Some i
    → Some y ≡ result_in i.operands → AreFirst bound is n d → (kept d y ≡ None → ⊥) → IsBadResult bound is n
bad_again bound is n y i d h g f k =
    record { id = y; there = defined_here is n y i h g; bad = inr (again_by is n y (kept d y) (f.one y) k) }

-- The later definitions.

pub later_none : (is : List PlainInst) (from to : ℕ) (d : Notes) → to ≤ from → ((x : ℕ) → kept d x ≡ None)
    → AreLater is from to d
later_none is from to d l h = record { each = λ x. rw (h x) (λ k a b. absurd (omega arith)) }

later_other : (is : List PlainInst) (from n x : ℕ) (o : Option ℕ) → ¬ (IsDefinedAt is x n) → IsLaterOne is from n x o
    → IsLaterOne is from (n + 1) x o
later_other is from n x None h f =
    λ k a b d. elim (below_or k n (omega arith)) [ inl l ↦ f k a l d | inr e ↦ h (defined_moved is x k n e d) ]
later_other is from n x (Some m) h f =
    let b = f.below in
    record {
      above = f.above;
      below = omega arith;
      there = f.there;
      most = λ k a l d. elim (below_or k n (omega arith)) [
        | inl g ↦ f.most k a g d
        | inr e ↦
            absurd (h (defined_moved is x k n e d))
      ];
    }

as_local_moved : (is : List PlainInst) (from m k n : ℕ) → k ≡ n → IsAsLocal is from m n → IsAsLocal is from m k
as_local_moved is from m k n e h = rw e h

later_here : (is : List PlainInst) (from n x : ℕ) → from ≤ n → IsDefinedAt is x n
    → ((k : ℕ) → from ≤ k → k < n → ¬ (IsDefinedAt is x k)) → IsMostLocal is from (n + 1) x n
later_here is from n x l d f = record {
  above = l;
  below = omega arith;
  there = d;
  most = λ k a b g. elim (below_or k n (omega arith)) [
    | inl h ↦ absurd (f k a h g)
    | inr e ↦
        as_local_moved is from n k n e (as_local_self is from n)
  ];
}

later_better : (is : List PlainInst) (from n x m : ℕ) → from ≤ n → IsDefinedAt is x n → IsAsLocal is from n m
    → IsMostLocal is from n x m → IsMostLocal is from (n + 1) x n
later_better is from n x m l d a f = record {
  above = l;
  below = omega arith;
  there = d;
  most = λ k b c g. elim (below_or k n (omega arith)) [
    | inl h ↦
        as_local_after is from n m k a (f.most k b h g)
    | inr e ↦
        as_local_moved is from n k n e (as_local_self is from n)
  ];
}

later_same : (is : List PlainInst) (from n x m : ℕ) → IsAsLocal is from m n → IsMostLocal is from n x m
    → IsMostLocal is from (n + 1) x m
later_same is from n x m a f =
    let b = f.below in
    record {
      above = f.above;
      below = omega arith;
      there = f.there;
      most = λ k l h g. elim (below_or k n (omega arith)) [
        | inl q ↦ f.most k l q g
        | inr e ↦
            as_local_moved is from m k n e a
      ];
    }

-- no other id has the result of the instruction
other_undefined : (is : List PlainInst) (n y x : ℕ) → (y ≡ x → ⊥) → IsDefinedAt is y n → ¬ (IsDefinedAt is x n)
other_undefined is n y x h a b =
    let e : a.inst ≡ b.inst = same_inst is n a.inst b.inst a.there b.there in
    let r = rw e at a.result in
    let q = b.result in
    h cc

later_put_by : (is : List PlainInst) (from n y x : ℕ) (d e : Notes) → from ≤ n → IsDefinedAt is y n
    → IsMostLocal is from (n + 1) y n
    → ((z : ℕ) → kept e z ≡ cond (nat_eq y z) (Some n) (kept d z)) → IsLaterOne is from n x (kept d x)
    → (y ≡ x) ⊎ (y ≡ x → ⊥) → IsLaterOne is from (n + 1) x (kept e x)
later_put_by is from n y x d e l g m u f (inl s) = let m' : IsMostLocal is from (n + 1) x n = rw s at m in
    rw (put_same d e y n x u s) m'
later_put_by is from n y x d e l g m u f (inr s) =
    rw (put_other d e y n x u s) (later_other is from n x (kept d x) (other_undefined is n y x s g) f)

later_put : (is : List PlainInst) (from n y : ℕ) (d e : Notes) → from ≤ n → IsDefinedAt is y n
    → IsMostLocal is from (n + 1) y n
    → ((z : ℕ) → kept e z ≡ cond (nat_eq y z) (Some n) (kept d z)) → AreLater is from n d → AreLater is from (n + 1) e
later_put is from n y d e l g m u f =
    record { each = λ x. later_put_by is from n y x d e l g m u (f.each x) (cases_eq y x) }

pub later_put_first : (is : List PlainInst) (from n y : ℕ) (d e : Notes) → kept d y ≡ None → from ≤ n
    → IsDefinedAt is y n
    → ((z : ℕ) → kept e z ≡ cond (nat_eq y z) (Some n) (kept d z)) → AreLater is from n d → AreLater is from (n + 1) e
later_put_first is from n y d e k l g u f = let f' = rw k at (f.each y) in
    later_put is from n y d e l g (later_here is from n y l g f') u f

pub later_put_better : (is : List PlainInst) (from n y m : ℕ) (d e : Notes) → kept d y ≡ Some m → from ≤ n
    → IsDefinedAt is y n → (IsDefinedAt is y m → IsAsLocal is from n m)
    → ((z : ℕ) → kept e z ≡ cond (nat_eq y z) (Some n) (kept d z)) → AreLater is from n d → AreLater is from (n + 1) e
later_put_better is from n y m d e k l g a u f = let f' = rw k at (f.each y) in
    later_put is from n y d e l g (later_better is from n y m l g (a f'.there) f') u f

later_keep_by : (is : List PlainInst) (from n y x m : ℕ) (d : Notes) → kept d y ≡ Some m → IsDefinedAt is y n
    → IsAsLocal is from m n → IsLaterOne is from n x (kept d x) → (y ≡ x) ⊎ (y ≡ x → ⊥)
    → IsLaterOne is from (n + 1) x (kept d x)
later_keep_by is from n y x m d k g a f (inl s) = let k' : kept d x ≡ Some m = rw s at k in let f' = rw k' at f in
    rw k' (later_same is from n x m a f')
later_keep_by is from n y x m d k g a f (inr s) = later_other is from n x (kept d x) (other_undefined is n y x s g) f

pub later_keep : (is : List PlainInst) (from n y m : ℕ) (d : Notes) → kept d y ≡ Some m → IsDefinedAt is y n
    → (IsDefinedAt is y m → IsAsLocal is from m n) → AreLater is from n d → AreLater is from (n + 1) d
later_keep is from n y m d k g a f = let f' = rw k at (f.each y) in
    record { each = λ x. later_keep_by is from n y x m d k g (a f'.there) (f.each x) (cases_eq y x) }

pub later_no_result : (is : List PlainInst) (from n : ℕ) (i : PlainInst) (d : Notes) → slice_get is n ≡ Some i
    → None ≡ result_in i.operands → AreLater is from n d → AreLater is from (n + 1) d
later_no_result is from n i d h g f =
    record { each = λ x. later_other is from n x (kept d x) (not_defined is n x i None h g (λ e. cc)) (f.each x) }

-- The ids that are announced.

pub announced_none : (is : List PlainInst) (d : Notes) → ((x : ℕ) → kept d x ≡ None) → AreAnnounced is 0 d
announced_none is d h = record { each = λ x. rw (h x) (λ k l. absurd (omega arith)) }

pub announces_moved : (is : List PlainInst) (x m n : ℕ) → m ≡ n → Announces is m x → Announces is n x
announces_moved is x m n e a = rw (← e) a

announced_other : (is : List PlainInst) (n x : ℕ) (o : Option ℕ) → ¬ (Announces is n x) → IsAnnouncedBefore is n x o
    → IsAnnouncedBefore is (n + 1) x o
announced_other is n x None h f =
    λ k l a. elim (below_or k n (omega arith)) [ inl b ↦ f k b a | inr e ↦ h (announces_moved is x k n e a) ]
announced_other is n x (Some m) h f = let b = f.below in record { below = omega arith; there = f.there }

pub announced_nothing : (is : List PlainInst) (n : ℕ) (d : Notes) → ((x : ℕ) → ¬ (Announces is n x))
    → AreAnnounced is n d → AreAnnounced is (n + 1) d
announced_nothing is n d h f = record { each = λ x. announced_other is n x (kept d x) (h x) (f.each x) }

announces_by : (i : PlainInst) (o : Option Plain) (x : ℕ) → id_in o ≡ Some x → o ≡ Some (Id x)
announces_by i None x h = cc
announces_by i (Some (Id y)) x h = let e : y ≡ x = cc in rw e refl
announces_by i (Some (OfType y)) x h = cc
announces_by i (Some (operand.Result y)) x h = cc
announces_by i (Some (operand.Word y)) x h = cc
announces_by i (Some (operand.Argument y)) x h = cc
announces_by i (Some (operand.Mention y)) x h = cc
announces_by i (Some (operand.Number a b c)) x h = cc
announces_by i (Some (operand.Text t)) x h = cc
announces_by i (Some (operand.Value a b)) x h = cc
announces_by i (Some (operand.Mask a b)) x h = cc

-- the id that an instruction names, and that it announces no other
announced_some : (i : PlainInst) (b : Bool) (x : ℕ) → nat_eq i.opcode opcode.TYPE_FORWARD_POINTER ≡ b
    → cond b (id_in (slice_get i.operands 0)) None ≡ Some x
    → (i.opcode ≡ opcode.TYPE_FORWARD_POINTER) × (slice_get i.operands 0 ≡ Some (Id x))
announced_some i true x h g =
    (eq_tells i.opcode opcode.TYPE_FORWARD_POINTER h, announces_by i (slice_get i.operands 0) x g)
announced_some i false x h g = cc

pub announces_id : (is : List PlainInst) (n x : ℕ) (i : PlainInst) → slice_get is n ≡ Some i → Some x ≡ announced_id i
    → Announces is n x
announces_id is n x i h g = let t = announced_some i (nat_eq i.opcode opcode.TYPE_FORWARD_POINTER) x refl (sym g) in
    record { inst = i; there = h; opcode = t.0; named = t.1 }

pub announces_none : (is : List PlainInst) (n : ℕ) (i : PlainInst) → slice_get is n ≡ Some i → None ≡ announced_id i
    → (x : ℕ) → ¬ (Announces is n x)
announces_none is n i h g x a =
    let e : a.inst ≡ i = same_inst is n a.inst i a.there h in
    let o = rw e at a.opcode in
    let m = rw e at a.named in
    let t : announced_id i ≡ Some x = rw (eq_yes i.opcode opcode.TYPE_FORWARD_POINTER o, m) refl in
    cc

announced_by : (is : List PlainInst) (n y x : ℕ) (d e : Notes) → Announces is n y
    → ((z : ℕ) → kept e z ≡ cond (nat_eq y z) (Some n) (kept d z)) → IsAnnouncedBefore is n x (kept d x)
    → (y ≡ x) ⊎ (y ≡ x → ⊥)
    → IsAnnouncedBefore is (n + 1) x (kept e x)
announced_by is n y x d e a u f (inl s) = let a' : Announces is n x = rw s at a in
    rw (put_same d e y n x u s) (record { below = omega arith; there = a' })
announced_by is n y x d e a u f (inr s) =
    rw (put_other d e y n x u s)
    (announced_other is n x (kept d x)
    (λ b. let q : a.inst ≡ b.inst = same_inst is n a.inst b.inst a.there b.there in let r = rw q at a.named in
    let t = b.named in s cc) f)

pub announced_put : (is : List PlainInst) (n y : ℕ) (d e : Notes) → Announces is n y
    → ((z : ℕ) → kept e z ≡ cond (nat_eq y z) (Some n) (kept d z)) → AreAnnounced is n d → AreAnnounced is (n + 1) e
announced_put is n y d e a u f = record { each = λ x. announced_by is n y x d e a u (f.each x) (cases_eq y x) }

pub first_moved : (bound : ℕ) (is : List PlainInst) (m n : ℕ) (d : Notes) → m ≡ n → AreFirst bound is m d
    → AreFirst bound is n d
first_moved bound is m n d e f = rw (← e) f

pub later_moved : (is : List PlainInst) (from m n : ℕ) (d : Notes) → m ≡ n → AreLater is from m d → AreLater is from n d
later_moved is from m n d e f = rw (← e) f
