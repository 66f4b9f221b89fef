-- From function to function.
use Rattle.std.proofs.Common.{◌≡◌, ◌<◌, ◌≤◌, ◌+◌, ℕ, List, Some, None, length, refl, subst, inl, inr, arith}
use Rattle.std.specs.Prelude.{slice_get}
use Rattle.std.proofs.lemmas.Bool.{cases_lt, cases_order, eqb-true}
use Rattle.spv_module.specs.declared.opcode.TheConstants as opcode
use Rattle.spv_module.specs.declared.fault.Rule.{Rule}
use Rattle.spv_table.specs.Table.{Table}
use Rattle.spv_module.specs.Operand.{PlainInst}
use Rattle.spv_layout.specs.Stage.{of_standard}
use Rattle.spv_layout.specs.First.{stage_of}
use Rattle.spv_layout.specs.Place.{IsOfFunction}
use Rattle.spv_flow.specs.branches.Target.{IsOp}
use Rattle.spv_flow.specs.branches.inner.Target.{is_function}
use Rattle.spv_flow.specs.declared.walks.code.Code.{Code}
use Rattle.spv_flow.specs.walks.inner.Code.{insts_of, IsCode}
use Rattle.spv_flow.specs.walks.inner.Starts.{IsExtent}
use Rattle.spv_flow.proofs.lemmas.branches.Labelled.{op_tells}
use Rattle.spv_flow.proofs.lemmas.walks.Alone.{function_op}
use Rattle.spv_flow.proofs.lemmas.walks.Deciding.{walk_within}
use Rattle.spv_block_order.specs.declared.faults.Found.{Found}
use Rattle.spv_block_order.specs.Broken.{Broken}
use Rattle.spv_block_order.specs.inner.First.{IsFoundIn, IsFoundFirst, IsFirstFound}
use Rattle.spv_block_order.specs.inner.Rising.{IsSound, IsLate}
use Rattle.spv_block_order.proofs.Standing.{block_function}

-- a rule is broken at instructions of functions alone
broken_function : (G : Table) (c : Code) → IsCode G c → (q : Rule) (n : ℕ) → Broken G (insts_of c) q n
    → (f : ℕ) × IsOfFunction (insts_of c) n f
broken_function G c is _ _ (Broken.early_block n e) =
    (e.0, walk_within G (insts_of c) e.0 e.1.way.past n e.1.way.walk)
broken_function G c is _ _ (Broken.early_use n u) = block_function (insts_of c) n u.block is.plan.layout u.of

broken_stage : (G : Table) (is : List PlainInst) (q : Rule) (n : ℕ) → Broken G is q n → stage_of q ≡ of_standard
broken_stage G is _ _ (Broken.early_block n e) = refl
broken_stage G is _ _ (Broken.early_use n u) = refl

pub broken_there : (G : Table) (is : List PlainInst) (q : Rule) (n : ℕ) → Broken G is q n → n < length is
broken_there G is _ _ (Broken.early_block n e) =
    (walk_within G is e.0 e.1.way.past n e.1.way.walk).begun.within
broken_there G is _ _ (Broken.early_use n u) = u.of.begun.within

-- No rule is broken in the functions whose OpFunction is before instruction n.
pub record AreUnbroken (c : Code) (n : ℕ) : Type 0 where
  pub none : (G : Table) → IsSound G c → (f m : ℕ) (q : Rule) → f < n → IsOfFunction (insts_of c) m f
      → ¬ (Broken G (insts_of c) q m)

pub unbroken_start : (c : Code) → AreUnbroken c c.globals
unbroken_start c = record {
  none = λ G s f m q lt of b. s.code.global f lt (function_op (insts_of c) f of.begun.there);
}

pub unbroken_other : (c : Code) (n : ℕ) (i : PlainInst) → slice_get (insts_of c) n ≡ Some i
    → (i.opcode ≡ opcode.FUNCTION → ⊥) → AreUnbroken c n → AreUnbroken c (n + 1)
unbroken_other c n i there isnt before = record {
  none = λ G s f m q lt of. elim (cases_lt f n) [
    | inl less ↦ before.none G s f m q less of
    | inr more ↦ (
        let e : f ≡ n = omega (arith, lt, more) in
        let op : IsOp (insts_of c) n is_function = subst (λ (k : ℕ). IsOp (insts_of c) k is_function) e
        (function_op (insts_of c) f of.begun.there) in
        absurd (isnt (eqb-true i.opcode opcode.FUNCTION (op_tells (insts_of c) n i is_function there op))))
  ];
}

pub unbroken_more : (c : Code) (n end : ℕ) → IsExtent (insts_of c) n end
    → ((G : Table) → IsSound G c → IsFoundFirst G (insts_of c) n None) → AreUnbroken c n → AreUnbroken c end
unbroken_more c n end x here before = record {
  none = λ G s f m q lt of. elim (cases_order f n) [
    | inl same ↦ here G s q m (subst (λ (k : ℕ). IsOfFunction (insts_of c) m k) same of)
    | inr apart ↦ elim apart [
      | inl less ↦ before.none G s f m q less of
      | inr more ↦ absurd ((x.of f (omega (arith, more)) lt).begun.last f more (omega arith) of.begun.there)
    ]
  ];
}

-- a function in which neither rule is broken at any instruction
pub none_late : (G : Table) (c : Code) (f end : ℕ) → IsExtent (insts_of c) f end
    → ((n : ℕ) → f ≤ n → n < end → IsLate G (insts_of c) n) → IsFoundFirst G (insts_of c) f None
none_late G c f end x late q m of = let r = x.all m of in late m r.0 r.1 q

pub unbroken_all : (c : Code) (n : ℕ) → length (insts_of c) ≤ n → AreUnbroken c n → (G : Table) → IsSound G c
    → IsFirstFound G (insts_of c) None
unbroken_all c n all before G s q m stage b =
    let g = broken_function G c s.code q m b in
    let up = g.1.begun.up_to in
    let within = g.1.begun.within in
    before.none G s g.0 m q (omega (arith, up, within, all)) g.1 b

pub found_first : (c : Code) (f : ℕ) (x : Found) → AreUnbroken c f
    → ((G : Table) → IsSound G c → IsFoundIn G (insts_of c) f x) → (G : Table) → IsSound G c
    → IsFirstFound G (insts_of c) (Some x)
found_first c f x before found G s =
    let here = found G s in
    record {
      of_stage = broken_stage G (insts_of c) x.rule x.inst here.broken;
      broken = here.broken;
      least = λ q m stage b.
          let g = broken_function G c s.code q m b in
          elim (cases_order g.0 f) [
            | inl same ↦ here.least q m (subst (λ (k : ℕ). IsOfFunction (insts_of c) m k) same g.1) b
            | inr apart ↦ elim apart [
              | inl less ↦ absurd (before.none G s g.0 m q less g.1 b)
              | inr more ↦ elim (cases_lt x.inst m) [
                | inl lower ↦ inl lower
                | inr higher ↦ (
                    let up = g.1.begun.up_to in
                    absurd (here.of.begun.last g.0 more (omega (arith, up, higher)) g.1.begun.there))
              ]
            ]
          ];
    }
