-- From function to function, and from what is unavailable to the rule that is told.
use Rattle.std.proofs.Common.{◌≡◌, ◌<◌, ◌≤◌, ◌+◌, ◌∙◌, ℕ, List, refl, sym, ap, subst, inl, inr, length, Some, None}
use Rattle.std.proofs.Common.{arith}
use Rattle.std.specs.Prelude.{slice_get}
use Rattle.std.proofs.lemmas.Bool.{cases_lt, cases_order, eqb-true}
use Rattle.std.proofs.lemmas.Option.{slice_get_within}
use Rattle.spv_module.specs.declared.opcode.TheConstants as opcode
use Rattle.spv_table.specs.Table.{Table}
use Rattle.spv_module.specs.Operand.{PlainInst}
use Rattle.spv_module.specs.declared.fault.Rule.{Rule}
use Rattle.spv_module.specs.declared.fault.Stop.{Stop}
use Rattle.spv_module.specs.declared.fault.Stop.TheVariants.{Fault, Memory}
use Rattle.spv_layout.specs.Stage.{of_values}
use Rattle.spv_layout.specs.First.{stage_of, rank_of, IsFirst, IsUnbroken}
use Rattle.spv_layout.specs.Place.{first_word_of, IsOfFunction}
use Rattle.spv_ids.specs.inner.Outcome.{IsStopAt}
use Rattle.spv_flow.specs.branches.Target.{IsOp}
use Rattle.spv_flow.specs.branches.inner.Target.{is_function}
use Rattle.spv_flow.specs.branches.Walk.{IsWalk}
use Rattle.spv_flow.specs.declared.branches.fork.Fork.{Fork}
use Rattle.spv_flow.specs.branches.Broken.{Broken}
use Rattle.spv_flow.proofs.lemmas.branches.Firsts.{holds}
use Rattle.spv_flow.proofs.lemmas.branches.Labelled.{op_tells}
use Rattle.spv_flow.proofs.lemmas.walks.Staged.{IsStaged, staged}
use Rattle.spv_flow.specs.declared.walks.code.Code.{Code}
use Rattle.spv_flow.specs.walks.inner.Code.{insts_of, IsCode}
use Rattle.spv_flow.specs.walks.Found.{IsRefusal}
use Rattle.spv_flow.specs.walks.inner.Starts.{IsExtent}
use Rattle.spv_flow.specs.walks.inner.Unavailable.{IsUnavailableIn, IsFirstIn, IsUnavailableAt, IsFirstOf, IsRuleAt}
use Rattle.spv_flow.proofs.lemmas.walks.Places.{function_at}
use Rattle.spv_flow.proofs.lemmas.walks.Deciding.{walk_within}

-- Nothing is unavailable on walks of the functions whose OpFunction is before instruction n.
pub record AreSound (c : Code) (n : ℕ) : Type 0 where
  pub none : (G : Table) → IsCode G c → (f m : ℕ) → f < n → ¬ (IsUnavailableIn G (insts_of c) f m)

walk_function : (G : Table) (is : List PlainInst) (f : ℕ) (past : List ℕ) (n : ℕ) → IsWalk G is f past n
    → IsOp is f is_function
walk_function G is f _ _ (IsWalk.begins op) = op
walk_function G is f _ _ (IsWalk.goes past n m walk next of) = walk_function G is f past n walk

-- a walk of a function to an instruction at which a value is unavailable
record IsWalked (G : Table) (is : List PlainInst) (f n : ℕ) : Type 0 where
  pub function : IsOp is f is_function
  pub of : IsOfFunction is n f

walked : (G : Table) (is : List PlainInst) (f n : ℕ) → IsUnavailableIn G is f n → IsWalked G is f n
walked G is f n (inl (m, e)) =
    subst (λ (g : ℕ). IsWalked G is g n) e
    (record {
      function = walk_function G is m.function m.past n m.walk;
      of = walk_within G is m.function m.past n m.walk;
    })
walked G is f n (inr (m, e)) =
    subst (λ (g : ℕ). IsWalked G is g n) e
    (record {
      function = walk_function G is m.comes.function m.comes.past n m.comes.walk;
      of = walk_within G is m.comes.function m.comes.past n m.comes.walk;
    })

-- no function begins before the first OpFunction
pub sound_start : (c : Code) → AreSound c c.globals
sound_start c = record {
  none = λ G is f m lt unavailable. is.global f lt
      (walked G (insts_of c) f m unavailable).function;
}

pub sound_other : (c : Code) (n : ℕ) (i : PlainInst) → slice_get (insts_of c) n ≡ Some i
    → (i.opcode ≡ opcode.FUNCTION → ⊥) → AreSound c n → AreSound c (n + 1)
sound_other c n i there isnt before = record {
  none = λ G is f m lt unavailable. elim (cases_lt f n) [
    | inl less ↦ before.none G is f m less unavailable
    | inr more ↦ (
        let e : f ≡ n = omega (arith, lt, more) in
        let op : IsOp (insts_of c) n is_function = subst (λ (k : ℕ). IsOp (insts_of c) k is_function) e
        (walked G (insts_of c) f m unavailable).function in
        isnt (eqb-true i.opcode opcode.FUNCTION (op_tells (insts_of c) n i is_function there op)))
  ];
}

-- after a function comes the next one
pub sound_more : (c : Code) (n end : ℕ) → IsExtent (insts_of c) n end
    → ((G : Table) → IsCode G c → (m : ℕ) → ¬ (IsUnavailableIn G (insts_of c) n m)) → AreSound c n → AreSound c end
sound_more c n end x here before = record {
  none = λ G is f m lt unavailable. elim (cases_order f n) [
    | inl same ↦ here G is m (subst (λ (k : ℕ). IsUnavailableIn G (insts_of c) k m) same unavailable)
    | inr apart ↦ elim apart [
      | inl less ↦ before.none G is f m less unavailable
      | inr more ↦ (x.of f (omega (arith, more)) lt).begun.last f more (omega arith)
          (function_at (insts_of c) f (walked G (insts_of c) f m unavailable).function)
    ]
  ];
}

-- the function of a walk on which a value is unavailable
unavailable_in : (G : Table) (is : List PlainInst) (n : ℕ) → IsUnavailableAt G is n → (f : ℕ) × IsUnavailableIn G is f n
unavailable_in G is n (inl m) = (m.function, inl (m, refl))
unavailable_in G is n (inr m) = (m.comes.function, inr (m, refl))

unavailable_here : (G : Table) (is : List PlainInst) (f n : ℕ) → IsUnavailableIn G is f n → IsUnavailableAt G is n
unavailable_here G is f n (inl (m, e)) = inl m
unavailable_here G is f n (inr (m, e)) = inr m

pub sound_all : (c : Code) (n : ℕ) → length (insts_of c) ≤ n → AreSound c n → (G : Table) → IsCode G c
    → IsFirstOf G (insts_of c) None
sound_all c n all before G is = λ m unavailable.
    let r = unavailable_in G (insts_of c) m unavailable in
    let w = walked G (insts_of c) r.0 m r.1 in
    let h = holds (insts_of c) r.0 is_function w.function in
    let lt = slice_get_within (insts_of c) r.0 h.inst h.there in
    before.none G is r.0 m (omega (arith, lt, all)) r.1

-- what is unavailable in a function comes before all that later functions miss
pub first_here : (c : Code) (f n : ℕ) → AreSound c f → ((G : Table) → IsCode G c → IsFirstIn G (insts_of c) f (Some n))
    → (G : Table) → IsCode G c → IsFirstOf G (insts_of c) (Some n)
first_here c f n before first G is = (
  unavailable_here G (insts_of c) f n (first G is).0,
  λ m lt unavailable. (
      let r = unavailable_in G (insts_of c) m unavailable in
      let w = walked G (insts_of c) r.0 m r.1 in
      let here = (walked G (insts_of c) f n (first G is).0).of in
      elim (cases_order r.0 f) [
        | inl same ↦ (first G is).1 m lt (subst (λ (g : ℕ). IsUnavailableIn G (insts_of c) g m) same r.1)
        | inr other ↦ elim other [
          | inl less ↦ before.none G is r.0 m less r.1
          | inr more ↦ (
              let up = w.of.begun.up_to in
              here.begun.last r.0 more (omega (arith, up, lt)) (function_at (insts_of c) r.0 w.function))
        ]
      ]),
)

-- rules

staged_unavailable : (G : Table) (is : List PlainInst) (q : Rule) (n : ℕ) → stage_of q ≡ of_values → IsStaged G is q n
    → IsUnavailableAt G is n
staged_unavailable G is _ _ s (IsStaged.branches q n e) = absurd (omega (arith, s, e))
staged_unavailable G is _ _ s (IsStaged.missing n m) = inl m
staged_unavailable G is _ _ s (IsStaged.pair_missing n m) = inr m

broken_unavailable : (fork : Fork) (G : Table) (is : List PlainInst) (q : Rule) (n : ℕ) → stage_of q ≡ of_values
    → Broken fork G is q n
    → IsUnavailableAt G is n
broken_unavailable fork G is q n s b = staged_unavailable G is q n s (staged fork G is q n b)

unavailable_broken : (fork : Fork) (G : Table) (is : List PlainInst) (r : Rule) (n : ℕ) → IsRuleAt is n r
    → IsUnavailableAt G is n
    → (stage_of r ≡ of_values) × Broken fork G is r n
unavailable_broken fork G is r n at (inl m) = (let e = at.other m.other in rw e (refl, Broken.missing n m))
unavailable_broken fork G is r n at (inr m) = (let e = at.phi m.phi in rw e (refl, Broken.pair_missing n m))

staged_rank : (G : Table) (is : List PlainInst) (r q : Rule) (n : ℕ) → IsRuleAt is n r → stage_of q ≡ of_values
    → IsStaged G is q n → rank_of r ≤ rank_of q
staged_rank G is r _ _ at s (IsStaged.branches q n e) = absurd (omega (arith, s, e))
staged_rank G is r _ _ at s (IsStaged.missing n m) = (let e = at.other m.other in rw e (omega arith))
staged_rank G is r _ _ at s (IsStaged.pair_missing n m) = (let e = at.phi m.phi in rw e (omega arith))

rank_first : (fork : Fork) (G : Table) (is : List PlainInst) (r q : Rule) (n : ℕ) → IsRuleAt is n r
    → stage_of q ≡ of_values
    → Broken fork G is q n → rank_of r ≤ rank_of q
rank_first fork G is r q n at s b = staged_rank G is r q n at s (staged fork G is q n b)

pub unbroken_by : (fork : Fork) (G : Table) (is : List PlainInst) → IsFirstOf G is None
    → IsUnbroken (Broken fork G is) of_values
unbroken_by fork G is none = λ r n s b. none n (broken_unavailable fork G is r n s b)

first_broken : (fork : Fork) (G : Table) (is : List PlainInst) (r : Rule) (n : ℕ) → IsRuleAt is n r
    → IsFirstOf G is (Some n)
    → IsFirst (Broken fork G is) of_values r n
first_broken fork G is r n at first = record {
  of_stage = (unavailable_broken fork G is r n at first.0).0;
  broken = (unavailable_broken fork G is r n at first.0).1;
  least = λ q m s b. elim (cases_order n m) [
    | inl here ↦ inr (here, rank_first fork G is r q n at s (subst (λ (k : ℕ). Broken fork G is q k) (sym here) b))
    | inr apart ↦ elim apart [
      | inl less ↦ inl less
      | inr more ↦
          absurd (first.1 m more (broken_unavailable fork G is q m s b))
    ]
  ];
}

pub told : (fork : Fork) (G : Table) (is : List PlainInst) (r : Rule) (n : ℕ) (stop : Stop) → IsRuleAt is n r
    → IsFirstOf G is (Some n) → IsStopAt is r n stop → IsRefusal fork G is stop
told fork G is r n Memory at first h = absurd h
told fork G is r n (Fault f) at first (e, where_at, word) =
    let one : IsFirst (Broken fork G is) of_values f.rule n = subst
    (λ (q : Rule). IsFirst (Broken fork G is) of_values q n)
    (sym e) (first_broken fork G is r n at first) in (
      subst (λ (m : ℕ). IsFirst (Broken fork G is) of_values f.rule m) (sym where_at) one,
      word
          ∙ ap (first_word_of is) (sym where_at),
    )

-- an instruction at which a value is unavailable is there
pub unavailable_there : (G : Table) (is : List PlainInst) (n : ℕ) → IsUnavailableAt G is n → n < length is
unavailable_there G is n unavailable =
    let r = unavailable_in G is n unavailable in
    (walked G is r.0 n r.1).of.begun.within
