-- How deep structs are, by what is kept of those before.
use Rattle.std.proofs.Common.{◌≡◌, ◌<◌, ◌≤◌, ◌+◌, ◌∙◌, ℕ, List, [], ◌∷◌, Bool, Some}
use Rattle.std.proofs.Common.{if◌then◌else◌, nat_eq, refl, sym, ap, subst, inl, inr, arith, eq-eqb, ne_eqb}
use Rattle.std.specs.Prelude.{slice_get}
use Rattle.std.specs.BTreeMap.{BTreeMap}
use Rattle.std.proofs.lemmas.Bool.{cases_eq, cases_lt}
use Rattle.std.proofs.lemmas.Option.{same_Some}
use Rattle.spv_module.specs.declared.opcode.TheConstants as opcode
use Rattle.spv_module.specs.Operand.{Plain, Result, PlainInst, result_in}
use Rattle.spv_ids.specs.Outcome.{IsOnly}
use Rattle.spv_limits.specs.Depth.{AreLower, IsDeep, IsMemberOf, IsStruct, alone, within}
use Rattle.spv_limits.specs.inner.Counting.{AreDepths, IsDeepest, IsDepth, IsReached, IsStructDepth}
use Rattle.spv_limits.specs.inner.Kept.{kept}

-- the struct of an instruction is one, and so are its members
one_inst : (is : List PlainInst) (n : ℕ) (i j : PlainInst) → slice_get is n ≡ Some i → slice_get is n ≡ Some j → i ≡ j
one_inst is n i j e f = same_Some i j (sym e ∙ f)

struct_of : (is : List PlainInst) (n t : ℕ) (members : List Plain) (i : PlainInst) → slice_get is n ≡ Some i
    → IsStruct is n t members → (i.opcode ≡ opcode.TYPE_STRUCT) × (i.operands ≡ Result t ∷ members)
struct_of is n t members i e s =
    let same = one_inst is n s.inst i s.there e in (
      subst (λ (j : PlainInst). j.opcode ≡ opcode.TYPE_STRUCT) same s.opcode,
      subst (λ (j : PlainInst). j.operands ≡ Result t ∷ members) same s.operands,
    )

same_members : (t u : ℕ) (os ps : List Plain) → Result t ∷ os ≡ Result u ∷ ps → os ≡ ps
same_members t u os ps e = cc

-- what is deep is a struct
record Struct (is : List PlainInst) (n : ℕ) : Type 0 where
  pub t : ℕ
  pub members : List Plain
  pub is_one : IsStruct is n t members

struct_at : (is : List PlainInst) (n d : ℕ) → IsDeep is n d → Struct is n
struct_at is _ _ (alone n t members s) = record { t = t; members = members; is_one = s }
struct_at is _ _ (within n t m d members s mem deep) = record { t = t; members = members; is_one = s }

-- no struct is not deep
pub no_struct : (is : List PlainInst) (n : ℕ) (i : PlainInst) → slice_get is n ≡ Some i
    → (i.opcode ≡ opcode.TYPE_STRUCT → ⊥) → (d : ℕ) → ¬ (IsDeep is n d)
no_struct is n i e never d deep =
    let s = struct_at is n d deep in never (struct_of is n s.t s.members i e s.is_one).0

other_parts : (is : List PlainInst) (n : ℕ) (i : PlainInst) → slice_get is n ≡ Some i
    → ((t : ℕ) (os : List Plain) → i.operands ≡ Result t ∷ os → ⊥) → (d : ℕ) → ¬ (IsDeep is n d)
other_parts is n i e never d deep =
    let s = struct_at is n d deep in never s.t s.members (struct_of is n s.t s.members i e s.is_one).1

-- the id of a struct is its result
own_id : (is : List PlainInst) (x k t : ℕ) (os : List Plain) → IsOnly is x k → IsStruct is k t os → IsStruct is k x os
own_id is x k t os only s =
    let d = only.there in
    let same = one_inst is k d.inst s.inst d.there s.there in
    let named : result_in s.inst.operands ≡ Some x = subst (λ (j : PlainInst). result_in j.operands ≡ Some x) same d.result in
    let one : Some t ≡ Some x = sym (ap result_in s.operands) ∙ named in
    record {
      inst = s.inst;
      there = s.there;
      opcode = s.opcode;
      operands = s.operands ∙ ap (λ (y : ℕ). Result y ∷ os) (same_Some t x one);
    }

-- it is no deeper than one more than the deepest of its members
at_most : (is : List PlainInst) (n t e : ℕ) (os : List Plain) (m : BTreeMap ℕ ℕ) → AreLower is → AreDepths is n m
    → IsStruct is n t os → IsDeepest is m os e → (k d : ℕ) → k ≡ n → IsDeep is k d → d ≤ e + 1
at_most is n t e os m lower depths s deepest _ _ same (alone k u members v) = omega arith
at_most is n t e os m lower depths s deepest _ _ same (within k u j d members v mem deep) =
    let w = subst (λ (q : ℕ). IsStruct is q u members) same v in
    let all = (struct_of is n u members s.inst s.there w).1 in
    let parts = same_members t u os members (sym s.operands ∙ all) in
    let mine = subst (λ (ps : List Plain). IsMemberOf is ps j) (sym parts) mem in
    let below : j < n = lower n t j os s mine in
    let known = (depths.known j below).0 d deep in
    let bound = deepest.bound mine.place mine.id j mine.named mine.defined in
    omega (arith, known, bound)

-- and so deep, if it has one
reached_by : (is : List PlainInst) (n t e : ℕ) (os : List Plain) (m : BTreeMap ℕ ℕ) → AreDepths is n m
    → IsStruct is n t os → IsReached is m os e → IsDeep is n (e + 1)
reached_by is n t e os m depths s r = elim r [
  | inl none ↦ subst (λ (d : ℕ). IsDeep is n (d + 1)) (sym none) (alone n t os s)
  | inr some ↦
      let p = some.0 in let x = some.1 in let k = some.2 in
      elim (cases_lt k n) [
        | inl below ↦ elim (depths.known k below).1 [
          | inl zero_kept ↦
              let none : 0 ≡ e = sym zero_kept ∙ some.5 in
              subst (λ (d : ℕ). IsDeep is n (d + 1)) none (alone n t os s)
          | inr deep ↦
              let d = subst (λ (q : ℕ). IsDeep is k q) some.5 deep in
              let own = struct_at is k e d in
              within n t k e os s (record {
                place = p;
                id = x;
                named = some.3;
                defined = some.4;
                others = own.members;
                struct = own_id is x k own.t own.members some.4 own.is_one;
              }) d
        ]
        | inr past ↦
            let none : 0 ≡ e = sym (depths.later k past) ∙ some.5 in
            subst (λ (d : ℕ). IsDeep is n (d + 1)) none (alone n t os s)
      ]
]

pub struct_depth : (is : List PlainInst) (n : ℕ) (i : PlainInst) (m : BTreeMap ℕ ℕ) (d : ℕ) → AreLower is
    → AreDepths is n m → slice_get is n ≡ Some i → i.opcode ≡ opcode.TYPE_STRUCT → IsStructDepth is m i.operands d
    → IsDepth is n d
struct_depth is n i m d lower depths e op h = by i.operands refl h
  where
    none : (os : List Plain) → i.operands ≡ os → ((t : ℕ) (ps : List Plain) → os ≡ Result t ∷ ps → ⊥) → d ≡ 0 → IsDepth is n d
    none os f never z = (λ q deep. absurd (other_parts is n i e (λ t ps g. never t ps (sym f ∙ g)) q deep), inl z)

    by : (os : List Plain) → i.operands ≡ os → IsStructDepth is m os d → IsDepth is n d
    by (Result t ∷ os) f g =
        let s : IsStruct is n t os = record { inst = i; there = e; opcode = op; operands = f } in (
          λ q deep. let l = at_most is n t g.0 os m lower depths s g.2 n q refl deep in omega (arith, l, g.1),
          inr (subst (λ (q : ℕ). IsDeep is n q) (sym g.1) (reached_by is n t g.0 os m depths s g.2.reached)),
        )
    by [] f z = none [] f (λ t ps g. let never : [] ≡ Result t ∷ ps = g in cc) z
    by (o ∷ os) f z = none (o ∷ os) f (λ t ps g. let never : o ∷ os ≡ Result t ∷ ps = g in cc) z

-- one instruction more
pub depths_more : (is : List PlainInst) (n d : ℕ) (m w : BTreeMap ℕ ℕ) → AreDepths is n m → IsDepth is n d → d ≤ 255
    → ((k : ℕ) → kept w k ≡ (if nat_eq n k then d else kept m k)) → AreDepths is (n + 1) w
depths_more is n d m w depths here small says =
    let own : kept w n ≡ d = says n ∙ ap (λ (b : Bool). if b then d else kept m n) (eq-eqb n n refl) in
    let other : (k : ℕ) → (n ≡ k → ⊥) → kept w k ≡ kept m k =
    λ k never. says k ∙ ap (λ (b : Bool). if b then d else kept m k) (ne_eqb n k never) in
    record {
      known = λ k l. elim (cases_eq n k) [
        | inl same ↦ subst (λ (q : ℕ). IsDepth is q (kept w q)) same (subst (λ (q : ℕ). IsDepth is n q) (sym own) here)
        | inr apart ↦
            let below : k < n = omega (arith, apart) in
            subst (λ (q : ℕ). IsDepth is k q) (sym (other k apart)) (depths.known k below)
      ];
      later = λ k l.
          let apart : n ≡ k → ⊥ = λ same. omega (arith, same) in
          let past : n ≤ k = omega arith in
          other k apart ∙ depths.later k past;
      few = λ k. elim (cases_eq n k) [
        | inl same ↦
            let e : kept w k ≡ d = sym (ap (kept w) same) ∙ own in
            omega (arith, e, small)
        | inr apart ↦
            let f = depths.few k in
            omega (arith, f, other k apart)
      ];
    }

-- one that declares no struct
pub depths_same : (is : List PlainInst) (n : ℕ) (i : PlainInst) (m : BTreeMap ℕ ℕ) → slice_get is n ≡ Some i
    → (i.opcode ≡ opcode.TYPE_STRUCT → ⊥) → AreDepths is n m → AreDepths is (n + 1) m
depths_same is n i m e never depths = record {
  known = λ k l. elim (cases_lt k n) [
    | inl below ↦ depths.known k below
    | inr past ↦
        let same : n ≡ k = omega arith in
        let nothing : IsDepth is n (kept m n) =
        (λ d deep. absurd (no_struct is n i e never d deep), inl (depths.later n (omega arith))) in
        subst (λ (q : ℕ). IsDepth is q (kept m q)) same nothing
  ];
  later = λ k l. depths.later k (omega (arith, l));
  few = depths.few;
}
