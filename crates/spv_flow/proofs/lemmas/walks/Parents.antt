-- A block whose label an OpPhi names leads to the block of the OpPhi.
use Rattle.std.proofs.Common.{◌≡◌, ◌≢◌, ◌<◌, ◌⊎◌, ◌+◌, ℕ, zero, suc, List, [], ◌∷◌, refl, sym, ap, subst, inl, inr}
use Rattle.std.proofs.Common.{length, Some, arith}
use Rattle.std.specs.Prelude.{Contains, slice_get, slice_index}
use Rattle.std.proofs.lemmas.Bool.{cases_lt, cases_order}
use Rattle.std.proofs.lemmas.Option.{slice_get_within}
use Rattle.spv_table.specs.Table.{Table}
use Rattle.spv_module.specs.Operand.{PlainInst}
use Rattle.spv_module.specs.declared.fault.Rule.TheVariants.{F3, D5}
use Rattle.spv_layout.specs.declared.form.Role.TheVariants.{Label}
use Rattle.spv_layout.specs.Place.{IsOfFunction, IsOfBlock}
use Rattle.spv_layout.proofs.Places.{function_same}
use Rattle.spv_ids.specs.Definition.{IsUsedAt, IsLocal}
use Rattle.spv_ids.specs.Order.{IsInScope, IsScoped}
use Rattle.spv_ids.specs.Broken as ids
use Rattle.spv_graphs.specs.declared.graph.Graph.{Graph}
use Rattle.spv_graphs.specs.Graph.{targets_of}
use Rattle.spv_flow.specs.branches.Target.{is_label, is_phi, IsOp, IsLabelOf, IsTarget, LeadsToBlock, HasParents}
use Rattle.spv_flow.specs.branches.Broken as branches
use Rattle.spv_flow.specs.branches.Walk.{Next}
use Rattle.spv_flow.specs.declared.walks.code.Code.{Code}
use Rattle.spv_flow.specs.walks.inner.Code.{insts_of, IsCode}
use Rattle.spv_flow.specs.walks.inner.Divided.{IsIn, IsDivided, IsGraphOf}
use Rattle.spv_flow.proofs.lemmas.walks.Coded.{one_place}
use Rattle.spv_flow.proofs.lemmas.walks.Ended.{no_result_at_end}
use Rattle.spv_flow.proofs.lemmas.walks.Places.{label_at, terminator_at, branch_scoped}
use Rattle.spv_flow.proofs.lemmas.walks.Walking.{first_in, branch_ends}
use Rattle.spv_flow.proofs.lemmas.walks.Pairs.{plain_inside, function_no_label}

-- whether a list has a number

not_cons : (x y : ℕ) (xs : List ℕ) → y ≢ x → ¬ (Contains xs x) → ¬ (Contains (y ∷ xs) x)
not_cons x y xs apart none (zero, lt, e) = apart e
not_cons x y xs apart none (suc k, lt, e) = none (k, omega (arith, lt), e)

none_in : (x : ℕ) → ¬ (Contains [] x)
none_in x (k, lt, e) = omega (arith, lt)

more_in : (x y : ℕ) (xs : List ℕ) → Contains xs x → Contains (y ∷ xs) x
more_in x y xs (k, lt, e) = (suc k, omega (arith, lt), e)

has_or_not : (xs : List ℕ) (x : ℕ) → Contains xs x ⊎ ¬ (Contains xs x)
has_or_not [] x = inr (none_in x)
has_or_not (y ∷ xs) x = elim (cases_order y x) [
  | inl same ↦ inl (0, omega arith, same)
  | inr other ↦ elim (has_or_not xs x) [
    | inl c ↦ inl (more_in x y xs c)
    | inr none ↦ inr (not_cons x y xs (λ e. elim other [ inl a ↦ omega (arith, a, e) | inr a ↦ omega (arith, a, e) ])
        none)
  ]
]

some_at : {A : Type 0} → (xs : List A) (k : ℕ) → k < length xs → (x : A) × (slice_get xs k ≡ Some x)
some_at [] k lt = absurd (omega (arith, lt))
some_at (x ∷ xs) zero lt = (x, refl)
some_at (x ∷ xs) (suc k) lt = some_at xs k (omega (arith, lt))

-- an instruction of the block whose OpLabel begins a block
block_is : (is : List PlainInst) (f : ℕ) (starts : List ℕ) → IsDivided is f starts → (b n m : ℕ) → IsIn starts b n
    → IsOp is (slice_index starts b) is_label → IsOfBlock is n m → IsOp is m is_label → m ≡ slice_index starts b
block_is is f starts d b n m i label of op = elim (cases_order m (slice_index starts b)) [
  | inl same ↦ same
  | inr other ↦ elim other [
    | inl less ↦ absurd (of.begun.last (slice_index starts b) less i.from (label_at is (slice_index starts b) label))
    | inr more ↦ absurd (
        let to = i.to in
        let up = of.begun.up_to in
        plain_inside is f starts d b m (record
        { block = i.block; from = omega (arith, more); to = omega (arith, up, to) }) more op)
  ]
]

-- the function of a branch to one of its labels
branch_of : (G : Table) (c : Code) (f : ℕ) (starts : List ℕ) → IsCode G c → IsDivided (insts_of c) f starts
    → (b t x : ℕ) → b + 1 < length starts → IsTarget G (insts_of c) t x
    → IsLabelOf (insts_of c) x (slice_index starts b)
    → ¬ (¬ (IsOfFunction (insts_of c) t f))
branch_of G c f starts is d b t x inside target label not =
    let s = slice_index starts b in
    let of = d.of b s (first_in (insts_of c) f starts d b inside) in
    let up = of.begun.up_to in
    let after : f < s = elim (cases_order f s) [
      | inl same ↦ absurd (function_no_label (insts_of c) f d.function
          (subst (λ (k : ℕ). IsOp (insts_of c) k is_label) (sym same) label.label))
      | inr other ↦ elim other [ inl less ↦ less | inr more ↦ absurd (omega (arith, more, up)) ]
    ] in
    let local : IsLocal (insts_of c) x = (
      f,
      record {
        place = s;
        defined = label.defined;
        of = of;
        after = after;
        before = no_result_at_end G (insts_of c) is.plan.fits s x label.defined;
      },
    ) in
    let there = some_at c.plan.now t (let w = slice_get_within (insts_of c) t target.used.inst target.used.there in
    let l = is.plan.count in omega (arith, w, l)) in
    let scoped : IsScoped (insts_of c) t = branch_scoped (insts_of c) t there.0.section target.branch
    (is.plan.place t there.0 there.1).section in
    let out : ¬ (IsInScope (insts_of c) t x) = λ h. (
    let e = one_place G c x h.local.place s is h.local.defined label.defined in
    let g = subst (λ (k : ℕ). IsOfFunction (insts_of c) k h.function) e h.local.of in
    let same = function_same (insts_of c) s h.function f g of in
    not (subst (λ (k : ℕ). IsOfFunction (insts_of c) t k) same h.of)) in
    is.ids.unbroken D5 t refl (ids.Broken.not_in_scope t target.operand x Label target.used scoped local out)

-- a branch of the block whose OpLabel begins block h is of it
branch_in : (G : Table) (c : Code) (f : ℕ) (starts : List ℕ) → IsCode G c → IsDivided (insts_of c) f starts
    → (b h t x : ℕ) → b + 1 < length starts → h + 1 < length starts → IsTarget G (insts_of c) t x
    → IsLabelOf (insts_of c) x (slice_index starts b)
    → IsOfBlock (insts_of c) t (slice_index starts h) → IsIn starts h t
branch_in G c f starts is d b h t x in_b in_h target label of = elim (cases_lt t (slice_index starts (h + 1))) [
  | inl before ↦ record { block = in_h; from = of.begun.up_to; to = before }
  | inr past ↦ absurd (
      let lt = d.order h (h + 1) (omega arith) in_h in
      elim (cases_lt (h + 2) (length starts)) [
        | inl more ↦ elim (d.begun (h + 1) (omega arith) (omega (arith, more))) [
          | inl next ↦ of.begun.last (slice_index starts (h + 1)) lt past
              (label_at (insts_of c) (slice_index starts (h + 1)) next)
          | inr ended ↦ (let e = ended.1 in
              of.not_ended ended.0 (omega (arith, e, lt)) (omega (arith, e, past))
              (terminator_at (insts_of c) ended.0 ended.2))
        ]
        | inr last ↦ branch_of G c f starts is d b t x in_b target label (λ of_f.
            let r = d.all t of_f in
            let to = r.1.to in
            let w = r.1.block in
            elim (cases_order (r.0 + 1) (h + 1)) [
              | inl same ↦ (let e = ap (slice_index starts) same in omega (arith, e, to, past))
              | inr other ↦ elim other [
                | inl less ↦ (let k = d.order (r.0 + 1) (h + 1) less in_h in omega (arith, k, to, past))
                | inr more ↦ omega (arith, more, w, last)
              ]
            ])
      ])
]

parent_leads : (G : Table) (c : Code) (f : ℕ) (starts : List ℕ) (graph : Graph) → IsCode G c
    → IsGraphOf G (insts_of c) f starts graph
    → (b h n k x : ℕ) → IsIn starts b n → IsOp (insts_of c) (slice_index starts b) is_label → h + 1 < length starts
    → IsUsedAt G (insts_of c) n k x Label → IsLabelOf (insts_of c) x (slice_index starts h)
    → HasParents G (insts_of c) n → Contains (targets_of graph h) b
parent_leads G c f starts graph is g b h n k x i begin in_h used label hp =
    let d = g.divided in
    let e = hp.each k x used in
    let t : ℕ = e.2.0 in
    let l : LeadsToBlock G (insts_of c) t e.0 hp.block = e.2.1 in
    let p : e.0 ≡ slice_index starts h = one_place G c x e.0 (slice_index starts h) is e.1.defined label.defined in
    let q : hp.block ≡ slice_index starts b = block_is
    (insts_of c) f starts d b n hp.block i begin hp.of l.label.label in
    let to_block : IsLabelOf (insts_of c) l.id (slice_index starts b) = subst
    (λ (m : ℕ). IsLabelOf (insts_of c) l.id m) q l.label in
    let of : IsOfBlock (insts_of c) t (slice_index starts h) = subst (λ (m : ℕ). IsOfBlock (insts_of c) t m) p l.of in
    let here : IsIn starts h t = branch_in G c f starts is d b h t l.id i.block in_h l.target to_block of in
    let to = here.to in
    let last : t + 1 ≡ slice_index starts (h + 1) = elim (cases_lt (t + 1) (slice_index starts (h + 1))) [
      | inl before ↦ absurd (
          let from = here.from in
          d.inner h t here (record { block = in_h; from = omega (arith, from); to = before })
          (inr (t, refl, branch_ends (insts_of c) t l.target.branch)))
      | inr done ↦ omega (arith, done, to)
    ] in
    (g.targets h b t here last).1 (i.block, Next.jumps l.id (slice_index starts b) l.target to_block)

-- Where the branches are sound, each parent leads to the OpPhi's block.
pub parents_lead : (G : Table) (c : Code) (f : ℕ) (starts : List ℕ) (graph : Graph) → IsCode G c
    → IsGraphOf G (insts_of c) f starts graph
    → (b h n k x : ℕ) → IsIn starts b n → IsOp (insts_of c) (slice_index starts b) is_label → IsOp (insts_of c) n is_phi
    → h + 1 < length starts → IsUsedAt G (insts_of c) n k x Label → IsLabelOf (insts_of c) x (slice_index starts h)
    → Contains (targets_of graph h) b
parents_lead G c f starts graph is g b h n k x i begin phi in_h used label = elim (has_or_not (targets_of graph h) b) [
  | inl there ↦ there
  | inr none ↦ absurd (is.branches F3 n refl
      (branches.Broken.parents n phi (λ hp. none
      (parent_leads G c f starts graph is g b h n k x i begin in_h used label hp))))
]
