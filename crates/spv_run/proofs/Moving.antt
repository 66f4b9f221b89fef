-- What the code finds of instructions tells what they do to a run.
use Rattle.std.proofs.Common.{◌≡◌, ◌≢◌, ◌∙◌, ◌≤◌, ◌<◌, ◌+◌, ◌*◌, ◌++◌, ◌⊎◌, inl, inr, ℕ, zero, suc, List, [], ◌∷◌}
use Rattle.std.proofs.Common.{Option, Some, None, refl, sym, ap, subst, arith, length, Contains, true, Result, Ok, Err}
use Rattle.std.specs.Prelude.{slice_get, IfOk}
use Rattle.std.proofs.lemmas.Bool.{cases_eq, cases_lt}
use Rattle.std.proofs.lemmas.Option.{none-some, same_Some, slice_get_within}
use Rattle.spv_table.specs.Table.{Table}
use Rattle.spv_module.specs.Operand.{Plain, PlainInst}
use Rattle.spv_module.specs.Operand as operand
use Rattle.spv_ids.specs.declared.ids.Ids.{Ids}
use Rattle.spv_ids.specs.Definition.{IsDefinedAt}
use Rattle.spv_ids.specs.Outcome.{IsDefinitionOf, definition_in, AreNumbered}
use Rattle.spv_flow.specs.branches.Target.{IsLabelOf}
use Rattle.spv_ids.specs.inner.Test.{id_in}
use Rattle.spv_run.specs.Act.{Act, Function, Parameter, FunctionEnd, Label, Branch, Choose, Call, Other, act_of}
use Rattle.spv_run.specs.Act.{labels_in}
use Rattle.spv_run.specs.declared.moves.Move.TheVariants as move
use Rattle.spv_run.specs.inner.Trace.{Tells}
use Rattle.spv_run.specs.At.{act_at}
use Rattle.spv_run.specs.inner.At.{targets}
use Rattle.spv_run.specs.Head.{Binding, Head, IsDefined, IsDeclared}
use Rattle.spv_run.specs.Sound.{KeepsRules}
use Rattle.spv_run.specs.inner.Bodies.{IsEntry, IsHead, HaveEntries, HaveEntriesBefore}
use Rattle.spv_run.proofs.Basics.{act_back, act_from, act_same, contains_here, contains_at}
use Rattle.spv_run.specs.State.{State}
use Rattle.spv_run.specs.Run.{IsStart}
use Rattle.spv_run.proofs.Once.{head_once, label_ends}
use Rattle.spv_run.proofs.Simulates.{not_both}
use Rattle.spv_run.proofs.Unbroken.{has_labels, one_definition}
use Rattle.spv_run.proofs.Rows.{call_fits}
use Rattle.spv_run.proofs.Typing.{call_typed, head_from}
use Rattle.spv_module.specs.declared.fault.Rule.TheVariants as rule
use Rattle.spv_module.specs.declared.opcode.TheConstants as opcode
use Rattle.spv_layout.specs.declared.form.Form.{Form}
use Rattle.spv_layout.specs.declared.form.Form.TheVariants as form
use Rattle.spv_layout.specs.inner.Row.{N}
use Rattle.spv_layout.specs.Row.{repeated}
use Rattle.spv_layout.specs.inner.Row as row
use Rattle.spv_layout.specs.Shape.{is_of, AreOf, Ends, FitsShape}
use Rattle.spv_layout.specs.declared.form.Role.TheVariants as role
use Rattle.spv_type_kinds.specs.Operands.{ids_in}
use Rattle.spv_run.specs.declared.moves.Move.{Move}
use Rattle.spv_run.proofs.Laid.{laid_out}
use Rattle.spv_run.proofs.Shapes.{View, view, an_id, is_other, none, take as take_form}
use Rattle.spv_run.proofs.Standing.{label_act, label_opcode, label_to, defined_at, result_of}
use Rattle.spv_run.proofs.Scoped.{function_opcode}

by_definition : (is : List PlainInst) (x m : ℕ) (o : Option ℕ) → IsDefinitionOf is x o → IsDefinedAt is x m → o ≡ Some m
by_definition is x m None h d = absurd (h m d)
by_definition is x m (Some k) h d = ap Some (sym (h.only m d))

pub placed : (is : List PlainInst) (ids : Ids) (x m place : ℕ) → AreNumbered is ids → definition_in ids x ≡ Some place
    → IsDefinedAt is x m → place ≡ m
placed is ids x m place n e d = same_Some place m (sym e ∙ by_definition is x m (definition_in ids x) (n.each x) d)

pub unplaced : (is : List PlainInst) (ids : Ids) (x m : ℕ) → AreNumbered is ids → definition_in ids x ≡ None
    → IsDefinedAt is x m → ⊥
unplaced is ids x m n e d = none-some m (sym e ∙ by_definition is x m (definition_in ids x) (n.each x) d)

-- What stands in a head.

data InHead (is : List PlainInst) (k : ℕ) : Type 0 where
  a_parameter : act_at is k ≡ Some Parameter → InHead is k
  a_line : act_at is k ≡ Some Other → InHead is k

in_head : (is : List PlainInst) (e n : ℕ) (bs : List Binding) → Head is e n bs → (k : ℕ) → n ≤ k → k < e → InHead is k
in_head is e _ _ Head.end k l u = absurd (omega (arith, l, u))
in_head is e _ _ (Head.parameter n x t bs a r y rest) k l u = elim (cases_eq n k) [
  | inl same ↦ InHead.a_parameter (subst (λ j. act_at is j ≡ Some Parameter) same a)
  | inr other ↦ in_head is e (suc n) bs rest k (omega (arith, l, other)) u
]
in_head is e _ _ (Head.line n bs a r rest) k l u = elim (cases_eq n k) [
  | inl same ↦ InHead.a_line (subst (λ j. act_at is j ≡ Some Other) same a)
  | inr other ↦ in_head is e (suc n) bs rest k (omega (arith, l, other)) u
]

no_label_in : (is : List PlainInst) (k : ℕ) → InHead is k → act_at is k ≢ Some Label
no_label_in is k (InHead.a_parameter a) h = let w = act_same is k Parameter Label a h in cc
no_label_in is k (InHead.a_line a) h = let w = act_same is k Other Label a h in cc

no_end_in : (is : List PlainInst) (k : ℕ) → InHead is k → act_at is k ≢ Some FunctionEnd
no_end_in is k (InHead.a_parameter a) h = let w = act_same is k Parameter FunctionEnd a h in cc
no_end_in is k (InHead.a_line a) h = let w = act_same is k Other FunctionEnd a h in cc

end_act : (i : PlainInst) → i.opcode ≡ opcode.FUNCTION_END → act_of i ≡ FunctionEnd
unfolding act_of
end_act i e = rw e refl

-- opcodes of ends
end_opcode : (G : Table) (i : PlainInst) (a : Act) → View G i a → a ≡ FunctionEnd → i.opcode ≡ opcode.FUNCTION_END
end_opcode G i _ (View.function_end e os) h = e
end_opcode G i _ _ h = cc

-- the head of a function that is sound ends where the look for its end stops
record Ended (is : List PlainInst) (g n : ℕ) : Type 0 where
  pub place : ℕ
  pub parameters : List Binding
  pub either : IsDefined is g place parameters ⊎ IsDeclared is g place parameters
  pub after : g < place
  pub low : n ≤ place
  pub within : place < length is
  pub inner : (k : ℕ) → g < k → k < place → InHead is k

ended : (G : Table) (bound : ℕ) (is : List PlainInst) (g n : ℕ) → KeepsRules G bound is → act_at is g ≡ Some Function
    → IsHead is g n → Ended is g n
ended G bound is g n sound f head = by_end r.2 where
  r : (e : ℕ) × (bs : List Binding) × (IsDefined is g e bs ⊎ IsDeclared is g e bs)
  r = (laid_out G is sound.fits sound.layout).heads g f

  by_end : IsDefined is g r.0 r.1 ⊎ IsDeclared is g r.0 r.1 → Ended is g n
  by_end (inl d) =
      let from = head_from is r.0 (suc g) r.1 d.head in
      let i = act_back is r.0 Label d.entry in
      let op = label_opcode G i.0 (act_of i.0) (view G i.0 (sound.fits r.0 i.0 i.1)) i.2 in
      record {
        place = r.0;
        parameters = r.1;
        either = inl d;
        after = omega (arith, from);
        low = elim (cases_lt r.0 n) [
          | inl less ↦
              absurd (head.label r.0 i.0 (omega (arith, from)) less i.1 op)
          | inr more ↦ more
        ];
        within = slice_get_within is r.0 i.0 i.1;
        inner = λ k l u. in_head is r.0 (suc g) r.1 d.head k l u;
      }
  by_end (inr d) =
      let from = head_from is r.0 (suc g) r.1 d.head in
      let i = act_back is r.0 FunctionEnd d.over in
      let op = end_opcode G i.0 (act_of i.0) (view G i.0 (sound.fits r.0 i.0 i.1)) i.2 in
      record {
        place = r.0;
        parameters = r.1;
        either = inr d;
        after = omega (arith, from);
        low = elim (cases_lt r.0 n) [
          | inl less ↦
              absurd (head.over r.0 i.0 (omega (arith, from)) less i.1 op)
          | inr more ↦ more
        ];
        within = slice_get_within is r.0 i.0 i.1;
        inner = λ k l u. in_head is r.0 (suc g) r.1 d.head k l u;
      }

pub at_label : (is : List PlainInst) (g n : ℕ) (i : PlainInst) → g < n → IsHead is g n → slice_get is n ≡ Some i
    → i.opcode ≡ opcode.LABEL
    → (G : Table) (bound : ℕ) → KeepsRules G bound is → act_at is g ≡ Some Function → IsEntry is g n
at_label is g n i l head at op G bound sound f =
    let x = ended G bound is g n sound f head in
    let lab = act_from is n i Label at (label_act i op) in
    let same : x.place ≡ n = elim (cases_eq x.place n) [
      | inl e ↦ e
      | inr ne ↦ (let low = x.low in absurd (no_label_in is n (x.inner n l (omega (arith, low, ne))) lab))
    ] in
    elim x.either [
      | inl d ↦ subst (λ k. IsEntry is g k) same (IsEntry.defined x.place x.parameters d)
      | inr d ↦ absurd (let w = act_same is n FunctionEnd Label
          (subst (λ k. act_at is k ≡ Some FunctionEnd) same d.over) lab in cc)
    ]

pub at_over : (is : List PlainInst) (g n : ℕ) (i : PlainInst) → g < n → IsHead is g n → slice_get is n ≡ Some i
    → i.opcode ≡ opcode.FUNCTION_END
    → (G : Table) (bound : ℕ) → KeepsRules G bound is → act_at is g ≡ Some Function → IsEntry is g 0
at_over is g n i l head at op G bound sound f =
    let x = ended G bound is g n sound f head in
    let over = act_from is n i FunctionEnd at (end_act i op) in
    let same : x.place ≡ n = elim (cases_eq x.place n) [
      | inl e ↦ e
      | inr ne ↦ (let low = x.low in absurd (no_end_in is n (x.inner n l (omega (arith, low, ne))) over))
    ] in
    elim x.either [
      | inl d ↦ absurd (let w = act_same is n Label FunctionEnd
          (subst (λ k. act_at is k ≡ Some Label) same d.entry) over in cc)
      | inr d ↦ IsEntry.declared x.place x.parameters d
    ]

pub at_nothing : (is : List PlainInst) (g n : ℕ) → length is ≤ n → IsHead is g n
    → (G : Table) (bound : ℕ) → KeepsRules G bound is → act_at is g ≡ Some Function → IsEntry is g 0
at_nothing is g n l head G bound sound f =
    let x = ended G bound is g n sound f head in
    let low = x.low in
    let w = x.within in
    absurd (omega (arith, l, low, w))

pub head_start : (is : List PlainInst) (g n : ℕ) → n ≤ g + 1 → IsHead is g n
head_start is g n l =
    record { label = λ k i a b. absurd (omega (arith, l, a, b)); over = λ k i a b. absurd (omega (arith, l, a, b)) }

pub head_next : (is : List PlainInst) (g n : ℕ) (i : PlainInst) → IsHead is g n → slice_get is n ≡ Some i
    → ¬ (i.opcode ≡ opcode.LABEL) → ¬ (i.opcode ≡ opcode.FUNCTION_END) → IsHead is g (n + 1)
head_next is g n i head at no_label no_end = record {
  label = λ k j a b e. elim (cases_lt k n) [
    | inl less ↦ head.label k j a less e
    | inr more ↦
        (let same : k ≡ n = omega (arith, b, more) in
        let inst : j ≡ i = same_Some j i (sym e ∙ (ap (slice_get is) same ∙ at)) in
        λ op. no_label (ap (λ (q : PlainInst). q.opcode) (sym inst) ∙ op))
  ];
  over = λ k j a b e. elim (cases_lt k n) [
    | inl less ↦ head.over k j a less e
    | inr more ↦
        (let same : k ≡ n = omega (arith, b, more) in
        let inst : j ≡ i = same_Some j i (sym e ∙ (ap (slice_get is) same ∙ at)) in
        λ op. no_end (ap (λ (q : PlainInst). q.opcode) (sym inst) ∙ op))
  ];
}

-- What instructions of an opcode tell.

branch_view : (G : Table) (is : List PlainInst) (i : PlainInst) (a : Act) → View G i a → i.opcode ≡ opcode.BRANCH
    → (x : ℕ) × (a ≡ Branch x) × (i.operands ≡ operand.Id x ∷ [])
branch_view G is i _ (View.branch x e os) h = (x, refl, os)
branch_view G is i _ (View.function a b k' m s e os) h = absurd (omega (arith, e, h))
branch_view G is i _ (View.parameter t b e os) h = absurd (omega (arith, e, h))
branch_view G is i _ (View.function_end e os) h = absurd (omega (arith, e, h))
branch_view G is i _ (View.call a b c os gs e same en each) h = absurd (omega (arith, e, h))
branch_view G is i _ (View.phi a b os gs e same en each) h = absurd (omega (arith, e, h))
branch_view G is i _ (View.label b e os) h = absurd (omega (arith, e, h))
branch_view G is i _ (View.condition c x y os gs e same en each) h = absurd (omega (arith, e, h))
branch_view G is i _ (View.switch c x os gs e same en each) h = absurd (omega (arith, e, h))
branch_view G is i _ (View.return e os) h = absurd (omega (arith, e, h))
branch_view G is i _ (View.value x e os) h = absurd (omega (arith, e, h))
branch_view G is i _ (View.unreachable e os) h = absurd (omega (arith, e, h))
branch_view G is i _ (View.other e) h = absurd (let w : is_other 249 ≡ true = rw h at e in cc)

-- a label that is a target stands where the code finds it
label_found : (G : Table) (bound : ℕ) (is : List PlainInst) → KeepsRules G bound is → (n x place : ℕ) (a : Act)
    → act_at is n ≡ Some a → Contains (targets a) x
    → ((m : ℕ) → IsDefinedAt is x m → place ≡ m) → IsLabelOf is x place
label_found G bound is sound n x place a h c found =
    let m = has_labels G is sound.fits sound.branches n x a h c in
    let l = label_to G is sound.fits m.0 x m.1 in
    subst (λ k. IsLabelOf is x k) (sym (found m.0 l.defined)) l

pub branch_tells : (i : PlainInst) (x place : ℕ) (is : List PlainInst) → i.opcode ≡ opcode.BRANCH
    → id_in (slice_get i.operands 0) ≡ Some x → ((m : ℕ) → IsDefinedAt is x m → place ≡ m)
    → (G : Table) (bound n : ℕ) → KeepsRules G bound is → slice_get is n ≡ Some i
    → Tells is (act_of i) (move.Branch place)
branch_tells i x place is op e found G bound n sound at =
    let v = branch_view G is i (act_of i) (view G i (sound.fits n i at)) op in
    let same : v.0 ≡ x = same_Some v.0 x (sym (ap (λ os. id_in (slice_get os 0)) v.2) ∙ e) in
    let h : act_at is n ≡ Some (Branch v.0) = act_from is n i (Branch v.0) at v.1 in
    let found' : (m : ℕ) → IsDefinedAt is v.0 m → place ≡ m = λ m d. found m (subst (λ y. IsDefinedAt is y m) same d) in
    subst (λ a. Tells is a (move.Branch place)) (sym v.1)
    (label_found G bound is sound n v.0 place (Branch v.0) h (contains_here v.0 []) found')

pub branch_named : (i : PlainInst) (is : List PlainInst) → i.opcode ≡ opcode.BRANCH
    → id_in (slice_get i.operands 0) ≡ None
    → (G : Table) (bound n : ℕ) → KeepsRules G bound is → slice_get is n ≡ Some i → ⊥
branch_named i is op e G bound n sound at =
    let v = branch_view G is i (act_of i) (view G i (sound.fits n i at)) op in
    none-some v.0 (sym e ∙ ap (λ os. id_in (slice_get os 0)) v.2)

-- calls

record CallView (i : PlainInst) (a : Act) : Type 0 where
  pub of_type : ℕ
  pub result : ℕ
  pub callee : ℕ
  pub tail : List Plain
  pub operands : i.operands ≡ operand.OfType of_type ∷ operand.Result result ∷ operand.Id callee ∷ tail
  pub kind : a ≡ Call callee (ids_in tail)

call_view : (G : Table) (i : PlainInst) (a : Act) → View G i a → i.opcode ≡ opcode.FUNCTION_CALL → CallView i a
call_view G i _ (View.call a b c os gs e same en each) h =
    record { of_type = a; result = b; callee = c; tail = os; operands = same; kind = refl }
call_view G i _ (View.branch x e os) h = absurd (omega (arith, e, h))
call_view G i _ (View.function a b k' m s e os) h = absurd (omega (arith, e, h))
call_view G i _ (View.parameter t b e os) h = absurd (omega (arith, e, h))
call_view G i _ (View.function_end e os) h = absurd (omega (arith, e, h))
call_view G i _ (View.phi a b os gs e same en each) h = absurd (omega (arith, e, h))
call_view G i _ (View.label b e os) h = absurd (omega (arith, e, h))
call_view G i _ (View.condition c x y os gs e same en each) h = absurd (omega (arith, e, h))
call_view G i _ (View.switch c x os gs e same en each) h = absurd (omega (arith, e, h))
call_view G i _ (View.return e os) h = absurd (omega (arith, e, h))
call_view G i _ (View.value x e os) h = absurd (omega (arith, e, h))
call_view G i _ (View.unreachable e os) h = absurd (omega (arith, e, h))
call_view G i _ (View.other e) h = absurd (let w : is_other 57 ≡ true = rw h at e in cc)

pub call_tells : (i : PlainInst) (x place : ℕ) (is : List PlainInst) (m : Move) → i.opcode ≡ opcode.FUNCTION_CALL
    → id_in (slice_get i.operands 2) ≡ Some x → ((k : ℕ) → IsDefinedAt is x k → place ≡ k)
    → (G : Table) (bound n : ℕ) → KeepsRules G bound is → slice_get is n ≡ Some i
    → ((xs : List ℕ) → IsDefinedAt is x place → act_at is place ≡ Some Function → Tells is (Call x xs) m)
    → Tells is (act_of i) m
call_tells i x place is m op e found G bound n sound at tells =
    let v = call_view G i (act_of i) (view G i (sound.fits n i at)) op in
    let same : v.callee ≡ x = same_Some v.callee x (sym (ap (λ os. id_in (slice_get os 2)) v.operands) ∙ e) in
    let t = call_typed is 0 n i v.of_type v.result v.callee v.tail v.operands (sound.types rule.Y8 n i at op) in
    let fit = call_fits is 0 n i v.callee (ids_in v.tail) t.tags t.row in
    let d : IsDefinedAt is x fit.callee = subst (λ y. IsDefinedAt is y fit.callee) same
    (defined_at is fit.callee v.callee fit.function.result) in
    let here : fit.callee ≡ place = sym (found fit.callee d) in
    let there : act_at is place ≡ Some Function = subst (λ k. act_at is k ≡ Some Function) here fit.function.act in
    let told : Tells is (Call x (ids_in v.tail)) m = tells (ids_in v.tail)
    (subst (λ k. IsDefinedAt is x k) here d) there in
    let kind : act_of i ≡ Call x (ids_in v.tail) = v.kind ∙ ap (λ y. Call y (ids_in v.tail)) same in
    subst (λ a. Tells is a m) (sym kind) told

pub call_named : (i : PlainInst) (is : List PlainInst) → i.opcode ≡ opcode.FUNCTION_CALL
    → id_in (slice_get i.operands 2) ≡ None
    → (G : Table) (bound n : ℕ) → KeepsRules G bound is → slice_get is n ≡ Some i → ⊥
call_named i is op e G bound n sound at =
    let v = call_view G i (act_of i) (view G i (sound.fits n i at)) op in
    none-some v.callee (sym e ∙ ap (λ os. id_in (slice_get os 2)) v.operands)

-- what a function's entry says of a call
pub entry_tells : (is : List PlainInst) (g e x : ℕ) (xs : List ℕ) → IsEntry is g e → e ≢ 0 → IsDefinedAt is x g
    → Tells is (Call x xs) (move.Call e)
entry_tells is g _ x xs (IsEntry.defined e bs d) ne f = (g, bs, f, d)
entry_tells is g _ x xs (IsEntry.declared e bs d) ne f = absurd (ne refl)

pub no_entry_tells : (is : List PlainInst) (g e x : ℕ) (xs : List ℕ) → IsEntry is g e → e ≡ 0 → IsDefinedAt is x g
    → Tells is (Call x xs) move.On
no_entry_tells is g _ x xs (IsEntry.defined e bs d) z f = let w = head_from is e (suc g) bs d.head in
    absurd (omega (arith, w, z))
no_entry_tells is g _ x xs (IsEntry.declared e bs d) z f = (g, e, bs, f, d)

-- choices

pub choose_tells : (i : PlainInst) (is : List PlainInst)
    → (i.opcode ≡ opcode.BRANCH_CONDITIONAL) ⊎ (i.opcode ≡ opcode.SWITCH) → (G : Table) (bound n : ℕ)
    → KeepsRules G bound is → slice_get is n ≡ Some i → Tells is (act_of i) move.Choose
choose_tells i is op G bound n sound at = by_view (act_of i) (view G i (sound.fits n i at)) op where
  by_view : (a : Act) → View G i a → (i.opcode ≡ opcode.BRANCH_CONDITIONAL) ⊎ (i.opcode ≡ opcode.SWITCH)
      → Tells is a move.Choose
  by_view _ (View.call a b c os gs e same en each) h =
      absurd (elim h [ inl q ↦ omega (arith, e, q) | inr q ↦ omega (arith, e, q) ])
  by_view _ (View.branch x e os) h = absurd (elim h [ inl q ↦ omega (arith, e, q) | inr q ↦ omega (arith, e, q) ])
  by_view _ (View.phi a b os gs e same en each) h =
      absurd (elim h [ inl q ↦ omega (arith, e, q) | inr q ↦ omega (arith, e, q) ])
  by_view _ (View.label b e os) h = absurd (elim h [ inl q ↦ omega (arith, e, q) | inr q ↦ omega (arith, e, q) ])
  by_view _ (View.return e os) h = absurd (elim h [ inl q ↦ omega (arith, e, q) | inr q ↦ omega (arith, e, q) ])
  by_view _ (View.value x e os) h = absurd (elim h [ inl q ↦ omega (arith, e, q) | inr q ↦ omega (arith, e, q) ])
  by_view _ (View.unreachable e os) h = absurd (elim h [ inl q ↦ omega (arith, e, q) | inr q ↦ omega (arith, e, q) ])
  by_view _ (View.other e) h =
      absurd (elim h [
        | inl q ↦ (let w : is_other 250 ≡ true = rw q at e in cc)
        | inr q ↦
            (let w : is_other 251 ≡ true = rw q at e in cc)
      ])
  by_view _ _ h = tt

-- a case is a number and a label
record Case (G : Table) (gs : List Form) (os : List Plain) : Type 0 where
  pub number : Plain
  pub label : ℕ
  pub tail : List Plain
  pub same : os ≡ number ∷ operand.Id label ∷ tail
  pub no_label : labels_in (number ∷ operand.Id label ∷ tail) ≡ label ∷ labels_in tail
  pub rest : AreOf G gs tail

number_unseen : (G : Table) (o : Plain) → is_of G form.Number o ≡ true → (os : List Plain)
    → labels_in (o ∷ os) ≡ labels_in os
number_unseen G (operand.Number a b w) h os = refl
number_unseen G _ h os = cc

a_case : (G : Table) (gs : List Form) (os : List Plain) → AreOf G (N ∷ row.l ∷ gs) os → Case G gs os
a_case G gs os a =
    let one = take_form G N (row.l ∷ gs) os a in
    let two = take_form G row.l gs one.tail one.rest in
    let q = an_id G role.Label two.head two.fits in
    record {
      number = one.head;
      label = q.0;
      tail = two.tail;
      same = one.same ∙ ap (λ ps. one.head ∷ ps) (two.same ∙ ap (λ o. o ∷ two.tail) q.1);
      no_label = number_unseen G one.head one.fits (operand.Id q.0 ∷ two.tail);
      rest = two.rest;
    }

-- after a case, places are two more
after_case : (number : Plain) (label : ℕ) (tail : List Plain)
    → ((k n : ℕ) → n ≡ 2 * k + 1 → id_in (slice_get tail n) ≡ slice_get (labels_in tail) k)
    → (k n : ℕ) → n ≡ 2 * k + 1
    → id_in (slice_get (number ∷ operand.Id label ∷ tail) n) ≡ slice_get (label ∷ labels_in tail) k
after_case number label tail rest zero zero e = absurd (omega (arith, e))
after_case number label tail rest zero (suc zero) e = refl
after_case number label tail rest zero (suc (suc n)) e = absurd (omega (arith, e))
after_case number label tail rest (suc k) zero e = absurd (omega (arith, e))
after_case number label tail rest (suc k) (suc zero) e = absurd (omega (arith, e))
after_case number label tail rest (suc k) (suc (suc n)) e = rest k n (omega (arith, e))

-- of the operands after a default, every other one is a label
case_labels : (G : Table) (gs : List Form) (os : List Plain) → Ends (repeated (N ∷ row.l ∷ [])) gs → AreOf G gs os
    → (k n : ℕ) → n ≡ 2 * k + 1 → id_in (slice_get os n) ≡ slice_get (labels_in os) k
case_labels G _ os (Ends.done _) a k n e = rw (none G os a) refl
case_labels G _ os (Ends.again _ gs en) a k n e =
    let c = a_case G gs os a in
    let labels : labels_in os ≡ c.label ∷ labels_in c.tail = ap labels_in c.same ∙ c.no_label in
    ap (λ ps. id_in (slice_get ps n)) c.same
    ∙ (after_case c.number c.label c.tail (λ j m h. case_labels G gs c.tail en c.rest j m h) k n e
    ∙ ap (λ ls. slice_get ls k) (sym labels))

same_targets : (c d : ℕ) (xs ys : List ℕ) → Choose c xs ≡ Choose d ys → xs ≡ ys
same_targets c d xs ys e = cc

-- the targets of an OpSwitch
pub switch_target : (G : Table) (i : PlainInst) (c k n : ℕ) (xs : List ℕ) → i.opcode ≡ opcode.SWITCH → n ≡ 2 * k + 1
    → FitsShape G i → act_of i ≡ Choose c xs → id_in (slice_get i.operands n) ≡ slice_get xs k
switch_target G i c k n xs op e fits h = by_view (act_of i) (view G i fits) h where
  by_view : (a : Act) → View G i a → a ≡ Choose c xs → id_in (slice_get i.operands n) ≡ slice_get xs k
  by_view _ (View.switch d x os gs q same en each) h =
      ap (λ ps. id_in (slice_get ps n)) same
      ∙ (after_case (operand.Id d) x os (case_labels G gs os en each) k n e
      ∙ ap (λ ls. slice_get ls k) (same_targets d c (x ∷ labels_in os) xs h))
  by_view _ (View.condition d x y os gs q same en each) h = absurd (omega (arith, q, op))
  by_view _ _ h = cc

-- an OpBranchConditional has two targets
record Pair (i : PlainInst) (xs : List ℕ) : Type 0 where
  pub value : ℕ
  pub one : ℕ
  pub other : ℕ
  pub tail : List Plain
  pub operands : i.operands ≡ operand.Id value ∷ operand.Id one ∷ operand.Id other ∷ tail
  pub targets : one ∷ other ∷ [] ≡ xs

pair : (G : Table) (i : PlainInst) (c : ℕ) (xs : List ℕ) → i.opcode ≢ opcode.SWITCH → (a : Act) → View G i a
    → a ≡ Choose c xs → Pair i xs
pair G i c xs op _ (View.condition d x y os gs q same en each) h =
    record { value = d; one = x; other = y; tail = os; operands = same; targets = same_targets d c (x ∷ y ∷ []) xs h }
pair G i c xs op _ (View.switch d x os gs q same en each) h = absurd (op q)
pair G i c xs op _ _ h = cc

pub one_target : (G : Table) (i : PlainInst) (c k n : ℕ) (xs : List ℕ) → i.opcode ≢ opcode.SWITCH → k < 2 → n ≡ k + 1
    → FitsShape G i → act_of i ≡ Choose c xs → id_in (slice_get i.operands n) ≡ slice_get xs k
one_target G i c k n xs op low e fits h =
    let p = pair G i c xs op (act_of i) (view G i fits) h in
    ap (λ ps. id_in (slice_get ps n)) p.operands ∙ (by_place p k n low e ∙ ap (λ ls. slice_get ls k) p.targets)
  where
    by_place : (p : Pair i xs) (k n : ℕ) → k < 2 → n ≡ k + 1
        → id_in (slice_get (operand.Id p.value ∷ operand.Id p.one ∷ operand.Id p.other ∷ p.tail) n) ≡ slice_get
        (p.one ∷ p.other ∷ []) k
    by_place p zero (suc zero) low e = refl
    by_place p (suc zero) (suc (suc zero)) low e = refl
    by_place p zero zero low e = absurd (omega (arith, e))
    by_place p zero (suc (suc n)) low e = absurd (omega (arith, e))
    by_place p (suc zero) zero low e = absurd (omega (arith, e))
    by_place p (suc zero) (suc zero) low e = absurd (omega (arith, e))
    by_place p (suc zero) (suc (suc (suc n))) low e = absurd (omega (arith, e))
    by_place p (suc (suc k)) n low e = absurd (omega (arith, low))

pub no_target : (G : Table) (i : PlainInst) (c k : ℕ) (xs : List ℕ) → i.opcode ≢ opcode.SWITCH → 2 ≤ k → FitsShape G i
    → act_of i ≡ Choose c xs → slice_get xs k ≡ None
no_target G i c k xs op high fits h =
    let p = pair G i c xs op (act_of i) (view G i fits) h in
    ap (λ ls. slice_get ls k) (sym p.targets) ∙ by_place p k high
  where
    by_place : (p : Pair i xs) (k : ℕ) → 2 ≤ k → slice_get (p.one ∷ p.other ∷ []) k ≡ None
    by_place p zero high = absurd (omega (arith, high))
    by_place p (suc zero) high = absurd (omega (arith, high))
    by_place p (suc (suc k)) high = refl

-- the label that is chosen stands where it is found
pub chosen_label : (i : PlainInst) (x place c : ℕ) (xs : List ℕ) (is : List PlainInst) → act_of i ≡ Choose c xs
    → (k : ℕ) → slice_get xs k ≡ Some x → ((m : ℕ) → IsDefinedAt is x m → place ≡ m)
    → (G : Table) (bound n : ℕ) → KeepsRules G bound is → slice_get is n ≡ Some i → IsLabelOf is x place
chosen_label i x place c xs is kind k there found G bound n sound at =
    label_found G bound is sound n x place (Choose c xs) (act_from is n i (Choose c xs) at kind)
    (contains_at xs k x there) found

-- the rest

pub return_tells : (i : PlainInst) (is : List PlainInst) → (i.opcode ≡ opcode.RETURN) ⊎ (i.opcode ≡ opcode.RETURN_VALUE)
    → (G : Table) (bound n : ℕ) → KeepsRules G bound is → slice_get is n ≡ Some i → Tells is (act_of i) move.Return
return_tells i is op G bound n sound at = by_view (act_of i) (view G i (sound.fits n i at)) op where
  by_view : (a : Act) → View G i a → (i.opcode ≡ opcode.RETURN) ⊎ (i.opcode ≡ opcode.RETURN_VALUE)
      → Tells is a move.Return
  by_view _ (View.condition c x y os gs e same en each) h =
      absurd (elim h [ inl q ↦ omega (arith, e, q) | inr q ↦ omega (arith, e, q) ])
  by_view _ (View.switch c x os gs e same en each) h =
      absurd (elim h [ inl q ↦ omega (arith, e, q) | inr q ↦ omega (arith, e, q) ])
  by_view _ (View.call a b c os gs e same en each) h =
      absurd (elim h [ inl q ↦ omega (arith, e, q) | inr q ↦ omega (arith, e, q) ])
  by_view _ (View.branch x e os) h = absurd (elim h [ inl q ↦ omega (arith, e, q) | inr q ↦ omega (arith, e, q) ])
  by_view _ (View.phi a b os gs e same en each) h =
      absurd (elim h [ inl q ↦ omega (arith, e, q) | inr q ↦ omega (arith, e, q) ])
  by_view _ (View.label b e os) h = absurd (elim h [ inl q ↦ omega (arith, e, q) | inr q ↦ omega (arith, e, q) ])
  by_view _ (View.unreachable e os) h = absurd (elim h [ inl q ↦ omega (arith, e, q) | inr q ↦ omega (arith, e, q) ])
  by_view _ (View.other e) h =
      absurd (elim h [
        | inl q ↦ (let w : is_other 253 ≡ true = rw q at e in cc)
        | inr q ↦
            (let w : is_other 254 ≡ true = rw q at e in cc)
      ])
  by_view _ _ h = tt

pub unreachable_tells : (i : PlainInst) (is : List PlainInst) → i.opcode ≡ opcode.UNREACHABLE
    → (G : Table) (bound n : ℕ) → KeepsRules G bound is → slice_get is n ≡ Some i → Tells is (act_of i) move.Unreachable
unreachable_tells i is op G bound n sound at = by_view (act_of i) (view G i (sound.fits n i at)) op where
  by_view : (a : Act) → View G i a → i.opcode ≡ opcode.UNREACHABLE → Tells is a move.Unreachable
  by_view _ (View.return e os) h = absurd (omega (arith, e, h))
  by_view _ (View.value x e os) h = absurd (omega (arith, e, h))
  by_view _ (View.condition c x y os gs e same en each) h = absurd (omega (arith, e, h))
  by_view _ (View.switch c x os gs e same en each) h = absurd (omega (arith, e, h))
  by_view _ (View.call a b c os gs e same en each) h = absurd (omega (arith, e, h))
  by_view _ (View.branch x e os) h = absurd (omega (arith, e, h))
  by_view _ (View.phi a b os gs e same en each) h = absurd (omega (arith, e, h))
  by_view _ (View.label b e os) h = absurd (omega (arith, e, h))
  by_view _ (View.other e) h = absurd (let w : is_other 255 ≡ true = rw h at e in cc)
  by_view _ _ h = tt

pub other_tells : (i : PlainInst) (is : List PlainInst) → i.opcode ≢ opcode.BRANCH
    → i.opcode ≢ opcode.BRANCH_CONDITIONAL → i.opcode ≢ opcode.SWITCH → i.opcode ≢ opcode.FUNCTION_CALL
    → i.opcode ≢ opcode.RETURN → i.opcode ≢ opcode.RETURN_VALUE → i.opcode ≢ opcode.UNREACHABLE
    → (G : Table) (bound n : ℕ) → KeepsRules G bound is → slice_get is n ≡ Some i → Tells is (act_of i) move.On
other_tells i is n1 n2 n3 n4 n5 n6 n7 G bound n sound at = by_view (act_of i) (view G i (sound.fits n i at)) where
  by_view : (a : Act) → View G i a → Tells is a move.On
  by_view _ (View.unreachable e os) = absurd (n7 e)
  by_view _ (View.return e os) = absurd (n5 e)
  by_view _ (View.value x e os) = absurd (n6 e)
  by_view _ (View.condition c x y os gs e same en each) = absurd (n2 e)
  by_view _ (View.switch c x os gs e same en each) = absurd (n3 e)
  by_view _ (View.call a b c os gs e same en each) = absurd (n4 e)
  by_view _ (View.branch x e os) = absurd (n1 e)
  by_view _ _ = tt

pushed : {A : Type 0} (ms : List A) (m : A) (n : ℕ) → length ms ≡ n → slice_get (ms ++ (m ∷ [])) n ≡ Some m
pushed [] m zero h = refl
pushed [] m (suc n) h = absurd (omega (arith, h))
pushed (k ∷ ms) m zero h = absurd (omega (arith, h))
pushed (k ∷ ms) m (suc n) h = pushed ms m n (omega (arith, h))

kept : {A : Type 0} (ms : List A) (m : A) (k : ℕ) (x : A) → slice_get ms k ≡ Some x
    → slice_get (ms ++ (m ∷ [])) k ≡ Some x
kept [] m k x h = absurd (none-some x h)
kept (y ∷ ms) m zero x h = h
kept (y ∷ ms) m (suc k) x h = kept ms m k x h

-- Where bodies begin.

pub no_function : (is : List PlainInst) (n : ℕ) (i : PlainInst) → slice_get is n ≡ Some i → i.opcode ≢ opcode.FUNCTION
    → (G : Table) (bound : ℕ) → KeepsRules G bound is → act_at is n ≡ Some Function → ⊥
no_function is n i at ne G bound sound f =
    let k = act_back is n Function f in
    let same : k.0 ≡ i = same_Some k.0 i (sym k.1 ∙ at) in
    ne (sym (ap (λ (q : PlainInst). q.opcode) same)
    ∙ function_opcode G k.0 (act_of k.0) (view G k.0 (sound.fits n k.0 k.1)) k.2)

pub entries_none : (is : List PlainInst) (es : List ℕ) → HaveEntriesBefore is 0 es
entries_none is es = record { each = λ G bound g sound l h. absurd (omega (arith, l)) }

pub entries_more : (is : List PlainInst) (n : ℕ) (es : List ℕ) (e : ℕ) → length es ≡ n → HaveEntriesBefore is n es
    → ((G : Table) (bound : ℕ) → KeepsRules G bound is → act_at is n ≡ Some Function → IsEntry is n e)
    → HaveEntriesBefore is (n + 1) (es ++ (e ∷ []))
entries_more is n es e len before here = record {
  each = λ G bound g sound l f. elim (cases_lt g n) [
    | inl less ↦ (let b = before.each G bound g sound less f in (b.0, kept es e g b.0 b.1, b.2))
    | inr more ↦ (
        let same : g ≡ n = omega (arith, l, more) in (
          e,
          pushed es e g (len ∙ sym same),
          subst (λ k. IsEntry is k e) (sym same)
              (here G bound sound (subst (λ k. act_at is k ≡ Some Function) same f)),
        ))
  ];
}

pub entries_all : (is : List PlainInst) (n : ℕ) (es : List ℕ) → length is ≤ n → HaveEntriesBefore is n es
    → HaveEntries is es
entries_all is n es l before G bound g sound f =
    let k = act_back is g Function f in
    let w = slice_get_within is g k.0 k.1 in
    before.each G bound g sound (omega (arith, l, w)) f

pub has_entry : (is : List PlainInst) (es : List ℕ) (g : ℕ) → HaveEntries is es → (G : Table) (bound : ℕ)
    → KeepsRules G bound is → act_at is g ≡ Some Function → length es ≤ g → ⊥
has_entry is es g have G bound sound f l =
    let r = have G bound g sound f in
    let w = slice_get_within es g r.0 r.1 in
    absurd (omega (arith, l, w))

pub entry_in_list : (is : List PlainInst) (es : List ℕ) (g e : ℕ) → HaveEntries is es → slice_get es g ≡ Some e
    → (G : Table) (bound : ℕ) → KeepsRules G bound is → act_at is g ≡ Some Function → IsEntry is g e
entry_in_list is es g e have h G bound sound f =
    let r = have G bound g sound f in
    subst (λ k. IsEntry is g k) (same_Some r.0 e (sym r.1 ∙ h)) r.2

-- The start of a run.

pub start_at : (G : Table) (bound : ℕ) (is : List PlainInst) (g x e : ℕ) (xs choices : List ℕ) (s : State)
    → KeepsRules G bound is → IsDefinedAt is x g → IsStart is g choices s → Tells is (Call x xs) (move.Call e)
    → s.top.position ≡ e
start_at G bound is g x e xs choices s sound d start (k, bs, f, defined) =
    let once = one_definition G bound is sound.ids in
    let same : g ≡ k = once g k x (result_of is g x d) (result_of is k x f) in
    let head = head_once is start.entry e (suc g) (suc k) start.parameters bs start.defined.head defined.head
    (ap suc same) (label_ends is start.entry start.defined.entry) (label_ends is e defined.entry) in
    ap (λ (t : State). t.top.position) start.start ∙ head.place

pub no_start : (G : Table) (bound : ℕ) (is : List PlainInst) (g x : ℕ) (xs choices : List ℕ) (s : State) (m : Move)
    → KeepsRules G bound is → IsDefinedAt is x g → IsStart is g choices s → Tells is (Call x xs) m
    → ((e : ℕ) → m ≡ move.Call e → ⊥) → ⊥
no_start G bound is g x xs choices s move.On sound d start (k, e, bs, f, declared) no_call =
    not_both is (one_definition G bound is sound.ids) x g k start.entry e start.parameters bs d f start.defined declared
no_start G bound is g x xs choices s (move.Call e) sound d start t no_call = no_call e refl
no_start G bound is g x xs choices s (move.Branch n) sound d start t no_call = t
no_start G bound is g x xs choices s move.Choose sound d start t no_call = t
no_start G bound is g x xs choices s move.Return sound d start t no_call = t
no_start G bound is g x xs choices s move.Unreachable sound d start t no_call = t

pub if_ok : {A E : Type 0} (r : Result A E) (P Q : A → Type 0) → IfOk r P → ((t : A) → P t → Q t) → IfOk r Q
if_ok (Ok t) P Q h f = f t h
if_ok (Err e) P Q h f = h
