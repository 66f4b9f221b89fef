-- Labels are in scope, walks are those of the layers below, and what is used on them is defined.
use Rattle.std.proofs.Common.{◌≡◌, ◌∙◌, ◌≤◌, ◌<◌, ◌+◌, ◌⊎◌, inl, inr, ℕ, zero, suc, List, [], ◌∷◌, map, Bool, true}
use Rattle.std.proofs.Common.{false, ◌&&◌, ◌||◌, nat_eq, IsTrue, Option, Some, None, refl, sym, ap, subst, arith}
use Rattle.std.proofs.Common.{length, Contains}
use Rattle.std.specs.Prelude.{slice_get, option_and_then, option_map, nat_le}
use Rattle.std.proofs.lemmas.Bool.{cases_Bool, cases_eq, eqb-true, leb-true}
use Rattle.std.proofs.lemmas.List.Elements.{All-cons}
use Rattle.std.proofs.lemmas.Option.{none-some, same_Some, slice_get_within, slice_get-map}
use Rattle.spv_table.specs.Table.{Table}
use Rattle.spv_module.specs.Operand.{PlainInst, type_in}
use Rattle.spv_module.specs.Width.{definition_of, type_of}
use Rattle.spv_module.specs.declared.fault.Rule.TheVariants as rule
use Rattle.spv_module.specs.declared.opcode.TheConstants as opcode
use Rattle.spv_layout.specs.declared.form.Role.{Role}
use Rattle.spv_layout.specs.declared.form.Role.TheVariants as role
use Rattle.spv_layout.specs.First.{IsUnbroken}
use Rattle.spv_layout.specs.Rows.{class_of}
use Rattle.spv_layout.specs.Layout.{IsLayout, classes}
use Rattle.spv_layout.specs.Place.{IsDefinition, IsOfSection, section_of}
use Rattle.spv_layout.specs.Stage as stages
use Rattle.spv_ids.specs.Broken as ids
use Rattle.spv_ids.specs.Definition as local_ids
use Rattle.spv_ids.specs.Definition.{IsUsedAt}
use Rattle.spv_ids.specs.Order.{IsInScope}
use Rattle.spv_flow.specs.branches.Broken as branches
use Rattle.spv_flow.specs.declared.branches.fork.Fork.TheVariants.{Free}
use Rattle.spv_flow.specs.branches.Target as target
use Rattle.spv_flow.specs.branches.inner.Target as opcodes
use Rattle.spv_flow.specs.branches.Target.{IsOp, IsLabelOf}
use Rattle.spv_flow.specs.branches.Walk as walks
use Rattle.spv_flow.specs.branches.Ready.{IsLocalValue}
use Rattle.spv_run.specs.Act.{Act, Function, FunctionEnd, Label, Phi, Pair, act_of}
use Rattle.spv_run.specs.Act as act
use Rattle.spv_run.specs.At.{act_at, result_at, value_from}
use Rattle.spv_run.specs.inner.At.{targets, goes_on}
use Rattle.spv_run.proofs.Place.{IsOf, IsIn, IsLocal}
use Rattle.spv_run.proofs.LaidOut.{IsLaidOut}
use Rattle.spv_run.proofs.Fit.{AllFit, HasOneDefinition}
use Rattle.spv_run.proofs.Walk.{follows, jumps, Walk, Defined, label_in, is_label, before_label, last_label}
use Rattle.spv_run.specs.Row.{values_of}
use Rattle.spv_run.proofs.Checked.{HasLabelsInScope, HaveTypes, IsTyped, AreOthersReady}
use Rattle.spv_run.proofs.Flow.{HasParents, IsPredecessor, IsReady, IsReadyOn}
use Rattle.spv_run.proofs.Basics.{act_back, act_from}
use Rattle.spv_run.proofs.Places.{of_next, one_function, label_true, label_false}
use Rattle.spv_run.proofs.Frames.{label_after, one_block}
use Rattle.spv_run.proofs.Shapes.{View, view, is_other}
use Rattle.spv_run.proofs.Classes.{class_249, class_250, class_251, act_phi}
use Rattle.spv_run.proofs.Standing.{of_function, function_of, block_place, block_of, defined_at, result_of, label_to}
use Rattle.spv_run.proofs.Standing.{is_local, local_from, here_within, op_label, label_op}
use Rattle.spv_run.proofs.Rows.{defines}
use Rattle.spv_run.proofs.Uses.{value_use, no_any, parent_paired, pair_uses, phi_forms}
use Rattle.spv_run.proofs.Unbroken.{target_of}

-- the section of a branch

record Late (i : PlainInst) : Type 0 where
  pub section : section_of (class_of i.opcode) ≡ None

late_view : (G : Table) (i : PlainInst) (a : Act) (x : ℕ) → View G i a → Contains (targets a) x → Late i
late_view G i _ x (View.branch y e same) c =
    record { section = ap (λ n. section_of (class_of n)) e ∙ ap section_of class_249 }
late_view G i _ x (View.condition s y z os gs e same en each) c =
    record { section = ap (λ n. section_of (class_of n)) e ∙ ap section_of class_250 }
late_view G i _ x (View.switch s y os gs e same en each) c =
    record { section = ap (λ n. section_of (class_of n)) e ∙ ap section_of class_251 }
late_view G i _ x (View.function a b k' m s e os) (k, l, e') = absurd (omega (arith, l))
late_view G i _ x (View.parameter t b e os) (k, l, e') = absurd (omega (arith, l))
late_view G i _ x (View.function_end e os) (k, l, e') = absurd (omega (arith, l))
late_view G i _ x (View.call a b d os gs e same en each) (k, l, e') = absurd (omega (arith, l))
late_view G i _ x (View.phi a b os gs e same en each) (k, l, e') = absurd (omega (arith, l))
late_view G i _ x (View.label b e os) (k, l, e') = absurd (omega (arith, l))
late_view G i _ x (View.return e os) (k, l, e') = absurd (omega (arith, l))
late_view G i _ x (View.value y e os) (k, l, e') = absurd (omega (arith, l))
late_view G i _ x (View.unreachable e os) (k, l, e') = absurd (omega (arith, l))
late_view G i _ x (View.other e) (k, l, e') = absurd (omega (arith, l))

class_here : (is : List PlainInst) (n : ℕ) (i : PlainInst) → slice_get is n ≡ Some i
    → slice_get (classes is) n ≡ Some (class_of i.opcode)
class_here is n i h = slice_get-map (λ j. class_of j.opcode) is n ∙ ap (option_map (λ j. class_of j.opcode)) h

-- D5
pub labels_in_scope : (G : Table) (bound : ℕ) (is : List PlainInst) → AllFit G is → IsLaidOut is → HasOneDefinition is
    → IsUnbroken (ids.Broken G bound is) stages.of_ids → HasLabelsInScope is
labels_in_scope G bound is fits laid once u = λ f n m x a o h c lab.
    let home = laid.labels m lab.act in
    elim (cases_eq home.0 f) [
      | inl e ↦ subst (λ g. IsOf is g m) e home.2
      | inr ne ↦ absurd (
          let t = target_of G is fits n x a h c in
          let i = act_back is n a h in
          let c' : Contains (targets (act_of i.0)) x = subst (λ b. Contains (targets b) x) (sym i.2) c in
          let late = late_view G i.0 (act_of i.0) x (view G i.0 (fits n i.0 i.1)) c' in
          let local : local_ids.IsLocal is x = is_local G is fits laid x (
            home.0,
            record {
              place = m;
              after = label_after is home.0 m home.2 lab.act;
              inside = home.2;
              result = lab.result;
            },
          ) in
          let out : ¬ (IsInScope is n x) = (λ s.
          let here : s.function ≡ f = one_function is laid s.function f n (function_of G is fits s.function n s.of) o in
          let l = local_from G is fits s.function x s.local in
          let place : l.place ≡ m = once l.place m x l.result lab.result in
          let it : IsOf is s.function m = subst (λ k. IsOf is s.function k) place l.inside in
          ne (one_function is laid home.0 s.function m home.2 it ∙ here)) in
          let last = (of_function G is fits laid f n o (here_within is n a h)).begun in
          let there = class_here is n i.0 i.1 in
          let no_definition : ¬ (IsDefinition is f) = (λ d. u rule.D5 n refl
          (ids.Broken.not_in_scope n t.operand x role.Label t.used
          (inr (inr (IsOfSection.definition (class_of i.0.opcode) f there late.section last d))) local out)) in
          u rule.D5 n refl (ids.Broken.not_in_scope n t.operand x role.Label t.used
          (inr (inl (IsOfSection.declaration (class_of i.0.opcode) f there late.section last no_definition))) local
          out))
    ]

-- F3
phi_op : (G : Table) (i : PlainInst) (ps : List Pair) (is : List PlainInst) (n : ℕ) → AllFit G is
    → slice_get is n ≡ Some i → act_of i ≡ Phi ps → IsOp is n target.is_phi
phi_op G i ps is n fits at k = let p = phi_forms G i ps (fits n i at) k in let e = p.opcode in rw (at, e) refl

pub has_parents : (G : Table) (is : List PlainInst) → AllFit G is → IsLayout (classes is) → IsLaidOut is
    → HasOneDefinition is → IsUnbroken (branches.Broken Free G is) stages.of_branches → HasParents is
has_parents G is fits laying laid once u =
    λ b n p y ps o h q r. by_value b n p y ps o h q r (value_from ps y) refl where
      by_value : (b n p y : ℕ) (ps : List Pair) → IsIn is b n → act_at is n ≡ Some (Phi ps) → IsPredecessor is p b
          → result_at is p ≡ Some y → (w : Option ℕ) → value_from ps y ≡ w
          → (v : ℕ) × (value_from ps y ≡ Some v)
      by_value b n p y ps o h q r (Some v) e = (v, e)
      by_value b n p y ps o h q r None e = absurd (
          let i = act_back is n (Phi ps) h in
          u rule.F3 n refl (branches.Broken.parents n (phi_op G i.0 ps is n fits i.1 i.2) (λ has.
          let block : has.block ≡ b = one_block is laid has.block b n (block_of G is fits laying has.block n has.of) o in
          let t = target_of G is fits q.place q.label q.act q.there q.target in
          let leads : target.IsPredecessor G is b p = (
            q.place,
            record {
              of = block_place G is fits laid p q.place q.inside (here_within is q.place q.act q.there);
              id = q.label;
              target = t;
              label = label_to G is fits b q.label q.block;
            },
          ) in
          let found = has.all p (subst (λ k. target.IsPredecessor G is k p) (sym block) leads) in
          let parent = found.1 in
          let same : parent.id ≡ y = same_Some parent.id y (sym (result_of is p parent.id parent.label.defined) ∙ r) in
          let used = subst (λ k. IsUsedAt G is n found.0 k role.Label) same parent.used in
          parent_paired G is n i.0 ps found.0 y i.1 (fits n i.0 i.1) i.2 used e)))

-- Walks.

or_split : (a b : Bool) → (a || b) ≡ true → (a ≡ true) ⊎ (b ≡ true)
or_split true b h = inl refl
or_split false b h = inr h

and_split : (a b : Bool) → (a && b) ≡ true → (a ≡ true) × (b ≡ true)
and_split true b h = (refl, h)
and_split false b h = cc

no_other : (n m : ℕ) → is_other n ≡ true → n ≡ m → is_other m ≡ false → ⊥
no_other n m h e g = let w : true ≡ false = sym h ∙ (ap is_other e ∙ g) in cc

between : (n a b : ℕ) → nat_le a n ≡ true → nat_le n b ≡ true → (a ≤ n) × (n ≤ b)
between n a b h g = (leb-true a n h, leb-true n b g)

other_not_terminator : (n : ℕ) → is_other n ≡ true → opcodes.is_terminator n ≡ true → ⊥
other_not_terminator n h t = elim (or_split (target.is_branch n) (nat_le 253 n && nat_le n 255) t) [
  | inl b ↦ (
      let two = and_split (nat_le 249 n) (nat_le n 251) b in
      let low = leb-true 249 n two.0 in
      let high = leb-true n 251 two.1 in
      elim (cases_eq n 249) [
        | inl e ↦ no_other n 249 h e refl
        | inr a ↦ elim (cases_eq n 250) [
          | inl e ↦ no_other n 250 h e refl
          | inr c ↦ elim (cases_eq n 251) [
            | inl e ↦ no_other n 251 h e refl
            | inr d ↦
                omega (arith, low, high, a, c, d)
          ]
        ]
      ])
  | inr b ↦ (
      let two = and_split (nat_le 253 n) (nat_le n 255) b in
      let low = leb-true 253 n two.0 in
      let high = leb-true n 255 two.1 in
      elim (cases_eq n 253) [
        | inl e ↦ no_other n 253 h e refl
        | inr a ↦ elim (cases_eq n 254) [
          | inl e ↦ no_other n 254 h e refl
          | inr c ↦ elim (cases_eq n 255) [
            | inl e ↦ no_other n 255 h e refl
            | inr d ↦
                omega (arith, low, high, a, c, d)
          ]
        ]
      ])
]

goes_view : (G : Table) (i : PlainInst) (a : Act) → View G i a → IsTrue (goes_on a)
    → opcodes.is_terminator i.opcode ≡ true → ⊥
goes_view G i _ (View.function a b k' m s e os) g t = let w : opcodes.is_terminator 54 ≡ true = rw e at t in cc
goes_view G i _ (View.parameter a b e os) g t = let w : opcodes.is_terminator 55 ≡ true = rw e at t in cc
goes_view G i _ (View.call a b d os gs e same en each) g t = let w : opcodes.is_terminator 57 ≡ true = rw e at t in cc
goes_view G i _ (View.phi a b os gs e same en each) g t = let w : opcodes.is_terminator 245 ≡ true = rw e at t in cc
goes_view G i _ (View.label b e os) g t = let w : opcodes.is_terminator 248 ≡ true = rw e at t in cc
goes_view G i _ (View.other e) g t = other_not_terminator i.opcode e t
goes_view G i _ _ g t = cc

op_there : (is : List PlainInst) (n : ℕ) (i : PlainInst) (test : ℕ → Bool) → slice_get is n ≡ Some i → IsOp is n test
    → test i.opcode ≡ true
op_there is n i test at o = rw at at o

pub function_opcode : (G : Table) (i : PlainInst) (a : Act) → View G i a → a ≡ Function → i.opcode ≡ opcode.FUNCTION
function_opcode G i _ (View.function a b k' m s e os) h = e
function_opcode G i _ _ h = cc

op_function : (G : Table) (is : List PlainInst) → AllFit G is → (n : ℕ) → act_at is n ≡ Some Function
    → IsOp is n opcodes.is_function
op_function G is fits n h =
    let i = act_back is n Function h in
    let e = function_opcode G i.0 (act_of i.0) (view G i.0 (fits n i.0 i.1)) i.2 in
    rw (i.1, e) refl

pub record Walked (G : Table) (is : List PlainInst) (f : ℕ) (past : List ℕ) (n : ℕ) : Type 0 where
  pub walk : walks.IsWalk G is f past n
  pub inside : IsOf is f n

pub walked : (G : Table) (is : List PlainInst) → AllFit G is → IsLaidOut is → HasLabelsInScope is
    → (f : ℕ) (past : List ℕ) (n : ℕ) → n < length is → Walk is f past n → Walked G is f past n
walked G is fits laid scope f [] n l (e, h) = subst (λ k. Walked G is f [] k) (sym e) (record {
  walk = walks.IsWalk.begins (op_function G is fits f h);
  inside = record { function = h; from = omega arith; within = λ k a b. absurd (omega (arith, a, b)) };
})
walked G is fits laid scope f (h ∷ past) n l (follows a at goes e, w) =
    let before = walked G is fits laid scope f past h (here_within is h a at) w in
    let inside : IsOf is f (suc h) = of_next is f h a before.inside at goes in
    let plus : suc h ≡ h + 1 = omega arith in
    let inside' : IsOf is f (h + 1) = subst (λ k. IsOf is f k) plus inside in
    let i = act_back is h a at in
    let goes' : IsTrue (goes_on (act_of i.0)) = subst (λ b. IsTrue (goes_on b)) (sym i.2) goes in
    let no_end : ¬ (IsOp is h opcodes.is_terminator) =
    (λ o. goes_view G i.0 (act_of i.0) (view G i.0 (fits h i.0 i.1)) goes'
    (op_there is h i.0 opcodes.is_terminator i.1 o)) in
    let there : n ≡ h + 1 = e ∙ plus in
    subst (λ k. Walked G is f (h ∷ past) k) (sym there) (record {
      walk = walks.IsWalk.goes past h (h + 1) before.walk (walks.Next.follows no_end)
          (of_function G is fits laid f (h + 1) inside' (subst (λ k. k < length is) there l));
      inside = inside';
    })
walked G is fits laid scope f (h ∷ past) n l (jumps a x at c label, w) =
    let before = walked G is fits laid scope f past h (here_within is h a at) w in
    let inside : IsOf is f n = scope f h n x a before.inside at c label in
    record {
      walk = walks.IsWalk.goes past h n before.walk
          (walks.Next.jumps x n (target_of G is fits h x a at c) (label_to G is fits n x label))
          (of_function G is fits laid f n inside l);
      inside = inside;
    }

-- What is defined on a walk.

pub defined_or : (is : List PlainInst) (past : List ℕ) (x : ℕ) → Defined is past x ⊎ (¬ (Defined is past x))
defined_or is [] x = inr (λ d. d)
defined_or is (h ∷ past) x = elim (by_result (result_at is h) refl) [
  | inl e ↦ inl (inl e)
  | inr ne ↦ elim (defined_or is past x) [
    | inl d ↦ inl (inr d)
    | inr nd ↦ inr (λ d. elim d [ inl e ↦ ne e | inr q ↦ nd q ])
  ]
] where
  by_result : (o : Option ℕ) → result_at is h ≡ o → (result_at is h ≡ Some x) ⊎ (¬ (result_at is h ≡ Some x))
  by_result None e = inr (λ g. none-some x (sym e ∙ g))
  by_result (Some y) e = elim (cases_eq y x) [
    | inl same ↦ inl (e ∙ ap Some same)
    | inr ne ↦ inr (λ g. ne (same_Some y x (sym e ∙ g)))
  ]

among_defined : (is : List PlainInst) (past : List ℕ) (x : ℕ) → walks.IsResultAmong is past x → Defined is past x
among_defined is [] x (k, n, lt, e, d) = absurd (omega (arith, lt))
among_defined is (h ∷ past) x (zero, n, lt, e, d) = let same : n ≡ h = cc in
    inl (ap (result_at is) (sym same) ∙ result_of is n x d)
among_defined is (h ∷ past) x (suc k, n, lt, e, d) = inr (among_defined is past x (k, n, omega (arith, lt), e, d))

-- an id that is local and has a type
pub local_value : (G : Table) (is : List PlainInst) → AllFit G is → IsLaidOut is → (x t : ℕ) → IsLocal is x
    → type_of is x ≡ Some t → IsLocalValue is x
local_value G is fits laid x t l h = by_definition (definition_of is x) refl h where
  by_definition : (o : Option PlainInst) → definition_of is x ≡ o → option_and_then (λ i. type_in i.operands) o ≡ Some t
      → IsLocalValue is x
  by_definition None e g = absurd (none-some t g)
  by_definition (Some d) e g =
      let at = defines is x d e in
      record {
        local = is_local G is fits laid x l;
        place = at.place;
        defined = record { inst = d; there = at.there; result = at.result };
        inst = d;
        there = at.there;
        of_type = t;
        typed = g;
      }

type_there : (is : List PlainInst) (xs ts : List ℕ) (x : ℕ) → HaveTypes is xs ts → Contains xs x
    → (t : ℕ) × (type_of is x ≡ Some t)
type_there is [] ts x h (k, l, e) = absurd (omega (arith, l))
type_there is (y ∷ xs) [] x h c = absurd h
type_there is (y ∷ xs) (t ∷ ts) x h (zero, l, e) = (t, ap (type_of is) (sym e) ∙ h.0)
type_there is (y ∷ xs) (t ∷ ts) x h (suc k, l, e) = type_there is xs ts x h.1 (k, omega (arith, l), e)

-- A1
missing : (G : Table) (is : List PlainInst) → AllFit G is → IsLaidOut is → HasLabelsInScope is
    → IsUnbroken (branches.Broken Free G is) stages.of_values → (f n k x : ℕ) (past : List ℕ) (r : Role)
    → Walk is f past n
    → n < length is
    → ¬ (IsOp is n target.is_phi) → IsUsedAt G is n k x r → IsLocalValue is x → Defined is past x
missing G is fits laid scope u f n k x past r w l other used local = elim (defined_or is past x) [
  | inl d ↦ d
  | inr nd ↦ absurd (u rule.A1 n refl (branches.Broken.missing n (record {
    other = other;
    function = f;
    past = past;
    walk = (walked G is fits laid scope f past n l w).walk;
    operand = k;
    id = x;
    role = r;
    used = used;
    local = local;
    undefined = λ a. nd (among_defined is past x a);
  })))
]

no_phi : (G : Table) (i : PlainInst) (a : Act) → View G i a → act_phi a ≡ false → target.is_phi i.opcode ≡ true → ⊥
no_phi G i _ (View.function a b k' m s e os) h t = let w : nat_eq 54 245 ≡ true = rw e at t in cc
no_phi G i _ (View.parameter a b e os) h t = let w : nat_eq 55 245 ≡ true = rw e at t in cc
no_phi G i _ (View.function_end e os) h t = let w : nat_eq 56 245 ≡ true = rw e at t in cc
no_phi G i _ (View.call a b d os gs e same en each) h t = let w : nat_eq 57 245 ≡ true = rw e at t in cc
no_phi G i _ (View.phi a b os gs e same en each) h t = cc
no_phi G i _ (View.label b e os) h t = let w : nat_eq 248 245 ≡ true = rw e at t in cc
no_phi G i _ (View.branch y e same) h t = let w : nat_eq 249 245 ≡ true = rw e at t in cc
no_phi G i _ (View.condition s y z os gs e same en each) h t = let w : nat_eq 250 245 ≡ true = rw e at t in cc
no_phi G i _ (View.switch s y os gs e same en each) h t = let w : nat_eq 251 245 ≡ true = rw e at t in cc
no_phi G i _ (View.return e os) h t = let w : nat_eq 253 245 ≡ true = rw e at t in cc
no_phi G i _ (View.value y e os) h t = let w : nat_eq 254 245 ≡ true = rw e at t in cc
no_phi G i _ (View.unreachable e os) h t = let w : nat_eq 255 245 ≡ true = rw e at t in cc
no_phi G i _ (View.other e) h t = no_other i.opcode 245 e (eqb-true i.opcode 245 t) refl

not_phi : (G : Table) (is : List PlainInst) → AllFit G is → (n : ℕ) (i : PlainInst) → slice_get is n ≡ Some i
    → act_phi (act_of i) ≡ false → ¬ (IsOp is n target.is_phi)
not_phi G is fits n i at h o = no_phi G i (act_of i) (view G i (fits n i at)) h (op_there is n i target.is_phi at o)

-- the places before the last label of a walk
record LastOf (is : List PlainInst) (past : List ℕ) (b : ℕ) : Type 0 where
  pub earlier : List ℕ
  pub last : walks.IsLastLabel is past b earlier

is_label_op : (G : Table) (is : List PlainInst) → AllFit G is → (n : ℕ) → is_label is n ≡ true
    → IsOp is n target.is_label
unfolding is_label
is_label_op G is fits n h = by_act (act_at is n) refl h where
  by_act : (o : Option Act) → act_at is n ≡ o → label_in o ≡ true → IsOp is n target.is_label
  by_act (Some Label) e g = op_label G is fits n e
  by_act _ e g = cc

op_is_label : (is : List PlainInst) (n : ℕ) → is_label is n ≡ false → ¬ (IsOp is n target.is_label)
op_is_label is n h o = let w = label_true is n (label_op is n o) in cc

one_more_later : (is : List PlainInst) (h : ℕ) (past : List ℕ) (b : ℕ) (earlier : List ℕ) → is_label is h ≡ false
    → walks.IsLastLabel is past b earlier → walks.IsLastLabel is (h ∷ past) b earlier
one_more_later is h past b earlier isnt l = record {
  later = h ∷ l.later;
  divided = ap (λ ps. h ∷ ps) l.divided;
  label = l.label;
  last = All-cons (λ n. ¬ (IsOp is n target.is_label)) h l.later (op_is_label is h isnt) l.last;
}

here_last : (G : Table) (is : List PlainInst) → AllFit G is → (h : ℕ) (past : List ℕ) → is_label is h ≡ true
    → walks.IsLastLabel is (h ∷ past) h past
here_last G is fits h past e =
    record {
      later = [];
      divided = refl;
      label = is_label_op G is fits h e;
      last = λ k d lt. absurd (omega (arith, lt));
    }

last_of : (G : Table) (is : List PlainInst) → AllFit G is → (past : List ℕ) (b : ℕ) → last_label is past ≡ Some b
    → LastOf is past b
last_of G is fits [] b h = absurd (none-some b h)
last_of G is fits (h ∷ past) b g = elim (cases_Bool (is_label is h)) [
  | inl e ↦ (
      let one : Some h ≡ Some b = rw e at g in
      record {
        earlier = past;
        last = subst (λ k. walks.IsLastLabel is (h ∷ past) k past) (same_Some h b one)
            (here_last G is fits h past e);
      })
  | inr e ↦ (
      let rest : last_label is past ≡ Some b = rw e at g in
      let r = last_of G is fits past b rest in
      record { earlier = r.earlier; last = one_more_later is h past b r.earlier e r.last })
]

-- where a walk to an instruction that is no label has a label, what stands before its last one
record Before (is : List PlainInst) (past : List ℕ) (n : ℕ) : Type 0 where
  pub block : ℕ
  pub last : walks.IsLastLabel is past block (before_label is past n)

before_same : (is : List PlainInst) (past : List ℕ) (n : ℕ) → is_label is n ≡ true → before_label is past n ≡ past
before_same is [] n h = refl
before_same is (k ∷ past) n h = rw h refl

before_next : (is : List PlainInst) (past : List ℕ) (h n : ℕ) → is_label is n ≡ false
    → before_label is (h ∷ past) n ≡ before_label is past h
before_next is past h n e = rw e refl

before_or : (G : Table) (is : List PlainInst) → AllFit G is → (past : List ℕ) (n : ℕ) → is_label is n ≡ false
    → Before is past n ⊎ (before_label is past n ≡ [])
before_or G is fits [] n e = inr refl
before_or G is fits (h ∷ past) n e = elim (cases_Bool (is_label is h)) [
  | inl g ↦ inl (record {
    block = h;
    last = subst (λ ps. walks.IsLastLabel is (h ∷ past) h ps)
        (sym (before_next is past h n e ∙ before_same is past h g)) (here_last G is fits h past g);
  })
  | inr g ↦ elim (before_or G is fits past h g) [
    | inl r ↦ inl (record {
      block = r.block;
      last = subst (λ ps. walks.IsLastLabel is (h ∷ past) r.block ps) (sym (before_next is past h n e))
          (one_more_later is h past r.block (before_label is past h) g r.last);
    })
    | inr none ↦ inr (before_next is past h n e ∙ none)
  ]
]

-- A2
phi_ready : (G : Table) (is : List PlainInst) → AllFit G is → IsLaidOut is → HasLabelsInScope is → IsTyped is
    → IsUnbroken (branches.Broken Free G is) stages.of_values
    → (f n : ℕ) (past : List ℕ) (i : PlainInst) (ps : List Pair)
    → Walk is f past n → slice_get is n ≡ Some i → act_of i ≡ Phi ps → (b y v : ℕ)
    → last_label is (before_label is past n) ≡ Some b → result_at is b ≡ Some y → value_from ps y ≡ Some v
    → IsLocal is v → Defined is (before_label is past n) v
phi_ready G is fits laid scope typed u f n past i ps w at k b y v last r pair local =
    elim (defined_or is (before_label is past n) v) [
      | inl d ↦ d
      | inr nd ↦ (
          let l = slice_get_within is n i at in
          let there : act_at is n ≡ Some (Phi ps) = act_from is n i (Phi ps) at k in
          let no_label : is_label is n ≡ false = label_false is n (Phi ps) there
          (λ e. let w : act_phi (Phi ps) ≡ false = ap act_phi e in cc) in
          let from = last_of G is fits (before_label is past n) b last in
          let own = walked G is fits laid scope f past n l w in
          let uses = pair_uses G is n i ps y v at (fits n i at) k pair in
          let types = typed f n i own.inside at in
          let of_type = type_there is (values_of i (act_of i)) types.0 v types.1 (paired_among i ps y v k pair) in
          let parent : IsLabelOf is y b = record { defined = defined_at is b y r; label = from.last.label } in
          elim (before_or G is fits past n no_label) [
            | inl before ↦ absurd (u rule.A2 n refl (branches.Broken.pair_missing n (record {
              phi = phi_op G i ps is n fits at k;
              value = v;
              parent = b;
              before = before_label is past n;
              pair = record { operand = uses.operand; paired = uses.value; id = y; named = uses.label; label = parent };
              comes = record {
                function = f;
                past = past;
                walk = own.walk;
                block = before.block;
                here = before.last;
                earlier = from.earlier;
                from = from.last;
              };
              local = local_value G is fits laid v of_type.0 local of_type.1;
              undefined = λ a. nd (among_defined is (before_label is past n) v a);
            })))
            | inr none ↦ absurd (none-some b (ap (last_label is) (sym none) ∙ last))
          ])
    ] where
      paired_in : (ps : List Pair) (y v : ℕ) → value_from ps y ≡ Some v → Contains (map (λ (p : Pair). p.value) ps) v
      paired_in [] y v h = absurd (none-some v h)
      paired_in (p ∷ ps) y v h = elim (cases_Bool (nat_eq p.parent y)) [
        | inl e ↦ (let g : Some p.value ≡ Some v = rw e at h in (0, omega arith, same_Some p.value v g))
        | inr e ↦ (let g : value_from ps y ≡ Some v = rw e at h in let c = paired_in ps y v g in
            (suc c.0, omega (arith, c.1), c.2))
      ]

      paired_among : (i : PlainInst) (ps : List Pair) (y v : ℕ) → act_of i ≡ Phi ps → value_from ps y ≡ Some v
          → Contains (values_of i (act_of i)) v
      paired_among i ps y v k h = subst (λ a. Contains (values_of i a) v) (sym k) (paired_in ps y v h)

phi_on : (is : List PlainInst) (past : List ℕ) (n : ℕ) (i : PlainInst) (a : Act)
    → ((ps : List Pair) → a ≡ Phi ps → (b y v : ℕ) → last_label is (before_label is past n) ≡ Some b
    → result_at is b ≡ Some y → value_from ps y ≡ Some v → IsLocal is v → Defined is (before_label is past n) v)
    → (act_phi a ≡ false → (x : ℕ) → Contains (values_of i a) x → IsLocal is x → Defined is past x)
    → IsReadyOn is past n i a
phi_on is past n i (Phi ps) h g = h ps refl
phi_on is past n i Function h g = g refl
phi_on is past n i act.Parameter h g = g refl
phi_on is past n i FunctionEnd h g = g refl
phi_on is past n i Label h g = g refl
phi_on is past n i (act.Branch l) h g = g refl
phi_on is past n i (act.Choose c ls) h g = g refl
phi_on is past n i (act.Call x xs) h g = g refl
phi_on is past n i act.Return h g = g refl
phi_on is past n i (act.ReturnValue v) h g = g refl
phi_on is past n i act.Unreachable h g = g refl
phi_on is past n i act.Misfit h g = g refl
phi_on is past n i act.Other h g = g refl

pub all_ready : (G : Table) (is : List PlainInst) → AllFit G is → IsLaidOut is → HasLabelsInScope is → IsTyped is
    → IsUnbroken (branches.Broken Free G is) stages.of_values → IsReady is
all_ready G is fits laid scope typed u = λ f n past i w at.
    let l = slice_get_within is n i at in
    phi_on is past n i (act_of i)
    (λ ps k. phi_ready G is fits laid scope typed u f n past i ps w at k)
    (λ other x c local.
    let own = walked G is fits laid scope f past n l w in
    let types = typed f n i own.inside at in
    let of_type = type_there is (values_of i (act_of i)) types.0 x types.1 c in
    let used = value_use G is n i x at (fits n i at) c in
    missing G is fits laid scope u f n used.0 x past role.Value w l (not_phi G is fits n i at other) used.1
    (local_value G is fits laid x of_type.0 local of_type.1))

pub others_ready : (G : Table) (is : List PlainInst) → AllFit G is → IsLaidOut is → HasLabelsInScope is
    → IsUnbroken (branches.Broken Free G is) stages.of_values → AreOthersReady G is
others_ready G is fits laid scope u = λ f n k x past w used local.
    let i = used.inst in
    let at = used.there in
    let l = slice_get_within is n i at in
    elim (cases_Bool (act_phi (act_of i))) [
      | inl e ↦ (let p = phi_of (act_of i) e in absurd (no_any G i p.0 k x p.1 used.used))
      | inr e ↦ missing G is fits laid scope u f n k x past role.Any w l (not_phi G is fits n i at e) used local
    ]
  where
    phi_of : (a : Act) → act_phi a ≡ true → (ps : List Pair) × (a ≡ Phi ps)
    phi_of (Phi ps) h = (ps, refl)
    phi_of _ h = cc
