-- No function comes twice among the frames, so there are at most as many frames as definitions.
use Rattle.std.proofs.Common.{◌≡◌, ◌≤◌, ◌<◌, ◌∙◌, ◌⊎◌, inl, inr, ℕ, zero, suc, Some, Contains, slice_get, List, [], ◌∷◌}
use Rattle.std.proofs.Common.{true, nat_eq, if◌then◌else◌, refl, sym, ap, subst, arith, length}
use Rattle.std.proofs.lemmas.Bool.{cases_Bool, eqb-true, eq-eqb}
use Rattle.spv_table.specs.Table.{Table}
use Rattle.spv_module.specs.Operand.{PlainInst, Id}
use Rattle.spv_run.specs.State.{Frame}
use Rattle.spv_flow.specs.calls.Chain.{Chain}
use Rattle.spv_flow.specs.calls.Calls.{Calls, IsEntryFunction}
use Rattle.spv_module.specs.declared.opcode.TheConstants.{FUNCTION_CALL}
use Rattle.spv_layout.specs.Place.{IsDefinition}
use Rattle.spv_run.specs.Act.{Act, act_of}
use Rattle.spv_run.specs.Act as act
use Rattle.spv_run.specs.Definitions.{AreDefinitions}
use Rattle.spv_run.proofs.Checked.{IsChecked}
use Rattle.spv_run.proofs.Basics.{act_back}
use Rattle.spv_run.proofs.Shapes.{View, view}
use Rattle.spv_run.proofs.Standing.{of_function, is_definition, here_within, defined_at}
use Rattle.spv_run.proofs.Frames.{Stands}
use Rattle.spv_run.proofs.Stacks.{CallsTo, Stack, top_stands}

-- an element of a list
abbrev pub Among : ℕ → List ℕ → Type 0
Among x [] = ⊥
Among x (y ∷ ys) = (y ≡ x) ⊎ Among x ys

among : (x : ℕ) (ds : List ℕ) → Contains ds x → Among x ds
among x [] (k, l, e) = absurd (omega arith)
among x (d ∷ ds) (zero, l, e) = inl e
among x (d ∷ ds) (suc k, l, e) = inr (among x ds (k, omega (arith, l), e))

-- the functions of frames
abbrev functions : List Frame → List ℕ
functions [] = []
functions (fr ∷ below) = fr.function ∷ functions below

-- no element comes twice
abbrev Apart : List ℕ → Type 0
Apart [] = Unit {0}
Apart (x ∷ xs) = (Among x xs → ⊥) × Apart xs

-- the function of a frame is a definition
defines : (G : Table) (is : List PlainInst) → IsChecked G is → (fr : Frame) → Stands is fr → IsDefinition is fr.function
defines G is ok fr st =
    is_definition G is ok.fits ok.layout fr.function st.block fr.position st.inside st.here
    (here_within is fr.position st.act st.there)

record Call (is : List PlainInst) (i : PlainInst) (x : ℕ) : Type 0 where
  pub opcode : i.opcode ≡ FUNCTION_CALL
  pub named : slice_get i.operands 2 ≡ Some (Id x)

call_view : (G : Table) (is : List PlainInst) (i : PlainInst) (a : Act) (x : ℕ) (xs : List ℕ) → View G i a
    → a ≡ act.Call x xs → Call is i x
call_view G is i _ x xs (View.call a b c os gs e same en each) h =
    let callee : c ≡ x = cc in
    record { opcode = e; named = ap (λ os. slice_get os 2) same ∙ ap (λ y. Some (Id y)) callee }
call_view G is i _ x xs _ h = cc

calls : (G : Table) (is : List PlainInst) → IsChecked G is → (c fr : Frame) → Stands is c → Stands is fr
    → CallsTo is c fr.function → Calls is c.function fr.function
calls G is ok c fr st up k =
    let i = act_back is c.position (act.Call k.callee k.arguments) k.call in
    let v = call_view G is i.0 (act_of i.0) k.callee k.arguments (view G i.0 (ok.fits c.position i.0 i.1)) i.2 in
    record {
      place = c.position;
      call = record {
        inst = i.0;
        there = i.1;
        opcode = v.opcode;
        callee = k.callee;
        named = v.named;
        of = of_function G is ok.fits ok.layout c.function c.position st.inside
            (here_within is c.position st.act st.there);
        caller = defines G is ok c st;
        function = defined_at is fr.function k.callee k.function.result;
        called = defines G is ok fr up;
      };
    }

chain_up : (G : Table) (is : List PlainInst) → IsChecked G is → (e : ℕ) (fr : Frame) (below : List Frame)
    → Stack is e fr below → Chain (Calls is) e fr.function
chain_up G is ok e fr [] k = (let P : ℕ → Type 0 = λ f. Chain (Calls is) e f in subst P (sym k.1) Chain.alone)
chain_up G is ok e fr (c ∷ below) k =
    Chain.more c.function fr.function (chain_up G is ok e c below k.2)
    (calls G is ok c fr (top_stands is e c below k.2) (top_stands is e fr (c ∷ below) k) k.1)

chain_from : (G : Table) (is : List PlainInst) → IsChecked G is → (e : ℕ) (fr : Frame) (below : List Frame)
    → Stack is e fr below → (x : ℕ) → Among x (functions (fr ∷ below)) → Chain (Calls is) x fr.function
chain_from G is ok e fr [] k x a =
    elim a [
      | inl same ↦ (let P : ℕ → Type 0 = λ f. Chain (Calls is) x f in subst P (sym same) Chain.alone)
      | inr never ↦
          absurd never
    ]
chain_from G is ok e fr (c ∷ below) k x a = elim a [
  | inl same ↦ (let P : ℕ → Type 0 = λ f. Chain (Calls is) x f in subst P (sym same) Chain.alone)
  | inr later ↦ Chain.more c.function fr.function (chain_from G is ok e c below k.2 x later)
      (calls G is ok c fr (top_stands is e c below k.2) (top_stands is e fr (c ∷ below) k) k.1)
]

not_again : (G : Table) (is : List PlainInst) → IsChecked G is → (e : ℕ) → IsEntryFunction is e
    → (fr : Frame) (below : List Frame) → Stack is e fr below → Apart (functions (fr ∷ below))
not_again G is ok e entry fr [] k = (λ never. never, tt)
not_again G is ok e entry fr (c ∷ below) k = (
  λ again. ok.acyclic e c.function fr.function entry (chain_up G is ok e c below k.2)
      (calls G is ok c fr (top_stands is e c below k.2) (top_stands is e fr (c ∷ below) k) k.1)
      (chain_from G is ok e c below k.2 fr.function again),
  not_again G is ok e entry c below k.2,
)

-- a list without an element
abbrev without : ℕ → List ℕ → List ℕ
without x [] = []
without x (y ∷ ys) = if nat_eq y x then ys else (y ∷ without x ys)

shorter : (x : ℕ) (ys : List ℕ) → Among x ys → suc (length (without x ys)) ≡ length ys
shorter x [] a = absurd a
shorter x (y ∷ ys) a = elim (cases_Bool (nat_eq y x)) [
  | inl e ↦ rw e refl
  | inr e ↦ elim a [
    | inl same ↦ absurd (let w : nat_eq y x ≡ true = eq-eqb y x same in cc)
    | inr later ↦ (let h = shorter x ys later in rw e (ap suc h))
  ]
]

still : (x z : ℕ) (ys : List ℕ) → (z ≡ x → ⊥) → Among z ys → Among z (without x ys)
still x z [] n a = absurd a
still x z (y ∷ ys) n a = elim (cases_Bool (nat_eq y x)) [
  | inl e ↦ rw e (elim a [ inl same ↦ absurd (n (sym same ∙ eqb-true y x e)) | inr later ↦ later ])
  | inr e ↦ rw e (elim a [ inl same ↦ inl same | inr later ↦ inr (still x z ys n later) ])
]

not_same : (x z : ℕ) (xs : List ℕ) → (Among x xs → ⊥) → Among z xs → z ≡ x → ⊥
not_same x z xs n a e = let P : ℕ → Type 0 = λ w. Among w xs in n (subst P e a)

-- a list in which no element comes twice is no longer than one that has all its elements
pigeonhole : (xs ds : List ℕ) → Apart xs → ((x : ℕ) → Among x xs → Among x ds) → length xs ≤ length ds
pigeonhole [] ds a h = omega arith
pigeonhole (x ∷ xs) ds a h =
    let rest = pigeonhole xs (without x ds) a.1 (λ z m. still x z ds (not_same x z xs a.0 m) (h z (inr m))) in
    let s = shorter x ds (h x (inl refl)) in
    omega arith

all_listed : (G : Table) (is : List PlainInst) → IsChecked G is → (ds : List ℕ) → AreDefinitions is ds
    → (e : ℕ) (fr : Frame) (below : List Frame) → Stack is e fr below
    → (x : ℕ) → Among x (functions (fr ∷ below)) → Among x ds
all_listed G is ok ds has e fr [] k x a = elim a [
  | inl same ↦ subst (λ f. Among f ds) same (among fr.function ds (has fr.function (defines G is ok fr k.0)))
  | inr never ↦ absurd never
]
all_listed G is ok ds has e fr (c ∷ below) k x a = elim a [
  | inl same ↦ subst (λ f. Among f ds) same (among fr.function ds (has fr.function (defines G is ok fr k.0)))
  | inr later ↦ all_listed G is ok ds has e c below k.2 x later
]

as_long : (below : List Frame) → length (functions below) ≡ length below
as_long [] = refl
as_long (c ∷ below) = ap suc (as_long below)

-- a frame has fewer frames below it than there are definitions
pub shallow : (G : Table) (is : List PlainInst) → IsChecked G is → (ds : List ℕ) → AreDefinitions is ds → (e : ℕ)
    → IsEntryFunction is e → (fr : Frame) (below : List Frame) → Stack is e fr below
    → length below < length ds
shallow G is ok ds has e entry fr below k =
    let h = pigeonhole (functions (fr ∷ below)) ds (not_again G is ok e entry fr below k)
    (all_listed G is ok ds has e fr below k) in
    let n = as_long below in
    omega arith
