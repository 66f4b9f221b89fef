-- Function definitions, counted one instruction after another.
use Rattle.std.proofs.Common.{◌≡◌, ◌∙◌, ◌<◌, ◌≤◌, ◌+◌, ◌++◌, ℕ, zero, suc, List, [], ◌∷◌, refl, sym, ap, inl, inr, Some}
use Rattle.std.proofs.Common.{length, length-append, arith}
use Rattle.std.specs.Prelude.{slice_get}
use Rattle.std.proofs.lemmas.Bool.{cases_order}
use Rattle.std.proofs.lemmas.Option.{slice_get_within}
use Rattle.spv_module.specs.Operand.{PlainInst}
use Rattle.spv_layout.specs.declared.class.Class.TheVariants.{Function}
use Rattle.spv_layout.specs.Place.{IsAt, IsDefinition}
use Rattle.spv_layout.proofs.Spans.{below_or}
use Rattle.spv_flow.proofs.lemmas.calls.Lists.{pushed_cases, pushed_keeps, pushed_last}
use Rattle.spv_check.specs.flow.Definitions.{AreDefinitions, IsCount}

-- before the first OpFunction there is none
pub none_before : (is : List PlainInst) (n : ℕ) → ((k : ℕ) → k < n → ¬ (IsAt is k (Function ∷ []))) → IsCount is n 0
none_before is n h = record {
  functions = [];
  definitions = record {
    each = λ k f h. cc;
    all = λ f l d. absurd (h f l d.of.begun.there);
    rising = λ j k f g l h i. cc;
  };
  counted = refl;
}

definition_at : (is : List PlainInst) (f g : ℕ) → f ≡ g → IsDefinition is f → IsDefinition is g
definition_at is f g e d = rw (← e) d

there_at : (fs : List ℕ) (n f : ℕ) → n ≡ f → slice_get (fs ++ n ∷ []) (length fs) ≡ Some f
there_at fs n f e = pushed_last fs n ∙ ap Some e

more : (is : List PlainInst) (n : ℕ) (fs : List ℕ) → IsDefinition is n → AreDefinitions is n fs
    → AreDefinitions is (n + 1) (fs ++ n ∷ [])
more is n fs d a = record {
  each = λ k f h. elim (pushed_cases fs n k f h) [
    | inl p ↦ (let r = a.each k f p in let l = r.1 in (r.0, omega (arith, l)))
    | inr p ↦ (let e = p.1 in (definition_at is n f e d, omega (arith, e)))
  ];
  all = λ f l g. elim (below_or f n (omega (arith, l))) [
    | inl b ↦ (let r = a.all f b g in (r.0, pushed_keeps fs n r.0 f r.1))
    | inr e ↦ (length fs, there_at fs n f (sym e))
  ];
  rising = λ j k f g l h i. elim (pushed_cases fs n k g i) [
    | inl p ↦ (let w = slice_get_within fs k g p in elim (pushed_cases fs n j f h) [
      | inl q ↦ a.rising j k f g l q p
      | inr q ↦ (let z = q.0 in absurd (omega (arith, w, l, z)))
    ])
    | inr p ↦ (let e = p.1 in let y = p.0 in elim (pushed_cases fs n j f h) [
      | inl q ↦ (let r = a.each j f q in let b = r.1 in omega (arith, b, e))
      | inr q ↦ (let z = q.0 in absurd (omega (arith, l, z, y)))
    ])
  ];
}

-- a definition is one more
pub one_more : (is : List PlainInst) (n count : ℕ) → IsDefinition is n → IsCount is n count
    → IsCount is (n + 1) (count + 1)
one_more is n count d h =
    let c = h.counted in
    let e = length-append h.functions (n ∷ []) in
    record {
      functions = h.functions ++ n ∷ [];
      definitions = more is n h.functions d h.definitions;
      counted = omega (arith, c, e);
    }

-- any other instruction is none
pub none_more : (is : List PlainInst) (n count : ℕ) → ¬ (IsDefinition is n) → IsCount is n count
    → IsCount is (n + 1) count
none_more is n count x h =
    let a = h.definitions in
    record {
      functions = h.functions;
      definitions = record {
        each = λ k f g. let r = a.each k f g in let l = r.1 in (r.0, omega (arith, l));
        all = λ f l d. elim (below_or f n (omega (arith, l))) [
          | inl b ↦ a.all f b d
          | inr e ↦
              absurd (x (definition_at is f n e d))
        ];
        rising = a.rising;
      };
      counted = h.counted;
    }

-- a later place of a list that holds what another one holds at place k
record HasLater (gs : List ℕ) (k f : ℕ) : Type 0 where
  pub place : ℕ
  pub there : slice_get gs place ≡ Some f
  pub late : k ≤ place

-- two lists of the same definitions are of one length
record IsThere (xs : List ℕ) (k : ℕ) : Type 0 where
  pub item : ℕ
  pub there : slice_get xs k ≡ Some item

there_below : (xs : List ℕ) (k : ℕ) → k < length xs → IsThere xs k
there_below [] k l = absurd (omega (arith, l))
there_below (x ∷ xs) zero l = record { item = x; there = refl }
there_below (x ∷ xs) (suc k) l = let r = there_below xs k (omega (arith, l)) in
    record { item = r.item; there = r.there }

-- places of a rising list rise with what stands there
rises : (is : List PlainInst) (n : ℕ) (gs : List ℕ) (i j f g : ℕ) → AreDefinitions is n gs → slice_get gs i ≡ Some f
    → slice_get gs j ≡ Some g → f < g → i < j
rises is n gs i j f g b h k l = elim (cases_order i j) [
  | inl e ↦ (let s : Some f ≡ Some g = sym h ∙ ap (slice_get gs) e ∙ k in let q : f ≡ g = cc in
      absurd (omega (arith, l, q)))
  | inr r ↦ elim r [ inl x ↦ x | inr y ↦ (let z = b.rising j i g f y k h in absurd (omega (arith, l, z))) ]
]

later : (is : List PlainInst) (n : ℕ) (fs gs : List ℕ) (k f : ℕ) → AreDefinitions is n fs → AreDefinitions is n gs
    → slice_get fs k ≡ Some f → HasLater gs k f
later is n fs gs zero f a b h = let d = a.each zero f h in let r = b.all f d.1 d.0 in
    record { place = r.0; there = r.1; late = omega arith }
later is n fs gs (suc k) f a b h =
    let w = slice_get_within fs (suc k) f h in
    let p = there_below fs k (omega (arith, w)) in
    let i = later is n fs gs k p.item a b p.there in
    let d = a.each (suc k) f h in
    let r = b.all f d.1 d.0 in
    let l = a.rising k (suc k) p.item f (omega arith) p.there h in
    let m = rises is n gs i.place r.0 p.item f b i.there r.1 l in
    let t = i.late in
    record { place = r.0; there = r.1; late = omega (arith, m, t) }

no_longer : (is : List PlainInst) (n : ℕ) (fs gs : List ℕ) → AreDefinitions is n fs → AreDefinitions is n gs
    → length fs ≤ length gs
no_longer is n [] gs a b = omega arith
no_longer is n (x ∷ xs) gs a b =
    let p = there_below (x ∷ xs) (length xs) (omega arith) in
    let r = later is n (x ∷ xs) gs (length xs) p.item a b p.there in
    let w = slice_get_within gs r.place p.item r.there in
    let t = r.late in
    omega (arith, w, t)

pub one_count : (is : List PlainInst) (n c d : ℕ) → IsCount is n c → IsCount is n d → c ≡ d
one_count is n c d h k =
    let l = no_longer is n h.functions k.functions h.definitions k.definitions in
    let m = no_longer is n k.functions h.functions k.definitions h.definitions in
    let p = h.counted in
    let q = k.counted in
    omega (arith, l, m, p, q)

-- the definitions before an instruction are no more than the instructions
at_least : (is : List PlainInst) (n : ℕ) (fs : List ℕ) (k f : ℕ) → AreDefinitions is n fs → slice_get fs k ≡ Some f
    → k ≤ f
at_least is n fs zero f a h = omega arith
at_least is n fs (suc k) f a h =
    let w = slice_get_within fs (suc k) f h in
    let p = there_below fs k (omega (arith, w)) in
    let i = at_least is n fs k p.item a p.there in
    let l = a.rising k (suc k) p.item f (omega arith) p.there h in
    omega (arith, i, l)

few : (is : List PlainInst) (n : ℕ) (fs : List ℕ) → AreDefinitions is n fs → length fs ≤ n
few is n [] a = omega arith
few is n (x ∷ xs) a =
    let p = there_below (x ∷ xs) (length xs) (omega arith) in
    let i = at_least is n (x ∷ xs) (length xs) p.item a p.there in
    let r = a.each (length xs) p.item p.there in
    let l = r.1 in
    omega (arith, i, l)

pub count_most : (is : List PlainInst) (n count : ℕ) → IsCount is n count → count ≤ n
count_most is n count h = let l = few is n h.functions h.definitions in let c = h.counted in omega (arith, l, c)
