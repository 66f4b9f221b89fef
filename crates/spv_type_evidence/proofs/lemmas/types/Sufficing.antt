-- What is evidence for a rule shows that the rule is broken.
use Rattle.std.proofs.Common.{◌≡◌, ◌≢◌, ◌∙◌, ◌+◌, ℕ, zero, suc, List, [], ◌∷◌, Option, Some, None, refl, sym, ap, subst}
use Rattle.std.proofs.Common.{length, map, take, option_and_then, option_map, arith}
use Rattle.std.specs.Prelude.{slice_get, IsSomeAnd}
use Rattle.spv_table.specs.Table.{Table}
use Rattle.spv_module.specs.Operand.{Plain, Id, PlainInst, type_in}
use Rattle.spv_module.specs.Width.{type_of}
use Rattle.spv_module.specs.declared.fault.Rule.{Rule}
use Rattle.spv_layout.proofs.Places.{function_same}
use Rattle.spv_type_forms.specs.declared.form.Form.TheVariants as form
use Rattle.spv_type_forms.specs.Form.{form_of}
use Rattle.spv_type_kinds.specs.Operands.{ids_in, after_head}
use Rattle.spv_type_forms.specs.Parts.{id_in}
use Rattle.spv_type_forms.specs.Values.{types_of}
use Rattle.spv_type_rules.specs.inner.Declaration.{IsSoundDeclaration}
use Rattle.spv_type_rules.specs.inner.Constant.{IsSoundConstant}
use Rattle.spv_type_rules.specs.Function.{signature_of, ReturnsAfter, ReturnsTyped, ReturnsNothing, OfFunction}
use Rattle.spv_type_rules.specs.Function.{CallsSoundly, CallsTyped, parameter_type_of, parameters_between}
use Rattle.spv_type_rules.specs.inner.Function.{IsSoundCall, IsSoundParameter}
use Rattle.spv_type_rules.specs.Keeps.{Keeps}
use Rattle.spv_evidence.specs.declared.evidence.Evidence.{Evidence}
use Rattle.spv_evidence.specs.declared.evidence.Side.{Side}
use Rattle.spv_type_evidence.specs.types.Declaration as declarations
use Rattle.spv_type_evidence.specs.types.Constant as constants
use Rattle.spv_type_evidence.specs.types.Function.{Differs, IsOf, IsParameter, ReturnsFrom, Calls, IsArgument}
use Rattle.spv_type_evidence.specs.types.Evidence.{Shows, IsEvidence}
use Rattle.spv_type_evidence.proofs.lemmas.types.Declaring.{declares_asks}
use Rattle.spv_type_evidence.proofs.lemmas.types.Making.{makes_asks}

-- Y2 and Y4

declaration_broken : (is : List PlainInst) (n k : ℕ) (i : PlainInst) → declarations.FailsFirst is n i k
    → IsSoundDeclaration is n i → ⊥
declaration_broken is n k i f h = f.fails (declares_asks is n f.kind i.operands (rw f.declares at h) k)

constant_broken : (is : List PlainInst) (k : ℕ) (i : PlainInst) → constants.FailsFirst is i k → IsSoundConstant is i → ⊥
constant_broken is k i f h = f.fails (makes_asks is f.kind i.operands (rw f.makes at h) k)

-- The function that an instruction is of.

of_that : (is : List PlainInst) (n f : ℕ) (d : PlainInst) (P : ℕ → PlainInst → Type 0) → IsOf is n f d
    → OfFunction is n P → P f d
of_that is n f d P o h =
    let same : h.0 ≡ f = function_same is n h.0 f h.1 o.of in
    let p : IsSomeAnd (slice_get is f) (P f) = subst (λ g. IsSomeAnd (slice_get is g) (P g)) same h.2 in
    rw o.there at p

-- The types of functions.

differs_broken : (is : List PlainInst) (d : PlainInst) (r count : ℕ) (s : Side) (wanted found : Option ℕ)
    → Differs is d r count s wanted found
    → IsSomeAnd (signature_of is d) (ReturnsAfter (Some r) count) → ⊥
differs_broken is d r count _ _ _ (Differs.function t named none) h = let no : ⊥ = rw none at h in no
differs_broken is d r count _ _ _ (Differs.returned t ps e not) h =
    let two : (Some r ≡ Some t) × (length ps ≡ count) = rw e at h in
    let same = two.0 in
    not cc
differs_broken is d r count _ _ _ (Differs.number o ps e not) h = not (counted o (rw e at h)) where
  counted : (p : Plain) → ReturnsAfter (Some r) count (p ∷ ps) → length ps ≡ count
  counted (Id t) k = k.1
  counted _ k = absurd k

function_broken : (is : List PlainInst) (d : PlainInst) (o : Option ℕ) (r count : ℕ) (s : Side)
    (wanted found : Option ℕ) → o ≡ Some r → Differs is d r count s wanted found
    → IsSomeAnd (signature_of is d) (ReturnsAfter o count) → ⊥
function_broken is d o r count s wanted found e f h = differs_broken is d r count s wanted found f (rw e at h)

parameter_broken : (is : List PlainInst) (n k t : ℕ) (i : PlainInst) (due : Option ℕ) → IsParameter is n i k due t
    → due ≢ Some t → IsSoundParameter is n i → ⊥
parameter_broken is n k t i due p not h =
    let P : ℕ → PlainInst
    → Type 0 = λ f d. IsSomeAnd (type_in i.operands)
    (λ u. parameter_type_of is d (parameters_between is f n) ≡ Some u) in
    let a : P p.number p.function = of_that is n p.number p.function P p.of h in
    let b : parameter_type_of is p.function (parameters_between is p.number n) ≡ Some t = rw p.found at a in
    not (sym p.wanted ∙ ap (parameter_type_of is p.function) (sym p.place) ∙ b)

-- Y7

nothing_broken : (is : List PlainInst) (n r : ℕ) → ReturnsFrom is n r → form_of is r ≢ Some form.Void
    → OfFunction is n (λ f d. ReturnsNothing is d) → ⊥
nothing_broken is n r f not h =
    let a : ReturnsNothing is f.function = of_that is n f.number f.function (λ g d. ReturnsNothing is d) f.of h in
    not (rw f.returned at a)

value_broken : (is : List PlainInst) (n r o : ℕ) (i : PlainInst) → ReturnsFrom is n r
    → types_of is (take 1 (ids_in i.operands)) ≡ Some (o ∷ []) → r ≢ o
    → OfFunction is n (λ f d. IsSomeAnd (types_of is (take 1 (ids_in i.operands))) (ReturnsTyped d)) → ⊥
value_broken is n r o i f e not h =
    let P : ℕ → PlainInst → Type 0 = λ g d. IsSomeAnd (types_of is (take 1 (ids_in i.operands))) (ReturnsTyped d) in
    let a : P f.number f.function = of_that is n f.number f.function P f.of h in
    let b : type_in f.function.operands ≡ Some o = rw e at a in
    let c = f.returned in
    not cc

-- Y8

pub types_length : (is : List PlainInst) (xs us : List ℕ) → types_of is xs ≡ Some us → length us ≡ length xs
types_length is [] us e = let same : [] ≡ us = cc in ap length (sym same)
types_length is (x ∷ xs) us e = one (λ ts. types_length is xs ts) (type_of is x) (types_of is xs) refl e where
  one : ((ts : List ℕ) → types_of is xs ≡ Some ts → length ts ≡ length xs) → (o : Option ℕ) (os : Option (List ℕ))
      → types_of is xs ≡ os
      → option_and_then (λ t. option_map (λ ts. t ∷ ts) os) o ≡ Some us → length us ≡ suc (length xs)
  one rest None os a b = cc
  one rest (Some t) None a b = cc
  one rest (Some t) (Some ts) a b = let same : t ∷ ts ≡ us = cc in ap length (sym same) ∙ ap suc (rest ts a)

types_at : (is : List PlainInst) (xs us : List ℕ) (k x u : ℕ) → types_of is xs ≡ Some us → slice_get xs k ≡ Some x
    → type_of is x ≡ Some u → slice_get us k ≡ Some u
types_at is [] us k x u e at t = cc
types_at is (y ∷ xs) us zero x u e at t = one (type_of is y) (types_of is xs) refl e where
  one : (o : Option ℕ) (os : Option (List ℕ)) → type_of is y ≡ o
      → option_and_then (λ v. option_map (λ ts. v ∷ ts) os) o ≡ Some us → slice_get us 0 ≡ Some u
  one None os a c = cc
  one (Some v) None a c = cc
  one (Some v) (Some ts) a c =
      let list : v ∷ ts ≡ us = cc in
      let same : y ≡ x = cc in
      let here : Some v ≡ Some u = sym a ∙ ap (type_of is) same ∙ t in
      rw (← list) here
types_at is (y ∷ xs) us (suc k) x u e at t =
    one (λ ts f. types_at is xs ts k x u f at t) (type_of is y) (types_of is xs) refl e where
      one : ((ts : List ℕ) → types_of is xs ≡ Some ts → slice_get ts k ≡ Some u) → (o : Option ℕ) (os : Option (List ℕ))
          → types_of is xs ≡ os
          → option_and_then (λ v. option_map (λ ts. v ∷ ts) os) o ≡ Some us → slice_get us (suc k) ≡ Some u
      one rest None os b c = cc
      one rest (Some v) None b c = cc
      one rest (Some v) (Some ts) b c = let list : v ∷ ts ≡ us = cc in rw (← list) (rest ts b)

all_ids : (us : List ℕ) → length (map Id us) ≡ length us
all_ids [] = refl
all_ids (u ∷ us) = ap suc (all_ids us)

id_at : (us : List ℕ) (k u : ℕ) → slice_get us k ≡ Some u → option_and_then id_in (slice_get (map Id us) k) ≡ Some u
id_at [] k u e = cc
id_at (v ∷ us) zero u e = cc
id_at (v ∷ us) (suc k) u e = id_at us k u e

-- what a sound call says of its callee
sound_callee : (is : List PlainInst) (i d : PlainInst) (r : ℕ) (xs : List ℕ) → Calls is i d r xs → IsSoundCall is i
    → (us : List ℕ) × (types_of is xs ≡ Some us) × (signature_of is d ≡ Some (map Id (r ∷ us)))
sound_callee is i d r xs c h =
    let a : CallsSoundly is r (after_head i.operands) = rw c.result at h in
    let b : CallsSoundly is r (Id c.callee ∷ c.rest) = rw c.operands at a in
    let e : IsSomeAnd (types_of is (ids_in c.rest)) (CallsTyped is d r) = rw c.defined at b in
    let f : IsSomeAnd (types_of is xs) (CallsTyped is d r) = rw c.arguments at e in
    some (types_of is xs) f
  where
    some : (o : Option (List ℕ)) → IsSomeAnd o (CallsTyped is d r)
        → (us : List ℕ) × (o ≡ Some us) × (signature_of is d ≡ Some (map Id (r ∷ us)))
    some None k = absurd k
    some (Some us) k = (us, refl, k)

call_broken : (is : List PlainInst) (i d : PlainInst) (r : ℕ) (xs : List ℕ) (s : Side) (wanted found : Option ℕ)
    → Calls is i d r xs → Differs is d r (length xs) s wanted found → IsSoundCall is i → ⊥
call_broken is i d r xs s wanted found c f h =
    let a = sound_callee is i d r xs c h in
    let e : length (map Id a.0) ≡ length xs = all_ids a.0 ∙ types_length is xs a.0 a.1 in
    differs_broken is d r (length xs) s wanted found f (rw a.2 (refl, e))

argument_broken : (is : List PlainInst) (i d : PlainInst) (r : ℕ) (xs : List ℕ) (k t u : ℕ) → Calls is i d r xs
    → IsArgument is d xs k t u → t ≢ u → IsSoundCall is i → ⊥
argument_broken is i d r xs k t u c g not h =
    let a = sound_callee is i d r xs c h in
    let taken : option_and_then (λ ts. option_and_then id_in (slice_get ts (k + 1)))
    (Some (map Id (r ∷ a.0))) ≡ Some t = rw a.2 at g.taken in
    let e : k + 1 ≡ suc k = omega arith in
    let next : option_and_then id_in (slice_get (map Id a.0) k) ≡ Some t = rw e at taken in
    let v = id_at a.0 k u (types_at is xs a.0 k g.argument u a.1 g.there g.typed) in
    let same : Some t ≡ Some u = sym next ∙ v in
    not cc

shows_broken : (G : Table) (is : List PlainInst) (n : ℕ) (i : PlainInst) (r : Rule) (e : Evidence) → Shows G is n i r e
    → Keeps (λ m j. Unit {0}) is r n i → ⊥
shows_broken G is n i _ _ (Shows.declaration k m f by) h = declaration_broken is n k i f h
shows_broken G is n i _ _ (Shows.again r) h = h r
shows_broken G is n i _ _ (Shows.constant k m f by) h = constant_broken is k i f h
shows_broken G is n i _ _ (Shows.function r s wanted found o t f) h =
    function_broken is i (type_in i.operands) r _ s wanted found t f (h.function o)
shows_broken G is n i _ _ (Shows.parameter k t due o p not) h = parameter_broken is n k t i due p not (h.parameter o)
shows_broken G is n i _ _ (Shows.nothing r o f not) h = nothing_broken is n r f not (h.nothing o)
shows_broken G is n i _ _ (Shows.value r t o f e not) h = value_broken is n r t i f e not (h.value o)
shows_broken G is n i _ _ (Shows.call d r xs s wanted found o c f) h = call_broken is i d r xs s wanted found c f (h o)
shows_broken G is n i _ _ (Shows.argument d r xs k t u o c g not) h = argument_broken is i d r xs k t u c g not (h o)

pub suffices : (G : Table) (is : List PlainInst) (r : Rule) (n : ℕ) (e : Evidence) → IsEvidence G is r n e
    → (i : PlainInst) → slice_get is n ≡ Some i → ¬ (Keeps (λ m j. Unit {0}) is r n i)
suffices G is r n e v i at h =
    let same : v.inst ≡ i = let f : Some v.inst ≡ Some i = sym v.there ∙ at in cc in
    shows_broken G is n i r e (subst (λ j. Shows G is n j r e) same v.shows) h
