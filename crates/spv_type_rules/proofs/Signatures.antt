-- Types of arguments against those of parameters.
use Rattle.std.proofs.Common.{◌≡◌, ℕ, List, [], ◌∷◌, Option, Some, None, Bool, true, false, nat_eq, ◌&&◌}
use Rattle.std.proofs.Common.{option_and_then, option_map, ◌↔◌, refl, map, sym, ◌∙◌, ap}
use Rattle.std.specs.Prelude.{IsSomeAnd}
use Rattle.std.proofs.lemmas.Bool.{eqb-true, eq-eqb}
use Rattle.spv_module.specs.Operand.{Plain, PlainInst, OfType, Result, Id, Word, Number, Text, Value, Mask, Argument}
use Rattle.spv_module.specs.Operand.{Mention}
use Rattle.spv_module.specs.Width.{type_of}
use Rattle.spv_type_forms.specs.inner.Tests.{passes}
use Rattle.spv_type_forms.specs.Values.{types_of}
use Rattle.spv_type_rules.specs.inner.Found.{are_typed, has_signature}
use Rattle.spv_type_rules.specs.Function.{signature_of, CallsTyped}

both : (a b : Bool) → a && b ≡ true → (a ≡ true) × (b ≡ true)
both true b h = (refl, h)
both false b h = absurd (let no : false ≡ true = h in cc)

and_yes : (a b : Bool) → a ≡ true → b ≡ true → a && b ≡ true
and_yes a b e f = rw (e, f) refl

-- operands are ids, these in order
abbrev AreIds : List Plain → List ℕ → Type 0
AreIds ps us = ps ≡ map Id us

-- one type more
one_more : (t : ℕ) (ts : List Plain) (o : Option ℕ) (os : Option (List ℕ)) (b : Bool)
    → (b ≡ true) ↔ IsSomeAnd os (AreIds ts)
    → (passes (λ u. nat_eq u t) o && b ≡ true)
    ↔ IsSomeAnd (option_and_then (λ u. option_map (λ us. u ∷ us) os) o) (AreIds (Id t ∷ ts))
one_more t ts None os b h = (λ y. absurd (let no : false ≡ true = y in cc), λ e. absurd e)
one_more t ts (Some u) None b h = (λ y. absurd (h.0 (both (nat_eq u t) b y).1), λ e. absurd e)
one_more t ts (Some u) (Some us) b h = (
  λ y. let two = both (nat_eq u t) b y in let same : u ≡ t = eqb-true u t two.0 in
      let rest : ts ≡ map Id us = h.0 two.1 in rw (same, rest) refl,
  λ e. let same : u ≡ t = cc in let rest : ts ≡ map Id us = cc in and_yes (nat_eq u t) b (eq-eqb u t same) (h.1 rest),
)

-- no types, or a first operand that is no id
unlike : (p : Plain) (ps : List Plain) (us : List ℕ) → ((u : ℕ) → p ≡ Id u → ⊥) → p ∷ ps ≡ map Id us → ⊥
unlike p ps [] never e = cc
unlike p ps (u ∷ us) never e = never u cc

never_ids : (ps : List Plain) → ((us : List ℕ) → ps ≡ map Id us → ⊥) → (o : Option (List ℕ)) → IsSomeAnd o (AreIds ps)
    → false ≡ true
never_ids ps never None e = absurd e
never_ids ps never (Some us) e = absurd (never us e)

no_types : (o : Option ℕ) (os : Option (List ℕ))
    → IsSomeAnd (option_and_then (λ u. option_map (λ us. u ∷ us) os) o) (AreIds []) → false ≡ true
no_types None os e = absurd e
no_types (Some u) None e = absurd e
no_types (Some u) (Some us) e = cc

wrong : (is : List PlainInst) (xs : List ℕ) (p : Plain) (ps : List Plain) → ((u : ℕ) → p ≡ Id u → ⊥)
    → (false ≡ true) ↔ IsSomeAnd (types_of is xs) (AreIds (p ∷ ps))
wrong is xs p ps never =
    (λ y. absurd (let no : false ≡ true = y in cc), never_ids (p ∷ ps) (λ us. unlike p ps us never) (types_of is xs))

pub typed_are : (is : List PlainInst) (xs : List ℕ) (ps : List Plain)
    → (are_typed is xs ps ≡ true) ↔ IsSomeAnd (types_of is xs) (λ us. ps ≡ map Id us)
typed_are is [] [] = (λ y. refl, λ e. refl)
typed_are is [] (p ∷ ps) = (λ y. absurd (let no : false ≡ true = y in cc), λ e. cc)
typed_are is (x ∷ xs) [] = (λ y. absurd (let no : false ≡ true = y in cc), no_types (type_of is x) (types_of is xs))
typed_are is (x ∷ xs) (Id t ∷ ps) =
    one_more t ps (type_of is x) (types_of is xs) (are_typed is xs ps) (typed_are is xs ps)
typed_are is (x ∷ xs) (OfType y ∷ ps) = wrong is (x ∷ xs) (OfType y) ps (λ u e. cc)
typed_are is (x ∷ xs) (Result y ∷ ps) = wrong is (x ∷ xs) (Result y) ps (λ u e. cc)
typed_are is (x ∷ xs) (Word y ∷ ps) = wrong is (x ∷ xs) (Word y) ps (λ u e. cc)
typed_are is (x ∷ xs) (Argument y ∷ ps) = wrong is (x ∷ xs) (Argument y) ps (λ u e. cc)
typed_are is (x ∷ xs) (Mention y ∷ ps) = wrong is (x ∷ xs) (Mention y) ps (λ u e. cc)
typed_are is (x ∷ xs) (Number l h w ∷ ps) = wrong is (x ∷ xs) (Number l h w) ps (λ u e. cc)
typed_are is (x ∷ xs) (Text y ∷ ps) = wrong is (x ∷ xs) (Text y) ps (λ u e. cc)
typed_are is (x ∷ xs) (Value k y ∷ ps) = wrong is (x ∷ xs) (Value k y) ps (λ u e. cc)
typed_are is (x ∷ xs) (Mask k y ∷ ps) = wrong is (x ∷ xs) (Mask k y) ps (λ u e. cc)

-- the return type, and then the parameter types
begins : (t r : ℕ) (ps : List Plain) (o : Option (List ℕ)) (b : Bool) → (b ≡ true) ↔ IsSomeAnd o (AreIds ps)
    → (nat_eq t r && b ≡ true) ↔ IsSomeAnd o (λ us. Id t ∷ ps ≡ map Id (r ∷ us))
begins t r ps None b h = (λ y. h.0 (both (nat_eq t r) b y).1, λ e. absurd e)
begins t r ps (Some us) b h = (
  λ y. let two = both (nat_eq t r) b y in let same : t ≡ r = eqb-true t r two.0 in
      let rest : ps ≡ map Id us = h.0 two.1 in rw (same, rest) refl,
  λ e. let same : t ≡ r = cc in let rest : ps ≡ map Id us = cc in and_yes (nat_eq t r) b (eq-eqb t r same) (h.1 rest),
)

never_begins : (r : ℕ) (p : Plain) (ps : List Plain) → ((u : ℕ) → p ≡ Id u → ⊥) → (o : Option (List ℕ))
    → (false ≡ true) ↔ IsSomeAnd o (λ us. p ∷ ps ≡ map Id (r ∷ us))
never_begins r p ps never None = (λ y. absurd (let no : false ≡ true = y in cc), λ e. absurd e)
never_begins r p ps never (Some us) =
    (λ y. absurd (let no : false ≡ true = y in cc), λ e. absurd (unlike p ps (r ∷ us) never e))

nothing_begins : (r : ℕ) (o : Option (List ℕ)) → (false ≡ true) ↔ IsSomeAnd o (λ us. [] ≡ map Id (r ∷ us))
nothing_begins r None = (λ y. absurd (let no : false ≡ true = y in cc), λ e. absurd e)
nothing_begins r (Some us) = (λ y. absurd (let no : false ≡ true = y in cc), λ e. cc)

signature_told : (is : List PlainInst) (r : ℕ) (os : List Plain) (xs : List ℕ)
    → (has_signature is r os xs ≡ true) ↔ IsSomeAnd (types_of is xs) (λ us. os ≡ map Id (r ∷ us))
signature_told is r [] xs = nothing_begins r (types_of is xs)
signature_told is r (Id t ∷ ps) xs = begins t r ps (types_of is xs) (are_typed is xs ps) (typed_are is xs ps)
signature_told is r (OfType y ∷ ps) xs = never_begins r (OfType y) ps (λ u e. cc) (types_of is xs)
signature_told is r (Result y ∷ ps) xs = never_begins r (Result y) ps (λ u e. cc) (types_of is xs)
signature_told is r (Word y ∷ ps) xs = never_begins r (Word y) ps (λ u e. cc) (types_of is xs)
signature_told is r (Argument y ∷ ps) xs = never_begins r (Argument y) ps (λ u e. cc) (types_of is xs)
signature_told is r (Mention y ∷ ps) xs = never_begins r (Mention y) ps (λ u e. cc) (types_of is xs)
signature_told is r (Number l h w ∷ ps) xs = never_begins r (Number l h w) ps (λ u e. cc) (types_of is xs)
signature_told is r (Text y ∷ ps) xs = never_begins r (Text y) ps (λ u e. cc) (types_of is xs)
signature_told is r (Value k y ∷ ps) xs = never_begins r (Value k y) ps (λ u e. cc) (types_of is xs)
signature_told is r (Mask k y ∷ ps) xs = never_begins r (Mask k y) ps (λ u e. cc) (types_of is xs)

inside : (s : Option (List Plain)) (os : List Plain) (r : ℕ) (o : Option (List ℕ)) → Some os ≡ s
    → IsSomeAnd o (λ us. os ≡ map Id (r ∷ us)) ↔ IsSomeAnd o (λ us. s ≡ Some (map Id (r ∷ us)))
inside s os r None e = (λ a. a, λ a. a)
inside s os r (Some us) e = (λ a. sym e ∙ ap Some a, λ a. let f : Some os ≡ Some (map Id (r ∷ us)) = e ∙ a in cc)

pub calls_told : (is : List PlainInst) (d : PlainInst) (r : ℕ) (os : List Plain) (xs : List ℕ)
    → Some os ≡ signature_of is d
    → (has_signature is r os xs ≡ true) ↔ IsSomeAnd (types_of is xs) (CallsTyped is d r)
calls_told is d r os xs e =
    let a = signature_told is r os xs in
    let b = inside (signature_of is d) os r (types_of is xs) e in
    (λ y. b.0 (a.0 y), λ h. a.1 (b.1 h))

no_call : (s : Option (List Plain)) (r : ℕ) (o : Option (List ℕ)) → None ≡ s
    → IsSomeAnd o (λ us. s ≡ Some (map Id (r ∷ us))) → ⊥
no_call s r None e a = a
no_call s r (Some us) e a = let f : None ≡ Some (map Id (r ∷ us)) = e ∙ a in cc

pub never_called : (is : List PlainInst) (d : PlainInst) (r : ℕ) (xs : List ℕ) → None ≡ signature_of is d
    → IsSomeAnd (types_of is xs) (CallsTyped is d r) → ⊥
never_called is d r xs e = no_call (signature_of is d) r (types_of is xs) e
