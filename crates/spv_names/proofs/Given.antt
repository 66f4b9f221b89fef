-- Instructions that give a name to a function.
use Rattle.std.proofs.Common.{◌≡◌, ◌∙◌, ◌⊎◌, inl, inr, ℕ, List, [], ◌∷◌, Option, Some, None, true, nat_eq, refl, sym, ap, arith}
use Rattle.std.specs.Str.{bytes_eq}
use Rattle.std.proofs.lemmas.Bool.{cases_Bool, eqb-true}
use Rattle.std.proofs.lemmas.Option.{none-some, same_Some}
use Rattle.std.proofs.lemmas.Slice.Eq.{bytes_eq-Decides}
use Rattle.spv_module.specs.Operand.{PlainInst}
use Rattle.spv_module.specs.declared.opcode.TheConstants.{NAME}
use Rattle.spv_names.specs.Names.{name_of, named_by, or_else, or_later}
use Rattle.spv_names.specs.Chosen.{IsNamedFunction}
use Rattle.spv_names.specs.inner.Given.{IsOnly, given, given_by, id_by, id_or}
use Rattle.spv_names.specs.declared.naming.Naming.{Naming}
use Rattle.spv_names.specs.declared.naming.Naming.TheVariants.{Name, EntryPoint}

-- one of the instructions gives the id the name
abbrev pub IsGivenIn : List ℕ → List PlainInst → ℕ → Type 0
IsGivenIn t [] x = ⊥
IsGivenIn t (i ∷ is) x = (given t i ≡ Some x) ⊎ IsGivenIn t is x

-- one of them does in that way
abbrev IsGivenBy : Naming → List ℕ → List PlainInst → ℕ → Type 0
IsGivenBy naming t [] x = ⊥
IsGivenBy naming t (i ∷ is) x = (given_by naming t i ≡ Some x) ⊎ IsGivenBy naming t is x

same_bytes : (t u : List ℕ) → t ≡ u → bytes_eq t u ≡ true
same_bytes t u e = grind (arith, bytes_eq-Decides t u)

hit : (t : List ℕ) (p : ℕ × List ℕ) (x : ℕ) → p.1 ≡ t → p.0 ≡ x → id_by t (Some p) ≡ Some x
hit t p x e f = rw (same_bytes (p.1) t e) (ap Some f)

by_way : (naming : Naming) (t : List ℕ) (is : List PlainInst) (x : ℕ) → name_of naming is x ≡ Some t
    → IsGivenBy naming t is x
by_way naming t [] x h = absurd (none-some t h)
by_way naming t (i ∷ is) x h = step (named_by naming i) refl h (by_way naming t is x)
  where
    step : (o : Option (ℕ × List ℕ)) → named_by naming i ≡ o → or_later x o (name_of naming is x) ≡ Some t
        → (name_of naming is x ≡ Some t → IsGivenBy naming t is x) → IsGivenBy naming t (i ∷ is) x
    step None e h f = inr (f h)
    step (Some p) e h f = elim (cases_Bool (nat_eq (p.0) x)) [
      | inl b ↦ inl (ap (id_by t) e ∙ hit t p x (same_Some (p.1) t (rw b at h)) (eqb-true (p.0) x b))
      | inr b ↦ inr (f (rw b at h))
    ]

by_entry : (t : List ℕ) (i : PlainInst) (x : ℕ) → given_by EntryPoint t i ≡ Some x → given t i ≡ Some x
by_entry t i x h = elim (cases_Bool (nat_eq i.opcode NAME)) [
  | inl b ↦ (
      let e : given_by EntryPoint t i ≡ None = rw (eqb-true i.opcode NAME b) refl in
      absurd (none-some x (sym e ∙ h)))
  | inr b ↦ (
      let e : given_by Name t i ≡ None = rw b refl in
      ap (λ o. id_or o (given_by EntryPoint t i)) e ∙ h)
]

named_so : (t : List ℕ) (is : List PlainInst) (x : ℕ) → IsGivenBy Name t is x → IsGivenIn t is x
named_so t [] x h = h
named_so t (i ∷ is) x (inl e) = inl (ap (λ o. id_or o (given_by EntryPoint t i)) e)
named_so t (i ∷ is) x (inr h) = inr (named_so t is x h)

entered_so : (t : List ℕ) (is : List PlainInst) (x : ℕ) → IsGivenBy EntryPoint t is x → IsGivenIn t is x
entered_so t [] x h = h
entered_so t (i ∷ is) x (inl e) = inl (by_entry t i x e)
entered_so t (i ∷ is) x (inr h) = inr (entered_so t is x h)

-- a function of the name is given it
pub given_somewhere : (t : List ℕ) (is : List PlainInst) (x : ℕ) → IsNamedFunction is t x → IsGivenIn t is x
given_somewhere t is x n = step (name_of Name is x) refl n.name
  where
    step : (o : Option (List ℕ)) → name_of Name is x ≡ o → or_else o (name_of EntryPoint is x) ≡ Some t
        → IsGivenIn t is x
    step None e h = entered_so t is x (by_way EntryPoint t is x h)
    step (Some u) e h = named_so t is x (by_way Name t is x (e ∙ h))

-- each function of the name was found, or is given it behind
pub record IsSeen (is : List PlainInst) (t : List ℕ) (rest : List PlainInst) (found : Option ℕ) : Type 0 where
  pub only : IsOnly is t found
  pub all : (x : ℕ) → IsNamedFunction is t x → (found ≡ Some x) ⊎ IsGivenIn t rest x

pub none_seen : (is : List PlainInst) (t : List ℕ) → IsSeen is t is None
none_seen is t = record { only = tt; all = λ x n. inr (given_somewhere t is x n) }

-- an instruction that gives the name to nothing
pub not_given : (is : List PlainInst) (t : List ℕ) (i : PlainInst) (rest : List PlainInst) (found : Option ℕ)
    → given t i ≡ None → IsSeen is t (i ∷ rest) found → IsSeen is t rest found
not_given is t i rest found e s = record { only = s.only; all = λ x n. by x (s.all x n) }
  where
    by : (x : ℕ) → (found ≡ Some x) ⊎ IsGivenIn t (i ∷ rest) x → (found ≡ Some x) ⊎ IsGivenIn t rest x
    by x (inl f) = inl f
    by x (inr (inl g)) = absurd (none-some x (sym e ∙ g))
    by x (inr (inr g)) = inr g

-- one that gives it to an id
pub is_given : (is : List PlainInst) (t : List ℕ) (i : PlainInst) (rest : List PlainInst) (found more : Option ℕ)
    (x : ℕ) → given t i ≡ Some x → IsOnly is t more → ((y : ℕ) → found ≡ Some y → more ≡ Some y)
    → (IsNamedFunction is t x → more ≡ Some x) → IsSeen is t (i ∷ rest) found → IsSeen is t rest more
is_given is t i rest found more x e o keeps adds s = record { only = o; all = λ y n. by y n (s.all y n) }
  where
    by : (y : ℕ) → IsNamedFunction is t y → (found ≡ Some y) ⊎ IsGivenIn t (i ∷ rest) y
        → (more ≡ Some y) ⊎ IsGivenIn t rest y
    by y n (inl f) = inl (keeps y f)
    by y n (inr (inl g)) =
        (let same : x ≡ y = same_Some x y (sym e ∙ g) in
        inl (adds (rw same n) ∙ ap Some same))
    by y n (inr (inr g)) = inr g

-- at the end
pub all_seen : (is : List PlainInst) (t : List ℕ) (x : ℕ) (found : Option ℕ) → IsSeen is t [] found → found ≡ Some x
    → IsNamedFunction is t x × ((y : ℕ) → IsNamedFunction is t y → y ≡ x)
all_seen is t x None s e = absurd (none-some x e)
all_seen is t x (Some z) s e =
    (let same : z ≡ x = same_Some z x e in (rw same at s.only, λ y n. by y same (s.all y n)))
  where
    by : (y : ℕ) → z ≡ x → (Some z ≡ Some y) ⊎ IsGivenIn t [] y → y ≡ x
    by y same (inl f) = sym (same_Some z y f) ∙ same
    by y same (inr g) = absurd g

pub none_found : (is : List PlainInst) (t : List ℕ) (found : Option ℕ) → IsSeen is t [] found → found ≡ None
    → (x : ℕ) → ¬ (IsNamedFunction is t x)
none_found is t found s e x n = elim (s.all x n) [ inl f ↦ none-some x (sym e ∙ f) | inr g ↦ g ]
