-- What is added to a list, step by step.
use Rattle.std.proofs.Common.{◌≡◌, ◌≤◌, ◌<◌, ◌+◌, ◌++◌, ◌∙◌, inl, inr, ℕ, zero, suc, List, [], ◌∷◌, refl, ap, subst}
use Rattle.std.proofs.Common.{arith}
use Rattle.std.specs.Prelude.{Contains}
use Rattle.std.proofs.lemmas.Bool.{cases_lt}
use Rattle.std.proofs.lemmas.List.Elements.{Contains-append_left, Contains-append_right, Contains-append_cases}
use Rattle.spv_table.specs.Table.{Table}
use Rattle.spv_flow.specs.declared.walks.code.Code.{Code}
use Rattle.spv_flow.specs.walks.inner.Code.{IsCode}
use Rattle.spv_flow.specs.walks.inner.Adds.{AddsBy}

-- of the steps before n
abbrev pub UpTo : {A : Type 0} → ℕ → (Table → ℕ → A → Type 0) → Table → A → Type 0
UpTo {A} n P G a = (j : ℕ) × (j < n) × P G j a

module _ {A : Type 0} where
  nil_right : (xs : List A) → xs ≡ xs ++ []
  nil_right [] = refl
  nil_right (x ∷ xs) = ap (λ (ys : List A). x ∷ ys) (nil_right xs)

  joined : (xs ys zs : List A) → (xs ++ ys) ++ zs ≡ xs ++ (ys ++ zs)
  joined [] ys zs = refl
  joined (x ∷ xs) ys zs = ap (λ (us : List A). x ∷ us) (joined xs ys zs)

  none_there : (a : A) → ¬ (Contains [] a)
  none_there a (k, lt, e) = absurd (omega (arith, lt))

  one_there : (x : A) → Contains (x ∷ []) x
  one_there x = (0, omega arith, refl)

  only_there : (x a : A) → Contains (x ∷ []) a → x ≡ a
  only_there x a (zero, lt, e) = e
  only_there x a (suc k, lt, e) = absurd (omega (arith, lt))

  pub adds_none : (c : Code) (P : Table → A → Type 0) (xs : List A) → ((G : Table) → IsCode G c → (a : A) → ¬ (P G a))
      → AddsBy c P xs xs
  adds_none c P xs none = record {
    added = [];
    all = nil_right xs;
    sound = λ a h. absurd (none_there a h);
    complete = λ a q. absurd (none q.0 q.1 a q.2);
  }

  pub adds_one : (c : Code) (P : Table → A → Type 0) (xs : List A) (x : A) → ((G : Table) → IsCode G c → P G x)
      → ((G : Table) → IsCode G c → (a : A) → P G a → x ≡ a) → AddsBy c P xs (xs ++ x ∷ [])
  adds_one c P xs x here only = record {
    added = x ∷ [];
    all = refl;
    sound = λ a h G is. subst (λ (y : A). P G y) (only_there x a h) (here G is);
    complete = λ a q. subst (λ (y : A). Contains (x ∷ []) y) (only q.0 q.1 a q.2) (one_there x);
  }

  pub adds_as : (c : Code) (P Q : Table → A → Type 0) (xs ys : List A) → AddsBy c P xs ys
      → ((G : Table) → IsCode G c → (a : A) → P G a → Q G a) → ((G : Table) → IsCode G c → (a : A) → Q G a → P G a)
      → AddsBy c Q xs ys
  adds_as c P Q xs ys h to from = record {
    added = h.added;
    all = h.all;
    sound = λ a k G is. to G is a (h.sound a k G is);
    complete = λ a q. h.complete a (q.0, q.1, from q.0 q.1 a q.2);
  }

  pub adds_start : (c : Code) (P : Table → ℕ → A → Type 0) (n : ℕ) (xs : List A)
      → ((G : Table) → IsCode G c → (j : ℕ) (a : A) → j < n → ¬ (P G j a)) → AddsBy c (UpTo n P) xs xs
  adds_start c P n xs none = adds_none c (UpTo n P) xs (λ G is a h. none G is h.0 a h.1 h.2)

  pub adds_step : (c : Code) (P : Table → ℕ → A → Type 0) (n : ℕ) (xs ys zs : List A) → AddsBy c (UpTo n P) xs ys
      → AddsBy c (λ G a. P G n a) ys zs → AddsBy c (UpTo (n + 1) P) xs zs
  adds_step c P n xs ys zs before here = record {
    added = before.added ++ here.added;
    all = here.all ∙ ap (λ (us : List A). us ++ here.added) before.all ∙ joined xs before.added here.added;
    sound = λ a k. elim (Contains-append_cases before.added here.added a k) [
      | inl l ↦ λ G is. (let h = before.sound a l G is in (h.0, omega (arith, h.1), h.2))
      | inr r ↦ λ G is. (n, omega arith, here.sound a r G is)
    ];
    complete = λ a q. elim (cases_lt q.2.0 n) [
      | inl less ↦ Contains-append_left before.added here.added a (before.complete a (q.0, q.1, (q.2.0, less, q.2.2)))
      | inr more ↦ (
          let lt = q.2.1 in
          let e : q.2.0 ≡ n = omega (arith, lt, more) in
          Contains-append_right before.added here.added a
          (here.complete a (q.0, q.1, subst (λ (j : ℕ). P q.0 j a) e q.2.2)))
    ];
  }

  -- steps that add nothing new
  pub adds_past : (c : Code) (P : Table → ℕ → A → Type 0) (n m : ℕ) (xs ys : List A) → n ≤ m → AddsBy c (UpTo n P) xs ys
      → ((G : Table) → IsCode G c → (j : ℕ) (a : A) → n ≤ j → j < m → P G j a → UpTo n P G a)
      → AddsBy c (UpTo m P) xs ys
  adds_past c P n m xs ys le h past = adds_as c (UpTo n P) (UpTo m P) xs ys h
      (λ G is a k. let lt = k.1 in (k.0, omega (arith, lt, le), k.2))
      (λ G is a k. elim (cases_lt k.0 n) [
        | inl less ↦ (k.0, less, k.2)
        | inr more ↦ past G is k.0 a more k.1 k.2
      ])

  pub adds_end : (c : Code) (P : Table → ℕ → A → Type 0) (n : ℕ) (xs ys : List A) → AddsBy c (UpTo n P) xs ys
      → ((G : Table) → IsCode G c → (j : ℕ) (a : A) → P G j a → j < n) → AddsBy c (λ G a. (j : ℕ) × P G j a) xs ys
  adds_end c P n xs ys h within =
      adds_as c (UpTo n P) (λ G a. (j : ℕ) × P G j a) xs ys h (λ G is a k. (k.0, k.2))
      (λ G is a k. (k.0, within G is k.0 a k.1, k.1))
