-- What holds while capabilities are reached, and that the search for them ends.
use Rattle.std.proofs.Common.{◌≡◌, ℕ, ◌+◌, ◌≤◌, ◌<◌, Bool, true, false, not, cond, nat_eq, List, [], ◌∷◌, ◌++◌, Option, Some, None, length, refl, sym, ap, subst, ◌∙◌, ◌⊎◌, inl, inr, true≢false, Vec, Global, zero, suc, Contains, count_by, get_or, take, add-one, option_and_then, codes, append-nil, length-append, arith}
use Rattle.std.specs.List.{filter_map, cons_option}
use Rattle.std.specs.Str.{bytes_eq}
use Rattle.std.proofs.lemmas.List.Sums.{sum_by-cons}
use Rattle.std.proofs.Math.Seq.{take-suc}
use Rattle.std.proofs.lemmas.Bool.Decides.{nat_tests}
use Rattle.std.proofs.lemmas.List.Elements.{Contains-push, Contains-push_cases, Contains-append_left, filter_map-append}
use Rattle.spv_table.specs.declared.implied.Reached.{Reached}
use Rattle.spv_table.specs.declared.table.Enumerant.{Enumerant}
use Rattle.spv_table.specs.Table.{Table, Sort, kind_of, enumerant_of}
use Rattle.spv_table.specs.Lookups.{value_named, number_named}
use Rattle.spv_table.specs.Implied.{enumerants_of, capabilities_in, Lists, CapabilityChain, Implied}
use Rattle.spv_table.specs.inner.Reached.{is_reached, Adds, AddsAll, names_of, listed_by}

abbrev pub Nothing : ℕ → Type 0
Nothing _ = ⊥

-- how many of these enumerants have a value that was not reached
abbrev pub unreached : List Enumerant → Reached → ℕ
unreached es r = count_by (λ e. not (is_reached r e.value)) es

-- what holds when the capabilities that are due have still to be looked at, and the open ones still to be reached
pub record Sofar (G : Table) (declared : List ℕ) (r : Reached) (open_ones : ℕ → Type 0) : Type 0 where
  pub starts : (c : ℕ) → Contains declared c → (is_reached r c ≡ true) ⊎ open_ones c
  pub sound : (c : ℕ) → is_reached r c ≡ true → Implied G declared c
  pub due : (c : ℕ) → Contains r.due.items c → is_reached r c ≡ true
  pub closed : (a b : ℕ) → is_reached r a ≡ true → Lists G a b → (is_reached r b ≡ true) ⊎ (Contains r.due.items a ⊎ open_ones b)

-- ---- the next of a list

more_than : {A : Type 0} (xs : List A) (i : ℕ) (x : A) → i < length xs → x ≡ get_or xs i x → take (i + 1) xs ≡ take i xs ++ x ∷ []
more_than xs i x within is =
    let e : take (i + 1) xs ≡ take i xs ++ get_or xs i x ∷ [] = rw add-one (take-suc xs i x within) in
    e ∙ ap (λ y. take i xs ++ y ∷ []) (sym is)

pub more_at : (cs : List ℕ) (i : ℕ) (old now new : Reached) → i < length cs → AddsAll (take i cs) old now → Adds now new (get_or cs i 0) → AddsAll (take (i + 1) cs) old new
more_at cs i old now new within before adds =
    let P : List ℕ → Type 0 = λ ds. AddsAll ds old new in
    let e : take (i + 1) cs ≡ take i cs ++ get_or cs i 0 ∷ [] = rw add-one (take-suc cs i 0 within) in
    subst P (sym e) (AddsAll.more (take i cs) (get_or cs i 0) old now new before adds)

module _ {A : Type 0} (f : A → Option ℕ) (xs : List A) (i : ℕ) (x : A) (old now new : Reached) (within : i < length xs) (is : x ≡ get_or xs i x) (before : AddsAll (filter_map f (take i xs)) old now) where
  found : filter_map f (take (i + 1) xs) ≡ filter_map f (take i xs) ++ cons_option (f x) []
  found = ap (filter_map f) (more_than xs i x within is) ∙ filter_map-append f (take i xs) (x ∷ [])

  pub some_at : (c : ℕ) → Some c ≡ f x → Adds now new c → AddsAll (filter_map f (take (i + 1) xs)) old new
  some_at c e adds =
      let P : List ℕ → Type 0 = λ ds. AddsAll ds old new in
      let all : filter_map f (take (i + 1) xs) ≡ filter_map f (take i xs) ++ c ∷ [] = found ∙ ap (λ o. filter_map f (take i xs) ++ cons_option o []) (sym e) in
      subst P (sym all) (AddsAll.more (filter_map f (take i xs)) c old now new before adds)

  pub none_at : None ≡ f x → new ≡ now → AddsAll (filter_map f (take (i + 1) xs)) old new
  none_at e same =
      let P : List ℕ → Type 0 = λ ds. AddsAll ds old new in let Q : Reached → Type 0 = λ r. AddsAll (filter_map f (take i xs)) old r in
      let all : filter_map f (take (i + 1) xs) ≡ filter_map f (take i xs) = found ∙ ap (λ o. filter_map f (take i xs) ++ cons_option o []) (sym e) ∙ append-nil (filter_map f (take i xs)) in
      subst P (sym all) (subst Q (sym same) before)

-- a name means the same by the kind's place and by its enumerants
pub named_in : (o : Option Sort) (name : List ℕ) → option_and_then (λ s. value_named s.enumerants name) o ≡ value_named (enumerants_of o) name
named_in None name = refl
named_in (Some s) name = refl

-- ---- what is in a list

pub in_cons : {A : Type 0} (y : A) (ys : List A) (x : A) → Contains (y ∷ ys) x → (y ≡ x) ⊎ Contains ys x
in_cons y ys x (zero, within, is) = inl is
in_cons y ys x (suc k, within, is) = inr (k, omega arith, is)

in_later : {A : Type 0} (y : A) (ys : List A) (x : A) → Contains ys x → Contains (y ∷ ys) x
in_later y ys x h = (suc h.0, omega (arith, h.1), h.2)

module _ {A : Type 0} (f : A → Option ℕ) where
  found_first : (x : A) (xs : List A) (b : ℕ) (o : Option ℕ) → f x ≡ o → Some b ≡ o → Contains (cons_option o (filter_map f xs)) b
  found_first x xs b o e same = let P : Option ℕ → Type 0 = λ p. Contains (cons_option p (filter_map f xs)) b in subst P same (0, omega arith, refl)

  found_later : (xs : List A) (b : ℕ) (o : Option ℕ) → Contains (filter_map f xs) b → Contains (cons_option o (filter_map f xs)) b
  found_later xs b None h = h
  found_later xs b (Some y) h = in_later y (filter_map f xs) b h

  pub in_found : (xs : List A) (x : A) (b : ℕ) → Contains xs x → f x ≡ Some b → Contains (filter_map f xs) b
  in_found [] x b h e = absurd (omega (arith, h.1))
  in_found (y ∷ ys) x b h e =
      elim (in_cons y ys x h) [
        | inl same ↦ found_first y ys b (f y) refl (sym e ∙ ap f (sym same))
        | inr later ↦ found_later ys b (f y) (in_found ys x b later e)
      ]

  abbrev Source : List A → ℕ → Type 0
  Source xs b = (x : A) × Contains xs x × (f x ≡ Some b)

  source_later : (x : A) (xs : List A) (b : ℕ) → Source xs b → Source (x ∷ xs) b
  source_later x xs b s = (s.0, in_later x xs s.0 s.1, s.2)

  source_by : (x : A) (xs : List A) (b : ℕ) (o : Option ℕ) → f x ≡ o → Contains (cons_option o (filter_map f xs)) b → (Contains (filter_map f xs) b → Source xs b) → Source (x ∷ xs) b
  source_by x xs b None e h before = source_later x xs b (before h)
  source_by x xs b (Some y) e h before =
      elim (in_cons y (filter_map f xs) b h) [
        | inl same ↦ (x, (0, omega arith, refl), e ∙ ap (λ n. Some n) same)
        | inr later ↦ source_later x xs b (before later)
      ]

  pub source : (xs : List A) (b : ℕ) → Contains (filter_map f xs) b → Source xs b
  source [] b h = absurd (omega (arith, h.1))
  source (x ∷ xs) b h = source_by x xs b (f x) refl h (source xs b)

-- ---- the kind named Capability

pub enumerant_in : (o : Option Sort) (value : ℕ) → option_and_then (λ s. enumerant_of s.enumerants value) o ≡ enumerant_of (enumerants_of o) value
enumerant_in None value = refl
enumerant_in (Some s) value = refl

pub capabilities_at : (G : Table) (kind : ℕ) → Some kind ≡ number_named G (codes "Capability") → enumerants_of (kind_of G kind) ≡ capabilities_in G
capabilities_at G kind e = ap (λ o. enumerants_of (option_and_then (kind_of G) o)) e

pub none_listed : (G : Table) → None ≡ number_named G (codes "Capability") → (a b : ℕ) → Lists G a b → ⊥
none_listed G e a b l =
    let none : [] ≡ capabilities_in G = ap (λ o. enumerants_of (option_and_then (kind_of G) o)) e in
    let absent : None ≡ enumerant_of (capabilities_in G) a = ap (λ es. enumerant_of es a) none in
    let present = l.is in
    absurd (cc)

-- ---- one capability more

same_or : (c q : ℕ) (now was : Bool) → now ≡ cond (nat_eq c q) true was → now ≡ true → (c ≡ q) ⊎ (was ≡ true)
same_or c q now was e h = by (nat_eq c q) refl
  where
    by : (b : Bool) → nat_eq c q ≡ b → (c ≡ q) ⊎ (was ≡ true)
    by true t = inl (grind (arith, nat_tests))
    by false t = inr (let k : now ≡ was = rw t at e in sym k ∙ h)

cond_true : (b was : Bool) → was ≡ true → cond b true was ≡ true
cond_true true was h = refl
cond_true false was h = h

module _ (old new : Reached) (c : ℕ) (adds : Adds old new c) where
  pub stays : (q : ℕ) → is_reached old q ≡ true → is_reached new q ≡ true
  stays q h = adds.all q ∙ cond_true (nat_eq c q) (is_reached old q) h

  pub is_there : is_reached new c ≡ true
  is_there = let same : nat_eq c c ≡ true = grind (arith, nat_tests) in adds.all c ∙ ap (λ b. cond b true (is_reached old c)) same

  pub was_there : (q : ℕ) → is_reached new q ≡ true → (c ≡ q) ⊎ (is_reached old q ≡ true)
  was_there q h = same_or c q (is_reached new q) (is_reached old q) (adds.all q) h

  pub due_by : (was : Bool) → is_reached old c ≡ was → new.due.items ≡ cond was old.due.items (old.due.items ++ c ∷ [])
  due_by was e = adds.due ∙ ap (λ b. cond b old.due.items (old.due.items ++ c ∷ [])) e

  stays_due-by : (q : ℕ) (was : Bool) → is_reached old c ≡ was → Contains old.due.items q → Contains new.due.items q
  stays_due-by q true e h = let P : List ℕ → Type 0 = λ xs. Contains xs q in subst P (sym (due_by true e)) h
  stays_due-by q false e h = let P : List ℕ → Type 0 = λ xs. Contains xs q in subst P (sym (due_by false e)) (Contains-append_left old.due.items (c ∷ []) q h)

  pub stays_due : (q : ℕ) → Contains old.due.items q → Contains new.due.items q
  stays_due q h = stays_due-by q (is_reached old c) refl h

  was_due-by : (q : ℕ) (was : Bool) → is_reached old c ≡ was → Contains new.due.items q → (c ≡ q) ⊎ Contains old.due.items q
  was_due-by q true e h = let P : List ℕ → Type 0 = λ xs. Contains xs q in inr (subst P (due_by true e) h)
  was_due-by q false e h =
      let P : List ℕ → Type 0 = λ xs. Contains xs q in
      elim (Contains-push_cases old.due.items c q (subst P (due_by false e) h)) [ inl k ↦ inr k | inr k ↦ inl k ]

  pub was_due : (q : ℕ) → Contains new.due.items q → (c ≡ q) ⊎ Contains old.due.items q
  was_due q h = was_due-by q (is_reached old c) refl h

  new_or_old-by : (was : Bool) → is_reached old c ≡ was → (is_reached old c ≡ true) ⊎ Contains new.due.items c
  new_or_old-by true e = inl e
  new_or_old-by false e = let P : List ℕ → Type 0 = λ xs. Contains xs c in inr (subst P (sym (due_by false e)) (Contains-push old.due.items c))

  -- it was reached, or is due now
  pub new_or_old : (is_reached old c ≡ true) ⊎ Contains new.due.items c
  new_or_old = new_or_old-by (is_reached old c) refl

module _ (G : Table) (declared : List ℕ) where
  pub weaker : (r : Reached) (P Q : ℕ → Type 0) → ((b : ℕ) → P b → Q b) → Sofar G declared r P → Sofar G declared r Q
  weaker r P Q f h = record {
    starts = λ c m. elim (h.starts c m) [ inl k ↦ inl k | inr k ↦ inr (f c k) ];
    sound = h.sound;
    due = h.due;
    closed = λ a b m l. elim (h.closed a b m l) [ inl k ↦ inl k | inr k ↦ inr (elim k [ inl d ↦ inl d | inr o ↦ inr (f b o) ]) ];
  }

  module _ (old new : Reached) (c : ℕ) (adds : Adds old new c) (Q : ℕ → Type 0) (h : Sofar G declared old (λ b. (c ≡ b) ⊎ Q b)) where
    reached_or : (b : ℕ) → (c ≡ b) ⊎ Q b → (is_reached new b ≡ true) ⊎ Q b
    reached_or b o = elim o [ inl e ↦ inl (let P : ℕ → Type 0 = λ n. is_reached new n ≡ true in subst P e (is_there old new c adds)) | inr k ↦ inr k ]

    closed_old : (a b : ℕ) → is_reached old a ≡ true → Lists G a b → (is_reached new b ≡ true) ⊎ (Contains new.due.items a ⊎ Q b)
    closed_old a b m l =
        elim (h.closed a b m l) [
          | inl k ↦ inl (stays old new c adds b k)
          | inr k ↦ elim k [
            | inl d ↦ inr (inl (stays_due old new c adds a d))
            | inr o ↦ elim (reached_or b o) [ inl k ↦ inl k | inr k ↦ inr (inr k) ]
          ]
        ]

    closed_new : (a b : ℕ) → c ≡ a → Lists G a b → (is_reached new b ≡ true) ⊎ (Contains new.due.items a ⊎ Q b)
    closed_new a b e l =
        elim (new_or_old old new c adds) [
          | inl k ↦ closed_old a b (let P : ℕ → Type 0 = λ n. is_reached old n ≡ true in subst P e k) l
          | inr d ↦ inr (inl (let P : ℕ → Type 0 = λ n. Contains new.due.items n in subst P e d))
        ]

    pub one_more : Implied G declared c → Sofar G declared new Q
    one_more implied = record {
      starts = λ q m. elim (h.starts q m) [ inl k ↦ inl (stays old new c adds q k) | inr o ↦ reached_or q o ];
      sound = λ q m. elim (was_there old new c adds q m) [ inl e ↦ subst (Implied G declared) e implied | inr k ↦ h.sound q k ];
      due = λ q m. elim (was_due old new c adds q m) [ inl e ↦ (let P : ℕ → Type 0 = λ n. is_reached new n ≡ true in subst P e (is_there old new c adds)) | inr k ↦ stays old new c adds q (h.due q k) ];
      closed = λ a b m l. elim (was_there old new c adds a m) [ inl e ↦ closed_new a b e l | inr k ↦ closed_old a b k l ];
    }

  -- capabilities one after another
  pub all_more : (cs : List ℕ) (old new : Reached) (Q : ℕ → Type 0) → AddsAll cs old new → ((b : ℕ) → Contains cs b → Implied G declared b) → Sofar G declared old (λ b. Contains cs b ⊎ Q b) → Sofar G declared new Q
  all_more _ _ _ Q (AddsAll.none r) implied h = weaker r (λ b. Contains [] b ⊎ Q b) Q (λ b m. elim m [ inl k ↦ absurd (omega (arith, k.1)) | inr k ↦ k ]) h
  all_more _ old new Q (AddsAll.more cs c _ now _ before adds) implied h =
      let Later : ℕ → Type 0 = λ b. (c ≡ b) ⊎ Q b in
      let first : Sofar G declared old (λ b. Contains cs b ⊎ Later b) =
      weaker old (λ b. Contains (cs ++ c ∷ []) b ⊎ Q b) (λ b. Contains cs b ⊎ Later b)
      (λ b m. elim m [ inl k ↦ (elim (Contains-push_cases cs c b k) [ inl k ↦ inl k | inr e ↦ inr (inl e) ]) | inr k ↦ inr (inr k) ]) h in
      one_more now new c adds Q (all_more cs old now Later before (λ b k. implied b (Contains-append_left cs (c ∷ []) b k)) first) (implied c (Contains-push cs c))

-- ---- what a capability lists

lists_by : (G : Table) (a b : ℕ) (o : Option Enumerant) → enumerant_of (capabilities_in G) a ≡ o → Contains (filter_map (value_named (capabilities_in G)) (names_of o)) b → Lists G a b
lists_by G a b None is m = absurd (omega (arith, m.1))
lists_by G a b (Some e) is m = let s = source (value_named (capabilities_in G)) e.capabilities b m in record { enumerant = e; is = is; name = s.0; listed = s.1; names = s.2 }

lists_from : (G : Table) (a b : ℕ) → Contains (listed_by (capabilities_in G) a) b → Lists G a b
lists_from G a b m = lists_by G a b (enumerant_of (capabilities_in G) a) refl m

listed_from : (G : Table) (a b : ℕ) → Lists G a b → Contains (listed_by (capabilities_in G) a) b
listed_from G a b l =
    let P : Option Enumerant → Type 0 = λ o. Contains (filter_map (value_named (capabilities_in G)) (names_of o)) b in
    subst P (sym l.is) (in_found (value_named (capabilities_in G)) l.enumerant.capabilities l.name b l.listed l.names)

-- ---- the beginning, a step, and the end

extended : (G : Table) (a b c : ℕ) → CapabilityChain G a b → Lists G b c → CapabilityChain G a c
extended G _ _ c (CapabilityChain.here b) l = CapabilityChain.step b c c l (CapabilityChain.here c)
extended G _ _ c (CapabilityChain.step a b d first later) l = CapabilityChain.step a b c first (extended G b d c later l)

chain_reached : (G : Table) (r : Reached) → ((a b : ℕ) → is_reached r a ≡ true → Lists G a b → is_reached r b ≡ true) → (a c : ℕ) → CapabilityChain G a c → is_reached r a ≡ true → is_reached r c ≡ true
chain_reached G r closed _ _ (CapabilityChain.here a) m = m
chain_reached G r closed _ _ (CapabilityChain.step a b c first later) m = chain_reached G r closed b c later (closed a b m first)

module _ (G : Table) (declared : List ℕ) where
  lists_implied : (a b : ℕ) → Implied G declared a → Lists G a b → Implied G declared b
  lists_implied a b i l = record { first = i.first; declares = i.declares; chain = extended G i.first a b i.chain l }

  pub started : (empty r : Reached) → ((c : ℕ) → is_reached empty c ≡ false) → empty.due.items ≡ [] → AddsAll declared empty r → Sofar G declared r Nothing
  started empty r none no_due adds =
      all_more G declared declared empty r Nothing adds (λ b m. record { first = b; declares = m; chain = CapabilityChain.here b }) (record {
        starts = λ c m. inr (inl m);
        sound = λ c m. absurd (true≢false (sym m ∙ none c));
        due = λ c m. let P : List ℕ → Type 0 = λ xs. Contains xs c in let k = subst P no_due m in absurd (omega (arith, k.1));
        closed = λ a b m l. absurd (true≢false (sym m ∙ none a));
      })

  -- one that was due is taken: what it lists is open
  pub taken : (r : Reached) (left : Vec ℕ Global) (a : ℕ) → r.due.items ≡ left.items ++ a ∷ [] → Sofar G declared r Nothing → (is_reached r a ≡ true) × Sofar G declared (record { all = r.all; due = left }) (Lists G a)
  taken r left a e h =
      let was : (c : ℕ) → Contains (left.items ++ a ∷ []) c → Contains r.due.items c = λ c m. let P : List ℕ → Type 0 = λ xs. Contains xs c in subst P (sym e) m in
      let now : (c : ℕ) → Contains r.due.items c → Contains left.items c ⊎ (a ≡ c) = λ c m. let P : List ℕ → Type 0 = λ xs. Contains xs c in Contains-push_cases left.items a c (subst P e m) in (
        h.due a (was a (Contains-push left.items a)),
        record {
          starts = λ c m. elim (h.starts c m) [ inl k ↦ inl k | inr o ↦ absurd o ];
          sound = h.sound;
          due = λ c m. h.due c (was c (Contains-append_left left.items (a ∷ []) c m));
          closed = λ b c m l. elim (h.closed b c m l) [
            | inl k ↦ inl k
            | inr k ↦ elim k [
              | inl d ↦ (elim (now b d) [ inl d ↦ inr (inl d) | inr same ↦ inr (inr (let P : ℕ → Type 0 = λ n. Lists G n c in subst P (sym same) l)) ])
              | inr o ↦ absurd o
            ]
          ];
        },
      )

  -- what the taken one lists was reached
  pub followed : (old new : Reached) (a : ℕ) → Implied G declared a → AddsAll (listed_by (capabilities_in G) a) old new → Sofar G declared old (Lists G a) → Sofar G declared new Nothing
  followed old new a implied adds h =
      all_more G declared (listed_by (capabilities_in G) a) old new Nothing adds (λ b m. lists_implied a b implied (lists_from G a b m))
      (weaker G declared old (Lists G a) (λ b. Contains (listed_by (capabilities_in G) a) b ⊎ Nothing b) (λ b l. inl (listed_from G a b l)) h)

  pub answered : (r : Reached) → Sofar G declared r Nothing → ((a b : ℕ) → Contains r.due.items a → Lists G a b → ⊥) → (c : ℕ) → (is_reached r c ≡ true → Implied G declared c) × (Implied G declared c → is_reached r c ≡ true)
  answered r h none c =
      let closed : (a b : ℕ) → is_reached r a ≡ true → Lists G a b → is_reached r b ≡ true = λ a b m l. elim (h.closed a b m l) [ inl k ↦ k | inr k ↦ (elim k [ inl d ↦ absurd (none a b d l) | inr o ↦ absurd o ]) ] in
      let begun : (a : ℕ) → Contains declared a → is_reached r a ≡ true = λ a m. elim (h.starts a m) [ inl k ↦ k | inr o ↦ absurd o ] in
      (h.sound c, λ i. chain_reached G r closed i.first c i.chain (begun i.first i.declares))

-- ---- the search ends

fewer_with : (now was : Bool) (m n : ℕ) → (was ≡ true → now ≡ true) → m ≤ n → cond (not now) 1 0 + m ≤ cond (not was) 1 0 + n
fewer_with true true m n f h = omega arith
fewer_with true false m n f h = omega arith
fewer_with false true m n f h = absurd (true≢false (sym (f refl)))
fewer_with false false m n f h = omega arith

abbrev is_new : Reached → Enumerant → Bool
is_new r e = not (is_reached r e.value)

unreached-cons : (e : Enumerant) (es : List Enumerant) (r : Reached) → unreached (e ∷ es) r ≡ cond (is_new r e) 1 0 + unreached es r
unreached-cons e es r = sum_by-cons (λ d. cond (is_new r d) 1 0) e es

-- what was reached stays so
fewer : (es : List Enumerant) (old new : Reached) → ((q : ℕ) → is_reached old q ≡ true → is_reached new q ≡ true) → unreached es new ≤ unreached es old
fewer [] old new f = omega arith
fewer (e ∷ es) old new f =
    let more = fewer_with (is_reached new e.value) (is_reached old e.value) (unreached es new) (unreached es old) (f e.value) (fewer es old new f) in
    omega (arith, unreached-cons e es old, unreached-cons e es new, more)

-- one enumerant is reached that was not
fewer_by_one : (es : List Enumerant) (old new : Reached) (name : List ℕ) (c : ℕ) → ((q : ℕ) → is_reached old q ≡ true → is_reached new q ≡ true) → is_reached old c ≡ false → is_reached new c ≡ true
    → value_named es name ≡ Some c → unreached es new + 1 ≤ unreached es old
fewer_by_one [] old new name c f was now e = absurd (cc)
fewer_by_one (d ∷ es) old new name c f was now e = by (bytes_eq name d.name) refl (fewer_by_one es old new name c f was now) where
  at_first : d.value ≡ c → unreached (d ∷ es) new + 1 ≤ unreached (d ∷ es) old
  at_first same =
      let before : is_new old d ≡ true = ap not (ap (is_reached old) same ∙ was) in
      let after : is_new new d ≡ false = ap not (ap (is_reached new) same ∙ now) in
      let count : Bool → ℕ = λ b. cond b 1 0 in
      omega (arith, unreached-cons d es old ∙ ap (λ b. count b + unreached es old) before, unreached-cons d es new ∙ ap (λ b. count b + unreached es new) after, fewer es old new f)

  at_later : unreached es new + 1 ≤ unreached es old → unreached (d ∷ es) new + 1 ≤ unreached (d ∷ es) old
  at_later less =
      let more = fewer_with (is_reached new d.value) (is_reached old d.value) (unreached es new + 1) (unreached es old) (f d.value) less in
      omega (arith, unreached-cons d es old, unreached-cons d es new, more)

  by : (b : Bool) → bytes_eq name d.name ≡ b → (value_named es name ≡ Some c → unreached es new + 1 ≤ unreached es old) → unreached (d ∷ es) new + 1 ≤ unreached (d ∷ es) old
  by true t later = at_first (let k = rw t at e in cc)
  by false t later = at_later (later (let k = rw t at e in k))

abbrev pub work : List Enumerant → Reached → ℕ
work es r = unreached es r + length r.due.items

module _ (es : List Enumerant) (old new : Reached) (c : ℕ) (adds : Adds old new c) (name : List ℕ) (is : value_named es name ≡ Some c) where
  no_more_by : (was : Bool) → is_reached old c ≡ was → work es new ≤ work es old
  no_more_by true e =
      let same = ap length (due_by old new c adds true e) in
      omega (arith, same, fewer es old new (stays old new c adds))
  no_more_by false e =
      let one = ap length (due_by old new c adds false e) ∙ length-append old.due.items (c ∷ []) in
      omega (arith, one, fewer_by_one es old new name c (stays old new c adds) e (is_there old new c adds) is)

  no_more : work es new ≤ work es old
  no_more = no_more_by (is_reached old c) refl

-- the work left never grows while named capabilities are reached
pub no_more_work : (es : List Enumerant) (cs : List ℕ) (old new : Reached) → AddsAll cs old new → ((c : ℕ) → Contains cs c → (name : List ℕ) × (value_named es name ≡ Some c)) → work es new ≤ work es old
no_more_work es _ _ _ (AddsAll.none r) named = omega arith
no_more_work es _ old new (AddsAll.more cs c _ now _ before adds) named =
    let last = named c (Contains-push cs c) in
    let here = no_more es now new c adds last.0 last.1 in
    let rest = no_more_work es cs old now before (λ d m. named d (Contains-append_left cs (c ∷ []) d m)) in
    omega (arith, here, rest)

-- and it is less once one that was due is taken and followed
pub less_work : (es : List Enumerant) (r new : Reached) (left : Vec ℕ Global) (a : ℕ) → r.due.items ≡ left.items ++ a ∷ [] → AddsAll (listed_by es a) (record { all = r.all; due = left }) new → work es new < work es r
less_work es r new left a e adds =
    let rest = no_more_work es (listed_by es a) (record { all = r.all; due = left }) new adds (λ c m. let s = source (value_named es) (names_of (enumerant_of es a)) c m in (s.0, s.2)) in
    let one = ap length e ∙ length-append left.items (a ∷ []) in
    omega (arith, rest, one)
