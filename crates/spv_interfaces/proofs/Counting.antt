-- The variables that all entry points name.
use Rattle.std.proofs.Common.{◌≡◌, ◌<◌, ◌≤◌, ◌+◌, ◌++◌, ◌∙◌, ◌⊎◌, inl, inr, ℕ, List, [], ◌∷◌, Some, None}
use Rattle.std.proofs.Common.{sym, subst, arith, length}
use Rattle.std.specs.Prelude.{slice_get, slice_set, replicate}
use Rattle.std.proofs.lemmas.Bool.{cases_lt}
use Rattle.std.proofs.lemmas.Option.{same_Some, slice_get_within}
use Rattle.spv_table.specs.Table.{Table}
use Rattle.spv_module.specs.Operand.{Id, Plain, PlainInst, result_in}
use Rattle.spv_ids.specs.Definition.{IsDefinedAt}
use Rattle.spv_type_forms.specs.Definitions.{IsGlobal}
use Rattle.spv_flow.proofs.lemmas.calls.Insts.{same_inst}
use Rattle.spv_flow.proofs.lemmas.calls.Lists.{pushed_keeps, pushed_last}
use Rattle.spv_interfaces.specs.declared.used.Use.{Use}
use Rattle.spv_interfaces.specs.Interface.{faced_by}
use Rattle.spv_interfaces.specs.inner.Counted.{AreCounts, AreRest, AreSettled, Counts, IsListed, Settles}
use Rattle.spv_interfaces.specs.inner.Early.{AreBetween}
use Rattle.spv_interfaces.specs.inner.Entries.{IsFirstAmong, IsUnnamed, Names, NamesIn}
use Rattle.spv_interfaces.specs.inner.Lacking.{AreAll}
use Rattle.spv_interfaces.specs.inner.Uses.{AreUses}
use Rattle.spv_interfaces.specs.inner.Wanted.{IsWanted}
use Rattle.spv_interfaces.proofs.Entering.{entry_here}
use Rattle.spv_interfaces.proofs.Naming.{not_named}
use Rattle.spv_interfaces.proofs.Unused.{used_there}
use Rattle.spv_interfaces.proofs.Using.{all_same, put_set}

-- Counts, by other words.
pub counts_none : (k : ℕ) (P : ℕ → Type 0) (counts : List ℕ) → Counts k P counts counts
counts_none k P counts = record { each = λ v m h. inl h }

pub counts_one : (k n : ℕ) (counts : List ℕ) → slice_get counts n ≡ Some k
    → Counts k (λ v. v ≡ n) counts (slice_set counts n (k + 1))
counts_one k n counts there = record {
  each = λ v m h. elim (put_set counts (k + 1) n v m h) [
    | inl o ↦ inl o
    | inr e ↦ inr (e.1, subst (λ (j : ℕ). slice_get counts j ≡ Some k) (sym e.0) there, e.0)
  ];
}

pub counts_same : (k : ℕ) (P Q : ℕ → Type 0) (old new : List ℕ) → ((v : ℕ) → P v → Q v) → Counts k P old new
    → Counts k Q old new
counts_same k P Q old new to c = record {
  each = λ v m h. elim (c.each v m h) [ inl o ↦ inl o | inr p ↦ inr (p.0, p.1, to v p.2) ];
}

pub counts_both : (k : ℕ) (P Q : ℕ → Type 0) (a b c : List ℕ) → ((v : ℕ) → Q v → P v) → Counts k P a b
    → Counts k Q b c → Counts k P a c
counts_both k P Q a b c to p q = record {
  each = λ v m h. elim (q.each v m h) [
    | inl o ↦ p.each v m o
    | inr s ↦ elim (p.each v k s.1) [
      | inl o ↦ inr (s.0, o, to v s.2)
      | inr r ↦ (let e = r.0 in absurd (omega (arith, e)))
    ]
  ];
}

-- an id in an interface
pub counts_id : (k : ℕ) (is : List PlainInst) (os : List Plain) (i x : ℕ) (a b c : List ℕ)
    → slice_get os i ≡ Some (Id x) → Counts k (NamesIn is os) a b → Counts k (IsDefinedAt is x) b c
    → Counts k (NamesIn is os) a c
counts_id k is os i x a b c at p q = counts_both k (NamesIn is os) (IsDefinedAt is x) a b c
    (λ v d. record { id = x; named = (i, at); defined = d }) p q

-- an entry point
pub counts_entry : (k : ℕ) (is : List PlainInst) (n f : ℕ) (os : List Plain) (i : PlainInst) (a b : List ℕ)
    → slice_get is n ≡ Some i → Some (f, os) ≡ faced_by i → Counts k (NamesIn is os) a b → Counts k (Names is n) a b
counts_entry k is n f os i a b at e c = counts_same k (NamesIn is os) (Names is n) a b
    (λ v d. record { function = f; interface = os; entry = entry_here is n f os i at e; names = d }) c

-- The counts of the entry points, one after another.
pub counted_none : (is : List PlainInst) (entries counts : List ℕ) (count : ℕ) → counts ≡ replicate count 0
    → AreCounts is entries counts
counted_none is entries counts count e = record {
  each = λ v m h k n l at.
      let g : slice_get (replicate count 0) v ≡ Some m = subst (λ (xs : List ℕ). slice_get xs v ≡ Some m) e h in
      let z : m ≡ 0 = all_same {A = ℕ} count 0 v m g in
      absurd (omega (arith, l, z));
}

pub counted_more : (is : List PlainInst) (entries old new : List ℕ) (k n : ℕ) → slice_get entries k ≡ Some n
    → AreCounts is entries old → Counts k (Names is n) old new → AreCounts is entries new
counted_more is entries old new k n at a c = record {
  each = λ v m h j i l there. elim (c.each v m h) [
    | inl o ↦ a.each v m o j i l there
    | inr p ↦ elim (cases_lt j k) [
      | inl less ↦ a.each v k p.1 j i less there
      | inr last ↦
          let e = p.0 in
          let same : j ≡ k = omega (arith, l, last, e) in
          let q = same_Some i n (sym (subst (λ (h : ℕ). slice_get entries h ≡ Some i) same there) ∙ at) in
          subst (λ (h : ℕ). Names is h v) (sym q) p.2
    ]
  ];
}

-- An instruction that is no variable which has to be in the interface.
pub no_result : (is : List PlainInst) (n : ℕ) (i : PlainInst) → slice_get is n ≡ Some i → None ≡ result_in i.operands
    → (x : ℕ) (g : IsGlobal is x) → ¬ (g.place ≡ n)
no_result is n i there e x g p =
    let at : slice_get is n ≡ Some g.defined.inst =
    subst (λ (m : ℕ). slice_get is m ≡ Some g.defined.inst) p g.defined.there in
    let same = same_inst is n g.defined.inst i at there in
    let r : result_in i.operands ≡ Some x =
    subst (λ (j : PlainInst). result_in j.operands ≡ Some x) same g.defined.result in
    let no : None ≡ Some x = e ∙ r in
    absurd (cc)

pub one_result : (is : List PlainInst) (n y : ℕ) (i : PlainInst) → slice_get is n ≡ Some i
    → Some y ≡ result_in i.operands → (x : ℕ) (g : IsGlobal is x) → g.place ≡ n → x ≡ y
one_result is n y i there e x g p =
    let at : slice_get is n ≡ Some g.defined.inst =
    subst (λ (m : ℕ). slice_get is m ≡ Some g.defined.inst) p g.defined.there in
    let same = same_inst is n g.defined.inst i at there in
    let r : result_in i.operands ≡ Some x =
    subst (λ (j : PlainInst). result_in j.operands ≡ Some x) same g.defined.result in
    same_Some x y (sym (e ∙ r))

-- The variables, one after another.
abbrev pub Settled : ℕ → List PlainInst → List ℕ → ℕ → ℕ → Type 0
Settled minor is counts all to =
    (x : ℕ) (g : IsGlobal is x) → IsWanted minor is x → g.place < to → slice_get counts g.place ≡ Some all

pub settled_none : (minor : ℕ) (is : List PlainInst) (counts : List ℕ) (all first end : ℕ) → AreBetween is first end
    → Settled minor is counts all first
settled_none minor is counts all first end b x g w l = let f = b.from x g in absurd (omega (arith, f, l))

pub settled_more : (minor : ℕ) (is : List PlainInst) (counts : List ℕ) (all n : ℕ)
    → ((x : ℕ) (g : IsGlobal is x) → IsWanted minor is x → g.place ≡ n → slice_get counts n ≡ Some all)
    → Settled minor is counts all n → Settled minor is counts all (n + 1)
settled_more minor is counts all n here a x g w l = elim (cases_lt g.place n) [
  | inl less ↦ a x g w less
  | inr last ↦
      let e : g.place ≡ n = omega (arith, l, last) in
      subst (λ (k : ℕ). slice_get counts k ≡ Some all) (sym e) (here x g w e)
]

pub settled_all : (minor : ℕ) (is : List PlainInst) (counts : List ℕ) (all first end n : ℕ) → AreBetween is first end
    → end ≤ n → Settled minor is counts all n → AreSettled minor is counts all
settled_all minor is counts all first end n b l a = record {
  each = λ x g w.
      let e = b.before x g in
      a x g w (omega (arith, e, l));
}

-- Where all entry points name all variables, or those that are used, nothing is unnamed.
full_named : (is : List PlainInst) (entries counts : List ℕ) (v k n : ℕ) → AreCounts is entries counts
    → slice_get counts v ≡ Some (length entries) → slice_get entries k ≡ Some n → Names is n v
full_named is entries counts v k n a h at =
    a.each v (length entries) h k n (slice_get_within entries k n at) at

pub none_settled : (G : Table) (minor : ℕ) (is : List PlainInst) (entries counts : List ℕ)
    → AreCounts is entries counts → AreSettled minor is counts (length entries)
    → IsFirstAmong (IsUnnamed G minor is) entries None
none_settled G minor is entries counts a s k n at u =
    let g = u.used.variable in
    not_named G minor is n g.place u g.defined
    (full_named is entries counts g.place k n a (s.each u.id g u.wanted) at)

-- One variable that is used.
pub settles_not : (number all : ℕ) (counts rest : List ℕ) → slice_get counts number ≡ Some all
    → Settles number all counts counts rest rest
settles_not number all counts rest full = record { here = inl full; kept = λ v l. l; counts = λ v h. inl h }

pub settles_on : (number all : ℕ) (old new rest : List ℕ) → new ≡ slice_set old number all
    → Settles number all old new rest (rest ++ number ∷ [])
settles_on number all old new rest e =
    let last : IsListed (rest ++ number ∷ []) number =
    record { place = length rest; there = pushed_last rest number } in
    record {
      here = inr last;
      kept = λ v l. record { place = l.place; there = pushed_keeps rest number l.place v l.there };
      counts = λ v h.
          let g : slice_get (slice_set old number all) v ≡ Some all =
          subst (λ (xs : List ℕ). slice_get xs v ≡ Some all) e h in
          elim (put_set old all number v all g) [
            | inl o ↦ inl o
            | inr p ↦ inr (subst (λ (w : ℕ). IsListed (rest ++ number ∷ []) w) (sym p.0) last)
          ];
    }

-- All of them, one after another.
abbrev pub AreKnown : ℕ → List ℕ → List ℕ → List ℕ → Type 0
AreKnown all first counts rest =
    (v : ℕ) → slice_get counts v ≡ Some all → (slice_get first v ≡ Some all) ⊎ IsListed rest v

pub rest_none : (uses : List Use) (counts rest : List ℕ) (all : ℕ) → AreRest uses counts all 0 rest
rest_none uses counts rest all = record { each = λ k u l h. absurd (omega (arith, l)) }

module _ (uses : List Use) (first old new less more : List ℕ) (all i : ℕ) (u : Use)
    (settles : Settles u.variable all old new less more) (known : AreKnown all first old less) where
  still : (v : ℕ) → (slice_get first v ≡ Some all) ⊎ IsListed less v → (slice_get first v ≡ Some all) ⊎ IsListed more v
  still v h = elim h [ inl o ↦ inl o | inr n ↦ inr (settles.kept v n) ]

  pub known_more : AreKnown all first new more
  known_more v h = elim (settles.counts v h) [ inl o ↦ still v (known v o) | inr n ↦ inr n ]

  pub rest_more : slice_get uses i ≡ Some u → AreRest uses first all i less → AreRest uses first all (i + 1) more
  rest_more at a = record {
    each = λ k w l there. elim (cases_lt k i) [
      | inl before ↦ still w.variable (a.each k w before there)
      | inr last ↦
          let e : k ≡ i = omega (arith, l, last) in
          let s : u ≡ w = sym (same_Some w u
          (sym (subst (λ (j : ℕ). slice_get uses j ≡ Some w) e there) ∙ at)) in
          let here : (slice_get first u.variable ≡ Some all) ⊎ IsListed more u.variable =
          elim settles.here [ inl o ↦ still u.variable (known u.variable o) | inr n ↦ inr n ] in
          subst (λ (x : Use). (slice_get first x.variable ≡ Some all) ⊎ IsListed more x.variable) s here
    ];
  }

-- What an entry point lacks is used, and not named by all.
pub all_of : (G : Table) (minor : ℕ) (is : List PlainInst) (entries counts rest : List ℕ) (uses : List Use)
    → AreCounts is entries counts → AreRest uses counts (length entries) (length uses) rest
    → AreUses G minor is (length is) uses → AreAll G minor is entries rest
all_of G minor is entries counts rest uses c a used = record {
  each = λ k n at w.
      let u = used_there G minor is n uses w used in
      let v = w.used.variable.place in
      let within = slice_get_within uses u.place u.use_there u.there in
      elim (a.each u.place u.use_there within u.there) [
        | inl full ↦
            let h : slice_get counts v ≡ Some (length entries) =
            subst (λ (j : ℕ). slice_get counts j ≡ Some (length entries)) u.variable full in
            absurd (not_named G minor is n v w w.used.variable.defined (full_named is entries counts v k n c h at))
        | inr l ↦ subst (λ (j : ℕ). IsListed rest j) u.variable l
      ];
}

pub none_lacked : (G : Table) (minor : ℕ) (is : List PlainInst) (entries rest : List ℕ) → rest ≡ []
    → AreAll G minor is entries rest → IsFirstAmong (IsUnnamed G minor is) entries None
none_lacked G minor is entries rest e a k n at w =
    let l = a.each k n at w in
    let h : slice_get [] l.place ≡ Some w.used.variable.place =
    subst (λ (xs : List ℕ). slice_get xs l.place ≡ Some w.used.variable.place) e l.there in
    cc
