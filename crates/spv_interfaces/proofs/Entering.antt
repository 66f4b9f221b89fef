-- The entry points, one after another; and the first that is wrong.
use Rattle.std.proofs.Common.{◌≡◌, ◌<◌, ◌≤◌, ◌+◌, ◌++◌, ◌∙◌, ◌↔◌, inl, inr, ℕ, List, [], ◌∷◌, Bool, Option, Some}
use Rattle.std.proofs.Common.{None, refl, sym, ap, subst, arith, length, IsTrue}
use Rattle.std.specs.Prelude.{slice_get}
use Rattle.std.proofs.lemmas.Bool.{cases_lt, cases_order}
use Rattle.std.proofs.lemmas.Option.{none-some, same_Some, slice_get_within, some_pair_parts}
use Rattle.spv_table.specs.Table.{Table}
use Rattle.spv_module.specs.Operand.{Plain, PlainInst}
use Rattle.spv_flow.proofs.lemmas.calls.Insts.{same_inst}
use Rattle.spv_flow.proofs.lemmas.calls.Lists.{pushed_cases, pushed_keeps, pushed_last}
use Rattle.spv_interfaces.specs.Interface.{IsMisfaced, IsWrong, faced_by}
use Rattle.spv_interfaces.specs.inner.Entries.{AreSound, AreUpTo, IsEntry, IsFirstAmong, IsUnnamed, IsUnsound}
use Rattle.spv_interfaces.specs.inner.Entries.{IsUnsoundAt}
use Rattle.spv_interfaces.specs.inner.First.{IsFirstOf}
use Rattle.spv_interfaces.specs.inner.Wanted.{IsWanted}

-- An instruction is one entry point.
pub same_entry : (is : List PlainInst) (n f g : ℕ) (os ps : List Plain) → IsEntry is n f os → IsEntry is n g ps
    → (f ≡ g) × (os ≡ ps)
same_entry is n f g os ps a b =
    let e = same_inst is n a.inst b.inst a.there b.there in
    let h : faced_by b.inst ≡ Some (f, os) = subst (λ (i : PlainInst). faced_by i ≡ Some (f, os)) e a.faced in
    some_pair_parts f g os ps (sym h ∙ b.faced)

pub no_entry : (is : List PlainInst) (n : ℕ) (i : PlainInst) → slice_get is n ≡ Some i → faced_by i ≡ None → (f : ℕ)
    (os : List Plain) → ¬ (IsEntry is n f os)
no_entry is n i at e f os a =
    let s = same_inst is n a.inst i a.there at in
    let h : faced_by i ≡ Some (f, os) = subst (λ (j : PlainInst). faced_by j ≡ Some (f, os)) s a.faced in
    absurd (none-some (f, os) (sym e ∙ h))

pub entry_here : (is : List PlainInst) (n f : ℕ) (os : List Plain) (i : PlainInst) → slice_get is n ≡ Some i
    → Some (f, os) ≡ faced_by i → IsEntry is n f os
entry_here is n f os i at e = record { inst = i; there = at; faced = sym e }

-- whether it is wrong by what is in its interface
pub unsound_by : (minor : ℕ) (is : List PlainInst) (n f : ℕ) (os : List Plain) (b : Bool) → IsEntry is n f os
    → IsTrue b ↔ IsUnsound minor is os → IsTrue b ↔ IsUnsoundAt minor is n
unsound_by minor is n f os b e h = (
  λ t. record { function = f; interface = os; entry = e; unsound = h.0 t },
  λ u.
      let s = (same_entry is n u.function f u.interface os u.entry e).1 in
      h.1 (subst (λ (ps : List Plain). IsUnsound minor is ps) s u.unsound),
)

-- One instruction more.
pub sound_none : (minor : ℕ) (is : List PlainInst) → AreSound minor is 0 []
sound_none minor is = record {
  sound = λ k n h. cc;
  within = λ k n h. cc;
  complete = λ n f os l e. absurd (omega (arith, l));
  rising = λ j k m n l h g. cc;
}

pub sound_past : (minor : ℕ) (is : List PlainInst) (n : ℕ) (entries : List ℕ)
    → ((f : ℕ) (os : List Plain) → ¬ (IsEntry is n f os)) → AreSound minor is n entries
    → AreSound minor is (n + 1) entries
sound_past minor is n entries none a = record {
  sound = λ k m h. let s = a.sound k m h in let l = s.0 in (omega (arith, l), s.1);
  within = a.within;
  complete = λ m f os l e. elim (cases_lt m n) [
    | inl less ↦ a.complete m f os less e
    | inr last ↦
        let s : m ≡ n = omega (arith, l, last) in
        absurd (none f os (subst (λ (k : ℕ). IsEntry is k f os) s e))
  ];
  rising = a.rising;
}

pub sound_more : (minor : ℕ) (is : List PlainInst) (n : ℕ) (entries : List ℕ) → n < length is
    → ¬ (IsUnsoundAt minor is n) → AreSound minor is n entries → AreSound minor is (n + 1) (entries ++ n ∷ [])
sound_more minor is n entries there fine a = record {
  sound = λ k m h. elim (pushed_cases entries n k m h) [
    | inl o ↦ (let s = a.sound k m o in let l = s.0 in (omega (arith, l), s.1))
    | inr e ↦
        let l = e.1 in
        (omega (arith, l), subst (λ (j : ℕ). ¬ (IsUnsoundAt minor is j)) e.1 fine)
  ];
  within = λ k m h. elim (pushed_cases entries n k m h) [
    | inl o ↦ a.within k m o
    | inr e ↦ (let l = e.1 in omega (arith, l, there))
  ];
  complete = λ m f os l e. elim (cases_lt m n) [
    | inl less ↦ (let r = a.complete m f os less e in (r.0, pushed_keeps entries n r.0 m r.1))
    | inr last ↦
        let s : n ≡ m = omega (arith, l, last) in
        (length entries, pushed_last entries n ∙ ap Some s)
  ];
  rising = λ i j m o l h g. elim (pushed_cases entries n j o g) [
    | inl p ↦ (let w = slice_get_within entries j o p in elim (pushed_cases entries n i m h) [
      | inl q ↦ a.rising i j m o l q p
      | inr q ↦ (let z = q.0 in absurd (omega (arith, w, l, z)))
    ])
    | inr p ↦ elim (pushed_cases entries n i m h) [
      | inl q ↦ (let r = (a.sound i m q).0 in let u = p.1 in omega (arith, r, u))
      | inr q ↦ (let y = p.0 in let z = q.0 in absurd (omega (arith, l, y, z)))
    ]
  ];
}

pub up_to_here : (minor : ℕ) (is : List PlainInst) (n : ℕ) (entries : List ℕ) → AreSound minor is n entries
    → IsUnsoundAt minor is n → AreUpTo minor is entries (Some n)
up_to_here minor is n entries a u = record { to = n; sound = a; end = (refl, u) }

pub up_to_all : (minor : ℕ) (is : List PlainInst) (n : ℕ) (entries : List ℕ) → AreSound minor is n entries
    → length is ≤ n → AreUpTo minor is entries None
up_to_all minor is n entries a l = record { to = n; sound = a; end = l }

-- The two ways in which an interface is wrong.
data Ways (G : Table) (minor : ℕ) (is : List PlainInst) (n : ℕ) : Type 0 where
  unsound : IsUnsoundAt minor is n → Ways G minor is n
  unnamed : IsUnnamed G minor is n → Ways G minor is n

ways : (G : Table) (minor : ℕ) (is : List PlainInst) (n : ℕ) → IsMisfaced G minor is n → Ways G minor is n
ways G minor is n m = by_wrong m.wrong where
  entry : IsEntry is n m.function m.interface
  entry = record { inst = m.inst; there = m.there; faced = m.faced }

  by_wrong : IsWrong G minor is m.function m.interface → Ways G minor is n
  by_wrong (IsWrong.twice x l t) = Ways.unsound (record {
    function = m.function;
    interface = m.interface;
    entry = entry;
    unsound = IsUnsound.twice l (x, t);
  })
  by_wrong (IsWrong.unnamed x l t never) = Ways.unnamed (record {
    function = m.function;
    interface = m.interface;
    entry = entry;
    id = x;
    wanted = IsWanted.any l t.variable;
    used = t;
    unnamed = never;
  })
  by_wrong (IsWrong.inner x class l named of a b) = Ways.unsound (record {
    function = m.function;
    interface = m.interface;
    entry = entry;
    unsound = IsUnsound.inner l (record {
      id = x;
      class = class;
      named = named;
      of = of;
      not_input = a;
      not_output = b;
    });
  })
  by_wrong (IsWrong.unnamed_outside x l t out never) = Ways.unnamed (record {
    function = m.function;
    interface = m.interface;
    entry = entry;
    id = x;
    wanted = IsWanted.outside l out;
    used = t;
    unnamed = never;
  })

unsound_is : (G : Table) (minor : ℕ) (is : List PlainInst) (n : ℕ) → IsUnsoundAt minor is n → IsMisfaced G minor is n
unsound_is G minor is n u = record {
  inst = u.entry.inst;
  there = u.entry.there;
  function = u.function;
  interface = u.interface;
  faced = u.entry.faced;
  wrong = by_unsound u.unsound;
} where
  by_unsound : IsUnsound minor is u.interface → IsWrong G minor is u.function u.interface
  by_unsound (IsUnsound.twice l t) = IsWrong.twice t.0 l t.1
  by_unsound (IsUnsound.inner l h) = IsWrong.inner h.id h.class l h.named h.of h.not_input h.not_output

unnamed_is : (G : Table) (minor : ℕ) (is : List PlainInst) (n : ℕ) → IsUnnamed G minor is n → IsMisfaced G minor is n
unnamed_is G minor is n u = record {
  inst = u.entry.inst;
  there = u.entry.there;
  function = u.function;
  interface = u.interface;
  faced = u.entry.faced;
  wrong = by_wanted u.wanted;
} where
  by_wanted : IsWanted minor is u.id → IsWrong G minor is u.function u.interface
  by_wanted (IsWanted.any l g) = IsWrong.unnamed u.id l u.used u.unnamed
  by_wanted (IsWanted.outside l o) = IsWrong.unnamed_outside u.id l u.used o u.unnamed

-- None of the entry points that are listed is wrong, if none lacks a variable.
none_listed : (G : Table) (minor : ℕ) (is : List PlainInst) (to : ℕ) (entries : List ℕ) → AreSound minor is to entries
    → ((k n : ℕ) → slice_get entries k ≡ Some n → ¬ (IsUnnamed G minor is n)) → (n : ℕ) → n < to
    → ¬ (IsMisfaced G minor is n)
none_listed G minor is to entries a none n l m = by_way (ways G minor is n m) where
  at : (k : ℕ) × (slice_get entries k ≡ Some n)
  at = a.complete n m.function m.interface l (record { inst = m.inst; there = m.there; faced = m.faced })

  by_way : Ways G minor is n → ⊥
  by_way (Ways.unsound u) = (a.sound at.0 n at.1).1 u
  by_way (Ways.unnamed u) = none at.0 n at.1 u

-- the first that lacks one
first_listed : (G : Table) (minor : ℕ) (is : List PlainInst) (to : ℕ) (entries : List ℕ) (n : ℕ)
    → AreSound minor is to entries → IsFirstAmong (IsUnnamed G minor is) entries (Some n)
    → IsFirstOf (IsMisfaced G minor is) (Some n)
first_listed G minor is to entries n a h = (unnamed_is G minor is n h.so, before) where
  before : (k : ℕ) → k < n → ¬ (IsMisfaced G minor is k)
  before k l m = by_way (ways G minor is k m) where
    in_list : n < to
    in_list = (a.sound h.place n h.there).0

    at : (j : ℕ) × (slice_get entries j ≡ Some k)
    at = a.complete k m.function m.interface (omega (arith, l, in_list))
        (record { inst = m.inst; there = m.there; faced = m.faced })

    lower : at.0 < h.place
    lower = elim (cases_order at.0 h.place) [
      | inl e ↦
          let q : slice_get entries h.place ≡ Some k = subst (λ (j : ℕ). slice_get entries j ≡ Some k) e at.1 in
          let s = same_Some k n (sym q ∙ h.there) in
          absurd (omega (arith, l, s))
      | inr o ↦ elim o [
        | inl p ↦ p
        | inr p ↦ (let r = a.rising h.place at.0 n k p h.there at.1 in absurd (omega (arith, r, l)))
      ]
    ]

    by_way : Ways G minor is k → ⊥
    by_way (Ways.unsound u) = (a.sound at.0 k at.1).1 u
    by_way (Ways.unnamed u) = h.before at.0 k lower at.1 u

-- What is told of all.
pub told_unnamed : (G : Table) (minor : ℕ) (is : List PlainInst) (entries : List ℕ) (o : Option ℕ) (n : ℕ)
    → AreUpTo minor is entries o → IsFirstAmong (IsUnnamed G minor is) entries (Some n)
    → IsFirstOf (IsMisfaced G minor is) (Some n)
told_unnamed G minor is entries o n a h = first_listed G minor is a.to entries n a.sound h

pub told_unsound : (G : Table) (minor : ℕ) (is : List PlainInst) (entries : List ℕ) (o : Option ℕ)
    → AreUpTo minor is entries o → IsFirstAmong (IsUnnamed G minor is) entries None
    → IsFirstOf (IsMisfaced G minor is) o
told_unsound G minor is entries None a h = λ n m.
    let w = slice_get_within is n m.inst m.there in
    let e = a.end in
    none_listed G minor is a.to entries a.sound h n (omega (arith, w, e)) m
told_unsound G minor is entries (Some n) a h = (
  unsound_is G minor is n a.end.1,
  λ k l m.
      let e = a.end.0 in
      none_listed G minor is a.to entries a.sound h k (omega (arith, l, e)) m,
)

-- of no entry points
pub none_among : (P : ℕ → Type 0) (entries : List ℕ) → entries ≡ [] → IsFirstAmong P entries None
none_among P entries e k n h =
    let g : slice_get [] k ≡ Some n = subst (λ (es : List ℕ). slice_get es k ≡ Some n) e h in
    cc
