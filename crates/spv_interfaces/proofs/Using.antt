-- Uses of variables, as they are gathered.
use Rattle.std.proofs.Common.{◌≡◌, ◌<◌, ◌≤◌, ◌+◌, ◌++◌, ◌∙◌, ◌⊎◌, inl, inr, ℕ, zero, suc, List, [], ◌∷◌, Option}
use Rattle.std.proofs.Common.{Some, None, refl, sym, ap, subst, arith, length}
use Rattle.std.proofs.Common.{get_or}
use Rattle.std.specs.Prelude.{slice_get, slice_set, replicate, option_and_then, MatchOption}
use Rattle.std.proofs.lemmas.Bool.{cases_lt}
use Rattle.std.proofs.lemmas.Option.{same_Some}
use Rattle.spv_table.specs.Table.{Table}
use Rattle.spv_module.specs.declared.opcode.TheConstants as opcode
use Rattle.spv_module.specs.declared.operand.Operand.{Operand}
use Rattle.spv_module.specs.Module.{plain_operand, plain_operands}
use Rattle.spv_module.specs.Operand.{Plain, PlainInst}
use Rattle.spv_layout.specs.declared.class.Class.TheVariants.{Function}
use Rattle.spv_layout.specs.declared.form.Role.{Role}
use Rattle.spv_layout.specs.Place.{IsAt}
use Rattle.spv_layout.specs.Shape.{FitsShape, IsUse}
use Rattle.spv_layout.proofs.Places.{function_same}
use Rattle.spv_layout.proofs.Shapes.{use_same}
use Rattle.spv_ids.specs.Definition.{IsDefinedAt}
use Rattle.spv_ids.specs.Outcome.{IsOnly}
use Rattle.spv_ids.specs.inner.Uses.{seen_id}
use Rattle.spv_type_forms.specs.Definitions.{IsGlobal}
use Rattle.spv_flow.proofs.lemmas.branches.Labelled.{use_in, use_at, use_within}
use Rattle.spv_flow.proofs.lemmas.walks.Used.{used_all as plain_used}
use Rattle.spv_flow.proofs.lemmas.calls.Lists.{pushed_cases, pushed_keeps, pushed_last}
use Rattle.spv_interfaces.specs.declared.used.Use.{Use}
use Rattle.spv_interfaces.specs.inner.Uses.{AddsUses, AreNoted, AreUses, HasUse, IsInDefinition, IsUsedIn}
use Rattle.spv_interfaces.specs.inner.Uses.{IsVariable, UsesBefore}
use Rattle.spv_interfaces.specs.inner.Wanted.{IsWanted}
use Rattle.spv_interfaces.proofs.Interfaces.{operand_there}

-- A list with one use more.
pub has_last : (uses : List Use) (u : Use) → HasUse (uses ++ u ∷ []) u.function u.variable
has_last uses u = record {
  place = length uses;
  use_there = u;
  there = pushed_last uses u;
  function = refl;
  variable = refl;
}

pub has_kept : (uses : List Use) (u : Use) (f v : ℕ) → HasUse uses f v → HasUse (uses ++ u ∷ []) f v
has_kept uses u f v h = record {
  place = h.place;
  use_there = h.use_there;
  there = pushed_keeps uses u h.place h.use_there h.there;
  function = h.function;
  variable = h.variable;
}

use_moved : (uses : List Use) (f v g w : ℕ) → f ≡ g → v ≡ w → HasUse uses f v → HasUse uses g w
use_moved uses f v g w p q h = record {
  place = h.place;
  use_there = h.use_there;
  there = h.there;
  function = h.function ∙ p;
  variable = h.variable ∙ q;
}

pub use_pushed : (uses : List Use) (u : Use)
    → AddsUses (λ f v. (f ≡ u.function) × (v ≡ u.variable)) uses (uses ++ u ∷ [])
use_pushed uses u f v = (
  λ h. elim (pushed_cases uses u h.place h.use_there h.there) [
    | inl o ↦ inl (record {
      place = h.place;
      use_there = h.use_there;
      there = o;
      function = h.function;
      variable = h.variable;
    })
    | inr n ↦
        let p : u.function ≡ h.use_there.function = ap (λ (w : Use). w.function) n.1 in
        let q : u.variable ≡ h.use_there.variable = ap (λ (w : Use). w.variable) n.1 in
        inr (sym (p ∙ h.function), sym (q ∙ h.variable))
  ],
  λ h. elim h [
    | inl o ↦ has_kept uses u f v o
    | inr e ↦ use_moved (uses ++ u ∷ []) u.function u.variable f v (sym e.0) (sym e.1) (has_last uses u)
  ],
)

pub use_again : (uses : List Use) (g w : ℕ) → HasUse uses g w → AddsUses (λ f v. (f ≡ g) × (v ≡ w)) uses uses
use_again uses g w h f v = (
  λ k. inl k,
  λ k. elim k [ inl o ↦ o | inr e ↦ use_moved uses g w f v (sym e.0) (sym e.1) h ],
)

-- an element of a list in which one was set
pub put_set : {A : Type 0} (old : List A) (g : A) (w v : ℕ) (f : A) → slice_get (slice_set old w g) v ≡ Some f
    → (slice_get old v ≡ Some f) ⊎ ((v ≡ w) × (f ≡ g))
put_set [] g w v f h = cc
put_set (o ∷ os) g zero zero f h = inr (refl, (let e : g ≡ f = cc in sym e))
put_set (o ∷ os) g zero (suc v) f h = inl h
put_set (o ∷ os) g (suc w) zero f h = inl h
put_set (o ∷ os) g (suc w) (suc v) f h = elim (put_set os g w v f h) [
  | inl k ↦ inl k
  | inr e ↦ inr (ap suc e.0, e.1)
]

-- What is noted, with one use more.
pub noted_more : (old new : List (Option ℕ)) (uses : List Use) (u : Use) → AreNoted old uses
    → new ≡ slice_set old u.variable (Some u.function) → AreNoted new (uses ++ u ∷ [])
noted_more old new uses u noted e = record {
  each = λ v f h.
      let g : slice_get (slice_set old u.variable (Some u.function)) v ≡ Some (Some f) =
      subst (λ (xs : List (Option ℕ)). slice_get xs v ≡ Some (Some f)) e h in
      elim (put_set old (Some u.function) u.variable v (Some f) g) [
        | inl o ↦ has_kept uses u f v (noted.each v f o)
        | inr p ↦
            let same : u.function ≡ f = same_Some u.function f (sym p.1) in
            use_moved (uses ++ u ∷ []) u.function u.variable f v same (sym p.0) (has_last uses u)
      ];
}

-- at first nothing is noted
pub all_same : {A : Type 0} (n : ℕ) (x : A) (v : ℕ) (y : A) → slice_get (replicate n x) v ≡ Some y → y ≡ x
all_same zero x v y h = cc
all_same (suc n) x zero y h = (let e : x ≡ y = cc in sym e)
all_same (suc n) x (suc v) y h = all_same n x v y h

pub none_noted : (last : List (Option ℕ)) (n : ℕ) (uses : List Use) → last ≡ replicate n None → AreNoted last uses
none_noted last n uses e = record {
  each = λ v f h.
      let g : slice_get (replicate n None) v ≡ Some (Some f) =
      subst (λ (xs : List (Option ℕ)). slice_get xs v ≡ Some (Some f)) e h in
      let no : Some f ≡ None = all_same n None v (Some f) g in
      absurd (cc);
}

-- Nothing is added, or by other words.
pub adds_none : (P : ℕ → ℕ → Type 0) (uses : List Use) → ((f v : ℕ) → ¬ (P f v)) → AddsUses P uses uses
adds_none P uses never f v = (λ h. inl h, λ h. elim h [ inl o ↦ o | inr p ↦ absurd (never f v p) ])

pub adds_same : (P Q : ℕ → ℕ → Type 0) (old new : List Use) → ((f v : ℕ) → P f v → Q f v)
    → ((f v : ℕ) → Q f v → P f v) → AddsUses P old new → AddsUses Q old new
adds_same P Q old new to back a f v = (
  λ h. elim ((a f v).0 h) [ inl o ↦ inl o | inr p ↦ inr (to f v p) ],
  λ h. (a f v).1 (elim h [ inl o ↦ inl o | inr q ↦ inr (back f v q) ]),
)

-- A use of an id.
pub wanted_global : (minor : ℕ) (is : List PlainInst) (x : ℕ) → IsWanted minor is x → IsGlobal is x
wanted_global minor is x (IsWanted.any l g) = g
wanted_global minor is x (IsWanted.outside l (inl o)) = o.global
wanted_global minor is x (IsWanted.outside l (inr o)) = o.global

pub none_wanted : (minor : ℕ) (is : List PlainInst) (x n : ℕ) → IsOnly is x n
    → ((g : IsGlobal is x) → IsWanted minor is x → ¬ (g.place ≡ n)) → (v : ℕ) → ¬ (IsVariable minor is x v)
none_wanted minor is x n only never v h =
    let g = wanted_global minor is x h.wanted in
    never g h.wanted (only.only g.place g.defined)

pub id_other : (minor : ℕ) (is : List PlainInst) (n x : ℕ) (uses : List Use)
    → ((v : ℕ) → ¬ (IsVariable minor is x v))
    → AddsUses (λ f v. IsInDefinition is n f × IsVariable minor is x v) uses uses
id_other minor is n x uses never =
    adds_none (λ f v. IsInDefinition is n f × IsVariable minor is x v) uses (λ f v p. never v p.1)

pub id_wanted : (minor : ℕ) (is : List PlainInst) (n x w : ℕ) (old new : List Use) → IsOnly is x w
    → IsWanted minor is x → AddsUses (λ f v. IsInDefinition is n f × (v ≡ w)) old new
    → AddsUses (λ f v. IsInDefinition is n f × IsVariable minor is x v) old new
id_wanted minor is n x w old new only wanted a =
    adds_same (λ f v. IsInDefinition is n f × (v ≡ w)) (λ f v. IsInDefinition is n f × IsVariable minor is x v) old new
    (λ f v p. (
      p.0,
      record { defined = subst (λ (k : ℕ). IsDefinedAt is x k) (sym p.1) only.there; wanted = wanted },
    ))
    (λ f v q. (q.0, only.only v q.1.defined)) a

-- in a definition, and in none
pub in_one : (is : List PlainInst) (n g w : ℕ) (old new : List Use) → IsInDefinition is n g
    → AddsUses (λ f v. (f ≡ g) × (v ≡ w)) old new → AddsUses (λ f v. IsInDefinition is n f × (v ≡ w)) old new
in_one is n g w old new within a =
    adds_same (λ f v. (f ≡ g) × (v ≡ w)) (λ f v. IsInDefinition is n f × (v ≡ w)) old new
    (λ f v p. (subst (λ (k : ℕ). IsInDefinition is n k) (sym p.0) within, p.1))
    (λ f v q. (function_same is n f g q.0.of within.of, q.1)) a

pub in_none : (is : List PlainInst) (n w : ℕ) (uses : List Use) → ((g : ℕ) → ¬ (IsInDefinition is n g))
    → AddsUses (λ f v. IsInDefinition is n f × (v ≡ w)) uses uses
in_none is n w uses never = adds_none (λ f v. IsInDefinition is n f × (v ≡ w)) uses (λ f v p. never f p.0)

-- The operands of an instruction, one after another.
abbrev pub Used : Table → ℕ → List PlainInst → PlainInst → ℕ → ℕ → ℕ → ℕ → Type 0
Used G minor is inst n to f v = IsInDefinition is n f × UsesBefore G minor is inst to v

pub none_used : (G : Table) (minor : ℕ) (is : List PlainInst) (inst : PlainInst) (g : ℕ) (uses : List Use)
    → AddsUses (Used G minor is inst g 0) uses uses
none_used G minor is inst g uses =
    adds_none (Used G minor is inst g 0) uses (λ f v p. let b = p.1.below in absurd (omega (arith, b)))

later : (G : Table) (minor : ℕ) (is : List PlainInst) (inst : PlainInst) (m n v : ℕ) → m ≤ n
    → UsesBefore G minor is inst m v → UsesBefore G minor is inst n v
later G minor is inst m n v l u =
    let b = u.below in
    record {
      operand = u.operand;
      below = omega (arith, b, l);
      id = u.id;
      role = u.role;
      used = u.used;
      variable = u.variable;
    }

-- the id that an operand of an instruction other than an OpExtInst uses
pub operand_used : (G : Table) (i : PlainInst) (os : List Operand) (k : ℕ) (d : Operand) (o : Option ℕ)
    → plain_operands os ≡ i.operands → k < length os → o ≡ seen_id (plain_operand (get_or os k d))
    → (i.opcode ≡ opcode.EXT_INST → ⊥) → FitsShape G i
    → MatchOption o ((x : ℕ) (r : Role) → ¬ (IsUse G i k x r)) (λ x. (r : Role) × IsUse G i k x r)
operand_used G i os k d o same l e plain fits =
    let t : slice_get i.operands k ≡ Some (plain_operand (get_or os k d)) =
    subst (λ (ps : List Plain). slice_get ps k ≡ Some (plain_operand (get_or os k d))) same
    (operand_there os k d l) in
    plain_used G i k o fits plain (e ∙ sym (ap (option_and_then seen_id) t))

-- one operand more
pub used_more : (G : Table) (minor : ℕ) (is : List PlainInst) (inst : PlainInst) (g i x : ℕ) (first old new : List Use)
    → (r : Role) × IsUse G inst i x r → AddsUses (Used G minor is inst g i) first old
    → AddsUses (λ f v. IsInDefinition is g f × IsVariable minor is x v) old new
    → AddsUses (Used G minor is inst g (i + 1)) first new
used_more G minor is inst g i x first old new (r, u) a b f v = (
  λ h. elim ((b f v).0 h) [
    | inl o ↦ elim ((a f v).0 o) [
      | inl k ↦ inl k
      | inr p ↦ inr (p.0, later G minor is inst i (i + 1) v (omega arith) p.1)
    ]
    | inr q ↦ inr (
      q.0,
      record { operand = i; below = omega arith; id = x; role = r; used = u; variable = q.1 },
    )
  ],
  λ h. (b f v).1 (elim h [
    | inl k ↦ inl ((a f v).1 (inl k))
    | inr p ↦ elim (cases_lt p.1.operand i) [
      | inl less ↦ inl ((a f v).1 (inr (
        p.0,
        record {
          operand = p.1.operand;
          below = less;
          id = p.1.id;
          role = p.1.role;
          used = p.1.used;
          variable = p.1.variable;
        },
      )))
      | inr last ↦
          let l = p.1.below in
          let here : p.1.operand ≡ i = omega (arith, l, last) in
          let w : IsUse G inst i p.1.id p.1.role = subst (λ (k : ℕ). IsUse G inst k p.1.id p.1.role) here p.1.used in
          let same = (use_same G inst i p.1.id x p.1.role r w u).id in
          inr (p.0, subst (λ (y : ℕ). IsVariable minor is y v) same p.1.variable)
    ]
  ]),
)

pub used_past : (G : Table) (minor : ℕ) (is : List PlainInst) (inst : PlainInst) (g i : ℕ) (first old : List Use)
    → ((x : ℕ) (r : Role) → ¬ (IsUse G inst i x r)) → AddsUses (Used G minor is inst g i) first old
    → AddsUses (Used G minor is inst g (i + 1)) first old
used_past G minor is inst g i first old none a =
    adds_same (Used G minor is inst g i) (Used G minor is inst g (i + 1)) first old
    (λ f v p. (p.0, later G minor is inst i (i + 1) v (omega arith) p.1))
    (λ f v p. (
      p.0,
      elim (cases_lt p.1.operand i) [
        | inl less ↦ record {
          operand = p.1.operand;
          below = less;
          id = p.1.id;
          role = p.1.role;
          used = p.1.used;
          variable = p.1.variable;
        }
        | inr last ↦
            let l = p.1.below in
            let here : p.1.operand ≡ i = omega (arith, l, last) in
            absurd (none p.1.id p.1.role (subst (λ (k : ℕ). IsUse G inst k p.1.id p.1.role) here p.1.used))
      ],
    )) a

-- all of them
pub used_all : (G : Table) (minor : ℕ) (is : List PlainInst) (inst : PlainInst) (g i n : ℕ) (first old : List Use)
    → length inst.operands ≤ i → n ≡ length inst.operands → AddsUses (Used G minor is inst g i) first old
    → AddsUses (Used G minor is inst g n) first old
used_all G minor is inst g i n first old le e a =
    adds_same (Used G minor is inst g i) (Used G minor is inst g n) first old
    (λ f v p.
    let w = use_within G inst p.1.operand p.1.id p.1.role p.1.used in (
      p.0,
      record {
        operand = p.1.operand;
        below = omega (arith, w, e);
        id = p.1.id;
        role = p.1.role;
        used = p.1.used;
        variable = p.1.variable;
      },
    ))
    (λ f v p. (p.0, later G minor is inst n i v (omega (arith, e, le)) p.1)) a

-- The instructions, one after another.
lower : (G : Table) (minor : ℕ) (is : List PlainInst) (m n f v : ℕ) → m ≤ n → IsUsedIn G minor is m f v
    → IsUsedIn G minor is n f v
lower G minor is m n f v l u =
    let b = u.below in
    record {
      inst = u.inst;
      below = omega (arith, b, l);
      within = u.within;
      operand = u.operand;
      id = u.id;
      role = u.role;
      used = u.used;
      variable = u.variable;
    }

below : (G : Table) (minor : ℕ) (is : List PlainInst) (n m f v : ℕ) (u : IsUsedIn G minor is m f v) → u.inst < n
    → IsUsedIn G minor is n f v
below G minor is n m f v u l = record {
  inst = u.inst;
  below = l;
  within = u.within;
  operand = u.operand;
  id = u.id;
  role = u.role;
  used = u.used;
  variable = u.variable;
}

pub uses_more : (G : Table) (minor : ℕ) (is : List PlainInst) (n : ℕ) (i : PlainInst) (old new : List Use)
    → slice_get is n ≡ Some i → AreUses G minor is n old
    → AddsUses (Used G minor is i n (length i.operands)) old new → AreUses G minor is (n + 1) new
uses_more G minor is n i old new there a b = record {
  each = λ f v. (
    λ h. elim ((b f v).0 h) [
      | inl o ↦ lower G minor is n (n + 1) f v (omega arith) ((a.each f v).0 o)
      | inr p ↦ record {
        inst = n;
        below = omega arith;
        within = p.0;
        operand = p.1.operand;
        id = p.1.id;
        role = p.1.role;
        used = use_at G is n p.1.operand p.1.id p.1.role i there p.1.used;
        variable = p.1.variable;
      }
    ],
    λ u. (b f v).1 (elim (cases_lt u.inst n) [
      | inl less ↦ inl ((a.each f v).1 (below G minor is n (n + 1) f v u less))
      | inr last ↦
          let l = u.below in
          let here : u.inst ≡ n = omega (arith, l, last) in
          let w = use_in G is u.inst u.operand u.id u.role i
          (subst (λ (k : ℕ). slice_get is k ≡ Some i) (sym here) there) u.used in
          inr (
            subst (λ (k : ℕ). IsInDefinition is k f) here u.within,
            record {
              operand = u.operand;
              below = use_within G i u.operand u.id u.role w;
              id = u.id;
              role = u.role;
              used = w;
              variable = u.variable;
            },
          )
    ]),
  );
}

-- none before the first function
pub uses_none : (G : Table) (minor : ℕ) (is : List PlainInst) (from : ℕ)
    → ((n : ℕ) → n < from → ¬ (IsAt is n (Function ∷ []))) → AreUses G minor is from []
uses_none G minor is from before = record {
  each = λ f v. (
    λ h. let t = h.there in cc,
    λ u.
        let b = u.below in
        let l = u.within.of.begun.up_to in
        absurd (before f (omega (arith, b, l)) u.within.of.begun.there),
  );
}

pub uses_all : (G : Table) (minor : ℕ) (is : List PlainInst) (m n : ℕ) (uses : List Use) → m ≡ n
    → AreUses G minor is m uses → AreUses G minor is n uses
uses_all G minor is m n uses e a = subst (λ (k : ℕ). AreUses G minor is k uses) e a
