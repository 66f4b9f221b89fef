-- Bits of variables, and the entry points that lack one.
use Rattle.std.proofs.Common.{◌≡◌, ◌<◌, ◌≤◌, ◌+◌, ◌-◌, ◌^◌, ◌∙◌, ◌↔◌, inl, inr, ℕ, List, Option, Some, None, not}
use Rattle.std.proofs.Common.{refl, sym, ap, subst, arith, length, get_or, bit_and, bit_or, nat_eq, IsTrue}
use Rattle.std.specs.Prelude.{slice_get}
use Rattle.std.proofs.lemmas.Bool.{cases_lt}
use Rattle.std.proofs.lemmas.Option.{same_Some, slice_get-get_or, slice_get_within}
use Rattle.spv_table.specs.Table.{Table}
use Rattle.spv_module.specs.Operand.{Id, Plain, PlainInst}
use Rattle.spv_ids.specs.Definition.{IsDefinedAt}
use Rattle.spv_ids.specs.Outcome.{IsOnly}
use Rattle.spv_flow.specs.declared.calls.graph.Call.{Call}
use Rattle.spv_flow.specs.calls.Calls.{Calls}
use Rattle.spv_flow.specs.calls.inner.Graph.{HasCall}
use Rattle.spv_flow.proofs.lemmas.calls.Chains.{turned as turned_chain}
use Rattle.spv_flow.proofs.lemmas.calls.Insts.{defined_within}
use Rattle.spv_interfaces.specs.declared.used.Use.{Use}
use Rattle.spv_interfaces.specs.Interface.{faced_by}
use Rattle.spv_interfaces.specs.inner.Entries.{Begins, IsEntry, IsFirstAmong, IsUnnamed, Names, NamesBefore, NamesIn}
use Rattle.spv_interfaces.specs.inner.Lacking.{AreAll, AreMarks, IsFirstPlace, IsLacking, Lacks, Needs}
use Rattle.spv_interfaces.specs.inner.Marks.{Adds, Grows, HasBit, HasMarked, IsClosed, IsMarked, word_of}
use Rattle.spv_interfaces.specs.inner.Turned.{AreTurned}
use Rattle.spv_interfaces.specs.inner.Uses.{AreUses, HasUse}
use Rattle.spv_interfaces.proofs.Bits.{none_of_zero, open_bit, or_left, or_right, or_told, pow_bit, pow_told}
use Rattle.spv_interfaces.proofs.Entering.{entry_here, no_entry, same_entry}
use Rattle.spv_interfaces.proofs.Marking.{closed_chain, moved}
use Rattle.spv_interfaces.proofs.Naming.{names_back, names_join, names_kept, names_later, names_split, names_to}
use Rattle.spv_interfaces.proofs.Naming.{not_named}
use Rattle.spv_interfaces.proofs.Unused.{used_there}
use Rattle.spv_interfaces.proofs.Using.{wanted_global}

-- The variables, one after another.
abbrev pub AreNotedOf : List ℕ → List ℕ → Type 0
AreNotedOf few words = (v k : ℕ) → IsMarked words v k → slice_get few k ≡ Some v

abbrev pub AllNoted : List ℕ → ℕ → List ℕ → Type 0
AllNoted few to words = (v k : ℕ) → k < to → v < length words → slice_get few k ≡ Some v → IsMarked words v k

pub noted_one : (few : List ℕ) (i n : ℕ) (old new : List ℕ) → slice_get few i ≡ Some n
    → Adds (2 ^ i) (λ f. f ≡ n) old new → AreNotedOf few old → AreNotedOf few new
noted_one few i n old new at a h v k m = elim ((a.each v k).0 m) [
  | inl o ↦ h v k o
  | inr s ↦
      let j : k ≡ i = pow_told i k s.bit in
      subst (λ (x : ℕ). slice_get few k ≡ Some x) (sym s.so)
      (subst (λ (x : ℕ). slice_get few x ≡ Some n) (sym j) at)
]

pub noted_too : (few : List ℕ) (i n : ℕ) (old new : List ℕ) → slice_get few i ≡ Some n
    → Adds (2 ^ i) (λ f. f ≡ n) old new → AllNoted few i old → AllNoted few (i + 1) new
noted_too few i n old new at a h v k l w there =
    let count = a.count in
    (a.each v k).1 (elim (cases_lt k i) [
      | inl less ↦ inl (h v k less (omega (arith, w, count)) there)
      | inr last ↦
          let e : k ≡ i = omega (arith, l, last) in
          let s : v ≡ n = same_Some v n (sym (subst (λ (j : ℕ). slice_get few j ≡ Some v) e there) ∙ at) in
          inr (record {
            bit = subst (λ (j : ℕ). HasBit (2 ^ i) j) (sym e) (pow_bit i);
            within = omega (arith, w, count);
            so = s;
          })
    ])

-- The uses, one after another.
abbrev pub AreUsers : List Use → List ℕ → List ℕ → Type 0
AreUsers uses named words = (f k : ℕ) → IsMarked words f k → HasMarked (HasUse uses f) named k

abbrev pub AllUsers : List Use → List ℕ → ℕ → List ℕ → Type 0
AllUsers uses named to words = (j : ℕ) (u : Use) (k : ℕ) → j < to → slice_get uses j ≡ Some u
    → u.function < length words → IsMarked named u.variable k → IsMarked words u.function k

pub users_one : (uses : List Use) (named : List ℕ) (i : ℕ) (u : Use) (w : ℕ) (old new : List ℕ)
    → slice_get uses i ≡ Some u → w ≡ word_of named u.variable → Adds w (λ f. f ≡ u.function) old new
    → AreUsers uses named old → AreUsers uses named new
users_one uses named i u w old new at e a h f k m = elim ((a.each f k).0 m) [
  | inl o ↦ h f k o
  | inr s ↦ record {
    number = u.variable;
    so = record { place = i; use_there = u; there = at; function = sym s.so; variable = refl };
    marked = moved w (word_of named u.variable) k e s.bit;
  }
]

pub users_too : (uses : List Use) (named : List ℕ) (i : ℕ) (u : Use) (w : ℕ) (old new : List ℕ)
    → slice_get uses i ≡ Some u → w ≡ word_of named u.variable → Adds w (λ f. f ≡ u.function) old new
    → AllUsers uses named i old → AllUsers uses named (i + 1) new
users_too uses named i u w old new at e a h j x k l there within m =
    let count = a.count in
    (a.each x.function k).1 (elim (cases_lt j i) [
      | inl less ↦ inl (h j x k less there (omega (arith, within, count)) m)
      | inr last ↦
          let q : j ≡ i = omega (arith, l, last) in
          let s : x ≡ u = same_Some x u (sym (subst (λ (n : ℕ). slice_get uses n ≡ Some x) q there) ∙ at) in
          let b : IsMarked named u.variable k = subst (λ (y : Use). IsMarked named y.variable k) s m in
          inr (record {
            bit = moved (word_of named u.variable) w k (sym e) b;
            within = omega (arith, within, count);
            so = ap (λ (y : Use). y.function) s;
          })
    ])

pub users_all : (uses : List Use) (named words : List ℕ) (n f v k : ℕ) → length uses ≤ n → AllUsers uses named n words
    → f < length words → HasUse uses f v → IsMarked named v k → IsMarked words f k
users_all uses named words n f v k l h within u m =
    let w = slice_get_within uses u.place u.use_there u.there in
    let e = u.function in
    subst (λ (g : ℕ). IsMarked words g k) u.function
    (h u.place u.use_there k (omega (arith, w, l)) u.there (omega (arith, within, e))
    (subst (λ (x : ℕ). IsMarked named x k) (sym u.variable) m))

-- what the marks tell
pub marks_by : (total : ℕ) (turned : List Call) (uses : List Use) (few named seen first reached : List ℕ)
    → seen ≡ named → AreNotedOf few named
    → ((v k : ℕ) → v < total → slice_get few k ≡ Some v → IsMarked named v k) → AreUsers uses seen first
    → ((f v k : ℕ) → f < total → HasUse uses f v → IsMarked seen v k → IsMarked first f k)
    → Grows turned first reached → IsClosed turned reached → AreMarks total turned uses few reached named
marks_by total turned uses few named seen first reached e noted all users all_users grows closed = record {
  is_named = noted;
  all_named = all;
  is_reached = λ f k m.
      let s = grows.sound f k m in
      let u = users s.0 k s.1 in
      let there = noted u.number k (subst (λ (ws : List ℕ). IsMarked ws u.number k) e u.marked) in
      (u.number, there, record { user = s.0; has = u.so; chain = s.2 });
  all_reached = λ f v k r l w there.
      let b = subst (λ (ws : List ℕ). IsMarked ws v k) (sym e) (all v k w there) in
      closed_chain turned reached closed k r.user f r.chain
      (grows.kept r.user k (all_users r.user v k l r.has b));
}

-- The bits of what is so.
pub marked_same : (P Q : ℕ → Type 0) (words : List ℕ) (k : ℕ) → ((v : ℕ) → P v → Q v) → HasMarked P words k
    → HasMarked Q words k
marked_same P Q words k to m = record { number = m.number; so = to m.number m.so; marked = m.marked }

pub marked_iff : (P Q : ℕ → Type 0) (words : List ℕ) (w : ℕ) → ((v : ℕ) → P v → Q v) → ((v : ℕ) → Q v → P v)
    → ((k : ℕ) → HasBit w k ↔ HasMarked P words k) → (k : ℕ) → HasBit w k ↔ HasMarked Q words k
marked_iff P Q words w to back h k =
    (λ b. marked_same P Q words k to ((h k).0 b), λ m. (h k).1 (marked_same Q P words k back m))

pub none_marked : (P : ℕ → Type 0) (words : List ℕ) → ((v : ℕ) → ¬ (P v)) → (k : ℕ)
    → HasBit 0 k ↔ HasMarked P words k
none_marked P words never k = (λ h. absurd (none_of_zero k h), λ m. absurd (never m.number m.so))

pub one_marked : (is : List PlainInst) (x n w : ℕ) (words : List ℕ) → IsOnly is x n → w ≡ word_of words n → (k : ℕ)
    → HasBit w k ↔ HasMarked (IsDefinedAt is x) words k
one_marked is x n w words o e k = (
  λ h. record { number = n; so = o.there; marked = moved w (word_of words n) k e h },
  λ m.
      let s = o.only m.number m.so in
      moved (word_of words n) w k (sym e) (subst (λ (v : ℕ). IsMarked words v k) s m.marked),
)

pub marked_none : (is : List PlainInst) (os : List Plain) (words : List ℕ) (k : ℕ)
    → HasBit 0 k ↔ HasMarked (NamesBefore is os 0) words k
marked_none is os words = none_marked (NamesBefore is os 0) words (λ v n. let l = n.below in absurd (omega (arith, l)))

pub marked_more : (is : List PlainInst) (os : List Plain) (i x old new : ℕ) (words : List ℕ)
    → slice_get os i ≡ Some (Id x) → ((k : ℕ) → HasBit old k ↔ HasMarked (NamesBefore is os i) words k)
    → ((k : ℕ) → HasBit new k ↔ HasMarked (IsDefinedAt is x) words k) → (k : ℕ)
    → HasBit (bit_or old new) k ↔ HasMarked (NamesBefore is os (i + 1)) words k
marked_more is os i x old new words at a b k = (
  λ h. elim (or_told old new k h) [
    | inl o ↦ marked_same (NamesBefore is os i) (NamesBefore is os (i + 1)) words k
        (λ v n. names_join is os i x v at (inl n)) ((a k).0 o)
    | inr o ↦ marked_same (IsDefinedAt is x) (NamesBefore is os (i + 1)) words k
        (λ v d. names_join is os i x v at (inr d)) ((b k).0 o)
  ],
  λ m. elim (names_split is os i x m.number at m.so) [
    | inl n ↦ or_left old new k ((a k).1 (record { number = m.number; so = n; marked = m.marked }))
    | inr d ↦ or_right old new k ((b k).1 (record { number = m.number; so = d; marked = m.marked }))
  ],
)

pub marked_past : (is : List PlainInst) (os : List Plain) (i w : ℕ) (words : List ℕ)
    → ((x : ℕ) → slice_get os i ≡ Some (Id x) → ⊥) → ((k : ℕ) → HasBit w k ↔ HasMarked (NamesBefore is os i) words k)
    → (k : ℕ) → HasBit w k ↔ HasMarked (NamesBefore is os (i + 1)) words k
marked_past is os i w words none h = marked_iff (NamesBefore is os i) (NamesBefore is os (i + 1)) words w
    (λ v n. names_later is os i (i + 1) v (omega arith) n) (λ v n. names_kept is os i v none n) h

pub marked_all : (is : List PlainInst) (os : List Plain) (n w : ℕ) (words : List ℕ) → length os ≤ n
    → ((k : ℕ) → HasBit w k ↔ HasMarked (NamesBefore is os n) words k) → (k : ℕ)
    → HasBit w k ↔ HasMarked (NamesIn is os) words k
marked_all is os n w words l h = marked_iff (NamesBefore is os n) (NamesIn is os) words w
    (λ v m. names_to is os n v m) (λ v m. names_back is os n v l m) h

-- One entry point.
begins_of : (is : List PlainInst) (n f g : ℕ) (os : List Plain) → IsEntry is n f os → Begins is n g
    → IsDefinedAt is f g
begins_of is n f g os entry h =
    let s = (same_entry is n h.function f h.interface os h.entry entry).0 in
    subst (λ (x : ℕ). IsDefinedAt is x g) s h.defined

names_of : (is : List PlainInst) (n f v : ℕ) (os : List Plain) → IsEntry is n f os → Names is n v → NamesIn is os v
names_of is n f v os entry h =
    let s = (same_entry is n h.function f h.interface os h.entry entry).1 in
    subst (λ (ps : List Plain). NamesIn is ps v) s h.names

pub lacking_none : (is : List PlainInst) (n : ℕ) (i : PlainInst) (reached named : List ℕ) → slice_get is n ≡ Some i
    → faced_by i ≡ None → ¬ (IsLacking is reached named n)
lacking_none is n i reached named at e s =
    no_entry is n i at e s.has.so.function s.has.so.interface s.has.so.entry

module _ (is : List PlainInst) (n f : ℕ) (os : List Plain) (i : PlainInst) (reached named : List ℕ) (a : ℕ)
    (at : slice_get is n ≡ Some i) (e : Some (f, os) ≡ faced_by i)
    (wanted : (k : ℕ) → HasBit a k ↔ HasMarked (IsDefinedAt is f) reached k) where
  entry : IsEntry is n f os
  entry = entry_here is n f os i at e

  has_wanted : (s : IsLacking is reached named n) → HasBit a s.bit
  has_wanted s = (wanted s.bit).1 (marked_same (Begins is n) (IsDefinedAt is f) reached s.bit
      (λ g h. begins_of is n f g os entry h) s.has)

  pub lacking_zero : a ≡ 0 → ¬ (IsLacking is reached named n)
  lacking_zero z s = none_of_zero s.bit (moved a 0 s.bit z (has_wanted s))

  pub lacking_by : (b : ℕ) → a < 2 ^ 64 → b < 2 ^ 64
      → ((k : ℕ) → HasBit b k ↔ HasMarked (NamesIn is os) named k)
      → IsTrue (not (nat_eq (bit_and a (18446744073709551615 - b)) 0)) ↔ IsLacking is reached named n
  lacking_by b l m given =
      let o = open_bit a b l m in (
        λ t.
            let r = o.0 t in
            record {
              bit = r.0;
              has = marked_same (IsDefinedAt is f) (Begins is n) reached r.0
                  (λ g d. record { function = f; interface = os; entry = entry; defined = d }) ((wanted r.0).0 r.1);
              lacks = λ h. r.2 ((given r.0).1 (marked_same (Names is n) (NamesIn is os) named r.0
                  (λ v d. names_of is n f v os entry d) h));
            },
        λ s. o.1 (
          s.bit,
          has_wanted s,
          λ h. s.lacks (marked_same (NamesIn is os) (Names is n) named s.bit
              (λ v d. record { function = f; interface = os; entry = entry; names = d }) ((given s.bit).0 h)),
        ),
      )

-- The first place.
pub place_here : (P : ℕ → Type 0) (list : List ℕ) (to at n : ℕ) → at < to → slice_get list at ≡ Some n → P n
    → ((k m : ℕ) → k < at → slice_get list k ≡ Some m → ¬ (P m)) → IsFirstPlace P P list to at
place_here P list to at n l there p before = record {
  within = omega (arith, l);
  before = before;
  there = λ m _ h. subst P (same_Some n m (sym there ∙ h)) p;
}

pub place_past : (P : ℕ → Type 0) (list : List ℕ) (to at : ℕ) → to ≤ at
    → ((k m : ℕ) → k < at → slice_get list k ≡ Some m → ¬ (P m)) → IsFirstPlace P P list to to
place_past P list to at l before = record {
  within = omega arith;
  before = λ k m b h. before k m (omega (arith, b, l)) h;
  there = λ m b h. absurd (omega (arith, b));
}

-- What is told of a few variables.
module _ (G : Table) (minor : ℕ) (is : List PlainInst) (entries few : List ℕ) (calls : List Call) (uses : List Use)
    (reached named : List ℕ) (turned : AreTurned is entries calls)
    (marks : AreMarks (length is) calls uses few reached named) (used : AreUses G minor is (length is) uses) where
  lacking_unnamed : (n : ℕ) → IsLacking is reached named n → IsUnnamed G minor is n
  lacking_unnamed n s =
      let b = s.has.so in
      let r = marks.is_reached s.has.number s.bit s.has.marked in
      let u = r.2 in
      let t = (used.each u.user r.0).0 u.has in
      record {
        function = b.function;
        interface = b.interface;
        entry = b.entry;
        id = t.id;
        wanted = t.variable.wanted;
        used = record {
          root = s.has.number;
          defined = b.defined;
          function = u.user;
          chain = turned_chain (HasCall calls) (Calls is) turned.sound u.user s.has.number u.chain;
          definition = t.within.definition;
          inst = t.inst;
          of = t.within.of;
          operand = t.operand;
          role = t.role;
          used = t.used;
          variable = wanted_global minor is t.id t.variable.wanted;
        };
        unnamed = λ there. s.lacks (record {
          number = r.0;
          so = record {
            function = b.function;
            interface = b.interface;
            entry = b.entry;
            names = record { id = t.id; named = there; defined = t.variable.defined };
          };
          marked = marks.all_named r.0 s.bit (defined_within is t.id r.0 t.variable.defined) r.1;
        });
      }

  lacks_lacking : (k n : ℕ) → slice_get entries k ≡ Some n → Lacks G minor is few (length few) n
      → IsLacking is reached named n
  lacks_lacking k n at w =
      let q = w.unnamed in
      let t = q.used in
      let v = t.variable.place in
      let b : Begins is n t.root =
      record { function = q.function; interface = q.interface; entry = q.entry; defined = t.defined } in
      let r : Needs calls uses t.root v = record {
        user = t.function;
        has = used_there G minor is n uses q used;
        chain = turned.complete k n t.root t.function at b t.chain;
      } in
      let up = t.of.begun.up_to in
      let inst = t.of.begun.within in
      let user : t.function < length is = omega (arith, up, inst) in
      record {
        bit = w.place;
        has = record {
          number = t.root;
          so = b;
          marked = marks.all_reached t.root v w.place r user
              (defined_within is q.id v t.variable.defined) w.there;
        };
        lacks = λ h.
            let s = same_Some h.number v (sym (marks.is_named h.number w.place h.marked) ∙ w.there) in
            not_named G minor is n v q t.variable.defined (subst (λ (x : ℕ). Names is n x) s h.so);
      }

  pub place_told : (to at : ℕ) → IsFirstPlace (IsLacking is reached named) (IsLacking is reached named) entries to at
      → IsFirstPlace (Lacks G minor is few (length few)) (IsUnnamed G minor is) entries to at
  place_told to at p = record {
    within = p.within;
    before = λ k n l h w. p.before k n l h (lacks_lacking k n h w);
    there = λ n l h. lacking_unnamed n (p.there n l h);
  }

-- The parts of the list of variables, one after another.
module _ (G : Table) (minor : ℕ) (is : List PlainInst) (variables entries : List ℕ) where
  abbrev pub AreUpTo : ℕ → ℕ → Type 0
  AreUpTo to at = IsFirstPlace (Lacks G minor is variables to) (IsUnnamed G minor is) entries (length entries) at

  pub places_none : AreUpTo 0 (length entries)
  places_none = record {
    within = omega arith;
    before = λ k n l h w. let b = w.below in absurd (omega (arith, b));
    there = λ n l h. absurd (omega (arith, l));
  }

  pub places_more : (part : List ℕ) (from to old new : ℕ)
      → ((k m : ℕ) → slice_get variables (from + k) ≡ Some m → k < length part → slice_get part k ≡ Some m)
      → to ≡ from + length part → AreUpTo from old
      → IsFirstPlace (Lacks G minor is part (length part)) (IsUnnamed G minor is) entries old new → AreUpTo to new
  places_more part from to old new back count p q =
      let pw = p.within in
      let qw = q.within in
      record {
        within = omega (arith, pw, qw);
        before = λ k n l h w. elim (cases_lt w.place from) [
          | inl less ↦ p.before k n (omega (arith, l, qw)) h
              (record { unnamed = w.unnamed; place = w.place; below = less; there = w.there })
          | inr past ↦
              let v = w.unnamed.used.variable.place in
              let b = w.below in
              let e : w.place ≡ from + (w.place - from) = omega (arith, past) in
              let m : w.place - from < length part = omega (arith, past, b, count) in
              let there = subst (λ (i : ℕ). slice_get variables i ≡ Some v) e w.there in
              q.before k n l h (record {
                unnamed = w.unnamed;
                place = w.place - from;
                below = m;
                there = back (w.place - from) v there m;
              })
        ];
        there = λ n l h. elim (cases_lt new old) [
          | inl less ↦ q.there n less h
          | inr most ↦
              let e : new ≡ old = omega (arith, most, qw) in
              p.there n (omega (arith, l, e)) (subst (λ (i : ℕ). slice_get entries i ≡ Some n) e h)
        ];
      }

  pub places_all : (n at : ℕ) → length variables ≤ n → AreUpTo n at → AreUpTo (length variables) at
  places_all n at l p = record {
    within = p.within;
    before = λ k m b h w.
        let c = w.below in
        p.before k m b h
        (record { unnamed = w.unnamed; place = w.place; below = omega (arith, c, l); there = w.there });
    there = p.there;
  }

  -- what is in no part is not missing
  listed : AreAll G minor is entries variables → (k n : ℕ) → slice_get entries k ≡ Some n → IsUnnamed G minor is n
      → Lacks G minor is variables (length variables) n
  listed all k n h w =
      let v = all.each k n h w in
      record {
        unnamed = w;
        place = v.place;
        below = slice_get_within variables v.place w.used.variable.place v.there;
        there = v.there;
      }

  pub place_first : (at : ℕ) (o : Option ℕ) → o ≡ slice_get entries at → AreAll G minor is entries variables
      → AreUpTo (length variables) at → IsFirstAmong (IsUnnamed G minor is) entries o
  place_first at None e all p = λ k n h w. elim (cases_lt k at) [
    | inl less ↦ p.before k n less h (listed all k n h w)
    | inr past ↦
        let u = slice_get_within entries k n h in
        let there = slice_get-get_or entries at 0 (omega (arith, past, u)) in
        let no : None ≡ Some (get_or entries at 0) = e ∙ there in
        absurd (cc)
  ]
  place_first at (Some n) e all p =
      let there : slice_get entries at ≡ Some n = sym e in
      record {
        place = at;
        there = there;
        so = p.there n (slice_get_within entries at n there) there;
        before = λ j m l h w. p.before j m l h (listed all j m h w);
      }
