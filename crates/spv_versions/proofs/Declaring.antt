-- Which extensions a module declares, instruction by instruction, and which names a line has.
use Rattle.std.proofs.Common.{◌≡◌, ◌<◌, ◌++◌, ◌⊎◌, ℕ, zero, suc, List, [], ◌∷◌, Bool, true, false, Some, None, length, map}
use Rattle.std.proofs.Common.{nat_eq, if◌then◌else◌, refl, sym, ap, subst, inl, inr, arith, eq-eqb}
use Rattle.std.specs.Prelude.{slice_get, slice_index_or, Contains}
use Rattle.std.specs.Borrow.{Bor}
use Rattle.std.specs.Str.{bytes_eq}
use Rattle.std.proofs.lemmas.Bool.{eqb-true, false≢true, or_cases, or_left, or_right}
use Rattle.std.proofs.lemmas.Option.{none-some, same_Some}
use Rattle.std.proofs.lemmas.Slice.Eq.{bytes_eq-Decides}
use Rattle.spv_module.specs.declared.opcode.TheConstants as opcode
use Rattle.spv_module.specs.Operand.{Plain, Text, PlainInst}
use Rattle.spv_versions.specs.Named.{IsDeclared}
use Rattle.spv_versions.specs.Table as spec
use Rattle.spv_versions.specs.inner.Lines.{names_have, plain_name}
use Rattle.spv_versions.specs.inner.Told.{extension_in, name_in}

name_at : (os : List Plain) (x : List ℕ) → name_in os ≡ Some x → (rest : List Plain) × (os ≡ Text x ∷ rest)
name_at (Text name ∷ os) x e = (os, ap (λ (n : List ℕ). Text n ∷ os) (same_Some name x e))
name_at _ x e = absurd (none-some x e)

declares : (i : PlainInst) (x : List ℕ) → extension_in i ≡ Some x
    → (i.opcode ≡ opcode.EXTENSION) × ((rest : List Plain) × (i.operands ≡ Text x ∷ rest))
declares i x e = by (nat_eq i.opcode opcode.EXTENSION) refl e
  where
    by : (b : Bool) → nat_eq i.opcode opcode.EXTENSION ≡ b → (if b then name_in i.operands else None) ≡ Some x
        → (i.opcode ≡ opcode.EXTENSION) × ((rest : List Plain) × (i.operands ≡ Text x ∷ rest))
    by true f h = (eqb-true i.opcode opcode.EXTENSION f, name_at i.operands x h)
    by false f h = absurd (none-some x h)

declared_by : (i : PlainInst) (x : List ℕ) (rest : List Plain) → i.opcode ≡ opcode.EXTENSION
    → i.operands ≡ Text x ∷ rest → extension_in i ≡ Some x
declared_by i x rest o e = let t = eq-eqb i.opcode opcode.EXTENSION o in rw (t, e) refl

-- the instruction at a place of some and one more
push_cases : (is : List PlainInst) (i : PlainInst) (n : ℕ) (j : PlainInst) → slice_get (is ++ (i ∷ [])) n ≡ Some j
    → (slice_get is n ≡ Some j) ⊎ (i ≡ j)
push_cases [] i zero j e = inr (same_Some i j e)
push_cases [] i (suc n) j e = absurd (none-some j e)
push_cases (k ∷ is) i zero j e = inl e
push_cases (k ∷ is) i (suc n) j e = push_cases is i n j e

push_old : (is : List PlainInst) (i : PlainInst) (n : ℕ) (j : PlainInst) → slice_get is n ≡ Some j
    → slice_get (is ++ (i ∷ [])) n ≡ Some j
push_old [] i n j e = absurd (none-some j e)
push_old (k ∷ is) i zero j e = e
push_old (k ∷ is) i (suc n) j e = push_old is i n j e

push_new : (is : List PlainInst) (i : PlainInst) → slice_get (is ++ (i ∷ [])) (length is) ≡ Some i
push_new [] i = refl
push_new (k ∷ is) i = push_new is i

pub declared_cases : (is : List PlainInst) (i : PlainInst) (x : List ℕ) → IsDeclared (is ++ (i ∷ [])) x
    → IsDeclared is x ⊎ (extension_in i ≡ Some x)
declared_cases is i x d = elim (push_cases is i d.place d.inst d.there) [
  | inl a ↦ inl (record {
    place = d.place;
    inst = d.inst;
    there = a;
    opcode = d.opcode;
    rest = d.rest;
    operands = d.operands;
  })
  | inr e ↦ inr (subst (λ (j : PlainInst). extension_in j ≡ Some x) (sym e)
      (declared_by d.inst x d.rest d.opcode d.operands))
]

pub declared_old : (is : List PlainInst) (i : PlainInst) (x : List ℕ) → IsDeclared is x → IsDeclared (is ++ (i ∷ [])) x
declared_old is i x d = record {
  place = d.place;
  inst = d.inst;
  there = push_old is i d.place d.inst d.there;
  opcode = d.opcode;
  rest = d.rest;
  operands = d.operands;
}

pub declared_new : (is : List PlainInst) (i : PlainInst) (x : List ℕ) → extension_in i ≡ Some x
    → IsDeclared (is ++ (i ∷ [])) x
declared_new is i x e = let d = declares i x e in record {
  place = length is;
  inst = i;
  there = push_new is i;
  opcode = d.0;
  rest = d.1.0;
  operands = d.1.1;
}

-- a name among those of a line
abbrev pub named : List ℕ → spec.Text
named x = record { now = x }

pub contains_have : (ns : List (Bor (List ℕ))) (t : spec.Text) → Contains (map plain_name ns) t
    → names_have ns t.now ≡ true
contains_have ns t h = at ns h.0 h.1 h.2
  where
    at : (ns : List (Bor (List ℕ))) (k : ℕ) → k < length (map plain_name ns)
        → slice_index_or (map plain_name ns) k t ≡ t → names_have ns t.now ≡ true
    at [] k l e = absurd (let m : k < 0 = l in omega (arith, m))
    at (n ∷ ns) zero l e = or_left (bytes_eq n.now t.now) (names_have ns t.now)
        ((bytes_eq-Decides n.now t.now).1 (ap (λ (r : spec.Text). r.now) e))
    at (n ∷ ns) (suc k) l e = or_right (bytes_eq n.now t.now) (names_have ns t.now)
        (at ns k (let m : suc k < suc (length (map plain_name ns)) = l in omega (arith, m)) e)

pub have_contains : (ns : List (Bor (List ℕ))) (x : List ℕ) → names_have ns x ≡ true
    → Contains (map plain_name ns) (named x)
have_contains [] x e = absurd (false≢true e)
have_contains (n ∷ ns) x e = elim (or_cases (bytes_eq n.now x) (names_have ns x) e) [
  | inl a ↦
      let l : 0 < suc (length (map plain_name ns)) = omega arith in
      (0, l, ap named ((bytes_eq-Decides n.now x).0 a))
  | inr b ↦
      let h = have_contains ns x b in
      let l : suc h.0 < suc (length (map plain_name ns)) = omega (arith, h.1) in
      (suc h.0, l, h.2)
]
