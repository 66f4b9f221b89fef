-- What is kept while the names of a mask's bits are read, one position after the other.
use Rattle.std.proofs.Common.{◌≡◌, ◌≢◌, ◌++◌, ◌∙◌, ◌<◌, ◌≤◌, ◌+◌, ◌-◌, ◌*◌, ◌%◌, ◌^◌, ℕ, List, [], ◌∷◌, Option, Some}
use Rattle.std.proofs.Common.{None, sym, ap, arith, append_assoc}
use Rattle.std.specs.Prelude.{option_map}
use Rattle.std.proofs.lemmas.Nat.{one_shl}
use Rattle.spv_module.specs.Spelling.{set_bits}
use Rattle.spv_lines.specs.Name.{IsNameOf, AreNamesOf}
use Rattle.spv_lines.proofs.Naming.{head_name}
use Rattle.spv_lines.specs.inner.Answer.{cells, cells_left, IsNamed, IsNamedBits}
use Rattle.spv_lines.proofs.MaskBits.{bits_in, clear_more, set_more, all_below, doubled, grown, later_bit, this_bit}
use Rattle.spv_lines.proofs.MaskBits.{none_above}

-- Before a position: the names so far are those of the mask, and that of the next bit and the cells left are there.
pub record NamesAt (lookup : List ℕ → Option ℕ) (text : List ℕ) (mask bit : ℕ) (rest : Option (List ℕ))
    (p : ℕ) : Type 0 where
  pub named : List (List ℕ)
  pub name : List ℕ
  pub all : cells text ≡ named ++ (name ∷ cells_left rest)
  pub below : mask < 2 ^ p
  pub names : AreNamesOf lookup (bits_in p 1 mask) named
  pub next : IsNameOf lookup bit name
  pub only : (x : ℕ) → 0 < x → x < 2 ^ 32 → AreNamesOf lookup (set_bits x) (cells text)
      → (ys : List ℕ) × (bits_in (32 - p) (2 ^ p) x ≡ bit ∷ ys) × AreNamesOf lookup ys (cells_left rest)

-- what the first of some names tells
pub first_of : (lookup : List ℕ → Option ℕ) (xs t : List ℕ) (ts us : List (List ℕ)) (bit : ℕ) → us ≡ t ∷ ts
    → AreNamesOf lookup xs us → IsNameOf lookup bit t → (ys : List ℕ) × (xs ≡ bit ∷ ys) × AreNamesOf lookup ys ts
first_of lookup [] t ts [] bit e h n = cc
first_of lookup (x ∷ xs) t ts [] bit e h n = absurd h
first_of lookup [] t ts (u ∷ us) bit e h n = absurd h
first_of lookup (x ∷ xs) t ts (u ∷ us) bit e h n =
    let a = h.0.found in
    let b = n.found in
    let k : u ≡ t = cc in
    let j : us ≡ ts = cc in
    let a' : lookup t ≡ Some x = rw k at a in
    let z : x ≡ bit = cc in
    let m = h.1 in
    let m' : AreNamesOf lookup xs ts = rw j at m in
    (xs, ap (λ y. y ∷ xs) z, m')

pub names_first : (lookup : List ℕ → Option ℕ) (text name : List ℕ) (bit : ℕ) (rest : Option (List ℕ))
    → cells text ≡ name ∷ cells_left rest → IsNamed lookup name (Some bit) → NamesAt lookup text 0 bit rest 0
names_first lookup text name bit rest e n = record {
  named = [];
  name = name;
  all = e;
  below = omega arith;
  names = tt;
  next = n;
  only = λ x h g m. first_of lookup (set_bits x) name (cells_left rest) (cells text) bit e m n;
}

-- the first name is none
pub no_first : (lookup : List ℕ → Option ℕ) (text name : List ℕ) (rest : Option (List ℕ))
    → cells text ≡ name ∷ cells_left rest → IsNamed lookup name None → IsNamedBits lookup text None
no_first lookup text name rest e n x h g m = wrong (set_bits x) (cells text) e m
  where
    wrong : (xs : List ℕ) (us : List (List ℕ)) → us ≡ name ∷ cells_left rest → AreNamesOf lookup xs us → ⊥
    wrong xs us f k = let k' : AreNamesOf lookup xs (name ∷ cells_left rest) = rw f at k in
        let r = head_name lookup xs name (cells_left rest) k' in n r.0 r.2

the_bit : (p : ℕ) → p < 32 → (1 * 2 ^ p) % 2 ^ 32 ≡ 2 ^ p
the_bit p h = one_shl p 32 h

pub names_later : (lookup : List ℕ → Option ℕ) (text : List ℕ) (mask bit : ℕ) (rest : Option (List ℕ)) (p : ℕ) → p < 32
    → bit ≢ (1 * 2 ^ p) % 2 ^ 32 → NamesAt lookup text mask bit rest p → NamesAt lookup text mask bit rest (p + 1)
names_later lookup text mask bit rest p h n a =
    let d : bit ≢ 2 ^ p = λ e. n (e ∙ sym (the_bit p h)) in
    let c = clear_more p mask a.below in
    let m = a.names in
    record {
      named = a.named;
      name = a.name;
      all = a.all;
      below = grown p mask a.below;
      names = rw c m;
      next = a.next;
      only = λ x g l k. let r = a.only x g l k in (r.0, later_bit p x bit r.0 h d r.1, r.2);
    }

names_snoc : (lookup : List ℕ → Option ℕ) (xs : List ℕ) (ts : List (List ℕ)) (x : ℕ) (t : List ℕ)
    → AreNamesOf lookup xs ts → IsNameOf lookup x t → AreNamesOf lookup (xs ++ (x ∷ [])) (ts ++ (t ∷ []))
names_snoc lookup [] [] x t h n = (n, tt)
names_snoc lookup [] (u ∷ ts) x t h n = absurd h
names_snoc lookup (y ∷ xs) [] x t h n = absurd h
names_snoc lookup (y ∷ xs) (u ∷ ts) x t h n = (h.0, names_snoc lookup xs ts x t h.1 n)

-- the bit of the position is the next one
set_names : (lookup : List ℕ → Option ℕ) (text : List ℕ) (mask bit : ℕ) (rest : Option (List ℕ)) (p : ℕ) → p < 32
    → bit ≡ 2 ^ p → (a : NamesAt lookup text mask bit rest p)
    → AreNamesOf lookup (bits_in (p + 1) 1 (mask + 2 ^ p)) (a.named ++ (a.name ∷ []))
set_names lookup text mask bit rest p h e a =
    let n = a.next in
    let n' : IsNameOf lookup (2 ^ p) a.name = rw e at n in
    rw (set_more p mask a.below) (names_snoc lookup (bits_in p 1 mask) a.named (2 ^ p) a.name a.names n')

names_by : (lookup : List ℕ → Option ℕ) (xs ys : List ℕ) (ts us : List (List ℕ)) → xs ≡ ys → ts ≡ us
    → AreNamesOf lookup ys us → AreNamesOf lookup xs ts
names_by lookup xs ys ts us e f h = rw (e, f) h

pub names_done : (lookup : List ℕ → Option ℕ) (text : List ℕ) (mask bit : ℕ) (p : ℕ) → p < 32
    → bit ≡ (1 * 2 ^ p) % 2 ^ 32 → NamesAt lookup text mask bit None p → IsNamedBits lookup text (Some (mask + bit))
names_done lookup text mask bit p h f a =
    let e : bit ≡ 2 ^ p = f ∙ the_bit p h in
    let s = set_names lookup text mask bit None p h e a in
    let d = doubled p mask a.below in
    let d' : mask + bit < 2 ^ (p + 1) = omega (arith, e, d) in
    let b = all_below (p + 1) (mask + bit) (omega arith) d' in
    let b' = b ∙ ap (λ z. bits_in (p + 1) 1 (mask + z)) e in
    let o = Rattle.std.proofs.lemmas.Nat.pow_pos p in (
      omega (arith, e, o),
      names_by lookup (set_bits (mask + bit)) (bits_in (p + 1) 1 (mask + 2 ^ p)) (cells text)
          (a.named ++ (a.name ∷ [])) b' a.all s,
    )

pub names_next : (lookup : List ℕ → Option ℕ) (text : List ℕ) (mask bit : ℕ) (names : List ℕ) (p : ℕ) (name : List ℕ)
    (more : ℕ) (rest : Option (List ℕ)) → p < 32 → bit ≡ (1 * 2 ^ p) % 2 ^ 32
    → NamesAt lookup text mask bit (Some names) p → cells names ≡ name ∷ cells_left rest
    → IsNamed lookup name (Some more) → NamesAt lookup text (mask + bit) more rest (p + 1)
names_next lookup text mask bit names p name more rest h f a c n =
    let e : bit ≡ 2 ^ p = f ∙ the_bit p h in
    let s = set_names lookup text mask bit (Some names) p h e a in
    rw e (record {
      named = a.named ++ (a.name ∷ []);
      name = name;
      all = a.all ∙ (ap (λ z. a.named ++ (a.name ∷ z)) c
          ∙ sym (append_assoc a.named (a.name ∷ []) (name ∷ cells_left rest)));
      below = doubled p mask a.below;
      names = s;
      next = n;
      only = λ x g l k.
          let r = a.only x g l k in
          let q : bits_in (32 - p) (2 ^ p) x ≡ 2 ^ p ∷ r.0 = r.1 ∙ ap (λ z. z ∷ r.0) e in
          let t = this_bit p x r.0 h q in
          let w = first_of lookup r.0 name (cells_left rest) (cells names) more c r.2 n in
          (w.0, t ∙ w.1, w.2);
    })

pub no_next : (lookup : List ℕ → Option ℕ) (text : List ℕ) (mask bit : ℕ) (names : List ℕ) (p : ℕ) (name : List ℕ)
    (rest : Option (List ℕ))
    → NamesAt lookup text mask bit (Some names) p → cells names ≡ name ∷ cells_left rest → IsNamed lookup name None
    → IsNamedBits lookup text None
no_next lookup text mask bit names p name rest a c n x h g m =
    let r = a.only x h g m in
    let k = r.2 in
    let k' : AreNamesOf lookup r.0 (name ∷ cells_left rest) = rw c at k in
    let q = head_name lookup r.0 name (cells_left rest) k' in
    n q.0 q.2

pub names_past : (lookup : List ℕ → Option ℕ) (text : List ℕ) (mask bit : ℕ) (rest : Option (List ℕ)) (p : ℕ) → 32 ≤ p
    → NamesAt lookup text mask bit rest p → IsNamedBits lookup text None
names_past lookup text mask bit rest p h a x g l m = let r = a.only x g l m in none_above p x bit r.0 h r.1

-- the cells that are left, as the code has them
pub rest_none : {X : Type 0} (f : X → List ℕ) (lookup : List ℕ → Option ℕ) (text : List ℕ) (mask bit : ℕ)
    (rest : Option X) (p : ℕ) → rest ≡ None → NamesAt lookup text mask bit (option_map f rest) p
    → NamesAt lookup text mask bit None p
rest_none f lookup text mask bit rest p e a = rw e at a

pub rest_some : {X : Type 0} (f : X → List ℕ) (lookup : List ℕ → Option ℕ) (text : List ℕ) (mask bit : ℕ)
    (rest : Option X) (x : X) (p : ℕ) → rest ≡ Some x → NamesAt lookup text mask bit (option_map f rest) p
    → NamesAt lookup text mask bit (Some (f x)) p
rest_some f lookup text mask bit rest x p e a = rw e at a
